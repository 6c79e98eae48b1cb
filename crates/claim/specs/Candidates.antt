-- The candidate list: the addresses that a node tries to claim, in its order (RULES 8.2; 000, 3.3.2).
use Rattle.std.specs.Prelude.{Bool, List, ℕ, length}
use Rattle.words.specs.Words.{◌≤?◌, ◌=?◌, ◌and◌}
use Rattle.words.specs.Lists.{every, no_two, filled_to}
use Rattle.frame.specs.Standard.{greatest_address}

abbrev pub longest_list : ℕ
longest_list = 16

abbrev pub is_address : ℕ → Bool
is_address a = a ≤? greatest_address

-- 1 to 16 addresses, no two alike and none above 253; any other list is refused with 16
unfoldable pub is_well_formed : List ℕ → Bool
is_well_formed list = (1 ≤? length list) and (length list ≤? longest_list) and every is_address list and no_two ◌=?◌ list

-- the list as a state keeps it: filled up with zeros
unfoldable pub padded : List ℕ → List ℕ
padded list = filled_to longest_list 0 list
