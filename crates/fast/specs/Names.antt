-- The DGNs that a caller names at the start: those whose messages are carried as fast packets (RULES 12.2 to 12.4).
use Rattle.std.specs.Prelude.{Bool, not, List, ℕ, length}
use Rattle.words.specs.Words.{◌≤?◌, ◌=?◌, ◌and◌, bits}
use Rattle.words.specs.Lists.{any, every, no_two}
use Rattle.frame.specs.Identifier.{greatest_dgn}
use Rattle.frame.specs.Standard.{announcement_dgn, packet_dgn}

abbrev pub most_named : ℕ
most_named = 16

-- Some DGNs are carried otherwise: ECFFh and EBFFh are long messages' own, and where the upper nine bits are EAh or EEh
-- the frame is a request or an address claim. EC and EB to one destination, and all of 1EA00h and above, may be named.
unfoldable pub may_be_named : ℕ → Bool
may_be_named dgn =
    (dgn ≤? greatest_dgn) and not (dgn =? announcement_dgn) and not (dgn =? packet_dgn)
    and not (bits 16 8 dgn =? 0xEA) and not (bits 16 8 dgn =? 0xEE)

-- all 17 bits count, a destination included
abbrev pub is_named : ℕ → List ℕ → Bool
is_named dgn names = any (◌=?◌ dgn) names

-- up to 16 of them, no two the same, and none at all is a list too; any other list is refused with 16
unfoldable pub is_well_formed : List ℕ → Bool
is_well_formed names = (length names ≤? most_named) and every may_be_named names and no_two ◌=?◌ names
