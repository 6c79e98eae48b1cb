-- The numbers in a frame's bytes.
-- Assumes nothing.
use mathlib.Core.Path.{◌≡◌, refl, ◌∙◌}
use mathlib.Core.List.{List, [], ◌∷◌}
use Prim.Native.Nat.{ℕ, ◌+◌, ◌*◌}
use native.Mathlib.Omega.{arith}
use lib.ListN.{take, drop, get_or}
use lib.Seq.{get_or-drop}
use Rattle.frame.specs.Bytes.{number_of}
use Rattle.message.specs.LongMessage.{bytes_to}

first_two : (bs : List ℕ) → number_of (take 2 bs) ≡ get_or bs 0 0 + 256 * get_or bs 1 0
unfolding number_of
first_two [] = refl
first_two (a ∷ []) = omega arith
first_two (a ∷ b ∷ bs) = omega arith

first_three : (bs : List ℕ) → number_of (take 3 bs) ≡ get_or bs 0 0 + 256 * get_or bs 1 0 + 65536 * get_or bs 2 0
unfolding number_of
first_three [] = refl
first_three (a ∷ []) = omega arith
first_three (a ∷ b ∷ []) = omega arith
first_three (a ∷ b ∷ c ∷ bs) = omega arith

-- bytes 1 and 2
pub size_bytes : (bs : List ℕ) → bytes_to 1 2 bs ≡ get_or bs 1 0 + 256 * get_or bs 2 0
unfolding bytes_to
size_bytes [] = first_two []
size_bytes (a ∷ bs) = first_two bs

-- bytes 5 to 7
pub dgn_bytes_lem : (bs : List ℕ) → bytes_to 5 7 bs ≡ get_or bs 5 0 + 256 * get_or bs 6 0 + 65536 * get_or bs 7 0
unfolding bytes_to
dgn_bytes_lem bs = first_three (drop 5 bs) ∙ rw (get_or-drop 5 bs 0 0, get_or-drop 5 bs 1 0, get_or-drop 5 bs 2 0)
