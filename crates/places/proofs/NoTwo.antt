-- A turn of a loop that takes the first element off a list, to compare it with the others. Assumes nothing.
use Rattle.std.proofs.Common.{◌≡◌, Bool, false, List, ◌∷◌}
use Rattle.words.specs.Lists.{any, no_two}

-- where it is like none of the others, no two are alike exactly when no two of these are
pub passed : {P : Type 0} (alike : P → P → Bool) (p : P) (others all : List P) → all ≡ p ∷ others
    → any (alike p) others ≡ false → no_two alike all ≡ no_two alike others
passed alike p others all e h = rw (e, h)
