-- Tests on lists: whether any element passes, whether every one does, how many do, which is the first, and whether no
-- two are alike; and a list filled up to a length.
use Rattle.std.specs.Prelude.{◌≡◌, Bool, true, false, not, List, [], ◌∷◌, ◌++◌, ℕ, ◌+◌, ◌-◌, length, replicate, Option, Some, None, if◌then◌else◌}
use Rattle.std.specs.List.{list_any, list_all, position_from}
use Rattle.words.specs.Words.{◌=?◌, ◌and◌}

abbrev pub any : {P : Type 0} → (P → Bool) → List P → Bool
any f ps = list_any f ps

abbrev pub every : {P : Type 0} → (P → Bool) → List P → Bool
every f ps = list_all f ps

-- how many pass
abbrev pub count : {P : Type 0} → (P → Bool) → List P → ℕ
count f [] = 0
count f (p ∷ ps) = (if f p then 1 else 0) + count f ps

-- the first position, counted from i, at which the test holds
abbrev pub first_from : {P : Type 0} → (P → Bool) → ℕ → List P → Option ℕ
first_from f i ps = position_from f i ps

abbrev pub first : {P : Type 0} → (P → Bool) → List P → Option ℕ
first f ps = first_from f 0 ps

-- what the one search found, or else the other
abbrev pub or_else : Option ℕ → Option ℕ → Option ℕ
or_else (Some i) found = Some i
or_else None found = found

-- no two are alike: each is compared with all that come after it
abbrev pub no_two : {P : Type 0} → (P → P → Bool) → List P → Bool
no_two alike [] = true
no_two alike (p ∷ ps) = not (any (alike p) ps) and no_two alike ps

-- of numbers: k is none of them, and no two are the same
abbrev pub Absent : ℕ → List ℕ → Type 0
Absent k ks = any (◌=?◌ k) ks ≡ false

abbrev pub Distinct : List ℕ → Type 0
Distinct ks = no_two ◌=?◌ ks ≡ true

-- filled up to n elements
abbrev pub filled_to : {P : Type 0} → ℕ → P → List P → List P
filled_to n p ps = ps ++ replicate (n - length ps) p
