-- Counting the places that pass a test: what a replaced place, an image and two places that pass say of the count.
-- Assumes nothing.
use Rattle.std.specs.Prelude.{if◌then◌else◌}
use mathlib.Core.Path.{◌≡◌, refl, ap}
use mathlib.Core.Bool.{Bool, true, false}
use mathlib.Core.List.{List, [], ◌∷◌, map}
use Prim.Native.Nat.{ℕ, zero, suc, ◌+◌, ◌≤◌, ◌<◌}
use native.Mathlib.Nat.{le_of_suc-le-suc, not-suc-le-zero}
use native.Mathlib.Omega.{arith}
use lib.ListN.{length, get_or, set}
use Rattle.words.specs.Lists.{count}
use Rattle.words.proofs.Words.{by_test}

-- a test as a number
abbrev one : Bool → ℕ
one b = if b then 1 else 0

one_le : (a b : Bool) → (a ≡ true → b ≡ true) → one a ≤ one b
one_le false b h = omega arith
one_le true b h = rw (h refl) (omega arith)

module _ {P : Type 0} where
  -- no more pass than there are
  pub count_all : (f : P → Bool) (ps : List P) → count f ps ≤ length ps
  count_all f [] = omega arith
  count_all f (p ∷ ps) = by_test (f p) (λ e. rw e (omega (arith, count_all f ps))) (λ e. rw e (omega
      (arith, count_all f ps)))

  -- an image: those that pass afterwards passed before by another test
  pub count_image : (f g : P → Bool) (h : P → P) → ((p : P) → g (h p) ≡ true → f p ≡ true)
      → (ps : List P) → count g (map h ps) ≤ count f ps
  count_image f g h k [] = omega arith
  count_image f g h k (p ∷ ps) = omega (arith, count_image f g h k ps, one_le (g (h p)) (f p) (k p))

  -- a place replaced by one that does not pass
  pub count_set : (f : P → Bool) (ps : List P) (i : ℕ) (p : P) → f p ≡ false → count f (set ps i p) ≤ count f ps
  count_set f [] i p e = omega arith
  count_set f (x ∷ ps) zero p e = rw e (omega arith)
  count_set f (x ∷ ps) (suc i) p e = omega (arith, count_set f ps i p e)

  -- and that place passed before
  pub count_drop : (f : P → Bool) (ps : List P) (i : ℕ) (p d : P) → i < length ps → f p ≡ false
      → f (get_or ps i d) ≡ true → count f (set ps i p) + 1 ≤ count f ps
  count_drop f [] i p d h e k = absurd (not-suc-le-zero h)
  count_drop f (x ∷ ps) zero p d h e k = rw (e, k) (omega arith)
  count_drop f (x ∷ ps) (suc i) p d h e k = omega (arith, count_drop f ps i p d (le_of_suc-le-suc h) e k)

  -- one place that passes, and two
  pub count_one : (f : P → Bool) (ps : List P) (i : ℕ) (d : P) → i < length ps → f (get_or ps i d) ≡ true → 1 ≤ count f ps
  count_one f [] i d h k = absurd (not-suc-le-zero h)
  count_one f (x ∷ ps) zero d h k = rw k (omega arith)
  count_one f (x ∷ ps) (suc i) d h k = omega (arith, count_one f ps i d (le_of_suc-le-suc h) k)

  pub count_two : (f : P → Bool) (ps : List P) (i j : ℕ) (d : P) → i < length ps → j < length ps → (i ≡ j → ⊥)
      → f (get_or ps i d) ≡ true → f (get_or ps j d) ≡ true → 2 ≤ count f ps
  count_two f [] i j d h l n a b = absurd (not-suc-le-zero h)
  count_two f (x ∷ ps) zero zero d h l n a b = absurd (n refl)
  count_two f (x ∷ ps) zero (suc j) d h l n a b = rw a (omega (arith, count_one f ps j d (le_of_suc-le-suc l) b))
  count_two f (x ∷ ps) (suc i) zero d h l n a b = rw b (omega (arith, count_one f ps i d (le_of_suc-le-suc h) a))
  count_two f (x ∷ ps) (suc i) (suc j) d h l n a b =
      omega (arith, count_two f ps i j d (le_of_suc-le-suc h) (le_of_suc-le-suc l) (λ e. n (ap suc e)) a b)

  -- none passes where none of the places does
  pub count_none : (f : P → Bool) (ps : List P) (d : P) → ((i : ℕ) → i < length ps → f (get_or ps i d) ≡ false)
      → count f ps ≡ 0
  count_none f [] d h = refl
  count_none f (x ∷ ps) d h =
      rw (h 0 (omega arith)) (omega (arith, count_none f ps d (λ i l. h (suc i) (omega arith))))
