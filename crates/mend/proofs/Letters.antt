-- Letters and digits: capitals of hexadecimal digits are no small letters, so they stay as they are.
-- Assumes nothing.
use mathlib.Core.Path.{◌≡◌, refl}
use mathlib.Core.Bool.{Bool, true, false}
use mathlib.Core.List.{List, [], ◌∷◌, ◌++◌}
use Prim.Native.Nat.{ℕ, ◌≤◌}
use native.Mathlib.Omega.{arith}
use borrow.Author.Tests.{ltb-true, leb-true, eqb-true, le-ltb, lt-leb}
use Rattle.words.specs.Words.{◌<?◌, ◌≤?◌, ◌=?◌, ◌or◌}
use Rattle.words.specs.Lists.{any, Absent}
use Rattle.words.proofs.Words.{by_test, both_true, true_false}
use Rattle.capture.specs.Digits.{value_of, are_digits}
use Rattle.mend.specs.Mending.{is_small, capital, capitals}

-- neither of two tests holds
pub neither : (a b : Bool) → a or b ≡ false → (a ≡ false) × (b ≡ false)
neither true b e = true_false e
neither false b e = (refl, e)

-- a code that is a digit in no base

small_none : (c : ℕ) → is_small c ≡ true → value_of c ≡ 16
unfolding is_small value_of
small_none c e =
    let l = leb-true 97 c (both_true (97 ≤? c) (c ≤? 102) e).0 in
    rw (le-ltb c 48 (omega arith), lt-leb c 57 (omega arith), le-ltb c 65 (omega arith), lt-leb c 70 (omega arith))

space_none : (c : ℕ) → (32 =? c) ≡ true → value_of c ≡ 16
unfolding value_of
space_none c e = rw (← eqb-true 32 c e)

-- stands in no digits
no_digit : (f : ℕ → Bool) → ((c : ℕ) → f c ≡ true → value_of c ≡ 16)
    → (base : ℕ) → base ≤ 16 → (ds : List ℕ) → are_digits base ds ≡ true → any f ds ≡ false
unfolding are_digits
no_digit f none base m [] a = refl
no_digit f none base m (c ∷ ds) a =
    let b = both_true (value_of c <? base) (are_digits base ds) a in
    let l = ltb-true (value_of c) base b.0 in
    by_test (f c)
    (λ e. let v = none c e in absurd (omega arith))
    (λ e. rw e (no_digit f none base m ds b.1))

pub no_small : (base : ℕ) → base ≤ 16 → (ds : List ℕ) → are_digits base ds ≡ true → any is_small ds ≡ false
no_small = no_digit is_small small_none

pub no_space : (base : ℕ) → base ≤ 16 → (ds : List ℕ) → are_digits base ds ≡ true → Absent 32 ds
no_space = no_digit (◌=?◌ 32) space_none

-- what has no small letters stays as it is, and so do digits

pub capitals_same : (ds : List ℕ) → any is_small ds ≡ false → capitals ds ≡ ds
unfolding capital
capitals_same [] e = refl
capitals_same (c ∷ ds) e = let n = neither (is_small c) (any is_small ds) e in rw (n.0, capitals_same ds n.1)

pub capitals_digits : (base : ℕ) → base ≤ 16 → (ds : List ℕ) → are_digits base ds ≡ true → capitals ds ≡ ds
capitals_digits base m ds a = capitals_same ds (no_small base m ds a)

-- digits behind digits are digits
pub digits_append : (base : ℕ) (xs ys : List ℕ) → are_digits base xs ≡ true → are_digits base ys ≡ true → are_digits base (xs ++ ys) ≡ true
unfolding are_digits
digits_append base [] ys a b = b
digits_append base (x ∷ xs) ys a b =
    let t = both_true (value_of x <? base) (are_digits base xs) a in
    rw (t.0, digits_append base xs ys t.1 b)
