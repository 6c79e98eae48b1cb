-- The classes of codes, from their definition; of this crate only this file and proofs/classes read its text.
-- Assumes nothing.
use Rattle.std.specs.Prelude.{if◌then◌else◌}
use mathlib.Core.Path.{◌≡◌, refl, sym, ap, ◌∙◌}
use mathlib.Core.Bool.{Bool, true, false, not}
use mathlib.Core.Logic.{◌⊎◌, inl, inr, ⊎_elim}
use Prim.Native.Nat.{ℕ, ◌+◌, ◌*◌, ◌-◌, ◌/◌, ◌^◌, ◌≤◌, ◌<◌}
use native.Mathlib.Omega.{arith}
use borrow.Author.Tests.{eq-eqb, ne_eqb, lt-leb, le-leb, ltb-true, ltb-false, leb-false, eqb-true}
use lib.Pow.{pow_pos, pow_mono, pow-add, high}
use Rattle.words.specs.Words.{◌<?◌, ◌≤?◌, ◌=?◌, ◌and◌}
use Rattle.words.proofs.Words.{by_test, both_true, true_false, not_flips}
use Rattle.catalogue.specs.Classes.{greatest_code, has_no_data, has_three, class_at, class_in, below_greatest}
use Rattle.catalogue.specs.Classes.{has_two_states, error_code, is_error}
use Rattle.catalogue.specs.Laws as Laws
use Rattle.catalogue.specs.declared.Row.{Row}
use Rattle.catalogue.specs.declared.Class.{Class}
use Rattle.catalogue.specs.declared.Class.TheVariants.{Number, NoData, OutOfRange, Reserved}

-- all three, counted down from the greatest code
abbrev of_three : ℕ → ℕ → Class
of_three greatest code =
    if code =? greatest then NoData else
    if code =? greatest - 1 then OutOfRange else
    if code =? greatest - 2 then Reserved else
    Number

-- the widths

-- one of three classes has four codes at least
four_codes : (w : ℕ) → has_three w ≡ true → 3 ≤ greatest_code w
four_codes w t =
    by_test (w =? 8) (λ e. rw (eqb-true w 8 e) (omega arith))
    (λ e. by_test (w =? 16) (λ f. rw (eqb-true w 16 f) (omega arith))
    (λ f. by_test (w =? 32) (λ g. rw (eqb-true w 32 g) (omega arith)) (λ g. true_false (sym (rw (e, f, g) at t)))))

narrow : (w : ℕ) → w < 2 → has_three w ≡ false
narrow w h = rw (ne_eqb w 8 (λ e. omega arith), ne_eqb w 16 (λ e. omega arith), ne_eqb w 32 (λ e. omega arith))

-- and it has no-data
no_data_too : (w : ℕ) → has_three w ≡ true → has_no_data w ≡ true
no_data_too w t = by_test (2 ≤? w) (λ h. h) (λ h. true_false (sym t ∙ narrow w (leb-false 2 w h)))

-- the class at each kind of width

at_three : (w c : ℕ) → has_three w ≡ true → class_at w c ≡ of_three (greatest_code w) c
unfolding class_at
at_three w c t = rw (no_data_too w t, t)

at_one : (w c : ℕ) → has_three w ≡ false → 2 ≤ w → class_at w c ≡ (if c =? greatest_code w then NoData else Number)
unfolding class_at
at_one w c t h = rw (t, le-leb 2 w h)

pub at_none : (w c : ℕ) → w < 2 → class_at w c ≡ Number
unfolding class_at
at_none w c h = rw (narrow w h, lt-leb 2 w h)

pub by_width : Laws.ClassByWidth
by_width w c =
    let e₁ : greatest_code w - 1 ≡ 2 ^ w - 2 = omega arith in
    let e₂ : greatest_code w - 2 ≡ 2 ^ w - 3 = omega arith in
    by_test (has_three w) (λ t. rw (t, ← e₁, ← e₂) (at_three w c t))
    (λ t. by_test (w <? 2)
    (λ n. rw (t, n) (at_none w c (ltb-true w 2 n)))
    (λ n. rw (t, n) (at_one w c t (ltb-false w 2 n))))

-- the class of a code in a row

-- where the row is not plain, and the code is not 10b in a row of two states
class_width : (row : Row) (c : ℕ) → row.plain ≡ false → is_error row c ≡ false → class_in row c ≡ class_at row.width c
unfolding class_in
class_width row c p s = rw (p, s)

-- which is so where the row has not two states, and so where its width is not 2
one_false : (a b : Bool) → a ≡ false → a and b ≡ false
one_false a b e = rw e

and_false : (a : Bool) → a and false ≡ false
and_false true = refl
and_false false = refl

other_width : (row : Row) → (row.width ≡ 2 → ⊥) → has_two_states row ≡ false
other_width row n = rw (ne_eqb row.width 2 n) (and_false row.two_state)

class_unstated : (row : Row) (c : ℕ) → row.plain ≡ false → has_two_states row ≡ false
    → class_in row c ≡ class_at row.width c
class_unstated row c p s = class_width row c p (one_false (has_two_states row) (c =? error_code) s)

class_other : (row : Row) (c : ℕ) → row.plain ≡ false → (row.width ≡ 2 → ⊥) → class_in row c ≡ class_at row.width c
class_other row c p n = class_unstated row c p (other_width row n)

three_not_two : (w : ℕ) → has_three w ≡ true → w ≡ 2 → ⊥
three_not_two w t e = true_false (sym (rw e at t))

of_three_lem : (g c : ℕ) → 3 ≤ g → (c ≡ g → ⊥) → (c ≡ g - 1 → ⊥) → (c ≡ g - 2 → ⊥) → of_three g c ≡ Number
of_three_lem g c h a b d = rw (ne_eqb c g a, ne_eqb c (g - 1) b, ne_eqb c (g - 2) d)

class_three : (row : Row) (c : ℕ) → row.plain ≡ false → has_three row.width ≡ true → class_in row c ≡ of_three (greatest_code row.width) c
class_three row c p t = class_other row c p (three_not_two row.width t) ∙ at_three row.width c t

pub three_of : Laws.ThreeClasses
three_of row p t =
    let g = greatest_code row.width in
    let h = four_codes row.width t in
    record {
      greatest = class_three row g p t ∙ rw (eq-eqb g g refl);
      one_less = class_three row (g - 1) p t ∙ rw (ne_eqb (g - 1) g (λ e. omega arith), eq-eqb (g - 1) (g - 1) refl);
      two_less = class_three row (g - 2) p t ∙ rw (ne_eqb (g - 2) g (λ e. omega arith), ne_eqb (g - 2) (g - 1) (λ e. omega arith), eq-eqb (g - 2) (g - 2) refl);
      all_else = λ c l. class_three row c p t ∙ of_three_lem g c h (λ e. omega arith) (λ e. omega arith) (λ e. omega arith);
    }

class_one : (row : Row) (c : ℕ) → row.plain ≡ false → is_error row c ≡ false → has_three row.width ≡ false
    → 2 ≤ row.width
    → class_in row c ≡ (if c =? greatest_code row.width then NoData else Number)
class_one row c p s t h = class_width row c p s ∙ at_one row.width c t h

pub one_of : Laws.OneClass
one_of row p s t h =
    let g = greatest_code row.width in
    let u : (c : ℕ) → is_error row c ≡ false = λ c. one_false (has_two_states row) (c =? error_code) s in
    record {
      greatest = class_one row g p (u g) t h ∙ rw (eq-eqb g g refl);
      all_else = λ c l. class_one row c p (u c) t h ∙ rw (ne_eqb c g (λ e. omega arith));
    }

class_narrow : (row : Row) (c : ℕ) → row.plain ≡ false → row.width < 2 → class_in row c ≡ Number
class_narrow row c p h = class_other row c p (λ e. omega arith) ∙ at_none row.width c h

class_plain : (row : Row) (c : ℕ) → row.plain ≡ true → class_in row c ≡ Number
unfolding class_in
class_plain row c p = rw p

pub numbers_of : Laws.AlwaysNumbers
numbers_of row c a =
    ⊎_elim (class_plain row c) (λ h. by_test row.plain (class_plain row c) (λ p. class_narrow row c p h)) a

-- two states

pub two_bits : (row : Row) → has_two_states row ≡ true → row.width ≡ 2
two_bits row s = eqb-true row.width 2 (both_true row.two_state (row.width =? 2) s).1

pub two_of : Laws.TwoStates
unfolding class_in class_at
two_of row p s =
    let w = two_bits row s in
    record { one_state = rw (p, s, w); other_state = rw (p, s, w); error = rw (p, s); no_data = rw (p, s, w) }

pub unmarked_of : Laws.UnmarkedAsBefore
unfolding class_in
unmarked_of row c m = rw m

-- a row and the same row without the mark differ at most at 10b
pub unmarked_same : (row : Row) (c : ℕ) → is_error row c ≡ false → class_in row c ≡ class_in (Laws.unmarked row) c
unfolding class_in
unmarked_same row c s = rw s

pub plain_same : (row : Row) (c : ℕ) → row.plain ≡ true → class_in row c ≡ class_in (Laws.unmarked row) c
unfolding class_in
plain_same row c l = rw l

-- without it, 10b is a number at two bits
pub unmarked_number : (row : Row) → row.plain ≡ false → has_two_states row ≡ true
    → class_in (Laws.unmarked row) error_code ≡ Number
unfolding class_in class_at
unmarked_number row l s = rw (l, two_bits row s)

-- a code of another class stands where that class has its code
abbrev pub Placed : Row → ℕ → Class → Type 0
Placed row c k = (k ≡ Number) ⊎ ((below_greatest k ≤ greatest_code row.width) × (c ≡ greatest_code row.width - below_greatest k))

pub placed : (row : Row) (c : ℕ) → Placed row c (class_in row c)
placed row c =
    let g = greatest_code row.width in
    by_test row.plain (λ p. inl (class_plain row c p))
    (λ p. by_test (has_three row.width)
    (λ t. let h = four_codes row.width t in rw (class_three row c p t) (in_three g c h))
    (λ t. by_test (row.width <? 2)
    (λ n. inl (class_narrow row c p (ltb-true row.width 2 n)))
    (λ n. by_test (is_error row c)
    (λ s. let b = both_true (has_two_states row) (c =? error_code) s in
    rw (eqb-true c error_code b.1, (two_of row p b.0).error, two_bits row b.0) (inr (omega arith, refl)))
    (λ s. rw (class_one row c p s t (ltb-false row.width 2 n)) (in_one g c)))))
  where
    in_three : (g c : ℕ) → 3 ≤ g → (of_three g c ≡ Number) ⊎ ((below_greatest (of_three g c) ≤ g) × (c ≡ g - below_greatest (of_three g c)))
    in_three g c h =
        by_test (c =? g) (λ e. rw e (inr (omega arith, omega (arith, eqb-true c g e))))
        (λ e. by_test (c =? g - 1) (λ f. rw (e, f) (inr (omega arith, eqb-true c (g - 1) f)))
        (λ f. by_test (c =? g - 2) (λ k. rw (e, f, k) (inr (omega arith, eqb-true c (g - 2) k))) (λ k. rw (e, f, k) (inl refl))))

    in_one : (g c : ℕ) → ((if c =? g then NoData else Number) ≡ Number) ⊎ ((below_greatest (if c =? g then NoData else Number) ≤ g) × (c ≡ g - below_greatest (if c =? g then NoData else Number)))
    in_one g c = by_test (c =? g) (λ e. rw e (inr (omega arith, omega (arith, eqb-true c g e)))) (λ e. rw e (inl refl))

-- all ones of 64 bits, shifted down
pub ones_shifted : (w : ℕ) → w ≤ 64 → (2 ^ 64 - 1) / 2 ^ (64 - w) ≡ greatest_code w
ones_shifted w h =
    let k = 64 - w in
    let e : 64 ≡ w + k = omega arith in
    let p : 2 ^ 64 ≡ 2 ^ w * 2 ^ k = ap (λ (m : ℕ). 2 ^ m) e ∙ pow-add 2 w k in
    let g = greatest_code w in
    let a : 2 ^ w ≡ g + 1 = omega (arith, pow_pos w) in
    let s : 2 ^ w * 2 ^ k ≡ g * 2 ^ k + 2 ^ k = ap (λ (m : ℕ). m * 2 ^ k) a ∙ omega arith in
    let o : 2 ^ 64 - 1 ≡ g * 2 ^ k + (2 ^ k - 1) = omega (arith, p, s, pow_pos k) in
    rw o (high g k (omega (arith, pow_pos k)))

-- no code of 64 bits is the greatest of a width above 64
pub none_past : (w c : ℕ) → 64 < w → c < 2 ^ 64 → class_at w c ≡ Number
unfolding class_at
none_past w c h g =
    rw (
      ne_eqb w 8 (λ e. omega arith),
      ne_eqb w 16 (λ e. omega arith),
      ne_eqb w 32 (λ e. omega arith),
      le-leb 2 w (omega arith),
      ne_eqb c (greatest_code w) (λ e. omega (arith, pow_mono {i = 65} {j = w} h)),
    )

-- as the code counts down: from a number that is the greatest code, with an answer to whether the width has three
pub counted : (w c g : ℕ) (t : Bool) → 2 ≤ w → g ≡ greatest_code w → t ≡ has_three w
    → class_at w c ≡ (if c =? g then NoData else if not t then Number else if c =? g - 1 then OutOfRange else if c =? g - 2 then Reserved else Number)
unfolding class_at
counted w c g true h e s = rw (e, ← s, le-leb 2 w h)
counted w c g false h e s = rw (e, ← s, le-leb 2 w h)

-- and one and two less are codes too
pub three_below : (w g : ℕ) (t : Bool) → g ≡ greatest_code w → t ≡ has_three w → not t ≡ false → 3 ≤ g
three_below w g t e s f = rw e (four_codes w (sym s ∙ not_flips t f))

pub eight_bits : Laws.ExampleEight
unfolding class_at
eight_bits = (refl, refl)
