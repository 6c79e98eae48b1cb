-- A value's code has that value, and a number's scaled value has that code.
-- Assumes nothing.
use Rattle.std.specs.Prelude.{if◌then◌else◌}
use mathlib.Core.Path.{◌≡◌, refl, sym, ap, ◌∙◌}
use mathlib.Core.Bool.{true, not}
use Prim.Native.Nat.{ℕ, suc, ◌+◌, ◌*◌, ◌-◌, ◌/◌, ◌%◌, ◌^◌, ◌≤◌, ◌<◌}
use native.Mathlib.Nat.{mul-mod_right, mul-div_right, div-add-mod, add-zero, add_comm}
use native.Mathlib.Omega.{arith}
use borrow.Author.Tests.{eq-eqb, lt-ltb, le-ltb, lt-leb, leb-true, ltb-true, ltb-false, leb-false, eqb-true}
use Rattle.std.specs.Int.{FitsUnsigned}
use Rattle.std.proofs.lemmas.Int.{ints}
use mir.Syntax.{w64}
use mir.Val.{SFits}
use lib.IntN.{ℤ, pos, negsuc, ◌+ℤ◌, nat_abs}
use lib.Pow.{pow_pos}
use Rattle.words.specs.Words.{given◌then◌, ◌<?◌, ◌≤?◌, ◌=?◌, Told, refused, gives}
use Rattle.words.proofs.Words.{past_refusal, before_refusal, not_flips, gives_same, by_test}
use Rattle.catalogue.specs.Classes.{greatest_code, class_in, below_greatest, ◌is◌}
use Rattle.catalogue.specs.Scale.{scaled_of, steps_of, value_as, value_of}
use Rattle.catalogue.specs.Codes.{code_where, class_code, from_zero, stepped_code, scaled_code, code_of}
use Rattle.catalogue.specs.declared.Row.{Row}
use Rattle.catalogue.specs.declared.Class.{Class}
use Rattle.catalogue.specs.declared.Value.{Value}
use Rattle.catalogue.specs.declared.Value.TheVariants.{Scaled, NoData, OutOfRange, Reserved}
use Rattle.catalogue.proofs.Scales.{steps_small, scaled_is, sub_pos, sub_neg}

-- a class is known by its place below the greatest code
class_back : ℕ → Class
class_back n = if n =? 0 then Class.NoData else if n =? 1 then Class.OutOfRange else if n =? 2 then Class.Reserved else Class.Number

class_back_lem : (k : Class) → class_back (below_greatest k) ≡ k
unfolding class_back
class_back_lem Class.NoData = refl
class_back_lem Class.OutOfRange = refl
class_back_lem Class.Reserved = refl
class_back_lem Class.Number = refl

pub is_same : (a b : Class) → a is b ≡ true → a ≡ b
is_same a b e = sym (class_back_lem a) ∙ ap class_back (eqb-true (below_greatest a) (below_greatest b) e) ∙ class_back_lem b

is_itself : (a b : Class) → a ≡ b → a is b ≡ true
is_itself a b e = eq-eqb (below_greatest a) (below_greatest b) (ap below_greatest e)

-- the two ends of a test for a class, for the code
pub where_not : (row : Row) (k : Class) (c : ℕ) → (class_in row c ≡ k → ⊥) → refused 12 ≡ code_where row k c
unfolding code_where
where_not row k c n = sym (by_test (class_in row c is k) (λ t. absurd (n (is_same (class_in row c) k t))) (λ t. rw t))

pub where_so : (row : Row) (k : Class) (c : ℕ) → class_in row c ≡ k → gives c ≡ code_where row k c
unfolding code_where
where_so row k c e = sym (rw (is_itself (class_in row c) k e))

where_given : (row : Row) (k : Class) (x c : ℕ) → code_where row k x ≡ gives c → (x ≡ c) × (class_in row x ≡ k)
unfolding code_where
where_given row k x c e = let b = before_refusal (class_in row x is k) 12 (gives x) e in (gives_same b.1, is_same (class_in row x) k b.0)

-- a class's code, for the code: counted down from the greatest, or none
module _ (row : Row) (k : Class) (p b : ℕ) (e : p ≡ 2 ^ row.width) (f : b ≡ below_greatest k) where
  pub class_none : (b ≤ p - 1 → ⊥) → refused 12 ≡ class_code row k
  unfolding class_code
  class_none n = let l : greatest_code row.width < below_greatest k = rw (← e, ← f) (omega arith) in sym (rw (lt-ltb _ _ l))

  pub class_some : (c : ℕ) → b ≤ p - 1 → c ≡ p - 1 - b → code_where row k c ≡ class_code row k
  unfolding class_code
  class_some c l g = let m : below_greatest k ≤ greatest_code row.width = rw (← e, ← f) l in sym (rw (le-ltb _ _ m, ← e, ← f, ← g))

-- what a code that is given has
pub record Given (row : Row) (k : Class) (c : ℕ) : Type 0 where
  pub fits : c < 2 ^ row.width
  pub class : class_in row c ≡ k

pub class_given : (row : Row) (k : Class) (c : ℕ) → class_code row k ≡ gives c → Given row k c
unfolding class_code
class_given row k c e =
    let r = past_refusal (greatest_code row.width <? below_greatest k) 12 _ e in
    let b = where_given row k (greatest_code row.width - below_greatest k) c r.1 in
    record { fits = omega (arith, b.0, pow_pos row.width); class = ap (class_in row) (sym b.0) ∙ b.1 }

stepped_given : (row : Row) (step l c : ℕ) → stepped_code row step l ≡ gives c → (l ≡ step * c) × Given row Class.Number c
unfolding stepped_code
stepped_given row step l c e =
    let r₁ = past_refusal (not (l % step =? 0)) 12 _ e in
    let r₂ = past_refusal (2 ^ row.width ≤? l / step) 12 _ r₁.1 in
    let b = where_given row Class.Number (l / step) c r₂.1 in
    let m : l % step ≡ 0 = eqb-true (l % step) 0 (not_flips (l % step =? 0) r₁.0) in
    let h : l / step < 2 ^ row.width = leb-false _ _ r₂.0 in
    (sym (div-add-mod l step) ∙ rw (m, b.0) (add-zero (step * c)), record { fits = rw b.0 at h; class = ap (class_in row) (sym b.0) ∙ b.1 })

-- an offset added to a value, for the code: a number from 0 up, or none
none_from : (v : ℤ) (o : ℕ) → SFits w64 v → o ≤ 32000 → (FitsUnsigned w64 (pos o +ℤ v) → ⊥) → from_zero (v +ℤ pos o) ≡ refused 12
none_from (pos n) o s l h = let m : n < 2 ^ 63 = s.sfits in absurd (h (omega (arith, ints), omega (arith, ints)))
none_from (negsuc n) o s l h =
    by_test (o <? suc n) (λ t. rw t) (λ t. absurd (h (rw t (omega (arith, ints), omega (arith, ints)))))

some_from : (v : ℤ) (o x : ℕ) → FitsUnsigned w64 (pos o +ℤ v) → x ≡ nat_abs (pos o +ℤ v) → from_zero (v +ℤ pos o) ≡ gives x
some_from (pos n) o x h e = ap gives (add_comm n o ∙ sym e)
some_from (negsuc n) o x h e =
    by_test (o <? suc n) (λ t. absurd (rw t at h.0).le) (λ t. rw t (ap gives (sym (rw t at e))))

module _ (row : Row) (v : ℤ) where
  pub lifted_none : SFits w64 v → (FitsUnsigned w64 (pos (steps_of row.unit row.width).offset +ℤ v) → ⊥) → refused 12 ≡ scaled_code row v
  unfolding scaled_code
  lifted_none s n = sym (rw (none_from v (steps_of row.unit row.width).offset s (steps_small row.unit row.width).off n))

  pub lifted_some : (x : ℕ) → FitsUnsigned w64 (pos (steps_of row.unit row.width).offset +ℤ v)
      → x ≡ nat_abs (pos (steps_of row.unit row.width).offset +ℤ v)
      → stepped_code row (steps_of row.unit row.width).step x ≡ scaled_code row v
  unfolding scaled_code
  lifted_some x h e = sym (rw (some_from v (steps_of row.unit row.width).offset x h e))

-- an offset added to a number from 0 up, and to one below 0

raised_code : Row → ℕ → ℕ → ℤ → Told ℕ
raised_code row step offset (pos n) = stepped_code row step (offset + n)
raised_code row step offset (negsuc n) = if offset ≤? n then refused 12 else stepped_code row step (offset - (n + 1))

raised_is : (row : Row) (step offset : ℕ) (v : ℤ)
    → (given from_zero (v +ℤ pos offset) then λ n. stepped_code row step n) ≡ raised_code row step offset v
unfolding raised_code
raised_is row step offset (pos n) = ap (stepped_code row step) (add_comm n offset)
raised_is row step offset (negsuc n) =
    by_test (offset ≤? n)
    (λ t. rw (t, lt-ltb offset (suc n) (omega (arith, leb-true offset n t))))
    (λ t. let e : offset - suc n ≡ offset - (n + 1) = omega arith in
    rw (t, le-ltb offset (suc n) (omega (arith, leb-false offset n t)), e))

scaled_raised : (row : Row) (v : ℤ) → scaled_code row v ≡ raised_code row (steps_of row.unit row.width).step (steps_of row.unit row.width).offset v
unfolding scaled_code
scaled_raised row v = raised_is row (steps_of row.unit row.width).step (steps_of row.unit row.width).offset v

-- a value that has a code is that code's, which is a number
raised_given : (row : Row) (v : ℤ) (c : ℕ)
    → raised_code row (steps_of row.unit row.width).step (steps_of row.unit row.width).offset v ≡ gives c
    → (scaled_of row.unit row.width c ≡ v) × Given row Class.Number c
unfolding raised_code
raised_given row (pos n) c e =
    let s = steps_of row.unit row.width in
    let b = stepped_given row s.step (s.offset + n) c e in
    let l : s.offset ≤ s.step * c = omega (arith, b.0) in
    let d : s.step * c - s.offset ≡ n = omega (arith, b.0) in
    (scaled_is row.unit row.width c ∙ sub_pos (s.step * c) s.offset l ∙ ap pos d, b.1)
raised_given row (negsuc n) c e =
    let s = steps_of row.unit row.width in
    let r = past_refusal (s.offset ≤? n) 12 _ e in
    let g : n < s.offset = leb-false _ _ r.0 in
    let b = stepped_given row s.step (s.offset - (n + 1)) c r.1 in
    let l : s.step * c < s.offset = omega (arith, b.0) in
    let d : s.offset - suc (s.step * c) ≡ n = omega (arith, b.0) in
    (scaled_is row.unit row.width c ∙ sub_neg (s.step * c) s.offset l ∙ ap negsuc d, b.1)

pub scaled_given : (row : Row) (v : ℤ) (c : ℕ) → scaled_code row v ≡ gives c → (scaled_of row.unit row.width c ≡ v) × Given row Class.Number c
scaled_given row v c e = raised_given row v c (sym (scaled_raised row v) ∙ e)

-- and a number's scaled value has that number for its code

stepped_of_lem : (row : Row) (step l c : ℕ) → 0 < step → l ≡ step * c → Given row Class.Number c → stepped_code row step l ≡ gives c
unfolding stepped_code code_where
stepped_of_lem row step l c p e g =
    rw (e, mul-mod_right step c, mul-div_right c p, lt-leb (2 ^ row.width) c g.fits, is_itself (class_in row c) Class.Number g.class)

pub scaled_of_lem : (row : Row) (c : ℕ) → Given row Class.Number c → scaled_code row (scaled_of row.unit row.width c) ≡ gives c
unfolding raised_code
scaled_of_lem row c g =
    rw (scaled_raised row (scaled_of row.unit row.width c))
    let s = steps_of row.unit row.width in
    let p = (steps_small row.unit row.width).some in
    by_test (s.step * c <? s.offset)
    (λ t. let l = ltb-true (s.step * c) s.offset t in
    let b : s.offset - suc (s.step * c) < s.offset = omega arith in
    let e : s.offset - (s.offset - suc (s.step * c) + 1) ≡ s.step * c = omega arith in
    rw (scaled_is row.unit row.width c, sub_neg (s.step * c) s.offset l, lt-leb s.offset (s.offset - suc (s.step * c)) b)
    (stepped_of_lem row s.step _ c p e g))
    (λ t. let l = ltb-false (s.step * c) s.offset t in
    let e : s.offset + (s.step * c - s.offset) ≡ s.step * c = omega arith in
    rw (scaled_is row.unit row.width c, sub_pos (s.step * c) s.offset l) (stepped_of_lem row s.step _ c p e g))

-- the code that a value is written as has that value
pub record Writes (row : Row) (value : Value) (c : ℕ) : Type 0 where
  pub fits : c < 2 ^ row.width
  pub has : value_of row (record { class = class_in row c; code = c }) ≡ value

of_class : (row : Row) (k : Class) (value : Value) (c : ℕ) → ((v : ℤ) → value_as k v ≡ value) → Given row k c → Writes row value c
unfolding value_of
of_class row k value c e g = record { fits = g.fits; has = rw g.class (e (scaled_of row.unit row.width c)) }

pub code_given : (row : Row) (value : Value) (c : ℕ) → code_of row value ≡ gives c → Writes row value c
unfolding code_of value_of
code_given row (Scaled v) c e =
    let b = scaled_given row v c e in
    record { fits = b.1.fits; has = rw b.1.class (ap Scaled b.0) }
code_given row NoData c e = of_class row Class.NoData NoData c (λ v. refl) (class_given row Class.NoData c e)
code_given row OutOfRange c e = of_class row Class.OutOfRange OutOfRange c (λ v. refl) (class_given row Class.OutOfRange c e)
code_given row Reserved c e = of_class row Class.Reserved Reserved c (λ v. refl) (class_given row Class.Reserved c e)
