-- Scaled values as step and offset, and what signed words ask.
-- Assumes nothing.
use mathlib.Core.Path.{◌≡◌, refl, sym, ap, ◌∙◌}
use Prim.Native.Nat.{ℕ, zero, suc, ◌*◌, ◌-◌, ◌^◌, ◌≤◌, ◌<◌}
use native.Mathlib.Nat.{one-mul, mul-le-mul_right}
use native.Mathlib.Omega.{arith}
use lib.Dec.{lit<, lit≤}
use lib.IntN.{ℤ, pos, negsuc, neg_ℤ, ◌-ℤ◌, ◌*ℤ◌, sub_ℕ}
use borrow.Author.Tests.{lt-ltb, le-ltb, ltb-true, ltb-false}
use mir.Syntax.{w64}
use mir.Val.{SFits, to_z}
use Rattle.words.specs.Words.{◌<?◌, ◌=?◌}
use Rattle.words.proofs.Words.{by_test}
use Rattle.catalogue.specs.Scale.{scaled_of, celsius_steps, ampere_steps, steps_of}
use Rattle.catalogue.specs.declared.Unit.{Unit}
use Rattle.catalogue.specs.declared.Unit.TheVariants.{Other, Percent, Celsius, Volt, Ampere, Hertz}
use Rattle.catalogue.specs.declared.scale.Steps.{Steps}

-- the difference of two numbers from 0 up

minus_is : (a b : ℕ) → pos a -ℤ pos b ≡ sub_ℕ a b
minus_is a zero = rw (le-ltb a 0 (omega arith)) (ap pos (omega arith))
minus_is a (suc b) = refl

pub sub_pos : (a b : ℕ) → b ≤ a → sub_ℕ a b ≡ pos (a - b)
sub_pos a b h = rw (le-ltb a b h)

pub sub_neg : (a b : ℕ) → a < b → sub_ℕ a b ≡ negsuc (b - suc a)
sub_neg a b h = rw (lt-ltb a b h)

pub sub_fits : (a b : ℕ) → a < 2 ^ 62 → b < 2 ^ 62 → SFits w64 (sub_ℕ a b)
sub_fits a b h g =
    by_test (a <? b) (λ t. let l = ltb-true a b t in rw t (record { sfits = omega arith })) (λ t. let l = ltb-false a b t in rw t (record { sfits = omega arith }))

-- signed words

word_small : (a : ℕ) → a < 2 ^ 63 → to_z w64 a ≡ pos a
word_small a h = rw (lt-ltb a (2 ^ 63) h)

pub word_minus : (a b : ℕ) → a < 2 ^ 62 → b < 2 ^ 62 → to_z w64 a -ℤ to_z w64 b ≡ sub_ℕ a b
word_minus a b h g = rw (word_small a (omega arith), word_small b (omega arith)) (minus_is a b)

-- steps and offsets are small
pub record Small (s : Steps) : Type 0 where
  pub some : 0 < s.step
  pub steps : s.step ≤ 32
  pub off : s.offset ≤ 32000

pub steps_small : (u : Unit) (w : ℕ) → Small (steps_of u w)
unfolding steps_of celsius_steps ampere_steps
steps_small Celsius w =
    by_test (w =? 8) (λ t. rw t (record { some = lit< tt; steps = lit≤ tt; off = lit≤ tt }))
    (λ t. by_test (w =? 16) (λ s. rw (t, s) (record { some = lit< tt; steps = lit≤ tt; off = lit≤ tt })) (λ s. rw (t, s) (record { some = lit< tt; steps = lit≤ tt; off = lit≤ tt })))
steps_small Ampere w =
    by_test (w =? 16) (λ s. rw s (record { some = lit< tt; steps = lit≤ tt; off = lit≤ tt })) (λ s. rw s (record { some = lit< tt; steps = lit≤ tt; off = lit≤ tt }))
steps_small Percent w = record { some = lit< tt; steps = lit≤ tt; off = lit≤ tt }
steps_small Volt w = record { some = lit< tt; steps = lit≤ tt; off = lit≤ tt }
steps_small Hertz w = record { some = lit< tt; steps = lit≤ tt; off = lit≤ tt }
steps_small Other w = record { some = lit< tt; steps = lit≤ tt; off = lit≤ tt }

pub product_below : (s c : ℕ) → s ≤ 32 → c < 2 ^ 32 → s * c < 2 ^ 62
product_below s c h g = omega (arith, mul-le-mul_right c h)

-- the scaled value is step times code, less the offset

celsius_8 : (c : ℕ) → pos 32 *ℤ (pos c -ℤ pos 40) ≡ sub_ℕ (32 * c) 1280
celsius_8 c =
    by_test (c <? 40)
    (λ t. let l = ltb-true c 40 t in
    let h : 32 * c < 1280 = omega arith in
    let e : 32 * suc (40 - suc c) ≡ suc (1280 - suc (32 * c)) = omega arith in
    ap (λ (z : ℤ). pos 32 *ℤ z) (sub_neg c 40 l) ∙ ap (λ (n : ℕ). neg_ℤ (pos n)) e ∙ sym (sub_neg (32 * c) 1280 h))
    (λ t. let l = ltb-false c 40 t in
    let h : 1280 ≤ 32 * c = omega arith in
    let e : 32 * (c - 40) ≡ 32 * c - 1280 = omega arith in
    ap (λ (z : ℤ). pos 32 *ℤ z) (sub_pos c 40 l) ∙ ap pos e ∙ sym (sub_pos (32 * c) 1280 h))

one_step : (c b : ℕ) → pos c -ℤ pos b ≡ sub_ℕ (1 * c) b
one_step c b = minus_is c b ∙ ap (λ (n : ℕ). sub_ℕ n b) (sym (one-mul c))

no_offset : (c : ℕ) → pos c ≡ sub_ℕ (1 * c) 0
no_offset c = sym (rw (one-mul c, le-ltb c 0 (omega arith)) (ap pos (omega arith)))

pub scaled_is : (u : Unit) (w c : ℕ) → scaled_of u w c ≡ sub_ℕ ((steps_of u w).step * c) (steps_of u w).offset
unfolding scaled_of steps_of celsius_steps ampere_steps
scaled_is Celsius w c =
    by_test (w =? 8) (λ t. rw t (celsius_8 c)) (λ t. by_test (w =? 16) (λ s. rw (t, s) (one_step c 8736)) (λ s. rw (t, s) (no_offset c)))
scaled_is Ampere w c = by_test (w =? 16) (λ s. rw s (one_step c 32000)) (λ s. rw s (no_offset c))
scaled_is Percent w c = no_offset c
scaled_is Volt w c = no_offset c
scaled_is Hertz w c = no_offset c
scaled_is Other w c = no_offset c

-- as a word
pub scaled_fits : (u : Unit) (w c : ℕ) → c < 2 ^ 32 → SFits w64 (scaled_of u w c)
scaled_fits u w c h =
    let s = steps_small u w in
    rw (scaled_is u w c) (sub_fits ((steps_of u w).step * c) (steps_of u w).offset (product_below (steps_of u w).step c s.steps h) (omega arith))
