-- A whole number of less than 17 bits, divided by a power of two in single precision: rounded once, and exact.
-- Assumes nothing.
use mathlib.Core.Path.{◌≡◌, sym, ap, ◌∙◌, subst}
use mathlib.Core.Bool.{Bool, true, false}
use Prim.Native.Nat.{ℕ, suc, ◌+◌, ◌*◌, ◌-◌, ◌^◌, ◌≤◌, ◌<◌}
use native.Mathlib.Nat.{mul_assoc, lt_of_lt_of_le, mul-pos}
use native.Mathlib.Omega.{arith}
use lib.Dec.{T, lit<, le→leb, lt→ltb}
use lib.IntN.{ℤ, pos, negsuc}
use lib.Signed.{mag}
use lib.Pow.{pow-add, pow_pos, pow_mono, shl_lt}
use lib.Ieee.{Float, nan, inf, fin, binary32, up, down, round, div, of_int, in_float}
use lib.Ieee.Exact.{HasValue, round_exact}
use lib.Ieee.Back.{round_whole}
use lib.Ieee.Fits.{down_pos}
use lib.Ieee.Scale.{round_same}
use mir.Syntax.{w64}
use mir.Val.{SFits, to_z, of_z}
use mir.ValLaws.{to_z-of_z}
use Rattle.tiles.specs.Exact.{nearest, IsExactly}

-- a whole number, divided by 2 ^ k, is rounded once from the fraction

cross : (x a d p : ℕ) → x ≡ a * d → x * p ≡ a * (1 * p * d)
cross x a d p h = rw h (omega arith)

div_whole : (x : Float) (s : Bool) (a k : ℕ) → HasValue x s a 1
    → div binary32 x (fin false 1 (pos k)) ≡ round binary32 s a (2 ^ k)
unfolding div
div_whole nan s a k h = absurd h
div_whole (inf t) s a k h = absurd h
div_whole (fin true m e) s a k h =
    round_same binary32 true (m * up e * 1) (1 * 2 ^ k * down e) a (2 ^ k)
    (mul-pos (mul-pos (lit< tt) (pow_pos k)) (down_pos e)) (pow_pos k)
    (cross (m * up e * 1) a (down e) (2 ^ k) h.1)
    ∙ ap (λ (b : Bool). round binary32 b a (2 ^ k)) h.0
div_whole (fin false m e) s a k h =
    round_same binary32 false (m * up e * 1) (1 * 2 ^ k * down e) a (2 ^ k)
    (mul-pos (mul-pos (lit< tt) (pow_pos k)) (down_pos e)) (pow_pos k)
    (cross (m * up e * 1) a (down e) (2 ^ k) h.1)
    ∙ ap (λ (b : Bool). round binary32 b a (2 ^ k)) h.0

-- the fraction itself is a value of the format
exact : (s : Bool) (a k : ℕ) → a < 2 ^ 24 → k ≤ 149 → HasValue (round binary32 s a (2 ^ k)) s a (2 ^ k)
exact s a k h g =
    let j = 149 - k in
    let e : 149 ≡ j + k = omega arith in
    round_exact binary32 s a (2 ^ k) a j (pow_pos k) h
    (lt_of_lt_of_le (shl_lt 24 j h) (pow_mono {i = 24 + j} {j = 277} (omega arith)))
    (ap (λ (m : ℕ). a * 2 ^ m) e ∙ ap (λ (m : ℕ). a * m) (pow-add 2 j k) ∙ sym (mul_assoc a (2 ^ j) (2 ^ k)))

-- the nearest number is the value
pub nearest_exact : (v : ℤ) (k : ℕ) → mag v < 2 ^ 16 → k ≤ 149 → IsExactly (nearest v (2 ^ k)) v (2 ^ k)
unfolding nearest
nearest_exact (pos n) k h g = exact false n k (omega arith) g
nearest_exact (negsuc n) k h g = exact true (suc n) k (omega arith) g

-- the division in floats gives it
over : (v : ℤ) (k : ℕ) → mag v < 2 ^ 16 → div binary32 (of_int binary32 v) (fin false 1 (pos k)) ≡ nearest v (2 ^ k)
unfolding of_int nearest
over (pos n) k h = div_whole (round binary32 false n 1) false n k (round_whole binary32 false n (omega arith))
over (negsuc n) k h =
    div_whole (round binary32 true (suc n) 1) true (suc n) k (round_whole binary32 true (suc n) (omega arith))

-- the cast loses nothing
in_float_lem : (v : ℤ) → mag v < 2 ^ 16 → T (in_float binary32 v)
unfolding in_float
in_float_lem (pos n) h = le→leb n (2 ^ 24) (omega arith)
in_float_lem (negsuc n) h = lt→ltb n (2 ^ 24) (omega arith)

-- The same of a signed word, which the machine reads back from its bits.

pub over_word : (v : ℤ) (k : ℕ) → SFits w64 v → mag v < 2 ^ 16 → k ≤ 149
    → (div binary32 (of_int binary32 (to_z w64 (of_z w64 v))) (fin false 1 (pos k)) ≡ nearest v (2 ^ k))
    × IsExactly (div binary32 (of_int binary32 (to_z w64 (of_z w64 v))) (fin false 1 (pos k))) v (2 ^ k)
over_word v k s h g =
    let e = subst
    (λ (z : ℤ). div binary32 (of_int binary32 z) (fin false 1 (pos k)) ≡ nearest v (2 ^ k))
    (sym (to_z-of_z w64 v s)) (over v k h) in
    (e, subst (λ (x : Float). IsExactly x v (2 ^ k)) (sym e) (nearest_exact v k h g))

pub in_float_word : (v : ℤ) → SFits w64 v → mag v < 2 ^ 16 → T (in_float binary32 (to_z w64 (of_z w64 v)))
in_float_word v s h = subst (λ (z : ℤ). T (in_float binary32 z)) (sym (to_z-of_z w64 v s)) (in_float_lem v h)
