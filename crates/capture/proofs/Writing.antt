-- The line of a frame, put together piece by piece.
-- Assumes nothing.
use mathlib.Core.Path.{◌≡◌, ap, ◌∙◌}
use mathlib.Core.List.{List, ◌++◌, append_assoc}
use Prim.Native.Nat.{ℕ, zero, suc, ◌+◌, ◌-◌, ◌≤◌}
use native.Mathlib.Omega.{arith}
use lib.ListN.{length, drop, replicate, length-append}
use Rattle.text.specs.Text.{digits, decimal_width, decimal, byte_pairs}
use Rattle.text.specs.Pieces.{placed}
use Rattle.text.specs.Promises.{PutDecimal, PutHex, PutBytes}
use Rattle.text.proofs.Digits.{length_digits, length_decimal, length_pairs, width_positive, width_most}
use Rattle.text.proofs.Pieces.{length_placed, one_behind, put_placed}
use Rattle.capture.specs.Line.{Frame, gap_key, id_key, data_key, line_of}
use Rattle.capture.specs.Promises.{padded}

-- a gap has one to five digits
pub gap_width : (gap : ℕ) → gap ≤ 65535 → (1 ≤ decimal_width gap) × (decimal_width gap ≤ 5)
gap_width gap h = (width_positive gap, width_most gap 5 (omega arith) (omega arith))

pub line_length_of : (f : Frame) → length f.bytes ≡ 8 → length (line_of f) ≡ decimal_width f.gap + 38
unfolding line_of
line_length_of f e = simp (length-append, length_decimal, length_digits, length_pairs) (omega arith)

-- a text placed at the start of zeros
drop_zeros : (k n : ℕ) → n ≤ k → drop {A = ℕ} n (replicate k 0) ≡ replicate (k - n) 0
drop_zeros k zero h = let e : k - 0 ≡ k = omega arith in rw e
drop_zeros (suc k) (suc n) h = let e : suc k - suc n ≡ k - n = omega arith in rw e (drop_zeros k n (omega arith))
drop_zeros zero (suc n) h = absurd (omega arith)

placed_padded : (l : List ℕ) → length l ≤ 43 → placed (replicate 43 0) 0 l ≡ padded l
placed_padded l h = let e : 0 + length l ≡ length l = omega arith in rw (e, drop_zeros 43 (length l) h)

-- the three pieces of a line, one behind the other
pub line_put : {t₁ t₂ t₃ : List ℕ} {n₁ n₂ n₃ : ℕ} (f : Frame) → f.gap ≤ 65535 → length f.bytes ≡ 8
    → PutDecimal (replicate 43 0) 0 gap_key f.gap n₁ t₁ → PutHex t₁ n₁ id_key f.id 8 n₂ t₂
    → PutBytes t₂ n₂ data_key f.bytes n₃ t₃
    → (t₃ ≡ padded (line_of f)) × (n₃ ≡ length (line_of f))
unfolding line_of
line_put {t₁} {t₂} {t₃} {n₁} {n₂} f g e p₁ p₂ p₃ =
    let zeros : List ℕ = replicate 43 0 in
    let w = gap_width f.gap g in
    let a : List ℕ = gap_key ++ decimal f.gap in
    let b : List ℕ = id_key ++ digits 16 8 f.id in
    let d : List ℕ = data_key ++ byte_pairs f.bytes in
    let la : length a ≡ decimal_width f.gap + 4 = rw (length-append, length_decimal f.gap) (omega arith) in
    let lb : length b ≡ 12 = rw (length-append, length_digits 16 8 f.id) in
    let ld : length d ≡ 22 = rw (length-append, length_pairs f.bytes, e) in
    let q₁ = put_placed p₁ (omega arith) in
    let m₁ : length t₁ ≡ 43 = ap length q₁.0 ∙ length_placed zeros a 0 (omega arith) in
    let q₂ = put_placed p₂ (omega (arith, q₁.1)) in
    let m₂ : length t₂ ≡ length t₁ = ap length q₂.0 ∙ length_placed t₁ b n₁ (omega (arith, q₁.1)) in
    let q₃ = put_placed p₃ (omega (arith, q₁.1, q₂.1)) in
    let r₂ = one_behind zeros a b 0 q₁.0 q₁.1 q₂.0 (omega arith) in
    let lc : length (a ++ b) ≡ length a + length b = length-append a b in
    let k₂ : n₂ ≡ 0 + length (a ++ b) = omega (arith, q₁.1, q₂.1) in
    let r₃ = one_behind zeros (a ++ b) d 0 r₂ k₂ q₃.0 (omega arith) in
    let le : length (a ++ b ++ d) ≡ length (a ++ b) + length d = length-append (a ++ b) d in
    let line : a ++ b ++ d ≡ line_of f = simp append_assoc in (
      r₃ ∙ placed_padded (a ++ b ++ d) (omega arith) ∙ ap padded line,
      omega (arith, q₁.1, q₂.1, q₃.1) ∙ ap length
          line,
    )
