-- The library's number of eight bytes, and its bytes of a number, are ours. Assumes nothing.
use mathlib.Core.Path.{◌≡◌, refl, sym, ap, ◌∙◌}
use mathlib.Core.List.{List, [], ◌∷◌}
use Prim.Native.Nat.{ℕ, zero, suc, ◌/◌, ◌%◌, ◌^◌}
use native.Mathlib.Nat.{div-one, pow-suc, div-div-eq-div-mul}
use native.Mathlib.Omega.{arith}
use lib.ListN.{length}
use Rattle.std.specs.Int.{w64, from_le_bytes, to_le_bytes, byte_at, bytes_low_first}
use Rattle.frame.specs.Bytes.{number_of, bytes_of}

pub read_low_first : (bs : List ℕ) → length bs ≡ 8 → from_le_bytes w64 bs ≡ number_of bs
unfolding number_of
read_low_first [] l = omega arith
read_low_first (a ∷ []) l = omega arith
read_low_first (a ∷ b ∷ []) l = omega arith
read_low_first (a ∷ b ∷ c ∷ []) l = omega arith
read_low_first (a ∷ b ∷ c ∷ d ∷ []) l = omega arith
read_low_first (a ∷ b ∷ c ∷ d ∷ e ∷ []) l = omega arith
read_low_first (a ∷ b ∷ c ∷ d ∷ e ∷ f ∷ []) l = omega arith
read_low_first (a ∷ b ∷ c ∷ d ∷ e ∷ f ∷ g ∷ []) l = omega arith
read_low_first (a ∷ b ∷ c ∷ d ∷ e ∷ f ∷ g ∷ h ∷ []) l = omega arith
read_low_first (a ∷ b ∷ c ∷ d ∷ e ∷ f ∷ g ∷ h ∷ i ∷ is) l = omega arith

-- byte `at` of a number is the low byte of what is left above the bytes below it
byte_left : (at n : ℕ) → byte_at at n ≡ n / 256 ^ at % 256
byte_left zero n = rw div-one refl
byte_left (suc at) n = refl

-- and what is left above that byte
left_above : (at n : ℕ) → n / 256 ^ suc at ≡ n / 256 ^ at / 256
left_above at n = rw pow-suc (sym (div-div-eq-div-mul n (256 ^ at) 256))

low_first : (count at n : ℕ) → bytes_low_first at count n ≡ bytes_of count (n / 256 ^ at)
unfolding bytes_of
low_first zero at n = refl
low_first (suc count) at n =
    let e : bytes_of count (n / 256 ^ suc at) ≡ bytes_of count (n / 256 ^ at / 256) = ap (bytes_of count) (left_above at n) in
    rw (byte_left at n, low_first count (suc at) n, e) refl

pub written_low_first : (n : ℕ) → to_le_bytes w64 n ≡ bytes_of 8 n
written_low_first n = low_first 8 0 n ∙ ap (bytes_of 8) (rw div-one refl)
