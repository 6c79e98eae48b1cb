-- Fields of a number: the new code is read back, and every other bit is as it was.
-- Assumes nothing.
use mathlib.Core.Path.{◌≡◌, sym, ap, ◌∙◌, subst}
use mathlib.Core.List.{List, [], ◌∷◌}
use mathlib.Core.Logic.{◌⊎◌, ⊎_elim}
use Prim.Native.Nat.{ℕ, zero, suc, ◌+◌, ◌*◌, ◌-◌, ◌/◌, ◌%◌, ◌^◌, ◌≤◌, ◌<◌}
use native.Mathlib.Nat.{lt_of_lt_of_le, lt_of_le_of_lt, mod-lt, mod-eq_of_lt, one-mul, div-eq_of_lt, div-le_self}
use native.Mathlib.Nat.{zero-div}
use native.Mathlib.Omega.{arith}
use lib.Arith.{digits_lt}
use lib.Dec.{lit<}
use lib.ListN.{get_or}
use lib.Pow.{pow_pos, pow_mono, pow-add, split, high, low, field, mod-mod-pow, shr-shr, shl_exact, shl_lt, shr_lt}
use Rattle.frame.specs.Bytes.{number_of, AreBytes}
use Rattle.catalogue.specs.Field.{field_of, with_field}

-- the number in three parts: above the field, the field, below it
abbrev joined : ℕ → ℕ → ℕ → ℕ → ℕ → ℕ
joined f w hi v lo = (hi * 2 ^ w + v) * 2 ^ f + lo

parts : (f w n : ℕ) → n ≡ joined f w (n / 2 ^ f / 2 ^ w) ((n / 2 ^ f) % 2 ^ w) (n % 2 ^ f)
parts f w n = sym (rw (split (n / 2 ^ f) w) (split n f))

with_is : (f w v n : ℕ) → with_field f w v n ≡ joined f w (n / 2 ^ f / 2 ^ w) v (n % 2 ^ f)
unfolding with_field field_of
with_is f w v n =
    let e = parts f w n in
    let p = 2 ^ f in
    omega (arith, e)

-- the new code is read back
pub field_back : (f w v n : ℕ) → v < 2 ^ w → field_of f w (with_field f w v n) ≡ v
unfolding field_of
field_back f w v n h =
    let hi = n / 2 ^ f / 2 ^ w in
    rw (with_is, high (hi * 2 ^ w + v) f (mod-lt n (pow_pos f))) (low hi w h)

above : (f w v n : ℕ) → v < 2 ^ w → with_field f w v n / 2 ^ (f + w) ≡ n / 2 ^ (f + w)
above f w v n h =
    let hi = n / 2 ^ f / 2 ^ w in
    rw (← shr-shr (with_field f w v n) f w, ← shr-shr n f w, with_is, high (hi * 2 ^ w + v) f (mod-lt n (pow_pos f))) (high hi w h)

under : (f w v n : ℕ) → with_field f w v n % 2 ^ f ≡ n % 2 ^ f
under f w v n = rw with_is (low (n / 2 ^ f / 2 ^ w * 2 ^ w + v) f (mod-lt n (pow_pos f)))

-- a field sees only the bits below its end
seen : (g x f n : ℕ) → g + x ≤ f → (n / 2 ^ g) % 2 ^ x ≡ (n % 2 ^ f / 2 ^ g) % 2 ^ x
seen g x f n h =
    let e : f - (x + g) + (x + g) ≡ f = omega arith in
    sym (field n x g) ∙ ap (λ (m : ℕ). m / 2 ^ g) (sym (mod-mod-pow n (f - (x + g)) (x + g)) ∙ ap (λ (k : ℕ). n % 2 ^ k % 2 ^ (x + g)) e) ∙ field (n % 2 ^ f) x g

-- and only the bits from its start
seen_up : (g f n : ℕ) → f ≤ g → n / 2 ^ g ≡ n / 2 ^ f / 2 ^ (g - f)
seen_up g f n h = let e : f + (g - f) ≡ g = omega arith in sym (shr-shr n f (g - f) ∙ ap (λ (k : ℕ). n / 2 ^ k) e)

-- a field beside it is as it was
pub field_beside : (f w v n g x : ℕ) → v < 2 ^ w → (g + x ≤ f) ⊎ (f + w ≤ g) → field_of g x (with_field f w v n) ≡ field_of g x n
unfolding field_of
field_beside f w v n g x h a =
    ⊎_elim
    (λ l. seen g x f (with_field f w v n) l ∙ ap (λ (m : ℕ). (m / 2 ^ g) % 2 ^ x) (under f w v n) ∙ sym (seen g x f n l))
    (λ l. ap (λ (m : ℕ). m % 2 ^ x)
    (seen_up g (f + w) (with_field f w v n) l ∙ ap (λ (m : ℕ). m / 2 ^ (g - (f + w))) (above f w v n h) ∙ sym (seen_up g (f + w) n l))) a

-- what the code asks

-- `1 << l` at 64 bits
pub one_shl : (l : ℕ) → l < 64 → (1 * 2 ^ l) % 2 ^ 64 ≡ 2 ^ l
one_shl l h = shl_exact {a = 1} 1 l 64 (lit< tt) (omega arith) ∙ one-mul (2 ^ l)

pub power_large : (l n : ℕ) → 64 ≤ l → n < 2 ^ 64 → n < 2 ^ l
power_large l n h g = lt_of_lt_of_le g (pow_mono {i = 64} {j = l} h)

-- past the frame there is nothing
pub field_past : (f w n : ℕ) → 64 ≤ f → n < 2 ^ 64 → 0 ≡ field_of f w n
unfolding field_of
field_past f w n h g = sym (rw (div-eq_of_lt (power_large f n h g)) (mod-eq_of_lt (pow_pos w)))

-- and a field of 64 bits or more is all that is left
pub field_all : (f w n : ℕ) → 64 ≤ w → n < 2 ^ 64 → n / 2 ^ f ≡ field_of f w n
unfolding field_of
field_all f w n h g = sym (mod-eq_of_lt (power_large w (n / 2 ^ f) h (lt_of_le_of_lt (div-le_self n (2 ^ f)) g)))

pub with_below : (f w v n : ℕ) → f + w ≤ 64 → v < 2 ^ w → n < 2 ^ 64 → with_field f w v n < 2 ^ 64
with_below f w v n h b l =
    let k = 64 - (f + w) in
    let e : 64 ≡ k + w + f = omega arith in
    let e' : 2 ^ 64 ≡ 2 ^ k * 2 ^ w * 2 ^ f = ap (λ (m : ℕ). 2 ^ m) e ∙ pow-add 2 (k + w) f ∙ ap (λ (m : ℕ). m * 2 ^ f) (pow-add 2 k w) in
    let e'' : 64 ≡ k + (f + w) = omega arith in
    let hi = n / 2 ^ f / 2 ^ w in
    let hl : hi < 2 ^ k = rw shr-shr (shr_lt k (f + w) (subst (λ (m : ℕ). n < 2 ^ m) e'' l)) in
    rw (with_is, e') (digits_lt (digits_lt hl b) (mod-lt n (pow_pos f)))

pub old_le : (f w n : ℕ) → field_of f w n * 2 ^ f ≤ n
unfolding field_of
old_le f w n = omega (arith, parts f w n)

pub new_below : (f w v : ℕ) → f + w ≤ 64 → v < 2 ^ w → v * 2 ^ f < 2 ^ 64
new_below f w v h b = lt_of_lt_of_le (shl_lt w f b) (pow_mono {i = w + f} {j = 64} (omega arith))

pub field_below : (f w n : ℕ) → field_of f w n < 2 ^ w
unfolding field_of
field_below f w n = mod-lt (n / 2 ^ f) (pow_pos w)

-- bit 8b+k of a frame is bit k of byte b
pub bit_of_byte : (bytes : List ℕ) (b k : ℕ) → AreBytes bytes → k < 8 → field_of (8 * b + k) 1 (number_of bytes) ≡ field_of k 1 (get_or bytes b 0)
unfolding number_of field_of
bit_of_byte [] b k a h = rw (zero-div (2 ^ (8 * b + k)), zero-div (2 ^ k))
bit_of_byte (x ∷ bs) zero k a h =
    let e : 8 * 0 + k ≡ k = omega arith in
    ap (λ (j : ℕ). (number_of bs * 2 ^ 8 + x) / 2 ^ j % 2 ^ 1) e ∙ seen k 1 8 (number_of bs * 2 ^ 8 + x) (omega arith) ∙ ap (λ (m : ℕ). (m / 2 ^ k) % 2 ^ 1) (low (number_of bs) 8 (a 0))
bit_of_byte (x ∷ bs) (suc b) k a h =
    let e : 8 * suc b + k ≡ 8 + (8 * b + k) = omega arith in
    ap (λ (j : ℕ). (number_of bs * 2 ^ 8 + x) / 2 ^ j % 2 ^ 1) e
    ∙ ap (λ (m : ℕ). m % 2 ^ 1) (sym (shr-shr (number_of bs * 2 ^ 8 + x) 8 (8 * b + k)) ∙ ap (λ (m : ℕ). m / 2 ^ (8 * b + k)) (high (number_of bs) 8 (a 0)))
    ∙ bit_of_byte bs b k (λ i. a (suc i)) h
