-- How many digits there are.
-- Assumes nothing.
use mathlib.Core.Path.{◌≡◌, refl, sym}
use mathlib.Core.List.{List, [], ◌∷◌, ◌++◌, append_assoc, append-nil}
use Prim.Native.Nat.{ℕ, zero, suc, ◌+◌, ◌*◌, ◌-◌, ◌/◌, ◌^◌, ◌≤◌, ◌<◌}
use native.Mathlib.Nat.{pow-suc, pow-le-pow_right}
use native.Mathlib.Numerals.{add-one}
use native.Mathlib.Omega.{arith}
use borrow.Author.Tests.{ltb-true, ltb-false, leb-true, leb-false, lt-ltb, le-ltb}
use lib.Dec.{lit<}
use lib.ListN.{length, take, get_or, length-append}
use lib.Seq.{take-suc}
use Rattle.words.specs.Words.{◌<?◌, ◌≤?◌}
use Rattle.words.proofs.Words.{by_test}
use Rattle.text.specs.Text.{digits, width_within, decimal_width, decimal, byte_pairs}

pub length_digits : (base k n : ℕ) → length (digits base k n) ≡ k
unfolding digits
length_digits base zero n = refl
length_digits base (suc k) n = rw (length-append, length_digits base k (n / base), add-one)

pub length_decimal : (n : ℕ) → length (decimal n) ≡ decimal_width n
unfolding decimal
length_decimal n = length_digits 10 (decimal_width n) n

pub length_pairs : (bytes : List ℕ) → length (byte_pairs bytes) ≡ 2 * length bytes
unfolding byte_pairs
length_pairs [] = refl
length_pairs (b ∷ bs) = rw (length-append, length_digits 16 2 b, length_pairs bs) (omega arith)

-- two digits for each byte, one byte more

pairs_snoc : (bytes : List ℕ) (b : ℕ) → byte_pairs (bytes ++ (b ∷ [])) ≡ byte_pairs bytes ++ digits 16 2 b
unfolding byte_pairs
pairs_snoc [] b = simp append-nil
pairs_snoc (x ∷ bytes) b = rw (pairs_snoc bytes b, append_assoc)

pub pairs_turn : (bytes : List ℕ) (i : ℕ) → i < length bytes
    → byte_pairs (take (i + 1) bytes) ≡ byte_pairs (take i bytes) ++ digits 16 2 (get_or bytes i 0)
pairs_turn bytes i h = rw (add-one, take-suc bytes i 0 h) (pairs_snoc (take i bytes) (get_or bytes i 0))

-- The width of a number, whatever bounds how often a tenth is taken, as long as the number itself is no larger.

width_small : (most n : ℕ) → n < 10 → width_within most n ≡ 1
unfolding width_within
width_small zero n h = refl
width_small (suc most) n h = rw (lt-ltb n 10 h)

width_enough : (m k n : ℕ) → n ≤ m → n ≤ k → width_within m n ≡ width_within k n
unfolding width_within
width_enough zero k n a b = sym (width_small k n (omega arith))
width_enough (suc m) zero n a b = width_small (suc m) n (omega arith)
width_enough (suc m) (suc k) n a b =
    by_test (n <? 10)
    (λ e. rw e)
    (λ e.
    let l = ltb-false n 10 e in
    let p : n / 10 ≤ m = omega arith in
    let q : n / 10 ≤ k = omega arith in
    rw (e, width_enough m k (n / 10) p q))

-- one digit below ten, and from ten on one more than the tenth has

pub width_one : (n : ℕ) → n < 10 → decimal_width n ≡ 1
width_one n h = width_small n n h

pub width_more : (n : ℕ) → 10 ≤ n → decimal_width n ≡ suc (decimal_width (n / 10))
unfolding width_within
width_more zero h = absurd (omega arith)
width_more (suc m) h =
    let p : suc m / 10 ≤ m = omega arith in
    rw (le-ltb (suc m) 10 h, width_enough m (suc m / 10) (suc m / 10) p (omega arith))

pub width_positive : (n : ℕ) → 1 ≤ decimal_width n
width_positive n =
    by_test (n <? 10)
    (λ e. let w = width_one n (ltb-true n 10 e) in omega arith)
    (λ e. let w = width_more n (ltb-false n 10 e) in omega arith)

-- as many digits as the number needs, and no leading zeros

power_more : (w n : ℕ) → 1 ≤ w → 10 ≤ n → (1 < w → 10 ^ (w - 1) ≤ n / 10) → 10 ^ w ≤ n
power_more zero n p h l = absurd (omega arith)
power_more (suc zero) n p h l = h
power_more (suc (suc k)) n p h l =
    let e : suc (suc k) - 1 ≡ suc k = omega arith in
    let m : 10 ^ suc k ≤ n / 10 = rw e at (l (omega arith)) in
    rw pow-suc (omega arith)

width_within_lem : (most n : ℕ) → n ≤ most
    → (n < 10 ^ decimal_width n) × (1 < decimal_width n → 10 ^ (decimal_width n - 1) ≤ n)
width_within_lem zero n h =
    let w = width_one n (omega arith) in
    rw w (omega arith, λ l. absurd (omega arith))
width_within_lem (suc most) n h =
    by_test (n <? 10)
    (λ e.
    let s = ltb-true n 10 e in
    let w = width_one n s in
    rw w (omega arith, λ l. absurd (omega arith)))
    (λ e.
    let s = ltb-false n 10 e in
    let p : n / 10 ≤ most = omega arith in
    let t = width_within_lem most (n / 10) p in
    let below : n / 10 < 10 ^ decimal_width (n / 10) = t.0 in
    let least : 10 ^ decimal_width (n / 10) ≤ n =
    power_more (decimal_width (n / 10)) n (width_positive (n / 10)) s t.1 in
    let e : suc (decimal_width (n / 10)) - 1 ≡ decimal_width (n / 10) = omega arith in
    rw (width_more n s, e) (rw pow-suc (omega arith), λ l. least))

pub width_digits : (n : ℕ) → (n < 10 ^ decimal_width n) × (1 < decimal_width n → 10 ^ (decimal_width n - 1) ≤ n)
width_digits n = width_within_lem n n (omega arith)

-- a number below a power of ten
pub width_most : (n count : ℕ) → 0 < count → n < 10 ^ count → decimal_width n ≤ count
width_most n count p h =
    by_test (decimal_width n ≤? count)
    (λ e. leb-true (decimal_width n) count e)
    (λ e.
    let l : count < decimal_width n = leb-false (decimal_width n) count e in
    let m : 10 ^ (decimal_width n - 1) ≤ n = (width_digits n).1 (omega arith) in
    let q : 10 ^ count ≤ 10 ^ (decimal_width n - 1) = pow-le-pow_right (lit< tt) (omega arith) in
    absurd (omega arith))
