-- Zeros before digits: they change no number, and `without_zeros` takes away just those that lead a decimal.
-- Assumes nothing.
use mathlib.Core.Path.{◌≡◌, refl, sym, ap, ◌∙◌}
use mathlib.Core.List.{List, [], ◌∷◌, ◌++◌}
use Prim.Native.Nat.{ℕ, zero, suc, ◌+◌, ◌*◌, ◌-◌, ◌^◌, ◌≤◌, ◌<◌}
use native.Mathlib.Omega.{arith}
use borrow.Author.Tests.{ltb-true, ltb-false, lt-ltb, le-ltb, eqb-true}
use lib.Dec.{lit<, lit≤}
use lib.ListN.{length, length-append, length-replicate}
use Rattle.words.specs.Words.{◌<?◌, ◌=?◌, gives}
use Rattle.words.proofs.Words.{by_test}
use Rattle.text.specs.Text.{digits, decimal_width, decimal}
use Rattle.text.proofs.Digits.{length_digits, length_decimal, width_positive, width_digits}
use Rattle.capture.specs.Digits.{value_of, are_digits, number_from, number_read}
use Rattle.capture.proofs.Digits.{spelled_read, read_spelled, read_below}
use Rattle.mend.specs.Mending.{without_zeros, zeros}

-- a test, as the actions and `Mends` have it
pub less_test : (n k m : ℕ) → n ≡ m - k → (k <? m) ≡ (0 <? n)
less_test n k m e =
    by_test (k <? m)
    (λ t. let l = ltb-true k m t in t ∙ sym (lt-ltb 0 n (omega arith)))
    (λ t. let l = ltb-false k m t in t ∙ sym (le-ltb 0 n (omega arith)))

-- zeros before digits leave the number

pub length_zeros : (n : ℕ) (l : List ℕ) → length (zeros n ++ l) ≡ n + length l
length_zeros n l = rw (length-append, length-replicate)

module _ (base : ℕ) (positive : 0 < base) where
  pub zeros_are_digits : (k : ℕ) (ds : List ℕ) → are_digits base (zeros k ++ ds) ≡ are_digits base ds
  unfolding are_digits value_of
  zeros_are_digits zero ds = refl
  zeros_are_digits (suc k) ds = rw (lt-ltb 0 base positive) (zeros_are_digits k ds)

  zeros_number : (k : ℕ) (ds : List ℕ) → number_from base 0 (zeros k ++ ds) ≡ number_from base 0 ds
  unfolding number_from value_of
  zeros_number zero ds = refl
  zeros_number (suc k) ds = let z : 0 * base + 0 ≡ 0 = omega arith in
      ap (λ (m : ℕ). number_from base m (zeros k ++ ds)) z ∙ zeros_number k ds

  pub zeros_read : (k : ℕ) (ds : List ℕ) → number_read base (zeros k ++ ds) ≡ number_read base ds
  unfolding number_read
  zeros_read k ds = rw (zeros_are_digits k ds, zeros_number k ds)

  -- so more digits than a number needs begin with zeros
  pub zeros_more : (k w n : ℕ) → base ≤ 16 → n < base ^ w → zeros k ++ digits base w n ≡ digits base (k + w) n
  zeros_more k w n m h =
      let r = read_spelled base positive m (zeros k ++ digits base w n) n (zeros_read k (digits base w n) ∙ spelled_read base positive m w n h) in
      let l : length (zeros k ++ digits base w n) ≡ k + w = rw (length_zeros, length_digits base w n) in
      rw l at r

-- what `without_zeros` takes away

pub zeros_gone : (l : List ℕ) → (n : ℕ) × (l ≡ zeros n ++ without_zeros l)
unfolding without_zeros
zeros_gone [] = (0, refl)
zeros_gone (c ∷ []) = (0, refl)
zeros_gone (c ∷ d ∷ l) =
    by_test (c =? 48)
    (λ e.
    let r = zeros_gone (d ∷ l) in
    let h = eqb-true c 48 e in
    (suc r.0, rw (e, h) (ap (λ (x : List ℕ). 48 ∷ x) r.1)))
    (λ e. (0, rw e))

zero_first : (l : List ℕ) → 1 ≤ length l → without_zeros (48 ∷ l) ≡ without_zeros l
unfolding without_zeros
zero_first [] h = absurd (omega arith)
zero_first (c ∷ l) h = refl

zeros_first : (n : ℕ) (l : List ℕ) → 1 ≤ length l → without_zeros (zeros n ++ l) ≡ without_zeros l
zeros_first zero l h = refl
zeros_first (suc n) l h = zero_first (zeros n ++ l) (rw (length_zeros n l) (omega arith)) ∙ zeros_first n l h

-- a decimal has none
no_zeros : (n : ℕ) (l : List ℕ) → l ≡ decimal n → without_zeros l ≡ l
unfolding without_zeros decimal
no_zeros n [] e = refl
no_zeros n (c ∷ []) e = refl
no_zeros n (c ∷ d ∷ l) e =
    by_test (c =? 48)
    (λ t.
    let h = eqb-true c 48 t in
    let w : length (c ∷ d ∷ l) ≡ decimal_width n = ap length e ∙ length_digits 10 (decimal_width n) n in
    let r : number_read 10 (c ∷ d ∷ l) ≡ gives n = rw e (spelled_read 10 (lit< tt) (lit≤ tt) (decimal_width n) n (width_digits n).0) in
    let s : number_read 10 (d ∷ l) ≡ gives n = sym (zeros_read 10 (lit< tt) 1 (d ∷ l)) ∙ (rw h at r) in
    let b = read_below 10 (lit< tt) (lit≤ tt) (d ∷ l) n s in
    let g : 10 ^ (decimal_width n - 1) ≤ n = (width_digits n).1 (omega arith) in
    let k : decimal_width n - 1 ≡ suc (length l) = omega arith in
    let g' = rw k at g in
    absurd (omega arith))
    (λ t. rw t)

pub without_zeros_lem : (k n : ℕ) → without_zeros (zeros k ++ decimal n) ≡ decimal n
without_zeros_lem k n =
    zeros_first k (decimal n) (rw (length_decimal n) (width_positive n)) ∙ no_zeros n (decimal n) refl
