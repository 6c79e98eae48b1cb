-- Digits and the number that they spell, in any base up to sixteen: each gives the other back. Then the turns of the loop
-- that reads them.
-- Assumes nothing.
use Rattle.std.specs.Prelude.{if◌then◌else◌}
use mathlib.Core.Path.{◌≡◌, refl, sym, ap, ◌∙◌}
use mathlib.Core.Bool.{true}
use mathlib.Core.List.{List, [], ◌∷◌, ◌++◌, append_assoc, append-nil}
use mathlib.Core.Logic.{◌⊎◌, inl, inr, ⊎_elim}
use Prim.Native.Nat.{ℕ, zero, suc, ◌+◌, ◌*◌, ◌-◌, ◌/◌, ◌%◌, ◌^◌, ◌≤◌, ◌<◌}
use native.Mathlib.Nat.{pow-le-pow_right, pow-suc, div-lt_iff_lt-mul, div-add-mod', mod-lt, mul-le-mul_left, zero-add}
use native.Mathlib.Nat.{add-zero, pow-zero}
use native.Mathlib.Numerals.{add-one}
use native.Mathlib.Omega.{arith}
use borrow.Author.Tests.{ltb-true, ltb-false, leb-true, lt-ltb, le-ltb, le-leb, lt-leb}
use lib.Arith.{lt-one, digits_lt, digits_div, digits_mod}
use lib.Dec.{lit<}
use lib.ListN.{length, get_or, drop, drop_of_length-le}
use lib.Seq.{drop-cons}
use Rattle.words.specs.Words.{◌<?◌, ◌≤?◌, Told, refused, gives}
use Rattle.words.proofs.Words.{by_test, both_true, before_refusal, gives_same}
use Rattle.text.specs.Text.{digit0, letter_a, glyph, digits}
use Rattle.capture.specs.Digits.{digit9, letter_f, value_of, are_digits, number_from, number, number_read}

-- what the value of a code is

valued : (c : ℕ) → (value_of c ≡ 16) ⊎ (((48 ≤ c) × (c ≤ 57) × (value_of c ≡ c - 48)) ⊎ ((65 ≤ c) × (c ≤ 70) × (value_of c ≡ c - 65 + 10)))
unfolding value_of
valued c =
    by_test (c <? digit0) (λ e. inl (rw e)) (λ e₁.
    by_test (c ≤? digit9) (λ e. inr (inl (ltb-false c 48 e₁, leb-true c 57 e, rw (e₁, e)))) (λ e₂.
    by_test (c <? letter_a) (λ e. inl (rw (e₁, e₂, e))) (λ e₃.
    by_test (c ≤? letter_f) (λ e. inr (inr (ltb-false c 65 e₃, leb-true c 70 e, rw (e₁, e₂, e₃, e)))) (λ e₄.
    inl (rw (e₁, e₂, e₃, e₄))))))

glyph_low : (d : ℕ) → d < 10 → glyph d ≡ 48 + d
unfolding glyph
glyph_low d h = rw (lt-ltb d 10 h)

glyph_high : (d : ℕ) → 10 ≤ d → glyph d ≡ 65 + (d - 10)
unfolding glyph
glyph_high d h = rw (le-ltb d 10 h)

-- a digit's code, from its value
pub glyph_value : (c : ℕ) → value_of c < 16 → glyph (value_of c) ≡ c
glyph_value c h =
    ⊎_elim (λ e. absurd (omega arith))
    (⊎_elim
    (λ w. glyph_low (value_of c) (omega arith) ∙ omega arith)
    (λ w. glyph_high (value_of c) (omega arith) ∙ omega arith))
    (valued c)

-- and its value, from its code

value_low : (c : ℕ) → 48 ≤ c → c ≤ 57 → value_of c ≡ c - 48
unfolding value_of
value_low c l h = rw (le-ltb c 48 l, le-leb c 57 h)

value_high : (c : ℕ) → 65 ≤ c → c ≤ 70 → value_of c ≡ c - 65 + 10
unfolding value_of
value_high c l h = rw (le-ltb c 48 (omega arith), lt-leb c 57 (omega arith), le-ltb c 65 l, le-leb c 70 h)

pub value_glyph : (d : ℕ) → d < 16 → value_of (glyph d) ≡ d
value_glyph d h =
    by_test (d <? 10)
    (λ e.
    let l = ltb-true d 10 e in
    rw (glyph_low d l) (value_low (48 + d) (omega arith) (omega arith) ∙ omega arith))
    (λ e.
    let l = ltb-false d 10 e in
    rw (glyph_high d l) (value_high (65 + (d - 10)) (omega arith) (omega arith) ∙ omega arith))

-- The value without a branch: the low bits, and 9 more for a letter, whose code lies 64 up. It is right where its own code is the one read.

abbrev pub value_in : ℕ → ℕ
value_in c = c % 16 + c / 64 * 9

abbrev pub code_of : ℕ → ℕ
code_of v = v + v / 10 * 7 + 48

pub value_right : (c v : ℕ) → v < 16 → code_of v ≡ c → v ≡ value_of c
value_right c v h e =
    by_test (v <? 10)
    (λ t.
    let l = ltb-true v 10 t in
    let q : v / 10 ≡ 0 = omega arith in
    let k : c ≡ 48 + v = omega arith in
    sym (value_low c (omega arith) (omega arith) ∙ omega arith))
    (λ t.
    let l = ltb-false v 10 t in
    let q : v / 10 ≡ 1 = omega arith in
    let k : c ≡ 55 + v = omega arith in
    sym (value_high c (omega arith) (omega arith) ∙ omega arith))

pub value_none : (c : ℕ) → (value_in c < 16 → code_of (value_in c) ≡ c → ⊥) → value_of c ≡ 16
value_none c n =
    ⊎_elim (λ e. e)
    (⊎_elim
    (λ w.
    let q : c / 64 ≡ 0 = omega arith in
    let v : value_in c ≡ c - 48 = omega arith in
    let r : value_in c / 10 ≡ 0 = omega arith in
    absurd (n (omega arith) (omega arith)))
    (λ w.
    let q : c / 64 ≡ 1 = omega arith in
    let v : value_in c ≡ c - 55 = omega arith in
    let r : value_in c / 10 ≡ 1 = omega arith in
    absurd (n (omega arith) (omega arith))))
    (valued c)

module _ (base : ℕ) (positive : 0 < base) (most : base ≤ 16) where
  -- digits of a number are digits, and spell that number

  are_digits_on : (k n : ℕ) (rest : List ℕ) → are_digits base rest ≡ true → are_digits base (digits base k n ++ rest) ≡ true
  unfolding digits are_digits
  are_digits_on zero n rest e = e
  are_digits_on (suc k) n rest e =
      let l : n % base < base = mod-lt n positive in
      let v : value_of (glyph (n % base)) ≡ n % base = value_glyph (n % base) (omega arith) in
      let t : (value_of (glyph (n % base)) <? base) ≡ true = rw v (lt-ltb (n % base) base l) in
      rw append_assoc (are_digits_on k (n / base) (glyph (n % base) ∷ rest) (rw (t, e)))

  pub are_digits_lem : (k n : ℕ) → are_digits base (digits base k n) ≡ true
  unfolding are_digits
  are_digits_lem k n = rw (← append-nil (digits base k n)) (are_digits_on k n [] refl)

  number_on : (k n : ℕ) (rest : List ℕ) → n < base ^ k → number_from base 0 (digits base k n ++ rest) ≡ number_from base n rest
  unfolding digits number_from
  number_on zero n rest h = let z : n ≡ 0 = lt-one (rw pow-zero at h) in rw z
  number_on (suc k) n rest h =
      let l : n / base < base ^ k = (div-lt_iff_lt-mul positive).1 (rw pow-suc at h) in
      let m : n % base < base = mod-lt n positive in
      let v : value_of (glyph (n % base)) ≡ n % base = value_glyph (n % base) (omega arith) in
      rw (append_assoc, number_on k (n / base) (glyph (n % base) ∷ rest) l, v, div-add-mod' n base)

  pub number_digits : (k n : ℕ) → n < base ^ k → number base (digits base k n) ≡ n
  unfolding number_from
  number_digits k n h = rw (← append-nil (digits base k n)) (number_on k n [] h)

  -- the number that digits spell has those digits, and no more

  digits_on : (codes : List ℕ) (k n : ℕ) → are_digits base codes ≡ true → digits base (k + length codes) (number_from base n codes) ≡ digits base k n ++ codes
  unfolding are_digits number_from digits
  digits_on [] k n a = rw (add-zero, append-nil)
  digits_on (c ∷ codes) k n a =
      let b = both_true (value_of c <? base) (are_digits base codes) a in
      let l : value_of c < base = ltb-true (value_of c) base b.0 in
      let g : glyph (value_of c) ≡ c = glyph_value c (omega arith) in
      let e : k + suc (length codes) ≡ suc k + length codes = omega arith in
      ap (λ (m : ℕ). digits base m (number_from base n (c ∷ codes))) e
      ∙ digits_on codes (suc k) (n * base + value_of c) b.1
      ∙ rw (digits_div n l, digits_mod n l, g, append_assoc)

  pub digits_number : (codes : List ℕ) → are_digits base codes ≡ true → digits base (length codes) (number base codes) ≡ codes
  unfolding digits
  digits_number codes a = rw (← zero-add (length codes)) (digits_on codes 0 0 a)

  number_below_on : (codes : List ℕ) (k n : ℕ) → n < base ^ k → are_digits base codes ≡ true → number_from base n codes < base ^ (k + length codes)
  unfolding are_digits number_from
  number_below_on [] k n h a = rw add-zero h
  number_below_on (c ∷ codes) k n h a =
      let b = both_true (value_of c <? base) (are_digits base codes) a in
      let l : value_of c < base = ltb-true (value_of c) base b.0 in
      let e : k + suc (length codes) ≡ suc k + length codes = omega arith in
      rw e (number_below_on codes (suc k) (n * base + value_of c) (rw pow-suc (digits_lt h l)) b.1)

  pub number_below : (codes : List ℕ) → are_digits base codes ≡ true → number base codes < base ^ length codes
  number_below codes a = rw (← zero-add (length codes)) (number_below_on codes 0 0 (rw pow-zero (lit< tt)) a)

  -- what is read is the number of the digits, and they are its digits

  read_digits : (codes : List ℕ) (n : ℕ) → number_read base codes ≡ gives n → (are_digits base codes ≡ true) × (number base codes ≡ n)
  unfolding number_read
  read_digits codes n e =
      let r = before_refusal (are_digits base codes) 19 (gives (number base codes)) e in
      (r.0, gives_same r.1)

  pub read_below : (codes : List ℕ) (n : ℕ) → number_read base codes ≡ gives n → n < base ^ length codes
  read_below codes n e = let r = read_digits codes n e in rw r.1 at (number_below codes r.0)

  pub read_spelled : (codes : List ℕ) (n : ℕ) → number_read base codes ≡ gives n → codes ≡ digits base (length codes) n
  read_spelled codes n e = let r = read_digits codes n e in sym (rw r.1 at (digits_number codes r.0))

  -- and what is written is read
  pub spelled_read : (k n : ℕ) → n < base ^ k → number_read base (digits base k n) ≡ gives n
  unfolding number_read
  spelled_read k n h = rw (are_digits_lem k n, number_digits k n h)

-- The loop that reads: from the number so far and the codes that are left.

abbrev pub read_on : ℕ → ℕ → List ℕ → Told ℕ
read_on base n codes = if are_digits base codes then gives (number_from base n codes) else refused 19

pub read_stop : (base n : ℕ) (part : List ℕ) (i : ℕ) → i < length part → base ≤ value_of (get_or part i 0) → read_on base n (drop i part) ≡ refused 19
unfolding are_digits
read_stop base n part i h l = rw (drop-cons part i 0 h, le-ltb (value_of (get_or part i 0)) base l)

pub read_pass : (base n : ℕ) (part : List ℕ) (i : ℕ) → i < length part → value_of (get_or part i 0) < base
    → read_on base n (drop i part) ≡ read_on base (n * base + value_of (get_or part i 0)) (drop (i + 1) part)
unfolding are_digits number_from
read_pass base n part i h l = rw (add-one, drop-cons part i 0 h, lt-ltb (value_of (get_or part i 0)) base l)

pub read_end : (base n : ℕ) (part : List ℕ) (i : ℕ) → length part ≤ i → read_on base n (drop i part) ≡ gives n
unfolding are_digits number_from
read_end base n part i h = rw (drop_of_length-le part h)

-- its number fits 32 bits
pub read_room : (base n v i : ℕ) → base ≤ 16 → v < base → i < 8 → n < 16 ^ i → (n * base + v < 16 ^ (i + 1)) × (n * base + v < 2 ^ 32)
read_room base n v i hb hv hi h =
    let a : n * base ≤ n * 16 = mul-le-mul_left n hb in
    let b : n * base + v < 16 ^ (i + 1) = rw (add-one, pow-suc) (omega arith) in
    let j : i + 1 ≤ 8 = omega arith in
    let d : 16 ^ (i + 1) ≤ 16 ^ 8 = pow-le-pow_right (lit< tt) j in
    (b, omega arith)
