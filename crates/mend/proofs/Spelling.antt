-- A line whose fields have no space has no other fields, and the line of a frame is spelled by the frame's digits.
-- Assumes nothing.
use mathlib.Core.Path.{◌≡◌, refl, sym, ap, ◌∙◌}
use mathlib.Core.Bool.{true, false}
use mathlib.Core.List.{List, [], ◌∷◌, ◌++◌, append-nil}
use mathlib.Core.Logic.{◌⊎◌, inl, inr, ⊎_elim}
use Prim.Native.Nat.{ℕ}
use native.Mathlib.Omega.{arith}
use borrow.Author.Tests.{eqb-false}
use lib.Dec.{lit<, lit≤}
use lib.ListN.{drop, get_or}
use Rattle.words.specs.Words.{◌=?◌}
use Rattle.words.specs.Lists.{any, Absent}
use Rattle.words.proofs.Words.{by_test, true_false}
use Rattle.text.specs.Text.{text, digits, decimal_width, decimal, byte_pairs}
use Rattle.capture.specs.Digits.{are_digits}
use Rattle.capture.specs.Line.{Frame, id_key, data_key, line_of}
use Rattle.capture.proofs.Digits.{are_digits_lem}
use Rattle.mend.specs.Mending.{Parts, spelled}
use Rattle.mend.proofs.Letters.{neither, no_space, digits_append}
use Rattle.mend.proofs.Parts.{in_turn}

-- Two texts that are one, each cut at a space, the first of them at its first space.

head_same : (x y : ℕ) (xs ys : List ℕ) → x ∷ xs ≡ y ∷ ys → (x ≡ y) × (xs ≡ ys)
head_same x y xs ys e = (ap (λ (l : List ℕ). get_or l 0 0) e, ap (λ (l : List ℕ). drop 1 l) e)

has_space : (ys vs : List ℕ) → any (◌=?◌ 32) (ys ++ (32 ∷ vs)) ≡ true
has_space [] vs = refl
has_space (y ∷ ys) vs = by_test (32 =? y) (λ e. rw e) (λ e. rw e (has_space ys vs))

no_cut : {B : Type 0} (xs ys vs : List ℕ) → Absent 32 xs → xs ≡ ys ++ (32 ∷ vs) → B
no_cut xs ys vs a e = true_false (sym (has_space ys vs) ∙ (rw e at a))

cut : (xs ys us vs : List ℕ) → Absent 32 xs → xs ++ (32 ∷ us) ≡ ys ++ (32 ∷ vs)
    → ((ys ≡ xs) × (us ≡ vs)) ⊎ ((h : List ℕ) × (us ≡ h ++ (32 ∷ vs)))
cut [] [] us vs a e = inl (refl, (head_same 32 32 us vs e).1)
cut [] (y ∷ ys) us vs a e = inr (ys, (head_same 32 y us (ys ++ (32 ∷ vs)) e).1)
cut (x ∷ xs) [] us vs a e =
    let n = neither (32 =? x) (any (◌=?◌ 32) xs) a in
    absurd (eqb-false 32 x n.0 (sym (head_same x 32 (xs ++ (32 ∷ us)) vs e).0))
cut (x ∷ xs) (y ∷ ys) us vs a e =
    let n = neither (32 =? x) (any (◌=?◌ 32) xs) a in
    let h = head_same x y (xs ++ (32 ∷ us)) (ys ++ (32 ∷ vs)) e in
    ⊎_elim (λ s. inl (rw (h.0, s.0), s.1)) inr (cut xs ys us vs n.1 h.1)

-- The fields of a line without a carriage return. Where one spelling's fields have no space, the other's are the same.

abbrev pub plain : List ℕ → List ℕ → List ℕ → Parts
plain gap id bytes = record { gap = gap; id = id; bytes = bytes; returns = false }

module _ (x y z gap id bytes : List ℕ) (a : Absent 32 x) (b : Absent 32 y) (d : Absent 32 z) where
  abbrev One : Type 0
  One = (gap ≡ x) × (id ≡ y) × (bytes ≡ z)

  second : gap ≡ x → y ++ (data_key ++ z) ≡ id ++ (data_key ++ bytes) → One
  second g e =
      ⊎_elim
      (λ s. (g, s.0, sym (ap (λ (l : List ℕ). drop 5 l) s.1)))
      (λ s. no_cut (text "data=" ++ z) s.0 _ d s.1)
      (cut y id _ _ b e)

  spelled_same : spelled (plain x y z) ≡ spelled (plain gap id bytes) → One
  spelled_same e =
      let f : x ++ (id_key ++ (y ++ (data_key ++ z))) ≡ gap ++ (id_key ++ (id ++ (data_key ++ bytes))) =
      ap (λ (l : List ℕ). drop 4 l) (simp (in_turn, append-nil) at e) in
      ⊎_elim
      (λ s. second s.0 (ap (λ (l : List ℕ). drop 3 l) s.1))
      (λ s. ⊎_elim
      (λ t. let z : ◌≡◌ {A = ℕ} 100 105 = (head_same 100 105 _ _ t.1).0 in absurd (omega arith))
      (λ t. no_cut (text "data=" ++ z) t.0 _ d t.1)
      (cut (text "id=" ++ y) s.0 (text "data=" ++ z) _ b s.1))
      (cut x gap _ _ a f)

-- The line of a frame.

pub frame_spelled : (f : Frame) → line_of f ≡ spelled (plain (decimal f.gap) (digits 16 8 f.id) (byte_pairs f.bytes))
unfolding line_of spelled
frame_spelled f = rw append-nil

pub decimal_digits : (n : ℕ) → are_digits 10 (decimal n) ≡ true
unfolding decimal
decimal_digits n = are_digits_lem 10 (lit< tt) (lit≤ tt) (decimal_width n) n

pub id_digits_lem : (n : ℕ) → are_digits 16 (digits 16 8 n) ≡ true
id_digits_lem n = are_digits_lem 16 (lit< tt) (lit≤ tt) 8 n

pub pairs_digits : (bytes : List ℕ) → are_digits 16 (byte_pairs bytes) ≡ true
unfolding byte_pairs are_digits
pairs_digits [] = refl
pairs_digits (b ∷ bs) =
    digits_append 16 (digits 16 2 b) (byte_pairs bs) (are_digits_lem 16 (lit< tt) (lit≤ tt) 2 b) (pairs_digits bs)

pub frame_same : (f : Frame) (gap id bytes : List ℕ) → spelled (plain gap id bytes) ≡ line_of f
    → (gap ≡ decimal f.gap) × (id ≡ digits 16 8 f.id) × (bytes ≡ byte_pairs f.bytes)
frame_same f gap id bytes e =
    spelled_same (decimal f.gap) (digits 16 8 f.id) (byte_pairs f.bytes) gap id bytes
    (no_space 10 (lit≤ tt) _ (decimal_digits f.gap))
    (no_space 16 (lit≤ tt) _ (id_digits_lem f.id))
    (no_space 16 (lit≤ tt) _ (pairs_digits f.bytes))
    (sym (frame_spelled f) ∙ sym e)
