-- A line is read as a frame exactly when it is the one spelling of that frame.
-- Assumes nothing.
use mathlib.Core.Path.{◌≡◌, refl, sym, ap, subst, ◌∙◌}
use mathlib.Core.Bool.{true, not}
use mathlib.Core.List.{List, [], ◌∷◌, ◌++◌, append_assoc}
use Prim.Native.Nat.{ℕ, zero, suc, ◌+◌, ◌*◌, ◌-◌, ◌^◌, ◌≤◌, ◌<◌}
use native.Mathlib.Nat.{add_comm, add_assoc}
use native.Mathlib.Omega.{arith}
use borrow.Author.Tests.{eqb-true, le-ltb, le-leb, eq-eqb}
use lib.Dec.{lit<, lit≤}
use lib.ListN.{length, take, drop, length-append, length-drop, take-append-drop}
use lib.Seq.{take_at, drop_at, take_all, drop-drop, length-take-le}
use Rattle.words.specs.Words.{given◌then◌, ◌≤?◌, ◌=?◌, Told, refused, gives}
use Rattle.frame.specs.Bytes.{AreBytes}
use Rattle.words.proofs.Words.{both_true, past_refusal, not_flips, gives_same, refused_gives, true_false}
use Rattle.text.specs.Text.{digits, decimal_width, decimal, byte_pairs}
use Rattle.text.proofs.Digits.{length_digits, length_decimal, width_digits}
use Rattle.capture.specs.Digits.{number_read}
use Rattle.capture.specs.Line.{Frame, gap_key, id_key, data_key, line_of, IsFrame, IsLineOf, width_in, begins_with}
use Rattle.capture.specs.Line.{has_shape, gap_read, bytes_read, gap_in, id_in, data_in, line_read}
use Rattle.capture.proofs.Digits.{spelled_read, read_spelled, read_below}
use Rattle.capture.proofs.Writing.{gap_width, line_length_of}
use Rattle.capture.proofs.Lines.{gap_known, shape_length, a_frame}

-- What is written is read.

pairs_read : (bytes : List ℕ) → AreBytes bytes → bytes_read (length bytes) (byte_pairs bytes) ≡ gives bytes
unfolding bytes_read byte_pairs
pairs_read [] a = refl
pairs_read (b ∷ bs) a =
    let l : length (digits 16 2 b) ≡ 2 = length_digits 16 2 b in
    let t = take_at (digits 16 2 b) (byte_pairs bs) 2 l in
    let d = drop_at (digits 16 2 b) (byte_pairs bs) 2 l in
    let s : b < 16 ^ 2 = a 0 in
    rw (t, d, spelled_read 16 (lit< tt) (lit≤ tt) 2 b s, pairs_read bs (λ k. a (suc k)))

gap_read_lem : (gap : ℕ) → gap ≤ 65535 → gap_read (decimal gap) ≡ gives gap
unfolding gap_read decimal
gap_read_lem gap h =
    let n = spelled_read 10 (lit< tt) (lit≤ tt) (decimal_width gap) gap (width_digits gap).0 in
    rw (n, le-ltb 65535 gap h, length_digits 10 (decimal_width gap) gap, eq-eqb (decimal_width gap) (decimal_width gap) refl)

shape_of : (line : List ℕ) (w : ℕ) (r₁ r₂ r₃ : List ℕ) → length line ≡ w + 38 → 1 ≤ w → w ≤ 5
    → line ≡ gap_key ++ r₁ → drop (w + 4) line ≡ id_key ++ r₂ → drop (w + 16) line ≡ data_key ++ r₃ → has_shape line ≡ true
unfolding has_shape begins_with
shape_of line w r₁ r₂ r₃ n l m e₁ e₂ e₃ =
    let v : length line - 38 ≡ w = omega arith in
    let b₁ : begins_with gap_key line ≡ true = ap (λ (l : List ℕ). begins_with gap_key l) e₁ in
    let b₂ : begins_with id_key (drop (w + 4) line) ≡ true = ap (λ (l : List ℕ). begins_with id_key l) e₂ in
    let b₃ : begins_with data_key (drop (w + 16) line) ≡ true = ap (λ (l : List ℕ). begins_with data_key l) e₃ in
    rw (le-leb 39 (length line) (omega arith), le-leb (length line) 43 (omega arith), v, b₁, b₂, b₃)

module _ (f : Frame) (is : IsFrame f) where
  pub written_read : line_read (line_of f) ≡ gives f
  unfolding line_of
  written_read =
      let w = decimal_width f.gap in
      let D = decimal f.gap in
      let I = digits 16 8 f.id in
      let B = byte_pairs f.bytes in
      let line = line_of f in
      let d : length D ≡ w = length_decimal f.gap in
      let i : length I ≡ 8 = length_digits 16 8 f.id in
      let b = gap_width f.gap is.gap_fits in
      let n : length line ≡ w + 38 = line_length_of f is.eight in
      let v : length line - 38 ≡ w = omega arith in
      let e₁ : line ≡ gap_key ++ (D ++ (id_key ++ I ++ data_key ++ B)) = simp append_assoc in
      let e₂ : line ≡ (gap_key ++ D) ++ (id_key ++ (I ++ data_key ++ B)) = simp append_assoc in
      let e₃ : line ≡ (gap_key ++ D ++ id_key) ++ (I ++ (data_key ++ B)) = simp append_assoc in
      let e₄ : line ≡ (gap_key ++ D ++ id_key ++ I) ++ (data_key ++ B) = simp append_assoc in
      let e₅ : line ≡ (gap_key ++ D ++ id_key ++ I ++ data_key) ++ B = refl in
      let p₂ : drop (w + 4) line ≡ id_key ++ (I ++ data_key ++ B) = rw e₂ (drop_at (gap_key ++ D) (id_key ++ (I ++ data_key ++ B)) (w + 4) (simp length-append (omega arith))) in
      let p₃ : drop (w + 8) line ≡ I ++ (data_key ++ B) = rw e₃ (drop_at (gap_key ++ D ++ id_key) (I ++ (data_key ++ B)) (w + 8) (simp length-append (omega arith))) in
      let p₄ : drop (w + 16) line ≡ data_key ++ B = rw e₄ (drop_at (gap_key ++ D ++ id_key ++ I) (data_key ++ B) (w + 16) (simp length-append (omega arith))) in
      let p₅ : drop (w + 22) line ≡ B = rw e₅ (drop_at (gap_key ++ D ++ id_key ++ I ++ data_key) B (w + 22) (simp length-append (omega arith))) in
      let g : gap_in line ≡ D = rw v (rw e₁ (take_at D (id_key ++ I ++ data_key ++ B) w d)) in
      let j : id_in line ≡ I = rw (v, p₃) (take_at I (data_key ++ B) 8 i) in
      let k : data_in line ≡ B = rw (v, p₅) in
      let s : has_shape line ≡ true = shape_of line w (D ++ (id_key ++ I ++ data_key ++ B)) (I ++ data_key ++ B) B n b.0 b.1 e₁ p₂ p₄ in
      a_frame line f.gap f.id f.bytes s
      (rw g (gap_read_lem f.gap is.gap_fits))
      (rw j (spelled_read 16 (lit< tt) (lit≤ tt) 8 f.id is.id_fits))
      (rw k (ap (λ (m : ℕ). bytes_read m B) (sym is.eight) ∙ pairs_read f.bytes is.are_bytes))

-- What is read is as it is written.

begins_split : (key text : List ℕ) → begins_with key text ≡ true → text ≡ key ++ drop (length key) text
unfolding begins_with
begins_split [] text e = refl
begins_split (k ∷ key) [] e = true_false (sym e)
begins_split (k ∷ key) (c ∷ text) e =
    let b = both_true (c =? k) (begins_with key text) e in
    let h = eqb-true c k b.0 in
    rw h (ap (λ (l : List ℕ). k ∷ l) (begins_split key text b.1))

given_gives : {A B : Type 0} (t : Told A) (f : A → Told B) {b : B} → (given t then f) ≡ gives b → (a : A) × (t ≡ gives a) × (f a ≡ gives b)
given_gives (gives a) f e = (a, refl, e)
given_gives (refused n) f e = refused_gives e

first_byte : (b : ℕ) (bs : List ℕ) → b < 256 → AreBytes bs → AreBytes (b ∷ bs)
first_byte b bs h a zero = h
first_byte b bs h a (suc i) = a i

pairs_next : (text : List ℕ) (b : ℕ) (bs : List ℕ) → take 2 text ≡ digits 16 2 b → drop 2 text ≡ byte_pairs bs → text ≡ byte_pairs (b ∷ bs)
unfolding byte_pairs
pairs_next text b bs s r = sym (take-append-drop 2 text) ∙ rw (s, r)

pairs_back : (k : ℕ) (text bytes : List ℕ) → length text ≡ 2 * k → bytes_read k text ≡ gives bytes
    → (text ≡ byte_pairs bytes) × (length bytes ≡ k) × AreBytes bytes
unfolding bytes_read byte_pairs
pairs_back zero text bytes n e =
    let b : [] ≡ bytes = gives_same e in
    let t : text ≡ [] = sym (take_all 0 text (omega arith)) in
    (t ∙ ap byte_pairs b, sym (ap length b), subst (λ (x : List ℕ). AreBytes x) b (λ i. lit< tt))
pairs_back (suc k) text bytes n e =
    let g = given_gives (number_read 16 (take 2 text)) (λ b. given bytes_read k (drop 2 text) then λ bs. gives (b ∷ bs)) e in
    let h = given_gives (bytes_read k (drop 2 text)) (λ bs. gives (g.0 ∷ bs)) g.2 in
    let b : g.0 ∷ h.0 ≡ bytes = gives_same h.2 in
    let l : length (take 2 text) ≡ 2 = length-take-le 2 text (omega arith) in
    let r = pairs_back k (drop 2 text) h.0 (rw length-drop (omega arith)) h.1 in
    let s : take 2 text ≡ digits 16 2 g.0 = rw l at (read_spelled 16 (lit< tt) (lit≤ tt) (take 2 text) g.0 g.1) in
    let m : g.0 < 16 ^ 2 = rw l at (read_below 16 (lit< tt) (lit≤ tt) (take 2 text) g.0 g.1) in (
      pairs_next text g.0 h.0 s r.0 ∙ ap byte_pairs b,
      sym (ap length b) ∙ ap suc r.1,
      subst (λ (x : List ℕ). AreBytes x) b (first_byte g.0 h.0 m r.2),
    )

shape_keys : (line : List ℕ) → has_shape line ≡ true
    → (begins_with gap_key line ≡ true) × (begins_with id_key (drop (width_in line + 4) line) ≡ true) × (begins_with data_key (drop (width_in line + 16) line) ≡ true)
unfolding has_shape
shape_keys line e =
    let a = both_true (39 ≤? length line) _ e in
    let b = both_true (length line ≤? 43) _ a.1 in
    let d = both_true (begins_with gap_key line) _ b.1 in
    let g = both_true (begins_with id_key (drop (width_in line + 4) line)) _ d.1 in
    (d.0, g.0, g.1)

-- a line in its six parts
line_parts : (line : List ℕ) → has_shape line ≡ true → line ≡ gap_key ++ gap_in line ++ id_key ++ id_in line ++ data_key ++ data_in line
line_parts line s =
    let w = width_in line in
    let k = shape_keys line s in
    let a₁ : line ≡ gap_key ++ drop 4 line = begins_split gap_key line k.0 in
    let a₂ : drop 4 line ≡ gap_in line ++ drop (w + 4) line = sym (take-append-drop w (drop 4 line)) ∙ rw (drop-drop w 4 line, add_comm 4 w) in
    let a₃ : drop (w + 4) line ≡ id_key ++ drop (w + 8) line = begins_split id_key (drop (w + 4) line) k.1 ∙ rw (drop-drop 4 (w + 4) line, add_assoc w 4 4) in
    let a₄ : drop (w + 8) line ≡ id_in line ++ drop (w + 16) line = sym (take-append-drop 8 (drop (w + 8) line)) ∙ rw (drop-drop 8 (w + 8) line, add_assoc w 8 8) in
    let a₅ : drop (w + 16) line ≡ data_key ++ data_in line = begins_split data_key (drop (w + 16) line) k.2 ∙ rw (drop-drop 6 (w + 16) line, add_assoc w 16 6) in
    a₁ ∙ ap (λ (l : List ℕ). gap_key ++ l) (a₂ ∙ ap (λ (l : List ℕ). gap_in line ++ l) (a₃ ∙ ap (λ (l : List ℕ). id_key ++ l) (a₄ ∙ ap (λ (l : List ℕ). id_in line ++ l) a₅)))
    ∙ simp append_assoc

parts_spelled : (x y z : List ℕ) (f : Frame) → decimal_width f.gap ≡ length x → x ≡ digits 10 (length x) f.gap → y ≡ digits 16 8 f.id → z ≡ byte_pairs f.bytes
    → gap_key ++ x ++ id_key ++ y ++ data_key ++ z ≡ line_of f
unfolding line_of decimal
parts_spelled x y z f w a b e =
    let a' : x ≡ digits 10 (decimal_width f.gap) f.gap = a ∙ ap (λ (k : ℕ). digits 10 k f.gap) (sym w) in
    rw (← a', ← b, ← e)

pub read_written : (line : List ℕ) (f : Frame) → line_read line ≡ gives f → IsLineOf f line
unfolding line_read
read_written line f e =
    let r = past_refusal (not (has_shape line)) 19 _ e in
    let s : has_shape line ≡ true = not_flips (has_shape line) r.0 in
    let n = shape_length line s in
    let g = given_gives (gap_read (gap_in line)) _ r.1 in
    let i = given_gives (number_read 16 (id_in line)) _ g.2 in
    let b = given_gives (bytes_read 8 (data_in line)) _ i.2 in
    let whole : record { gap = g.0; id = i.0; bytes = b.0 } ≡ f = gives_same b.2 in
    let k = gap_known (gap_in line) g.0 g.1 in
    let p = read_spelled 10 (lit< tt) (lit≤ tt) (gap_in line) g.0 k.0 in
    let l : length (id_in line) ≡ 8 = length-take-le 8 (drop (width_in line + 8) line) (rw length-drop (omega arith)) in
    let q : id_in line ≡ digits 16 8 i.0 = rw l at (read_spelled 16 (lit< tt) (lit≤ tt) (id_in line) i.0 i.1) in
    let m : i.0 < 16 ^ 8 = rw l at (read_below 16 (lit< tt) (lit≤ tt) (id_in line) i.0 i.1) in
    let d = pairs_back 8 (data_in line) b.0 (rw length-drop (omega arith)) b.1 in
    subst (λ (x : Frame). IsLineOf x line) whole
    (record {
      frame = record { gap_fits = k.1; id_fits = m; eight = d.1; are_bytes = d.2 };
      spelling = line_parts line s ∙ parts_spelled (gap_in line) (id_in line) (data_in line) (record { gap = g.0; id = i.0; bytes = b.0 }) k.2 p q d.0;
    })
