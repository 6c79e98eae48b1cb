-- The statements of specs/Laws.antt, proved; those about a stream in blocks are in Feeding.
-- Assumes nothing.
use Rattle.std.specs.Prelude.{if◌then◌else◌, Ok, Err}
use mathlib.Core.Path.{◌≡◌, refl, sym, ap, ◌∙◌}
use mathlib.Core.Bool.{Bool, true, false, not}
use mathlib.Core.List.{List, [], ◌∷◌, ◌++◌, map}
use Prim.Native.Nat.{ℕ, zero, suc, ◌+◌, ◌≤◌, ◌<◌}
use native.Mathlib.Omega.{arith}
use borrow.Author.Tests.{ltb-true, lt-leb, le-leb, ne_eqb}
use lib.ListN.{length, take, length-append, length-take}
use lib.Seq.{take_at}
use Rattle.words.specs.Words.{given◌then◌, ◌<?◌, ◌=?◌, Told, refused, gives}
use Rattle.words.proofs.Words.{by_test, gives_same, refused_gives, refused_same}
use Rattle.text.specs.Text.{decimal_width, byte_digits}
use Rattle.capture.specs.Digits.{number_read, are_digits, number}
use Rattle.capture.specs.Line.{Frame, line_of, line_read, IsLineOf, has_shape, gap_read, bytes_read, gap_in, id_in}
use Rattle.capture.specs.Line.{data_in}
use Rattle.capture.specs.Stream.{newline, longest_line, most_lines, lines_from, Piece, piece_of, lines_of, piece_read}
use Rattle.capture.specs.Promises.{Reading, told_reading, frame_in, frame_if, Write}
use Rattle.capture.specs.Laws.{ToldReadingSame, TakeApartOnly, WriteOnly, NewOnly, NextOnly, LastOnly}
use Rattle.capture.specs.Laws.{NotReadRefusalOnly, ReadingRefusalOnly, MalformedKeeps, NumberBack, DigitsBack, SoundExactly}
use Rattle.capture.specs.Laws.{MalformedExactly, OnlyNineteen, OneLine, OneFrame, SoundLength, WrittenLength}
use Rattle.capture.specs.Laws.{text_of, WrittenTakenApart, TakenApartWritten, NoBytesNoLines, FinalNewline}
use Rattle.capture.specs.Laws.{NoMoreLines, PieceSays}
use Rattle.capture.specs.declared.NotRead.TheVariants.{Malformed}
use Rattle.capture.specs.declared.Line.{Line}
use Rattle.capture.specs.declared.Text.{Text}
use Rattle.capture.proofs.Digits.{spelled_read, read_spelled, read_below}
use Rattle.capture.proofs.Lines.{no_shape}
use Rattle.capture.proofs.Writing.{gap_width, line_length_of}
use Rattle.capture.proofs.OneSpelling.{written_read, read_written}
use Rattle.capture.specs.Laws.{ReadingRefusalTold}

-- An answer is read back from what it tells.

reading_back : Told Frame → Reading
reading_back (gives f) = Ok tt
reading_back (refused n) = Err Malformed

reading_back_lem : (f : Frame) (r : Reading) → reading_back (told_reading r f) ≡ r
unfolding reading_back
reading_back_lem f (Ok done) = refl
reading_back_lem f (Err Malformed) = refl

pub told_reading_same : ToldReadingSame
told_reading_same f r s e = sym (reading_back_lem f r) ∙ ap reading_back e ∙ reading_back_lem f s

-- No second answer keeps a promise.

line_same : (r s : Line) → r.answer ≡ s.answer → frame_in r ≡ frame_in s → r ≡ s
line_same r s a f =
    let g : r.gap ≡ s.gap = ap (λ (x : Frame). x.gap) f in
    let i : r.id ≡ s.id = ap (λ (x : Frame). x.id) f in
    let b : r.bytes ≡ s.bytes = ap (λ (x : Frame). x.bytes) f in
    rw (a, g, i, b)

pub take_apart_only : TakeApartOnly
take_apart_only line r s p q =
    let a : r.answer ≡ s.answer = sym (reading_back_lem (frame_in r) r.answer) ∙ ap reading_back (p.answer ∙ sym q.answer) ∙ reading_back_lem (frame_in s) s.answer in
    line_same r s a (p.frame ∙ sym q.frame)

pub write_only : WriteOnly
write_only gap id bytes r s p q =
    let t : r.bytes ≡ s.bytes = p.text ∙ sym q.text in
    let n : r.count ≡ s.count = p.count ∙ sym q.count in
    rw (t, n)

pub new_only : NewOnly
new_only r s p q = p.cutter ∙ sym q.cutter

pub next_only : NextOnly
next_only block at c r s p q =
    let a : r.answer ≡ s.answer = p.answer ∙ sym q.answer in
    let b : r.cutter ≡ s.cutter = p.cutter ∙ sym q.cutter in
    let d : r.read_to ≡ s.read_to = p.read_to ∙ sym q.read_to in
    rw (a, b, d)

pub last_only : LastOnly
last_only c r s p q = p.answer ∙ sym q.answer

pub not_read_refusal_only : NotReadRefusalOnly
not_read_refusal_only why r s p q = p.number ∙ sym q.number

pub reading_refusal_only : ReadingRefusalOnly
reading_refusal_only answer r s p q = p.number ∙ sym q.number

pub reading_refusal_told : ReadingRefusalTold
reading_refusal_told (Ok value) = record { number = refl }
reading_refusal_told (Err why) = record { number = refl }

-- what a refusal leaves
pub malformed_keeps : MalformedKeeps
malformed_keeps line r p e = p.frame ∙ ap frame_if (sym p.answer ∙ ap (λ (a : Reading). told_reading a (frame_in r)) e)

-- Digits.

pub number_back : NumberBack
number_back base p m count n h = spelled_read base p m count n h

pub digits_back : DigitsBack
digits_back base p m text n e = (read_spelled base p m text n e, read_below base p m text n e)

-- The one spelling.

pub sound_exactly : SoundExactly
sound_exactly line f = (read_written line f, λ p. ap line_read p.spelling ∙ written_read f p.frame)

abbrev Only19 : {A : Type 0} → Told A → Type 0
Only19 t = (n : ℕ) → t ≡ refused n → n ≡ 19

refused_19 : {A : Type 0} → Only19 {A = A} (refused 19)
refused_19 n e = sym (refused_same e)

gives_19 : {A : Type 0} (a : A) → Only19 (gives a)
gives_19 a n e = refused_gives (sym e)

given_19 : {A B : Type 0} (t : Told A) (f : A → Told B) → Only19 t → ((a : A) → Only19 (f a)) → Only19 (given t then f)
given_19 (refused m) f p q n e = p n (ap refused (refused_same e))
given_19 (gives a) f p q n e = q a n e

if_19 : {A : Type 0} (b : Bool) (t u : Told A) → Only19 t → Only19 u → Only19 (if b then t else u)
if_19 true t u p q = p
if_19 false t u p q = q

number_19 : (base : ℕ) (text : List ℕ) → Only19 (number_read base text)
unfolding number_read
number_19 base text = if_19 (are_digits base text) (gives (number base text)) (refused 19) (gives_19 (number base text)) refused_19

gap_19 : (text : List ℕ) → Only19 (gap_read text)
unfolding gap_read
gap_19 text =
    given_19 (number_read 10 text) _ (number_19 10 text) (λ gap.
    if_19 (65535 <? gap) (refused 19) _ refused_19 (
    if_19 (not (decimal_width gap =? length text)) (refused 19) (gives gap) refused_19 (gives_19 gap)))

bytes_19 : (count : ℕ) (text : List ℕ) → Only19 (bytes_read count text)
unfolding bytes_read
bytes_19 zero text = gives_19 []
bytes_19 (suc count) text =
    given_19 (number_read 16 (take byte_digits text)) _ (number_19 16 (take byte_digits text)) (λ b.
    given_19 (bytes_read count _) _ (bytes_19 count _) (λ bs. gives_19 (b ∷ bs)))

pub only_nineteen : OnlyNineteen
unfolding line_read
only_nineteen line =
    if_19 (not (has_shape line)) (refused 19) _ refused_19 (
    given_19 (gap_read (gap_in line)) _ (gap_19 (gap_in line)) (λ gap.
    given_19 (number_read 16 (id_in line)) _ (number_19 16 (id_in line)) (λ id.
    given_19 (bytes_read 8 (data_in line)) _ (bytes_19 8 (data_in line)) (λ bytes.
    gives_19 (record { gap = gap; id = id; bytes = bytes })))))

malformed_if : (line : List ℕ) (t : Told Frame) → line_read line ≡ t → ((f : Frame) → IsLineOf f line → ⊥) → line_read line ≡ refused 19
malformed_if line (gives f) e none = absurd (none f (read_written line f e))
malformed_if line (refused n) e none = e ∙ ap refused (only_nineteen line n e)

pub malformed_exactly : MalformedExactly
malformed_exactly line = (
  (λ e f p. refused_gives (sym e ∙ (sound_exactly line f).1 p)),
  malformed_if line (line_read line) refl,
)

pub one_line_lem : OneLine
one_line_lem f line line' e e' = (read_written line f e).spelling ∙ sym (read_written line' f e').spelling

pub one_frame : OneFrame
one_frame f g p q e = gives_same (sym (written_read f p) ∙ ap line_read e ∙ written_read g q)

too_long_shape : (line : List ℕ) → 43 < length line → has_shape line ≡ false
unfolding has_shape
too_long_shape line h = rw (le-leb 39 (length line) (omega arith), lt-leb (length line) 43 h)

pub sound_length : SoundLength
sound_length line f e =
    let p = read_written line f e in
    let n : length line ≡ decimal_width f.gap + 38 = ap length p.spelling ∙ line_length_of f p.frame.eight in
    let w = gap_width f.gap p.frame.gap_fits in
    (omega arith, omega arith)

pub written_length : WrittenLength
written_length gap id bytes r g e p =
    let n = line_length_of (record { gap = gap; id = id; bytes = bytes }) e in
    let c = p.count in
    let w = gap_width gap g in
    (omega arith, omega arith)

-- The calls.

text_is : (f : Frame) (t : Text) → Write f.gap f.id f.bytes t → text_of t ≡ line_of f
text_is f t p =
    ap (λ (l : List ℕ). take t.count l) p.text
    ∙ take_at (line_of f) _ t.count (sym p.count)

pub written_taken_apart : WrittenTakenApart
unfolding reading_back
written_taken_apart f t r is w p =
    let e : line_read (text_of t) ≡ gives f = ap line_read (text_is f t w) ∙ written_read f is in (
      sym (reading_back_lem (frame_in r) r.answer) ∙ ap reading_back (p.answer ∙ e),
      p.frame ∙ ap frame_if e,
    )

pub taken_apart_written : TakenApartWritten
taken_apart_written line r t p a w =
    let e : line_read line ≡ gives (frame_in r) = sym p.answer ∙ ap (λ (x : Reading). told_reading x (frame_in r)) a in
    text_is (frame_in r) t w ∙ sym (read_written line (frame_in r) e).spelling

-- Streams.

pub no_bytes_no_lines : NoBytesNoLines
unfolding lines_of lines_from
no_bytes_no_lines = refl

final_newline_from : (begun stream : List ℕ) (b : ℕ) → (b ≡ newline → ⊥)
    → lines_from begun (stream ++ (b ∷ newline ∷ [])) ≡ lines_from begun (stream ++ (b ∷ []))
unfolding lines_from
final_newline_from begun [] b n =
    let l : length (begun ++ (b ∷ [])) ≡ length begun + 1 = length-append begun (b ∷ []) in
    rw (ne_eqb b newline n, ne_eqb (length (begun ++ (b ∷ []))) 0 (λ z. omega arith))
final_newline_from begun (x ∷ stream) b n =
    by_test (x =? newline)
    (λ e. rw e (ap (λ (l : List (List ℕ)). begun ∷ l) (final_newline_from [] stream b n)))
    (λ e. rw e (final_newline_from (begun ++ (x ∷ [])) stream b n))

pub final_newline : FinalNewline
unfolding lines_of
final_newline stream b n = rw (final_newline_from [] stream b n)

take_most : (n : ℕ) (pieces : List Piece) → length (take n pieces) ≤ n
take_most n pieces = rw length-take (omega arith)

pub no_more_lines : NoMoreLines
unfolding lines_of
no_more_lines stream = take_most most_lines (map piece_of (lines_from [] stream))

pub piece_says : PieceSays
unfolding piece_of piece_read
piece_says line =
    by_test (longest_line <? length line)
    (λ e.
    let l = ltb-true longest_line (length line) e in
    rw e (sym (no_shape line (too_long_shape line (omega arith)))))
    (λ e. rw e)
