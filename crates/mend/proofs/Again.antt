-- What was written is a sound capture: it is cut into the lines that were written, and each of them stays as it is.
-- Assumes nothing.
use mathlib.Core.Path.{◌≡◌, refl, sym, ◌∙◌}
use mathlib.Core.Bool.{Bool, true}
use mathlib.Core.List.{List, [], ◌∷◌, ◌++◌, map, append_assoc, append-nil}
use Prim.Native.Nat.{ℕ, suc, ◌+◌, ◌≤◌, ◌<◌}
use native.Mathlib.Nat.{le_trans}
use native.Mathlib.Omega.{arith}
use borrow.Author.Tests.{ltb-true, eqb-false, lt-ltb, le-ltb, ne_eqb}
use lib.Dec.{lit<, lit≤}
use lib.ListN.{length, length-map}
use lib.Seq.{take_all}
use Rattle.words.specs.Words.{◌<?◌, ◌=?◌, ◌or◌, Told, refused, gives}
use Rattle.words.specs.Lists.{any, Absent}
use Rattle.words.proofs.Words.{by_test, both_true, true_false, refused_gives}
use Rattle.text.specs.Text.{decimal_width, decimal, digits, byte_digits, byte_pairs}
use Rattle.capture.specs.Digits.{value_of, are_digits}
use Rattle.capture.specs.Line.{Frame, id_digits, line_of, IsLineOf, longest_sound}
use Rattle.capture.specs.Stream.{newline, longest_line, most_lines, lines_from, Piece, whole, too_long, piece_of, lines_of}
use Rattle.capture.proofs.Digits.{are_digits_lem}
use Rattle.capture.proofs.Laws.{sound_exactly, sound_length, no_more_lines}
use Rattle.mend.specs.Mending.{Mended}
use Rattle.mend.specs.Report.{end_of_line, piece_mended, written_of, capture_text, report_text, capture_of, report_in}
use Rattle.mend.specs.Laws as Laws
use Rattle.mend.proofs.MendingLaws.{kept_exactly, sound_unchanged}

-- A line that is too long is dropped as it is cut.
pub long_dropped : Laws.LongDropped
unfolding piece_of piece_mended
long_dropped line h = rw (lt-ltb longest_line (length line) h)

-- A sound line has no newline: its keys have none, and a newline is no digit.

any_append : {P : Type 0} (f : P → Bool) (before behind : List P) → any f (before ++ behind) ≡ (any f before or any f behind)
any_append f [] behind = refl
any_append f (p ∷ before) behind = by_test (f p) (λ e. rw e) (λ e. rw e (any_append f before behind))

newline_none : (base : ℕ) → base ≤ 16 → value_of newline < base → ⊥
unfolding value_of
newline_none base most l = omega arith

no_digit : (base : ℕ) → base ≤ 16 → (codes : List ℕ) → are_digits base codes ≡ true → Absent newline codes
unfolding are_digits
no_digit base most [] e = refl
no_digit base most (c ∷ codes) e =
    let b = both_true (value_of c <? base) (are_digits base codes) e in
    let l : value_of c < base = ltb-true (value_of c) base b.0 in
    rw (ne_eqb newline c (λ z. newline_none base most (rw (← z) at l))) (no_digit base most codes b.1)

in_digits : (base : ℕ) → 0 < base → base ≤ 16 → (count n : ℕ) → Absent newline (digits base count n)
in_digits base positive most count n = no_digit base most (digits base count n) (are_digits_lem base positive most count n)

in_pairs : (bytes : List ℕ) → Absent newline (byte_pairs bytes)
unfolding byte_pairs
in_pairs [] = refl
in_pairs (b ∷ bytes) = rw (any_append, in_digits 16 (lit< tt) (lit≤ tt) byte_digits b) (in_pairs bytes)

in_line : (f : Frame) → Absent newline (line_of f)
unfolding line_of decimal
in_line f =
    simp (
      any_append,
      in_digits 10 (lit< tt) (lit≤ tt) (decimal_width f.gap) f.gap,
      in_digits 16 (lit< tt) (lit≤ tt) id_digits f.id,
      in_pairs f.bytes,
    )

-- Lines, and each with a newline behind it.

abbrev unlines : List (List ℕ) → List ℕ
unlines [] = []
unlines (line ∷ lines) = line ++ end_of_line ++ unlines lines

-- every one of them sound
data AllSound : List (List ℕ) → Type 0 where
  no_line : AllSound []
  a_line : {line : List ℕ} {lines : List (List ℕ)} (f : Frame) → IsLineOf f line → AllSound lines → AllSound (line ∷ lines)

-- a line without a newline is cut at the one behind it
cut_behind_lem : (begun line stream : List ℕ) → Absent newline line
    → lines_from begun (line ++ end_of_line ++ stream) ≡ (begun ++ line) ∷ lines_from [] stream
unfolding lines_from
cut_behind_lem begun [] stream a = rw append-nil
cut_behind_lem begun (c ∷ line) stream a =
    by_test (newline =? c)
    (λ e. true_false (rw e at a))
    (λ e.
    rw (ne_eqb c newline (λ z. eqb-false newline c e (sym z))) (
    cut_behind_lem (begun ++ (c ∷ [])) line stream (rw e at a) ∙ rw append_assoc))

-- so sound lines are cut as they were, and none is too long

cut_again : {lines : List (List ℕ)} → AllSound lines → lines_from [] (unlines lines) ≡ lines
unfolding lines_from
cut_again no_line = refl
cut_again (a_line {line = line} {lines = lines} f p sound) =
    cut_behind_lem [] line (unlines lines) (rw p.spelling (in_line f)) ∙ rw (cut_again sound)

none_long : {lines : List (List ℕ)} → AllSound lines → map piece_of lines ≡ map whole lines
unfolding piece_of
none_long no_line = refl
none_long (a_line {line = line} f p sound) =
    let l : length line ≤ longest_sound = (sound_length line f ((sound_exactly line f).1 p)).1 in
    rw (le-ltb longest_line (length line) (omega arith), none_long sound)

lines_again : {lines : List (List ℕ)} → AllSound lines → length lines ≤ most_lines → lines_of (unlines lines) ≡ map whole lines
unfolding lines_of
lines_again {lines} sound few = rw (cut_again sound, none_long sound) (take_all most_lines (map whole lines) (rw length-map few))

-- The lines that are kept, those that are dropped left out.

abbrev kept_before : Told Mended → List (List ℕ) → List (List ℕ)
kept_before (gives m) lines = m.text ∷ lines
kept_before (refused n) lines = lines

abbrev kept_of : List Piece → List (List ℕ)
kept_of [] = []
kept_of (piece ∷ pieces) = kept_before (piece_mended piece) (kept_of pieces)

written_kept : (t : Told Mended) (lines : List (List ℕ)) → written_of t ++ unlines lines ≡ unlines (kept_before t lines)
written_kept (gives m) lines = refl
written_kept (refused n) lines = refl

capture_kept : (pieces : List Piece) → capture_text pieces ≡ unlines (kept_of pieces)
unfolding capture_text
capture_kept [] = refl
capture_kept (piece ∷ pieces) = rw (capture_kept pieces) (written_kept (piece_mended piece) (kept_of pieces))

one_more : (t : Told Mended) (lines : List (List ℕ)) → length (kept_before t lines) ≤ suc (length lines)
one_more (gives m) lines = omega arith
one_more (refused n) lines = omega arith

few_kept : (pieces : List Piece) → length (kept_of pieces) ≤ length pieces
few_kept [] = omega arith
few_kept (piece ∷ pieces) =
    let l = one_more (piece_mended piece) (kept_of pieces) in
    let k = few_kept pieces in
    omega arith

-- What is kept is sound.

kept_before_lem : (piece : Piece) (t : Told Mended) {lines : List (List ℕ)} → piece_mended piece ≡ t → AllSound lines → AllSound (kept_before t lines)
unfolding piece_mended
kept_before_lem (whole line) (gives m) e sound = let k = ((kept_exactly line m).0 e).1 in a_line k.0 k.1 sound
kept_before_lem too_long (gives m) e sound = refused_gives e
kept_before_lem (whole line) (refused n) e sound = sound
kept_before_lem too_long (refused n) e sound = sound

kept_sound : (pieces : List Piece) → AllSound (kept_of pieces)
kept_sound [] = no_line
kept_sound (piece ∷ pieces) = kept_before_lem piece (piece_mended piece) refl (kept_sound pieces)

-- A sound line stays as it is, and nothing is said of it.

capture_again : {lines : List (List ℕ)} → AllSound lines → capture_text (map whole lines) ≡ unlines lines
unfolding capture_text piece_mended
capture_again no_line = refl
capture_again (a_line {line = line} f p sound) = rw (sound_unchanged line f p, capture_again sound)

report_again : {lines : List (List ℕ)} → AllSound lines → (n : ℕ) → report_text n (map whole lines) ≡ []
unfolding report_text piece_mended
report_again no_line n = refl
report_again (a_line {line = line} f p sound) n = rw (sound_unchanged line f p) (report_again sound (n + 1))

pub mended_once : Laws.MendedOnce
unfolding capture_of report_in
mended_once stream =
    let sound = kept_sound (lines_of stream) in
    let lines = lines_again sound (le_trans (few_kept (lines_of stream)) (no_more_lines stream)) in
    rw (capture_kept (lines_of stream), lines) (capture_again sound, report_again sound 1)
