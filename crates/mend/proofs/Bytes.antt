-- Bytes are read from sixteen digits exactly when these are the bytes' digits: the law of the one spelling, for a line
-- whose other fields are zeros.
-- Assumes nothing.
use mathlib.Core.Path.{◌≡◌, refl, sym, ap, ◌∙◌}
use mathlib.Core.List.{List, ◌++◌}
use Prim.Native.Nat.{ℕ}
use lib.Dec.{lit<, lit≤}
use lib.ListN.{length, drop}
use Rattle.words.specs.Words.{given◌then◌, gives}
use Rattle.words.proofs.Words.{gives_same}
use Rattle.text.specs.Text.{text, glyph, digits, width_within, decimal, byte_pairs}
use Rattle.frame.specs.Bytes.{AreBytes}
use Rattle.capture.specs.Digits.{value_of, are_digits, number_from, number_read}
use Rattle.capture.specs.Line.{Frame, line_of, IsLineOf, begins_with, has_shape, gap_read, bytes_read, line_read}
use Rattle.capture.proofs.Laws.{sound_exactly}
use Rattle.mend.proofs.Parts.{given_gives}

abbrev zero_line : List ℕ → List ℕ
zero_line part = text "gap=0 id=00000000 data=" ++ part

abbrev zero_frame : List ℕ → Frame
zero_frame bytes = record { gap = 0; id = 0; bytes = bytes }

zero_read : (part : List ℕ) → length part ≡ 16
    → line_read (zero_line part) ≡ (given bytes_read 8 part then λ bytes. gives (zero_frame bytes))
unfolding line_read has_shape begins_with gap_read number_read are_digits number_from value_of width_within
zero_read part h = rw h

zero_written : (bytes : List ℕ) → zero_line (byte_pairs bytes) ≡ line_of (zero_frame bytes)
unfolding line_of decimal digits glyph width_within
zero_written bytes = refl

pub bytes_spelled : (part bytes : List ℕ) → length part ≡ 16 → bytes_read 8 part ≡ gives bytes
    → (part ≡ byte_pairs bytes) × (length bytes ≡ 8) × AreBytes bytes
bytes_spelled part bytes h e =
    let is = (sound_exactly (zero_line part) (zero_frame bytes)).0 (zero_read part h ∙ rw e) in
    (ap (λ (l : List ℕ). drop 23 l) (is.spelling ∙ sym (zero_written bytes)), is.frame.eight, is.frame.are_bytes)

pub spelled_bytes : (part bytes : List ℕ) → length part ≡ 16 → part ≡ byte_pairs bytes → length bytes ≡ 8 → AreBytes bytes
    → bytes_read 8 part ≡ gives bytes
spelled_bytes part bytes h s n a =
    let is : IsLineOf (zero_frame bytes) (zero_line part) =
    record {
      frame = record { gap_fits = lit≤ tt; id_fits = lit< tt; eight = n; are_bytes = a };
      spelling = ap zero_line s ∙ zero_written bytes;
    } in
    let r = given_gives (bytes_read 8 part) _ (sym (zero_read part h) ∙ (sound_exactly (zero_line part) (zero_frame bytes)).1 is) in
    r.1 ∙ ap (λ (f : Frame). gives f.bytes) (gives_same r.2)
