-- The laws of this crate (RULES 11.1 to 11.7), each a named statement. proofs/Laws.antt and proofs/Feeding.antt have a
-- proof of each, under the same name written small.
use Rattle.std.specs.Prelude.{◌≡◌, List, [], ◌∷◌, ◌++◌, ◌↔◌, ℕ, ◌-◌, ◌^◌, ◌≤◌, ◌<◌, length, take, Ok, Err}
use Rattle.words.specs.Words.{refused, gives}
use Rattle.text.specs.Text.{digits}
use Rattle.frame.specs.Frame.{frame_bytes}
use Rattle.capture.specs.Digits.{greatest_base, number_read}
use Rattle.capture.specs.Line.{Frame, line_of, line_read, IsFrame, IsLineOf}
use Rattle.capture.specs.Line.{greatest_gap, shortest_line, longest_sound}
use Rattle.capture.specs.Stream.{newline, longest_line, most_lines, Piece, piece_of, lines_of, piece_read}
use Rattle.capture.specs.Cutter.{fresh}
use Rattle.capture.specs.Promises.{told_reading, frame_in, no_frame}
use Rattle.capture.specs.Promises.{Reading, TakeApart, Write, New, Next, Last, NotReadRefusal, ReadingRefusal}
use Rattle.capture.specs.Feeding.{joined, yield_of, brings, between, Fed}
use Rattle.capture.specs.declared.NotRead.{NotRead}
use Rattle.capture.specs.declared.NotRead.TheVariants.{Malformed}
use Rattle.capture.specs.declared.Line.{Line}
use Rattle.capture.specs.declared.Text.{Text}
use Rattle.capture.specs.declared.Cutter.{Cutter}
use Rattle.capture.specs.declared.Cut.{Cut}
use Rattle.capture.specs.declared.Cutting.TheVariants as Cutting
use Rattle.capture.specs.declared.Ending.{Ending}
use Rattle.capture.specs.Promises.{number_of_not_read}
use Rattle.words.specs.Words.{number_of_answer}

-- An answer read as number and values loses nothing (RULES 2.10).
abbrev pub ToldReadingSame : Type 0
ToldReadingSame = (f : Frame) (r s : Reading) → told_reading r f ≡ told_reading s f → r ≡ s

-- No second answer keeps a promise.

abbrev pub TakeApartOnly : Type 0
TakeApartOnly = (line : List ℕ) (r s : Line) → TakeApart line r → TakeApart line s → r ≡ s

abbrev pub WriteOnly : Type 0
WriteOnly = (gap id : ℕ) (bytes : List ℕ) (r s : Text) → Write gap id bytes r → Write gap id bytes s → r ≡ s

abbrev pub NewOnly : Type 0
NewOnly = (r s : Cutter) → New r → New s → r ≡ s

abbrev pub NextOnly : Type 0
NextOnly = (block : List ℕ) (at : ℕ) (c : Cutter) (r s : Cut) → Next block at c r → Next block at c s → r ≡ s

abbrev pub LastOnly : Type 0
LastOnly = (c : Cutter) (r s : Ending) → Last c r → Last c s → r ≡ s

abbrev pub NotReadRefusalOnly : Type 0
NotReadRefusalOnly = (why : NotRead) (r s : ℕ) → NotReadRefusal why r → NotReadRefusal why s → r ≡ s

abbrev pub ReadingRefusalOnly : Type 0
ReadingRefusalOnly = (answer : Reading) (r s : ℕ) → ReadingRefusal answer r → ReadingRefusal answer s → r ≡ s

abbrev pub ReadingRefusalTold : Type 0
ReadingRefusalTold = (answer : Reading) → ReadingRefusal answer (number_of_answer number_of_not_read answer)

-- A refusal gives nothing (RULES 2.4 and 2.6): zeros stand beside it.
abbrev pub MalformedKeeps : Type 0
MalformedKeeps = (line : List ℕ) (r : Line) → TakeApart line r → r.answer ≡ Err Malformed → frame_in r ≡ no_frame

-- Digits and the number that they spell give each other back, in every base up to sixteen.

abbrev pub NumberBack : Type 0
NumberBack =
    (base : ℕ) → 0 < base → base ≤ greatest_base → (count n : ℕ) → n < base ^ count
    → number_read base (digits base count n) ≡ gives n

abbrev pub DigitsBack : Type 0
DigitsBack =
    (base : ℕ) → 0 < base → base ≤ greatest_base → (codes : List ℕ) (n : ℕ) → number_read base codes ≡ gives n
    → (codes ≡ digits base (length codes) n) × (n < base ^ length codes)

-- A line is read as a frame exactly when it is the one spelling of that frame, and is refused with 19 exactly when it
-- is that of none.

abbrev pub SoundExactly : Type 0
SoundExactly = (line : List ℕ) (f : Frame) → (line_read line ≡ gives f) ↔ IsLineOf f line

abbrev pub MalformedExactly : Type 0
MalformedExactly = (line : List ℕ) → (line_read line ≡ refused 19) ↔ ((f : Frame) → IsLineOf f line → ⊥)

abbrev pub OnlyNineteen : Type 0
OnlyNineteen = (line : List ℕ) (n : ℕ) → line_read line ≡ refused n → n ≡ 19

-- So each frame has one sound line, and each sound line one frame.

abbrev pub OneLine : Type 0
OneLine = (f : Frame) (line line' : List ℕ) → line_read line ≡ gives f → line_read line' ≡ gives f → line ≡ line'

abbrev pub OneFrame : Type 0
OneFrame = (f g : Frame) → IsFrame f → IsFrame g → line_of f ≡ line_of g → f ≡ g

-- A sound line has 39 to 43 bytes, and so has what is written.

abbrev pub SoundLength : Type 0
SoundLength =
    (line : List ℕ) (f : Frame) → line_read line ≡ gives f → (shortest_line ≤ length line) × (length line ≤ longest_sound)

abbrev pub WrittenLength : Type 0
WrittenLength =
    (gap id : ℕ) (bytes : List ℕ) (r : Text) → gap ≤ greatest_gap → length bytes ≡ frame_bytes → Write gap id bytes r
    → (shortest_line ≤ r.count) × (r.count ≤ longest_sound)

-- The calls: what was written is taken apart to what it was, and a sound line taken apart is written as it was.

abbrev pub text_of : Text → List ℕ
text_of t = take t.count t.bytes

abbrev pub WrittenTakenApart : Type 0
WrittenTakenApart =
    (f : Frame) (t : Text) (r : Line) → IsFrame f → Write f.gap f.id f.bytes t → TakeApart (text_of t) r
    → (r.answer ≡ Ok tt) × (frame_in r ≡ f)

abbrev pub TakenApartWritten : Type 0
TakenApartWritten =
    (line : List ℕ) (r : Line) (t : Text) → TakeApart line r → r.answer ≡ Ok tt
    → Write r.gap r.id r.bytes t
    → text_of t ≡ line

-- Zero bytes are zero lines; the last line may lack its newline, which starts no line (RULES 11.6).

abbrev pub NoBytesNoLines : Type 0
NoBytesNoLines = lines_of [] ≡ []

abbrev pub FinalNewline : Type 0
FinalNewline =
    (stream : List ℕ) (b : ℕ) → (b ≡ newline → ⊥)
    → lines_of (stream ++ (b ∷ newline ∷ [])) ≡ lines_of (stream ++ (b ∷ []))

-- Nothing past 1,000,000 lines is read.
abbrev pub NoMoreLines : Type 0
NoMoreLines = (stream : List ℕ) → length (lines_of stream) ≤ most_lines

-- The limit of 80 bytes costs no sound line: what is read of a line says what the whole line says.
abbrev pub PieceSays : Type 0
PieceSays = (line : List ℕ) → piece_read (piece_of line) ≡ line_read line

-- However a stream came in blocks, feeding them brings its lines.
abbrev pub BlocksDoNotMatter : Type 0
BlocksDoNotMatter =
    (blocks : List (List ℕ)) (pieces : List Piece) → Fed fresh between blocks pieces → pieces ≡ lines_of (joined blocks)

-- A call that brings a line goes on in the block, and not past its end; so feeding ends.
abbrev pub NextAdvances : Type 0
NextAdvances =
    (block : List ℕ) (at : ℕ) (c : Cutter) (r : Cut) (piece : Piece) → Next block at c r
    → yield_of block r ≡ brings piece → (at < r.read_to) × (r.read_to ≤ length block)

-- Where an answer says that a line lies, it lies.

abbrev pub WithinBlock : Type 0
WithinBlock =
    (block : List ℕ) (at from to : ℕ) (c : Cutter) (r : Cut) → Next block at c r → r.answer ≡ Cutting.Within from to
    → (from ≤ to) × (to ≤ length block) × (to - from ≤ longest_line)

abbrev pub CarriedFits : Type 0
CarriedFits =
    (block : List ℕ) (at n : ℕ) (c : Cutter) (r : Cut) → Next block at c r → r.answer ≡ Cutting.Carried n
    → n ≤ longest_line

abbrev pub LastFits : Type 0
LastFits = (n : ℕ) (c : Cutter) (r : Ending) → Last c r → r ≡ Ending.Carried n → n ≤ longest_line

-- Every stream can be fed, in whatever blocks.
abbrev pub EveryStreamIsFed : Type 0
EveryStreamIsFed = (blocks : List (List ℕ)) → (pieces : List Piece) × Fed fresh between blocks pieces
