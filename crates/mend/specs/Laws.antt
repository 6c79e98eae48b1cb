-- The laws of this program (RULES 17.14 to 17.17), each a named statement. proofs/ has a proof of each under the same
-- name written small: those about a line in MendingLaws.antt, those about what was written and is read again in
-- Again.antt, and those about the calls in Laws.antt.
use Rattle.std.specs.Prelude.{◌≡◌, false, List, [], ◌∷◌, ◌++◌, ◌↔◌, ℕ, ◌<◌, length, take}
use Rattle.words.specs.Words.{refused, gives}
use Rattle.capture.specs.Line.{Frame, IsLineOf}
use Rattle.capture.specs.Stream.{longest_line, piece_of}
use Rattle.capture.specs.Cutter.{fresh}
use Rattle.capture.specs.Feeding.{joined, Place, between, inside}
use Rattle.capture.specs.declared.Cutter.{Cutter}
use Rattle.mend.specs.Mending.{Mended, mended, Names, Mends, Sound}
use Rattle.mend.specs.Report.{piece_mended, any_action, capture_of, report_in}
use Rattle.mend.specs.Reader.{Runs, Finished}
use Rattle.mend.specs.declared.line.Actions.{Actions}
use Rattle.mend.specs.declared.reader.Pass.{Pass}
use Rattle.mend.specs.declared.reader.Pass.TheVariants.{Capture, Report}
use Rattle.mend.specs.declared.reader.Run.{Run}
use Rattle.mend.specs.declared.reader.Going.TheVariants.{On, Used, Over}

-- The calls of a pass, told by nothing but their promises: runs over the lines of each block, and the end.
pub data Writes (pass : Pass) : Cutter → Place → List (List ℕ) → List ℕ → Type 0 where
  a_run : {c : Cutter} {block out rest : List ℕ} {from : ℕ} {blocks : List (List ℕ)} (r : Run)
      → Runs pass block from c r out → r.going ≡ On
      → Writes pass r.cutter (inside block r.read_to) blocks rest
      → Writes pass c (inside block from) blocks (take r.written_to out ++ rest)
  a_block_used : {c : Cutter} {block out rest : List ℕ} {from : ℕ} {blocks : List (List ℕ)} (r : Run)
      → Runs pass block from c r out → r.going ≡ Used → Writes pass r.cutter between blocks rest
      → Writes pass c (inside block from) blocks (take r.written_to out ++ rest)
  all_lines_read : {c : Cutter} {block out out₁ : List ℕ} {from n : ℕ} {blocks : List (List ℕ)} (r : Run)
      → Runs pass block from c r out → r.going ≡ Over → Finished pass r.cutter n out₁
      → Writes pass c (inside block from) blocks (take r.written_to out ++ take n out₁)
  a_block : {c : Cutter} {block words : List ℕ} {blocks : List (List ℕ)}
      → Writes pass c (inside block 0) blocks words
      → Writes pass c between (block ∷ blocks) words
  the_end : {c : Cutter} {out : List ℕ} {n : ℕ}
      → Finished pass c n out
      → Writes pass c between [] (take n out)

-- However the file came in blocks, each time that it was read, and wherever the output was full: what is written is the
-- mended capture, and behind it the report.
abbrev pub MendingWritten : Type 0
MendingWritten =
    (file : List ℕ) (once again : List (List ℕ)) (words more : List ℕ) → joined once ≡ file → joined again ≡ file
    → Writes Capture fresh between once words → Writes Report fresh between again more
    → words ++ more ≡ capture_of file ++ report_in file

-- A line is kept, with this text and these actions, exactly when it becomes this sound text by these mendings.
abbrev pub KeptExactly : Type 0
KeptExactly =
    (line : List ℕ) (m : Mended) → (mended line ≡ gives m) ↔ (Mends line m.text m.actions × Sound m.text)

-- It is dropped, with 19, exactly when no mending of the four kinds makes it sound.
abbrev pub DroppedExactly : Type 0
DroppedExactly =
    (line : List ℕ)
    → (mended line ≡ refused 19) ↔ ((text : List ℕ) (actions : Actions) → Mends line text actions → Sound text → ⊥)

-- 19 is the only refusal.
abbrev pub OnlyNineteen : Type 0
OnlyNineteen = (line : List ℕ) (n : ℕ) → mended line ≡ refused n → n ≡ 19

-- A kept line says what it said: its frame is the frame that the line named before, and a line names one frame at most.

abbrev pub SameMeaning : Type 0
SameMeaning = (line : List ℕ) (m : Mended) (f : Frame) → mended line ≡ gives m → IsLineOf f m.text ↔ Names f line

abbrev pub NamesKept : Type 0
NamesKept = (line : List ℕ) (f : Frame) → Names f line → (m : Mended) × (mended line ≡ gives m) × IsLineOf f m.text

abbrev pub NamesOne : Type 0
NamesOne = (line : List ℕ) (f g : Frame) → Names f line → Names g line → f ≡ g

-- A sound line passes unchanged, and nothing is said of it.
abbrev pub SoundUnchanged : Type 0
SoundUnchanged =
    (line : List ℕ) (f : Frame) → IsLineOf f line
    → mended line
    ≡ gives (record { text = line; actions = record { cr = false; case = false; gap = false; id = false } })

-- Something is said of a kept line exactly when its text is another.
abbrev pub ReportedExactly : Type 0
ReportedExactly =
    (line : List ℕ) (m : Mended) → mended line ≡ gives m → (any_action m.actions ≡ false) ↔ (m.text ≡ line)

-- A line of more than 80 bytes as it was read is dropped, also where the mendings would make it short.
abbrev pub LongDropped : Type 0
LongDropped = (line : List ℕ) → longest_line < length line → piece_mended (piece_of line) ≡ refused 19

-- What was written is a sound capture: mended again, it stays as it is, and nothing is said of it.
abbrev pub MendedOnce : Type 0
MendedOnce = (stream : List ℕ) → (capture_of (capture_of stream) ≡ capture_of stream) × (report_in (capture_of stream) ≡ [])

-- And so it is with the calls: whoever reads what the first pass wrote, in whatever blocks, writes the same, and
-- reports nothing.
abbrev pub WrittenStays : Type 0
WrittenStays =
    (once again next : List (List ℕ)) (words same said : List ℕ) → Writes Capture fresh between once words
    → joined again ≡ words → Writes Capture fresh between again same → joined next ≡ words
    → Writes Report fresh between next said
    → (same ≡ words) × (said ≡ [])
