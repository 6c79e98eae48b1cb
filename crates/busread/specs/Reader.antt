-- The lines of a block taken one after the other, and the end of the capture: what the reader promises (RULES 11.8 to
-- 11.18).
use Rattle.std.specs.Prelude.{◌≡◌, List, [], ◌++◌, ℕ, ◌≤◌, ◌<◌, length, take}
use Rattle.words.specs.Words.{Told, refused}
use Rattle.capture.specs.Line.{Frame}
use Rattle.capture.specs.Stream.{most_lines, Piece, piece_read}
use Rattle.capture.specs.Cutter.{ending_of}
use Rattle.capture.specs.Promises.{Next}
use Rattle.capture.specs.Feeding.{yield_of, brings, used, over, last_pieces}
use Rattle.capture.specs.declared.Cutter.{Cutter}
use Rattle.capture.specs.declared.Cut.{Cut}
use Rattle.busread.specs.Report.{Kept, line_text, kept_after, lines_text}
use Rattle.busread.specs.Step.{kept, Counting, Took}
use Rattle.busread.specs.declared.report.Counts.{Counts}
use Rattle.busread.specs.declared.step.Step.{Step}
use Rattle.busread.specs.declared.reader.Reader.{Reader}
use Rattle.busread.specs.declared.reader.Run.{Run}
use Rattle.busread.specs.declared.reader.Going.{Going}
use Rattle.busread.specs.declared.reader.Going.TheVariants.{On, Used, Over}

-- The lent output has room for two lines: a run ends where the first half is full.

abbrev pub half : ℕ
half = 65536

abbrev pub out_room : ℕ
out_room = 131072

-- what a reader and the storage keep
abbrev pub kept_by : Reader → List ℕ → Kept
kept_by reader storage = kept reader.receiver storage reader.counts

-- a reader between two lines has counted what its cutter has cut
pub record Ready (reader : Reader) : Type 0 where
  pub lines : reader.cutter.lines ≡ reader.counts.frames
  pub counting : Counting reader.counts

-- From a position in a block, a cutter and what is kept: the text of the lines that a run takes, where it leaves all
-- three, and whether it goes on.
pub data Ran (block : List ℕ) (read_to : ℕ) (c : Cutter) (k : Kept) : List ℕ → ℕ → Cutter → Kept → Going → Type 0 where
  begun : Ran block read_to c k [] read_to c k On
  a_line : {words : List ℕ} {read_to' : ℕ} {c' : Cutter} {k' : Kept} (r : Cut) (piece : Piece)
      → Ran block read_to c k words read_to' c' k' On → Next block read_to' c' r → yield_of block r ≡ brings piece
      → Ran block read_to c k (words ++ line_text k' (piece_read piece))
      r.read_to r.cutter (kept_after k' (piece_read piece)) On
  all_used : {words : List ℕ} {read_to' : ℕ} {c' : Cutter} {k' : Kept} (r : Cut)
      → Ran block read_to c k words read_to' c' k' On → Next block read_to' c' r → yield_of block r ≡ used
      → Ran block read_to c k words r.read_to r.cutter k' Used
  all_read : {words : List ℕ} {read_to' : ℕ} {c' : Cutter} {k' : Kept} (r : Cut)
      → Ran block read_to c k words read_to' c' k' On → Next block read_to' c' r → yield_of block r ≡ over
      → Ran block read_to c k words r.read_to r.cutter k' Over

-- where a line leaves the run, and where a turn without one does

abbrev pub after : Cutter → ℕ → Step → Run
after cutter read_to step =
    record {
      reader = record { cutter = cutter; receiver = step.receiver; counts = step.counts };
      read_to = read_to;
      written_to = step.written_to;
      going = On;
    }

abbrev pub stayed : Reader → Cutter → ℕ → ℕ → Going → Run
stayed reader cutter read_to written_to going =
    record {
      reader = record { cutter = cutter; receiver = reader.receiver; counts = reader.counts };
      read_to = read_to;
      written_to = written_to;
      going = going;
    }

-- one more line may be counted
pub record OneMore (c : Counts) : Type 0 where
  pub fewer : c.frames < most_lines
  pub counting : Counting c

-- a line taken, and the run that it leaves
pub record Went (reader : Reader) (cutter : Cutter) (read_to : ℕ) (line : Told Frame) (storage out : List ℕ)
    (written_to : ℕ) (r : Run) (storage' out' : List ℕ) : Type 0 where
  pub step : Step
  pub took : Took (kept_by reader storage) line out written_to step storage' out'
  pub left : r ≡ after cutter read_to step

-- a line of more than 80 bytes, whatever the storage is
abbrev pub WentPast : Reader → Cutter → ℕ → List ℕ → ℕ → Run → List ℕ → Type 0
WentPast reader cutter read_to out written_to r out' =
    (storage : List ℕ) → Went reader cutter read_to (refused 19) storage out written_to r storage out'

-- one turn carries on whatever was run before
pub record Turned (block : List ℕ) (read_to : ℕ) (reader : Reader) (storage out : List ℕ) (written_to : ℕ)
    (r : Run) (storage' out' : List ℕ) : Type 0 where
  pub runs : (from : ℕ) (c : Cutter) (k : Kept)
      → Ran block from c k (take written_to out) read_to reader.cutter (kept_by reader storage) On
      → Ran block from c k (take r.written_to out')
      r.read_to r.reader.cutter (kept_by r.reader storage') r.going
  pub ready : Ready r.reader
  pub fits : r.written_to ≤ length out'
  pub advances : r.going ≡ On → (read_to < r.read_to) × (r.read_to ≤ length block)

-- a run, its text at the start of the output
pub record Runs (block : List ℕ) (read_to : ℕ) (reader : Reader) (storage : List ℕ)
    (r : Run) (storage' out' : List ℕ) : Type 0 where
  pub runs : Ran block read_to reader.cutter (kept_by reader storage) (take r.written_to out')
      r.read_to r.reader.cutter (kept_by r.reader storage') r.going
  pub ready : Ready r.reader
  pub fits : r.written_to ≤ length out'
  pub advances : r.going ≡ On → (read_to < r.read_to) × (r.read_to ≤ length block)

-- the end of the capture: the line that it ends, and the closing line
abbrev pub end_text : Cutter → Kept → List ℕ
end_text c k = lines_text k (last_pieces c (ending_of c))
