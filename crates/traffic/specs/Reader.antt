-- The lines of a block taken one after the other, and the end of the capture: what the reader promises (RULES 15.10 to
-- 15.17).
use Rattle.std.specs.Prelude.{◌≡◌, List, [], ◌∷◌, ◌++◌, map, ℕ, ◌+◌, ◌≤◌, ◌<◌, length, take, if◌then◌else◌}
use Rattle.text.specs.Pieces.{Wrote}
use Rattle.capture.specs.Stream.{Piece}
use Rattle.capture.specs.Cutter.{fresh}
use Rattle.capture.specs.Runs.{Stop, goes_on, block_used, all_read, Ran}
use Rattle.capture.specs.Runs as Reading
use Rattle.capture.specs.declared.Cutter.{Cutter}
use Rattle.traffic.specs.Figures.{Seen, seen_of}
use Rattle.traffic.specs.Report.{refusal_text, refusals_text, figures_text}
use Rattle.traffic.specs.Counters.{table_size, Holds, Held, Counted}
use Rattle.traffic.specs.declared.counters.Totals.{Totals}
use Rattle.traffic.specs.declared.Fed.{Fed}
use Rattle.traffic.specs.declared.reader.Step.{Step}
use Rattle.traffic.specs.declared.reader.Reader.{Reader}
use Rattle.traffic.specs.declared.reader.Run.{Run}
use Rattle.traffic.specs.declared.reader.Going.{Going}
use Rattle.traffic.specs.declared.reader.Going.TheVariants.{On, Used, Over}

-- The lent output has room for much more than a line: a run ends where the first half is full.

abbrev pub half : ℕ
half = 65536

abbrev pub out_room : ℕ
out_room = 131072

-- What is said of lines that come after others, and in the end of all.

abbrev pub say : List Piece → List Piece → List ℕ
say before pieces = refusals_text (length before + 1) (map seen_of pieces)

abbrev pub close : List Piece → List ℕ
close all = figures_text (map seen_of all)

-- a reader between two lines has counted what its cutter has cut
pub record Ready (reader : Reader) (table : List ℕ) : Type 0 where
  pub lines : reader.cutter.lines ≡ reader.totals.lines
  pub held : Held reader.totals table

-- at the start of a capture, with any table of that size
pub record Starts (reader : Reader) : Type 0 where
  pub cutter : reader.cutter ≡ fresh
  pub holds : (table : List ℕ) → length table ≡ table_size → Holds [] reader.totals table

abbrev pub stop_of : Going → Stop
stop_of On = goes_on
stop_of Used = block_used
stop_of Over = all_read

-- a line taken: what it prints behind what was written, and the counters
pub record Took (t : Totals) (table : List ℕ) (line : Seen) (out : List ℕ) (written_to : ℕ)
    (r : Step) (table' out' : List ℕ) : Type 0 where
  pub printed : Wrote out written_to (refusal_text (t.lines + 1) line.says) out' r.written_to
  pub short : r.written_to ≤ written_to + 64
  pub counted : Counted t table line r.totals table'

-- where a line leaves the run, and where a turn without one does

abbrev pub after : Cutter → ℕ → Step → Run
after cutter read_to step =
    record {
      reader = record { cutter = cutter; totals = step.totals };
      read_to = read_to;
      written_to = step.written_to;
      going = On;
    }

abbrev pub stayed : Reader → Cutter → ℕ → ℕ → Going → Run
stayed reader cutter read_to written_to going =
    record {
      reader = record { cutter = cutter; totals = reader.totals };
      read_to = read_to;
      written_to = written_to;
      going = going;
    }

-- a line taken, and the run that it leaves
pub record Went (t : Totals) (table : List ℕ) (line : Seen) (cutter : Cutter) (read_to : ℕ) (out : List ℕ)
    (written_to : ℕ) (r : Run) (table' out' : List ℕ) : Type 0 where
  pub step : Step
  pub took : Took t table line out written_to step table' out'
  pub left : r ≡ after cutter read_to step

-- What was taken of a block: its pieces from a position on, which were cut and, whatever came before, counted.
pub record Taken (block : List ℕ) (from : ℕ) (reader : Reader) (table : List ℕ) (read_to : ℕ) (now : Reader)
    (stop : Stop) (table' : List ℕ) : Type 0 where
  pub pieces : List Piece
  pub ran : Ran block from reader.cutter pieces read_to now.cutter stop
  pub counted : (before : List Piece) → Holds (map seen_of before) reader.totals table
      → Holds (map seen_of (before ++ pieces)) now.totals table'

-- What a run has done so far: of what it took it printed what is to be said.
pub record Done (block : List ℕ) (from : ℕ) (reader : Reader) (table : List ℕ) (written_to read_to : ℕ)
    (now : Reader) (going : Going) (table' out : List ℕ) : Type 0 where
  pub taken : Taken block from reader table read_to now (stop_of going) table'
  pub printed : (before : List Piece) → Holds (map seen_of before) reader.totals table
      → take written_to out ≡ say before taken.pieces

-- one turn carries on whatever was done before
pub record Turned (block : List ℕ) (read_to : ℕ) (reader : Reader) (table out : List ℕ) (written_to : ℕ)
    (r : Run) (table' out' : List ℕ) : Type 0 where
  pub does : (from : ℕ) (first : Reader) (table₀ : List ℕ)
      → Done block from first table₀ written_to read_to reader On table out
      → Done block from first table₀ r.written_to r.read_to r.reader r.going table' out'
  pub ready : Ready r.reader table'
  pub fits : r.written_to ≤ length out'
  pub advances : r.going ≡ On → (read_to < r.read_to) × (r.read_to ≤ length block)

-- a run, its text at the start of the output
pub record Runs (block : List ℕ) (read_to : ℕ) (reader : Reader) (table : List ℕ)
    (r : Run) (table' out' : List ℕ) : Type 0 where
  pub done : Done block read_to reader table r.written_to r.read_to r.reader r.going table' out'
  pub ready : Ready r.reader table'
  pub fits : r.written_to ≤ length out'
  pub advances : r.going ≡ On → (read_to < r.read_to) × (r.read_to ≤ length block)

-- a whole block, until it is used up or all lines are read
pub record BlockTaken (block : List ℕ) (reader : Reader) (table : List ℕ) (r : Fed) (table' : List ℕ) : Type 0 where
  pub read_to : ℕ
  pub taken : Taken block 0 reader table read_to r.reader (if r.more then block_used else all_read) table'
  pub ready : Ready r.reader table'

-- the figures, whatever pieces came before
pub record Closed (t : Totals) (table out : List ℕ) (at r : ℕ) (out' : List ℕ) : Type 0 where
  pub printed : (before : List Piece) → Holds (map seen_of before) t table → Wrote out at (close before) out' r
  pub fits : r ≤ length out'

-- a last line, and the figures behind it
pub record ClosedBehind (t : Totals) (table : List ℕ) (line : Seen) (out : List ℕ) (r : ℕ)
    (out' : List ℕ) : Type 0 where
  pub printed : (before : List Piece) (piece : Piece) → line ≡ seen_of piece → Holds (map seen_of before) t table
      → Wrote out 0 (say before (piece ∷ []) ++ close (before ++ (piece ∷ []))) out' r
  pub fits : r ≤ length out'

-- The end of the capture, whatever pieces came before: the line that it ends, and the figures.
pub record Finished (reader : Reader) (table out : List ℕ) (r : ℕ) (out' : List ℕ) : Type 0 where
  pub printed : (before : List Piece) → Holds (map seen_of before) reader.totals table
      → Wrote out 0 (Reading.end_text say close reader.cutter before) out' r
  pub fits : r ≤ length out'
