-- The lines of a block taken one after the other, and the end of the capture, in either pass: what the reader promises
-- (RULES 17.14).
use Rattle.std.specs.Prelude.{◌≡◌, List, [], ℕ, ◌+◌, ◌≤◌, ◌<◌, length, take, if◌then◌else◌}
use Rattle.capture.specs.Stream.{Piece}
use Rattle.capture.specs.Runs.{Stop, goes_on, block_used, all_read, Ran, end_text}
use Rattle.capture.specs.declared.Cutter.{Cutter}
use Rattle.mend.specs.Report.{piece_mended, written_of, capture_text, report_of, report_text}
use Rattle.mend.specs.declared.Fed.{Fed}
use Rattle.mend.specs.declared.reader.Pass.{Pass}
use Rattle.mend.specs.declared.reader.Pass.TheVariants.{Capture, Report}
use Rattle.mend.specs.declared.reader.Run.{Run}
use Rattle.mend.specs.declared.reader.Going.{Going}
use Rattle.mend.specs.declared.reader.Going.TheVariants.{On, Used, Over}

-- The lent output has room for much more than a line: a run ends where the first half is full.

abbrev pub half : ℕ
half = 65536

abbrev pub out_room : ℕ
out_room = 131072

-- What a pass writes of lines that come after others; at the end neither writes more.

abbrev pub say : Pass → List Piece → List Piece → List ℕ
say Capture before pieces = capture_text pieces
say Report before pieces = report_text (length before + 1) pieces

abbrev pub close : List Piece → List ℕ
close all = []

-- and of one line, by its number
abbrev pub piece_text : Pass → ℕ → Piece → List ℕ
piece_text Capture n piece = written_of (piece_mended piece)
piece_text Report n piece = report_of n (piece_mended piece)

abbrev pub stop_of : Going → Stop
stop_of On = goes_on
stop_of Used = block_used
stop_of Over = all_read

-- where a turn leaves the run
abbrev pub left_at : Cutter → ℕ → ℕ → Going → Run
left_at cutter read_to written_to going =
    record { cutter = cutter; read_to = read_to; written_to = written_to; going = going }

-- What a run has done so far: it took pieces of the block and wrote what is to be said of them, whatever came before.
pub record Done (pass : Pass) (block : List ℕ) (from : ℕ) (c : Cutter) (written_to read_to : ℕ) (c' : Cutter)
    (going : Going) (out : List ℕ) : Type 0 where
  pub pieces : List Piece
  pub ran : Ran block from c pieces read_to c' (stop_of going)
  pub written : (before : List Piece) → length before ≡ c.lines → take written_to out ≡ say pass before pieces

-- one turn carries on whatever was done before
pub record Turned (pass : Pass) (block : List ℕ) (read_to : ℕ) (c : Cutter) (out : List ℕ) (written_to : ℕ) (r : Run)
    (out' : List ℕ) : Type 0 where
  pub does : (from : ℕ) (first : Cutter) → Done pass block from first written_to read_to c On out
      → Done pass block from first r.written_to r.read_to r.cutter r.going out'
  pub fits : r.written_to ≤ length out'
  pub advances : r.going ≡ On → (read_to < r.read_to) × (r.read_to ≤ length block)

-- a run, its text at the start of the output
pub record Runs (pass : Pass) (block : List ℕ) (from : ℕ) (c : Cutter) (r : Run) (out' : List ℕ) : Type 0 where
  pub done : Done pass block from c r.written_to r.read_to r.cutter r.going out'
  pub fits : r.written_to ≤ length out'
  pub advances : r.going ≡ On → (from < r.read_to) × (r.read_to ≤ length block)

-- a whole block, until it is used up or all lines are read
pub record BlockTaken (block : List ℕ) (c : Cutter) (r : Fed) : Type 0 where
  pub read_to : ℕ
  pub pieces : List Piece
  pub ran : Ran block 0 c pieces read_to r.cutter (if r.more then block_used else all_read)

-- the end of the capture, whatever pieces came before
pub record Finished (pass : Pass) (c : Cutter) (r : ℕ) (out' : List ℕ) : Type 0 where
  pub written : (before : List Piece) → length before ≡ c.lines → take r out' ≡ end_text (say pass) close c before
  pub fits : r ≤ length out'
