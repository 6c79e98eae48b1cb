-- One line of a capture taken: what a step promises (RULES 11.9 to 11.16).
use Rattle.std.specs.Prelude.{◌≡◌, List, ℕ, ◌+◌, ◌≤◌}
use Rattle.words.specs.Words.{Told, refused}
use Rattle.text.specs.Pieces.{Wrote}
use Rattle.message.specs.declared.Receiver.{Receiver}
use Rattle.capture.specs.Line.{Frame}
use Rattle.busread.specs.Report.{Kept, line_text, kept_after}
use Rattle.busread.specs.declared.report.Counts.{Counts}
use Rattle.busread.specs.declared.step.Step.{Step}

-- a line prints at most so many bytes
abbrev pub line_room : ℕ
line_room = 65536

abbrev pub kept : Receiver → List ℕ → Counts → Kept
kept receiver storage counts = record { places = receiver.places; storage = storage; counts = counts }

-- the counts of lines so far: none above that of all lines
pub record Counting (c : Counts) : Type 0 where
  pub refused : c.refused ≤ c.frames
  pub messages : c.messages ≤ c.frames

-- one line: what it prints behind what was written, and all that is kept
pub record Took (k : Kept) (line : Told Frame) (out : List ℕ) (written_to : ℕ)
    (r : Step) (storage after : List ℕ) : Type 0 where
  pub printed : Wrote out written_to (line_text k line) after r.written_to
  pub short : r.written_to ≤ written_to + line_room
  pub kept : kept r.receiver storage r.counts ≡ kept_after k line
  pub counting : Counting r.counts
  pub counted : r.counts.frames ≡ k.counts.frames + 1

-- a malformed line, whatever the storage is: it is neither read nor written
abbrev pub Passed : Receiver → Counts → List ℕ → ℕ → Step → List ℕ → Type 0
Passed receiver counts out written_to r after =
    (storage : List ℕ) → Took (kept receiver storage counts) (refused 19) out written_to r storage after
