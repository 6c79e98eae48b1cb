-- `mend::report::put_line` meets its contract. Assumes nothing.
use Rattle.mend.proofs.Putting.{kept_line, dropped_line}
use Rattle.mend.proofs.report.put_line.Goals as goal

pub returns-in-Kept : goal.returns-in-Kept
returns-in-Kept c =
    kept_line (c.mend-outcome.ensures.kept _ _ c.in-Kept.is) c.put.ensures c.requires.0

pub returns-in-Dropped : goal.returns-in-Dropped
returns-in-Dropped c =
    dropped_line (rw c.in-Dropped.is at c.mend-outcome.ensures) c.requires.0
