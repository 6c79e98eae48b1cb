-- `mend::report::put_report` meets its contract. Assumes nothing.
use Rattle.mend.proofs.Putting.{kept_report, dropped_report}
use Rattle.mend.proofs.report.put_report.Goals as goal

pub returns-in-Kept : goal.returns-in-Kept
returns-in-Kept c =
    (kept_report c.args.number (rw c.in-Kept.is at c.mend-outcome.ensures) c.put_mended.ensures.0, c.put_mended.ensures.1)

pub returns-in-Dropped : goal.returns-in-Dropped
returns-in-Dropped c =
    (dropped_report c.args.number (rw c.in-Dropped.is at c.mend-outcome.ensures) c.put_dropped.ensures.0, c.put_dropped.ensures.1)
