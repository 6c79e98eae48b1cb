-- `mend::reader::put_too_long` meets its contract. Assumes nothing.
use native.Mathlib.Omega.{arith}
use Rattle.text.proofs.Pieces.{nothing}
use Rattle.mend.specs.Report.{piece_mended}
use Rattle.mend.proofs.reader.put_too_long.Goals as goal

pub returns-in-Capture : goal.returns-in-Capture
unfolding piece_mended
returns-in-Capture c =
    (rw c.in-Capture.is (nothing c.args.out.now c.args.at (omega arith)), omega arith)

pub returns-in-Report : goal.returns-in-Report
unfolding piece_mended
returns-in-Report c =
    (rw c.in-Report.is c.put_dropped.ensures.0, c.put_dropped.ensures.1)
