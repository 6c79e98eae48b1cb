-- `mend::reader::put_whole` meets its contract. Assumes nothing.
use Rattle.mend.specs.Report.{piece_mended}
use Rattle.mend.proofs.reader.put_whole.Goals as goal

pub returns-in-Capture : goal.returns-in-Capture
unfolding piece_mended
returns-in-Capture c =
    (rw c.in-Capture.is c.put_line.ensures.0, c.put_line.ensures.1)

pub returns-in-Report : goal.returns-in-Report
unfolding piece_mended
returns-in-Report c =
    (rw c.in-Report.is c.put_report.ensures.0, c.put_report.ensures.1)
