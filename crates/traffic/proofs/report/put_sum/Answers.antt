-- `traffic::report::put_sum` meets its contract. Assumes nothing.
use Rattle.traffic.specs.Report.{sum_text}
use Rattle.text.specs.Text.{text}
use Rattle.text.proofs.Pieces.{wrote_decimal, fits_wrote, behind}
use native.Mathlib.Omega.{arith}
use Rattle.traffic.proofs.report.put_sum.Goals as goal

pub returns : goal.returns
unfolding sum_text
returns c =
    let w₁ = wrote_decimal (text " sum=") _ c.put_decimal-sum_end.ensures (omega arith) (omega arith) in
    let w₂ = fits_wrote {word = text "\n"} c.put.ensures (omega (arith, w₁.1, w₁.0.room)) in
    (behind w₁.0 w₂, omega (arith, w₁.1, w₂.next))
