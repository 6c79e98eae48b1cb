-- `traffic::report::put_other` meets its contract. Assumes nothing.
use Rattle.traffic.specs.Report.{other_text}
use Rattle.text.specs.Text.{text}
use Rattle.text.proofs.Pieces.{wrote_decimal, fits_wrote, behind}
use native.Mathlib.Omega.{arith}
use Rattle.traffic.proofs.report.put_other.Goals as goal

pub returns : goal.returns
unfolding other_text
returns c =
    let w₁ = wrote_decimal (text "other=") _ c.put_decimal-other_end.ensures (omega arith) (omega arith) in
    let w₂ = fits_wrote {word = text "\n"} c.put.ensures (omega (arith, w₁.1, w₁.0.room)) in
    (behind w₁.0 w₂, omega (arith, w₁.1, w₂.next))
