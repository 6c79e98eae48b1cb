-- `busread::report::put_place` meets its contract. Assumes nothing.
use Rattle.busread.specs.Report.{place_text}
use Rattle.text.specs.Text.{text}
use Rattle.text.proofs.Pieces.{wrote_decimal, behind}
use native.Mathlib.Omega.{arith}
use Rattle.busread.proofs.report.put_place.Goals as goal

pub returns : goal.returns
unfolding place_text
returns c =
    let w₁ = wrote_decimal (text " bit=") _ c.put_decimal-bit_end.ensures (omega arith) (omega arith) in
    let w₂ = wrote_decimal (text " width=") _ c.put_decimal.ensures (omega arith)
    (omega (arith, w₁.1, w₁.0.room)) in
    (behind w₁.0 w₂.0, omega (arith, w₁.1, w₂.1))
