-- `traffic::report::put_gaps` meets its contract. Assumes nothing.
use Rattle.text.specs.Text.{text}
use Rattle.text.proofs.Pieces.{wrote_decimal, fits_wrote, behind}
use native.Mathlib.Omega.{arith}
use Rattle.traffic.proofs.Printing.{none_said, some_said}
use Rattle.traffic.proofs.report.put_gaps.Goals as goal

pub returns-then-row-eq1 : goal.returns-then-row-eq1
returns-then-row-eq1 c =
    let w = fits_wrote {word = text " least=none greatest=none"} c.put.ensures (omega arith) in
    (rw (none_said c.args.row c.if-row-eq1.true) w, omega (arith, w.next))

pub returns : goal.returns
returns c =
    let w₁ = wrote_decimal (text " least=") _ c.put_decimal-least_end.ensures (omega arith) (omega arith) in
    let w₂ = wrote_decimal (text " greatest=") _ c.put_decimal.ensures (omega arith) (omega (arith, w₁.1, w₁.0.room)) in
    (rw (some_said c.args.row c.if-row-eq1.false) (behind w₁.0 w₂.0), omega (arith, w₁.1, w₂.1))
