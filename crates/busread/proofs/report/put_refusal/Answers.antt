-- `busread::report::put_refusal` meets its contract. Assumes nothing.
use Rattle.busread.specs.Report.{refusal_text}
use Rattle.text.specs.Text.{text}
use Rattle.text.proofs.Pieces.{wrote_decimal, fits_wrote, behind}
use native.Mathlib.Omega.{arith}
use Rattle.busread.proofs.report.put_refusal.Goals as goal

pub returns : goal.returns
unfolding refusal_text
returns c =
    let w₁ = wrote_decimal (text "frame=") _ c.put_decimal-number_end.ensures (omega arith) (omega arith) in
    let w₂ = wrote_decimal (text " refusal=") _ c.put_decimal-refusal_end.ensures (omega arith)
    (omega (arith, w₁.1, w₁.0.room)) in
    let w₃ = fits_wrote {word = text "\n"} c.put.ensures (omega (arith, w₁.1, w₁.0.room, w₂.1, w₂.0.room)) in
    (behind (behind w₁.0 w₂.0) w₃, omega (arith, w₁.1, w₂.1, w₃.next))
