-- `busread::report::put_closing` meets its contract. Assumes nothing.
use Rattle.busread.specs.Report.{closing_text}
use Rattle.text.specs.Text.{text}
use Rattle.text.proofs.Pieces.{wrote_decimal, fits_wrote, behind}
use native.Mathlib.Omega.{arith}
use Rattle.busread.proofs.report.put_closing.Goals as goal

pub returns : goal.returns
unfolding closing_text
returns c =
    let h = c.requires in
    let w₁ = wrote_decimal (text "frames=") _ c.put_decimal-frames_end.ensures (omega (arith, c.ranges))
    (omega (arith, h)) in
    let w₂ = wrote_decimal (text " refused=") _ c.put_decimal-refused_end.ensures (omega arith)
    (omega (arith, w₁.1, w₁.0.room)) in
    let w₃ = wrote_decimal (text " messages=") _ c.put_decimal-messages_end.ensures
    (omega arith) (omega (arith, w₁.1, w₁.0.room, w₂.1, w₂.0.room)) in
    let w₄ = fits_wrote {word = text "\n"} c.put.ensures
    (omega (arith, w₁.1, w₁.0.room, w₂.1, w₂.0.room, w₃.1, w₃.0.room)) in
    behind (behind (behind w₁.0 w₂.0) w₃.0) w₄
