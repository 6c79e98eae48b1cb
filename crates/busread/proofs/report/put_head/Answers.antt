-- `busread::report::put_head` meets its contract. Assumes nothing.
use Rattle.busread.specs.Report.{head_text}
use Rattle.text.specs.Text.{text}
use Rattle.text.proofs.Pieces.{wrote_decimal, wrote_hex, behind}
use native.Mathlib.Omega.{arith}
use Rattle.busread.proofs.report.put_head.Goals as goal

pub returns : goal.returns
unfolding head_text
returns c =
    let w₁ = wrote_decimal (text "frame=") _ c.put_decimal-number_end.ensures (omega arith) (omega arith) in
    let w₂ = wrote_hex (text " sa=") _ 2 c.put_hex-source_end.ensures (omega (arith, w₁.1, w₁.0.room)) in
    let w₃ = wrote_hex (text " dgn=") _ 5 c.put_hex.ensures
    (omega (arith, w₁.1, w₁.0.room, w₂.1, w₂.0.room)) in
    (behind (behind w₁.0 w₂.0) w₃.0, omega (arith, w₁.1, w₂.1, w₃.1))
