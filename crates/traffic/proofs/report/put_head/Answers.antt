-- `traffic::report::put_head` meets its contract. Assumes nothing.
use Rattle.traffic.specs.Report.{head_text}
use Rattle.frame.specs.Identifier.{source_of, dgn_of}
use Rattle.text.specs.Text.{text}
use Rattle.text.proofs.Pieces.{wrote_decimal, wrote_hex, behind}
use native.Mathlib.Omega.{arith}
use native.Mathlib.Nat.{div-one}
use Rattle.traffic.proofs.report.put_head.Goals as goal

pub returns : goal.returns
unfolding head_text source_of dgn_of
returns c =
    let w₁ = wrote_hex (text "sa=") _ 2 c.put_hex-source_end.ensures (omega arith) in
    let w₂ = wrote_hex (text " dgn=") _ 5 c.put_hex-dgn_end.ensures (omega (arith, w₁.1, w₁.0.room)) in
    let w₃ = wrote_decimal (text " frames=") _ c.put_decimal.ensures (omega arith)
    (omega (arith, w₁.1, w₁.0.room, w₂.1, w₂.0.room)) in
    (rw div-one (behind (behind w₁.0 w₂.0) w₃.0), omega (arith, w₁.1, w₂.1, w₃.1))
