-- `traffic::report::put_pair` meets its contract. Assumes nothing.
use Rattle.traffic.specs.Counters.{row_text}
use Rattle.text.proofs.Pieces.{behind}
use native.Mathlib.Omega.{arith}
use Rattle.traffic.proofs.report.put_pair.Goals as goal

pub returns : goal.returns
unfolding row_text
returns c =
    let w₁ = c.put_head-head_end.ensures in
    let w₂ = c.put_gaps-gaps_end.ensures in
    let w₃ = c.put_sum.ensures in
    (behind (behind w₁.0 w₂.0) w₃.0, omega (arith, w₁.1, w₂.1, w₃.1))
