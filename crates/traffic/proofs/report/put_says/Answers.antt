-- `traffic::report::put_says` meets its contract. Assumes nothing.
use Rattle.traffic.specs.Report.{refusal_text}
use Rattle.text.proofs.Pieces.{nothing}
use native.Mathlib.Omega.{arith}
use Rattle.traffic.proofs.report.put_says.Goals as goal

pub returns-in-Refused : goal.returns-in-Refused
returns-in-Refused c = (rw c.in-Refused.is c.put_refusal.ensures.0, c.put_refusal.ensures.1)

pub returns-in-Frame : goal.returns-in-Frame
unfolding refusal_text
returns-in-Frame c = (rw c.in-Frame.is (nothing c.args.out.now c.args.at (omega arith)), omega arith)
