-- `busread::step::malformed` meets its contract. Assumes nothing.
use Rattle.busread.proofs.Printing.{passed}
use native.Mathlib.Omega.{arith}
use Rattle.busread.proofs.step.malformed.Goals as goal

pub returns : goal.returns
returns c = λ storage. passed storage c.put_refusal-end.ensures.0 (omega arith) c.count.ensures.0 c.count.ensures.1
