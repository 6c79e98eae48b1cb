-- `mend::report::put_dropped` meets its contract. Assumes nothing.
use native.Mathlib.Omega.{arith}
use Rattle.mend.proofs.Putting.{dropped_put}
use Rattle.mend.proofs.report.put_dropped.Goals as goal

pub returns : goal.returns
returns c =
    dropped_put c.args.number c.put_decimal-number_end.ensures c.put.ensures (omega arith) c.requires
