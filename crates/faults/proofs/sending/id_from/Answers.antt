-- `faults::sending::id_from` meets its contract. Assumes nothing.
use native.Mathlib.Omega.{arith}
use Rattle.frame.specs.Identifier.{identifier_of}
use Rattle.faults.specs.Sender.{dm_rv_id}
use Rattle.faults.proofs.sending.id_from.Goals as goal

pub returns : goal.returns
unfolding dm_rv_id identifier_of
returns c = omega arith
