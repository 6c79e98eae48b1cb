-- `command::acknowledgments::id_of` meets its contract. Assumes nothing.
use native.Mathlib.Omega.{arith}
use Rattle.command.specs.Acknowledgment.{acknowledgment_id}
use Rattle.frame.specs.Identifier.{identifier_of}
use Rattle.command.proofs.acknowledgments.id_of.Goals as goal

pub returns : goal.returns
unfolding acknowledgment_id identifier_of
returns c = omega arith
