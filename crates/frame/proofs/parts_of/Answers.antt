-- `frame::parts_of` meets its contract. Assumes nothing.
use native.Mathlib.Nat.{div-one}
use Rattle.frame.specs.Identifier.{priority_of, dgn_of, source_of}
use Rattle.frame.proofs.parts_of.Goals as goal

pub returns : goal.returns
unfolding priority_of dgn_of source_of
returns c = rw div-one
