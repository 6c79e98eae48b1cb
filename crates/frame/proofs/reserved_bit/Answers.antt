-- `frame::reserved_bit` meets its contract. Assumes nothing.
use mathlib.Core.Path.{refl}
use Rattle.frame.specs.Identifier.{reserved_of}
use Rattle.frame.proofs.reserved_bit.Goals as goal

pub returns : goal.returns
unfolding reserved_of
returns c = refl
