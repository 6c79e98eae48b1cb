-- `message::meaning::dgn_in` meets its contract. Assumes nothing.
use native.Mathlib.Omega.{arith}
use Rattle.frame.specs.Bytes.{number_of}
use Rattle.message.proofs.Bytes.{dgn_bytes_lem}
use Rattle.message.proofs.meaning.dgn_in.Goals as goal

pub returns : goal.returns
unfolding number_of
returns c = omega (arith, dgn_bytes_lem c.args.bytes, c.dgn_of.ensures.answer)
