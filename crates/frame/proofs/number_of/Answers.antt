-- `frame::number_of` meets its contract. Assumes nothing.
use native.Mathlib.Omega.{arith}
use borrow.Author.Rules.{rules}
use Rattle.frame.proofs.Library.{read_low_first}
use Rattle.frame.proofs.number_of.Goals as goal

pub returns : goal.returns
returns c = record { answer = omega (arith, c.from_le_bytes.ensures, read_low_first c.args.bytes (search rules)) }
