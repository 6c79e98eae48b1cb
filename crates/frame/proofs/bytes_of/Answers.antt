-- `frame::bytes_of` meets its contract. Assumes nothing.
use mathlib.Core.Path.{ap, ◌∙◌}
use native.Mathlib.Omega.{arith}
use Rattle.frame.specs.Bytes.{bytes_of}
use Rattle.frame.proofs.Library.{written_low_first}
use Rattle.frame.proofs.bytes_of.Goals as goal

pub returns : goal.returns
returns c = record { answer = c.to_le_bytes.ensures ∙ written_low_first _ ∙ ap (bytes_of 8) (omega arith) }
