-- `wall::values::put_sign` is safe and ends. Assumes nothing.
use Rattle.std.proofs.Common.{arith}
use Rattle.text.proofs.Pieces.{end_within}
use Rattle.wall.proofs.values.put_sign.Goals as goal

pub returns-then-negative : goal.returns-then-negative
returns-then-negative c = end_within c.put.ensures (omega arith)
