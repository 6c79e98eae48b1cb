-- `wall::values::put_unknown` is safe and ends. Assumes nothing.
use Rattle.std.proofs.Common.{arith}
use Rattle.text.proofs.Pieces.{end_within}
use Rattle.wall.proofs.values.put_unknown.Goals as goal

pub returns : goal.returns
returns c = end_within c.put.ensures (omega arith)
