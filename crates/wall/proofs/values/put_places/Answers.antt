-- `wall::values::put_places` is safe and ends. Assumes nothing.
use Rattle.std.proofs.Common.{arith, rules}
use Rattle.text.proofs.Pieces.{end_within}
use Rattle.wall.proofs.values.put_places.Goals as goal

pub loop-preserved : goal.loop-preserved
loop-preserved c =
    record { within = end_within c.put_decimal-end.ensures (omega arith); room = search rules; small = search rules }
