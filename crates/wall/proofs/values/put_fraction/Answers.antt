-- `wall::values::put_fraction` is safe and ends. Assumes nothing.
use Rattle.std.proofs.Common.{arith, rules}
use Rattle.text.proofs.Pieces.{end_within}
use Rattle.wall.proofs.values.put_fraction.Goals as goal

pub put_places-requires : goal.put_places-requires
put_places-requires c =
    let h = end_within c.put-from.ensures (omega arith) in
    (h, search rules)
