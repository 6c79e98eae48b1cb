-- `wall::values::put_number` is safe and ends. Assumes nothing.
use Rattle.std.proofs.Common.{arith, rules}
use Rattle.text.proofs.Pieces.{end_within}
use Rattle.wall.proofs.values.put_number.Goals as goal

pub put_fraction-requires : goal.put_fraction-requires
put_fraction-requires c =
    let h = end_within c.put_decimal-whole_end.ensures (omega arith) in
    (h, search rules)
