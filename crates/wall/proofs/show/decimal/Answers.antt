-- `wall::show::decimal` is safe and ends. Assumes nothing.
use Rattle.std.proofs.Common.{sym, arith, length-take-le}
use Rattle.text.proofs.Pieces.{end_within}
use Rattle.wall.proofs.show.decimal.Goals as goal

pub slice_bounds-digits-end : goal.slice_bounds-digits-end
slice_bounds-digits-end c = end_within c.put_decimal-end.ensures (omega arith)

pub slice_bounds-say-end : goal.slice_bounds-say-end
slice_bounds-say-end c =
    sym (length-take-le c.put_decimal-end.result c.put_decimal-end.new.out (end_within c.put_decimal-end.ensures (omega arith)))
