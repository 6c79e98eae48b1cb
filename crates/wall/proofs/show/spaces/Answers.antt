-- `wall::show::spaces` is safe and ends. Assumes nothing.
use Rattle.std.proofs.Common.{sym, arith, length-take-le}
use Rattle.wall.proofs.show.spaces.Goals as goal

pub slice_bounds-say-end : goal.slice_bounds-say-end
slice_bounds-say-end c = sym (length-take-le c.args.count _ (omega arith))
