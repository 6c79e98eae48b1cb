-- `wall::show::show_float` is safe and ends. Assumes nothing.
use Rattle.std.proofs.Common.{sym, length-take-le, rules}
use Rattle.wall.proofs.show.show_float.Goals as goal

pub slice_bounds-show_centred-end : goal.slice_bounds-show_centred-end
slice_bounds-show_centred-end c =
    sym (length-take-le c.put_float-end.result c.put_float-end.new.out (search rules))
