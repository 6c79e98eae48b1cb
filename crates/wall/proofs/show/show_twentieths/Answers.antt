-- `wall::show::show_twentieths` is safe and ends. Assumes nothing.
use Rattle.std.proofs.Common.{sym, length-take-le, rules}
use Rattle.wall.proofs.show.show_twentieths.Goals as goal

pub slice_bounds-show_centred-end : goal.slice_bounds-show_centred-end
slice_bounds-show_centred-end c =
    sym (length-take-le c.put_twentieths-end.result c.put_twentieths-end.new.out (search rules))
