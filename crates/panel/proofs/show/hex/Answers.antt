-- `panel::show::hex` is safe and ends. Assumes nothing.
use mathlib.Core.Path.{sym}
use native.Mathlib.Omega.{arith}
use lib.Seq.{length-take-le}
use Rattle.text.proofs.Pieces.{end_within}
use Rattle.panel.proofs.show.hex.Goals as goal

pub slice_bounds-digits-end : goal.slice_bounds-digits-end
slice_bounds-digits-end c = end_within c.put_hex-end.ensures (omega arith)

pub slice_bounds-say-end : goal.slice_bounds-say-end
slice_bounds-say-end c =
    sym (length-take-le c.put_hex-end.result c.put_hex-end.new.out (end_within c.put_hex-end.ensures (omega arith)))
