-- `mend::fail` meets its contract. Assumes nothing.
use mathlib.Core.Path.{sym}
use native.Mathlib.Omega.{arith}
use lib.Seq.{length-take-le}
use Rattle.text.proofs.Pieces.{end_within}
use Rattle.mend.proofs.fail.Goals as goal

pub slice_bounds-word-end : goal.slice_bounds-word-end
slice_bounds-word-end c =
    end_within c.put-end.ensures (end_within c.put-key_end.ensures (omega arith))

pub slice_bounds-explain-end : goal.slice_bounds-explain-end
slice_bounds-explain-end c =
    sym (length-take-le c.put-end.result c.put-end.new.out (end_within c.put-end.ensures (end_within c.put-key_end.ensures (omega arith))))
