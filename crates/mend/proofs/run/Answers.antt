-- `mend::run` meets its contract. Assumes nothing.
use mathlib.Core.Path.{sym}
use lib.Seq.{length-take-le}
use Rattle.mend.proofs.run.Goals as goal

pub slice_bounds-write-end : goal.slice_bounds-write-end
slice_bounds-write-end c =
    let f = c.finish-written_to in
    sym (length-take-le f.result f.new.out f.ensures.fits)
