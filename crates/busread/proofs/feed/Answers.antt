-- `busread::feed` meets its contract. Assumes nothing.
use mathlib.Core.Path.{refl, sym}
use lib.Seq.{length-take-le}
use native.Mathlib.Omega.{arith}
use Rattle.busread.proofs.feed.Goals as goal

pub loop-read_to-init : goal.loop-read_to-init
loop-read_to-init c = (refl, refl, c.requires.2)

pub lines-run-requires : goal.lines-run-requires
lines-run-requires c = (omega arith, omega arith, c.loop-read_to.invariant.2, c.requires.3)

pub slice_bounds-write-end-in-loop-read_to : goal.slice_bounds-write-end-in-loop-read_to
slice_bounds-write-end-in-loop-read_to c = sym (length-take-le c.lines-run.result.written_to c.lines-run.new.out c.lines-run.ensures.fits)

pub loop-read_to-smaller : goal.loop-read_to-smaller
loop-read_to-smaller c = let h = c.lines-run.ensures.advances c.in-On.is in omega arith

pub loop-read_to-preserved : goal.loop-read_to-preserved
loop-read_to-preserved c = (omega arith, omega arith, c.lines-run.ensures.ready)

pub returns-in-Used : goal.returns-in-Used
returns-in-Used c = c.lines-run.ensures.ready

pub returns-in-Over : goal.returns-in-Over
returns-in-Over c = c.lines-run.ensures.ready
