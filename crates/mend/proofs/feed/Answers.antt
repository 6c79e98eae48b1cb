-- `mend::feed` meets its contract. Assumes nothing.
use mathlib.Core.Path.{refl, sym}
use mathlib.Core.List.{[], ◌++◌}
use native.Mathlib.Omega.{arith}
use lib.Seq.{length-take-le}
use Rattle.capture.specs.Runs.{begun}
use Rattle.capture.proofs.Runs.{ran_join}
use Rattle.mend.proofs.feed.Goals as goal

pub loop-well-init : goal.loop-well-init
loop-well-init c = (refl, [], begun)

pub lines-run-requires : goal.lines-run-requires
lines-run-requires c = omega arith

pub slice_bounds-write-end-in-loop-well : goal.slice_bounds-write-end-in-loop-well
slice_bounds-write-end-in-loop-well c =
    let l = c.lines-run in
    sym (length-take-le l.result.written_to l.new.out l.ensures.fits)

pub loop-well-smaller : goal.loop-well-smaller
loop-well-smaller c =
    let h = c.lines-run.ensures.advances c.in-On.is in
    omega arith

pub loop-well-preserved : goal.loop-well-preserved
loop-well-preserved c =
    let i = c.loop-well.invariant in
    let d = c.lines-run.ensures.done in
    let ran = rw c.in-On.is at d.ran in
    (omega arith, i.1 ++ d.pieces, ran_join i.2 ran)

pub returns-in-Used : goal.returns-in-Used
returns-in-Used c =
    let i = c.loop-well.invariant in
    let d = c.lines-run.ensures.done in
    let ran = rw c.in-Used.is at d.ran in
    record { read_to = c.lines-run.result.read_to; pieces = i.1 ++ d.pieces; ran = ran_join i.2 ran }

pub returns-in-Over : goal.returns-in-Over
returns-in-Over c =
    let i = c.loop-well.invariant in
    let d = c.lines-run.ensures.done in
    let ran = rw c.in-Over.is at d.ran in
    record { read_to = c.lines-run.result.read_to; pieces = i.1 ++ d.pieces; ran = ran_join i.2 ran }
