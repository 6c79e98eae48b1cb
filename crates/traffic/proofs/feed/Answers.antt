-- `traffic::feed` meets its contract. Assumes nothing.
use mathlib.Core.Path.{refl, sym}
use lib.Seq.{length-take-le}
use Rattle.traffic.proofs.Reading.{nothing_taken, taken_join}
use native.Mathlib.Omega.{arith}
use Rattle.traffic.proofs.feed.Goals as goal

pub loop-read_to-init : goal.loop-read_to-init
loop-read_to-init c = (refl, refl, c.requires.1, nothing_taken)

pub lines-run-requires : goal.lines-run-requires
lines-run-requires c = (omega arith, c.loop-read_to.invariant.2)

pub slice_bounds-write-end-in-loop-read_to : goal.slice_bounds-write-end-in-loop-read_to
slice_bounds-write-end-in-loop-read_to c = let l = c.lines-run in sym (length-take-le l.result.written_to l.new.out l.ensures.fits)

pub loop-read_to-smaller : goal.loop-read_to-smaller
loop-read_to-smaller c = let h = c.lines-run.ensures.advances c.in-On.is in omega arith

pub loop-read_to-preserved : goal.loop-read_to-preserved
loop-read_to-preserved c =
    let i = c.loop-read_to.invariant in
    let l = c.lines-run in
    let d = rw c.in-On.is at l.ensures.done.taken in
    (omega arith, omega arith, l.ensures.ready, taken_join i.3 d)

pub returns-in-Used : goal.returns-in-Used
returns-in-Used c =
    let i = c.loop-read_to.invariant in
    let l = c.lines-run in
    let d = rw c.in-Used.is at l.ensures.done.taken in
    record { read_to = l.result.read_to; taken = taken_join i.3 d; ready = l.ensures.ready }

pub returns-in-Over : goal.returns-in-Over
returns-in-Over c =
    let i = c.loop-read_to.invariant in
    let l = c.lines-run in
    let d = rw c.in-Over.is at l.ensures.done.taken in
    record { read_to = l.result.read_to; taken = taken_join i.3 d; ready = l.ensures.ready }
