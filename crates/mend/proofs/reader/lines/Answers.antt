-- `mend::reader::lines` meets its contract. Assumes nothing.
use mathlib.Core.Path.{refl}
use mathlib.Core.Logic.{inl, inr, ⊎_elim}
use native.Mathlib.Omega.{arith}
use Rattle.mend.proofs.Reading.{begins, stopped, used_not_on, over_not_on}
use Rattle.mend.proofs.reader.lines.Goals as goal

pub loop-written_to-init : goal.loop-written_to-init
loop-written_to-init c = (begins, omega arith, refl, omega arith, inl refl)

pub turn-turned-requires : goal.turn-turned-requires
turn-turned-requires c = (omega arith, omega arith)

pub loop-written_to-smaller : goal.loop-written_to-smaller
loop-written_to-smaller c =
    let h = c.turn-turned.ensures.advances c.in-On.is in
    omega arith

pub loop-written_to-preserved : goal.loop-written_to-preserved
loop-written_to-preserved c =
    let l = c.loop-written_to in
    let a = c.args in
    let e = c.in-On.is in
    let h = c.turn-turned.ensures.advances e in (
      rw e at (c.turn-turned.ensures.does a.from a.cutter l.invariant.0),
      c.turn-turned.ensures.fits,
      omega arith,
      omega arith,
      inr (omega arith, h.1),
    )

pub returns-in-Used : goal.returns-in-Used
returns-in-Used c =
    stopped c.loop-written_to.invariant.0 c.turn-turned.ensures (used_not_on c.in-Used.is)

pub returns-in-Over : goal.returns-in-Over
returns-in-Over c =
    stopped c.loop-written_to.invariant.0 c.turn-turned.ensures (over_not_on c.in-Over.is)

pub returns : goal.returns
returns c =
    let l = c.loop-written_to in
    rw c.left.ensures
    (record { done = l.invariant.0; fits = l.invariant.1; advances = λ e. ⊎_elim (λ z. absurd (omega arith)) (λ h. h) l.invariant.4 })
