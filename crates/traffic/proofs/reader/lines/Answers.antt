-- `traffic::reader::lines` meets its contract. Assumes nothing.
use mathlib.Core.Path.{refl}
use mathlib.Core.Logic.{inl, inr, ⊎_elim}
use Rattle.traffic.proofs.Reading.{begins, stopped, used_not_on, over_not_on}
use native.Mathlib.Omega.{arith}
use Rattle.traffic.proofs.reader.lines.Goals as goal

pub loop-written_to-init : goal.loop-written_to-init
loop-written_to-init c = (begins, c.requires.1, omega arith, refl, refl, omega arith, inl refl)

pub turn-turned-requires : goal.turn-turned-requires
turn-turned-requires c = (omega arith, omega arith, c.loop-written_to.invariant.1)

pub loop-written_to-smaller : goal.loop-written_to-smaller
loop-written_to-smaller c = let h = c.turn-turned.ensures.advances c.in-On.is in omega arith

pub loop-written_to-preserved : goal.loop-written_to-preserved
loop-written_to-preserved c =
    let l = c.loop-written_to in
    let a = c.args in
    let t = c.turn-turned in
    let e = c.in-On.is in
    let h = t.ensures.advances e in (
      rw e at (t.ensures.does a.from a.reader a.table.now l.invariant.0),
      t.ensures.ready,
      t.ensures.fits,
      omega arith,
      omega arith,
      omega arith,
      inr (omega arith, h.1),
    )

pub returns-in-Used : goal.returns-in-Used
returns-in-Used c = stopped c.loop-written_to.invariant.0 c.turn-turned.ensures (used_not_on c.in-Used.is)

pub returns-in-Over : goal.returns-in-Over
returns-in-Over c = stopped c.loop-written_to.invariant.0 c.turn-turned.ensures (over_not_on c.in-Over.is)

pub returns : goal.returns
returns c =
    let l = c.loop-written_to in
    record {
      done = l.invariant.0;
      ready = l.invariant.1;
      fits = l.invariant.2;
      advances = λ e. ⊎_elim (λ z. absurd (omega arith)) (λ h. h) l.invariant.6;
    }
