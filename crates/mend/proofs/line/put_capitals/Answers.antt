-- `mend::line::put_capitals` meets its contract. Assumes nothing.
use mathlib.Core.Path.{◌≡◌, refl}
use Prim.Native.Nat.{◌<◌, ◌+◌}
use native.Mathlib.Omega.{arith}
use lib.ListN.{length, length-set}
use lib.Seq.{paste-zero}
use Rattle.mend.specs.Mending.{capitals}
use Rattle.mend.proofs.Putting.{capital_turn, capital_end}
use Rattle.mend.proofs.line.put_capitals.Goals as goal

pub loop-i-init : goal.loop-i-init
loop-i-init c =
    let a = c.args in
    record { room = refl; put = paste-zero a.out.now a.at (capitals a.part.now) }

pub loop-i-preserved : goal.loop-i-preserved
loop-i-preserved c =
    let l = c.loop-i in
    let a = c.args in
    let h : a.at + l.i < length a.out.now = omega arith in
    let k : l.i < length a.part.now = omega arith in
    record {
      room = simp length-set l.invariant.room;
      put = rw c.capital_of.ensures (capital_turn a.out.now l.out a.part.now a.at l.i h k l.invariant.put);
    }

pub returns : goal.returns
returns c =
    let l = c.loop-i in
    let a = c.args in
    let e : l.i ≡ length a.part.now = omega arith in
    (rw (← e) (capital_end a.out.now l.out a.part.now a.at l.i e (omega arith) l.invariant.put), refl)
