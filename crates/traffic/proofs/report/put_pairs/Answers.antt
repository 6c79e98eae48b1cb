-- `traffic::report::put_pairs` meets its contract. Assumes nothing.
use mathlib.Core.Path.{◌≡◌}
use Prim.Native.Nat.{suc, ◌+◌}
use native.Mathlib.Omega.{arith}
use Rattle.text.proofs.Pieces.{nothing, behind}
use Rattle.traffic.specs.Counters.{rows_text}
use Rattle.traffic.proofs.report.put_pairs.Goals as goal

pub loop-i-init : goal.loop-i-init
unfolding rows_text
loop-i-init c = record { within = omega arith; wrote = nothing c.args.out.now c.args.at (omega arith) }

pub put_pair-end-requires : goal.put_pair-end-requires
put_pair-end-requires c = let w = c.loop-i.invariant.wrote.room in omega arith

pub loop-i-preserved : goal.loop-i-preserved
unfolding rows_text
loop-i-preserved c =
    let l = c.loop-i in
    let w = c.put_pair-end.ensures in
    let e : l.i + 1 ≡ suc l.i = omega arith in
    record { within = omega (arith, w.1); wrote = rw (e, ← c.row_at.ensures) (behind l.invariant.wrote w.0) }

pub returns : goal.returns
returns c = let l = c.loop-i in let e : l.i ≡ c.args.count = omega arith in (rw (← e) l.invariant.wrote, omega arith)
