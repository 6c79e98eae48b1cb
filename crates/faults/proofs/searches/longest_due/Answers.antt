-- `faults::searches::longest_due` meets its contract. Assumes nothing.
use Prim.Native.Nat.{◌<◌}
use native.Mathlib.Omega.{arith}
use mathlib.Core.Path.{◌≡◌}
use lib.ListN.{length}
use Rattle.words.proofs.Lists.{length_field}
use Rattle.faults.proofs.Steps.{outside, longest_pass, longest_end}
use Rattle.faults.proofs.searches.longest_due.Goals as goal

pub loop-f-init : goal.loop-f-init
loop-f-init c = record { left = omega arith }

pub loop-f-preserved : goal.loop-f-preserved
loop-f-preserved c =
    let l = c.loop-f in
    let fs = c.args.s.faults in
    let n : length fs ≡ 32 = search length_field in
    let h : l.f-index < length fs = omega arith in
    record { left = rw c.longer-longest.ensures (longest_pass fs l.f-index l.longest outside h l.invariant.left) }

pub returns : goal.returns
returns c =
    let l = c.loop-f in
    let fs = c.args.s.faults in
    let n : length fs ≡ 32 = search length_field in
    longest_end fs l.f-index l.longest (omega arith) l.invariant.left
