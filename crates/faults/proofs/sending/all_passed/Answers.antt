-- `faults::sending::all_passed` meets its contract. Assumes nothing.
use mathlib.Core.Path.{◌≡◌, refl}
use Prim.Native.Nat.{◌≤◌, ◌<◌}
use native.Mathlib.Omega.{arith}
use lib.ListN.{length}
use Rattle.words.proofs.Lists.{length_field, image_turn, image_end}
use Rattle.faults.specs.Fault.{passed}
use Rattle.faults.proofs.Steps.{outside}
use Rattle.faults.proofs.sending.all_passed.Goals as goal

pub loop-f-init : goal.loop-f-init
loop-f-init c = record { so_far = refl }

pub loop-f-preserved : goal.loop-f-preserved
loop-f-preserved c =
    let l = c.loop-f in
    let fs = c.args.s.faults in
    let n : length fs ≡ 32 = search length_field in
    let h : l.f-index < length fs = omega arith in
    record { so_far = image_turn passed fs l.f-items l.f-index outside c.passed.result h l.invariant.so_far c.passed.ensures }

pub returns : goal.returns
returns c =
    let l = c.loop-f in
    let fs = c.args.s.faults in
    let n : length fs ≡ 32 = search length_field in
    let h : length fs ≤ l.f-index = omega arith in
    rw (image_end passed fs l.f-items l.f-index h l.invariant.so_far)
