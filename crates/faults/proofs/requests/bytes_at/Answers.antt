-- `faults::requests::bytes_at` meets its contract. Assumes nothing.
use mathlib.Core.Path.{◌≡◌, ap}
use Prim.Native.Nat.{◌<◌}
use native.Mathlib.Omega.{arith}
use lib.ListN.{length}
use Rattle.words.proofs.Lists.{length_field}
use Rattle.faults.specs.Fault.{no_fault}
use Rattle.faults.specs.declared.Fault.{Fault}
use Rattle.faults.proofs.Steps.{outside, same_at}
use Rattle.faults.proofs.requests.bytes_at.Goals as goal

pub returns : goal.returns
returns c =
    let a = c.args in
    let n : length a.s.faults ≡ 32 = search length_field in
    let h : a.at < length a.s.faults = omega arith in
    ap (λ (f : Fault). f.bytes) (same_at a.s.faults a.at outside no_fault h)
