-- `faults::sending::send` meets its contract. Assumes nothing.
use mathlib.Core.Path.{◌≡◌}
use Prim.Native.Nat.{◌<◌}
use native.Mathlib.Omega.{arith}
use lib.ListN.{length}
use Rattle.words.proofs.Lists.{length_field}
use Rattle.faults.specs.Fault.{no_fault}
use Rattle.faults.proofs.Steps.{outside, same_at}
use Rattle.faults.proofs.sending.send.Goals as goal

pub returns : goal.returns
returns c =
    let a = c.args in
    let n : length a.s.faults ≡ 32 = search length_field in
    let h : a.at < length a.s.faults = omega arith in
    let e = same_at a.s.faults a.at outside no_fault h in
    rw (c.id_from.ensures, c.replace.ensures, c.sent.ensures, e)
