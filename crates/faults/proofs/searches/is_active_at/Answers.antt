-- `faults::searches::is_active_at` meets its contract. Assumes nothing.
use mathlib.Core.Path.{◌≡◌}
use Prim.Native.Nat.{◌<◌}
use native.Mathlib.Omega.{arith}
use borrow.Author.Tests.{lt-ltb}
use lib.ListN.{length}
use Rattle.words.proofs.Tests.{tests}
use Rattle.words.proofs.Lists.{length_field}
use Rattle.faults.specs.Fault.{no_fault}
use Rattle.faults.specs.Sender.{is_active_at}
use Rattle.faults.proofs.Steps.{outside, same_at}
use Rattle.faults.proofs.searches.is_active_at.Goals as goal

pub returns-else-at-lt-PLACES : goal.returns-else-at-lt-PLACES
unfolding is_active_at
returns-else-at-lt-PLACES c = search tests

pub returns-then-at-lt-PLACES : goal.returns-then-at-lt-PLACES
unfolding is_active_at
returns-then-at-lt-PLACES c =
    let a = c.args in
    let n : length a.s.faults ≡ 32 = search length_field in
    let h : a.at < 32 = omega arith in
    rw (lt-ltb a.at 32 h, same_at a.s.faults a.at outside no_fault (omega arith))
