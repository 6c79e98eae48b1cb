-- What the loop of `busread::feed` keeps, and why it ends.
use mathlib.Core.Path.{◌≡◌}
use Prim.Native.Nat.{◌-◌}
use lib.ListN.{length}
use Rattle.busread.specs.Reader.{Ready}
use Rattle.busread.proofs.feed.Given as goal

abbrev pub invariant-loop-read_to : goal.invariant-loop-read_to
invariant-loop-read_to l = (length l.out ≡ length l.initial.out) × (length l.storage ≡ length l.initial.storage) × Ready l.reader

abbrev pub decreases-loop-read_to : goal.decreases-loop-read_to
decreases-loop-read_to l = length l.block - l.read_to
