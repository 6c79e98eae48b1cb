-- What the loop of `traffic::feed` keeps, and why it ends.
use mathlib.Core.Path.{◌≡◌}
use Prim.Native.Nat.{◌-◌}
use lib.ListN.{length}
use Rattle.capture.specs.Runs.{goes_on}
use Rattle.traffic.specs.Reader.{Ready, Taken}
use Rattle.traffic.proofs.feed.Given as goal

abbrev pub invariant-loop-read_to : goal.invariant-loop-read_to
invariant-loop-read_to l =
    (length l.out ≡ length l.initial.out) × (length l.table ≡ length l.initial.table) × Ready l.reader l.table
    × Taken l.block 0 l.initial.reader l.initial.table l.read_to l.reader goes_on l.table

abbrev pub decreases-loop-read_to : goal.decreases-loop-read_to
decreases-loop-read_to l = length l.block - l.read_to
