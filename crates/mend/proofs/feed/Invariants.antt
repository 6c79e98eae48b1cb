-- What the loop of `mend::feed` keeps, and why it ends.
use mathlib.Core.Path.{◌≡◌}
use mathlib.Core.List.{List}
use Prim.Native.Nat.{◌-◌}
use lib.ListN.{length}
use Rattle.capture.specs.Stream.{Piece}
use Rattle.capture.specs.Runs.{goes_on, Ran}
use Rattle.mend.proofs.feed.Given as goal

abbrev pub invariant-loop-well : goal.invariant-loop-well
invariant-loop-well l = (length l.out ≡ length l.initial.out) × (pieces : List Piece) × Ran l.block 0 l.initial.cutter pieces l.read_to l.cutter goes_on

abbrev pub decreases-loop-well : goal.decreases-loop-well
decreases-loop-well l = length l.block - l.read_to
