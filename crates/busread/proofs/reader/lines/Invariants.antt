-- What the loop of `busread::reader::lines` keeps, and why it ends.
use mathlib.Core.Path.{◌≡◌}
use mathlib.Core.Logic.{◌⊎◌}
use Prim.Native.Nat.{◌≤◌, ◌<◌, ◌-◌}
use lib.ListN.{length, take}
use Rattle.busread.specs.Reader.{kept_by, Ready, Ran}
use Rattle.busread.specs.declared.reader.Going.TheVariants.{On}
use Rattle.busread.proofs.reader.lines.Given as goal

abbrev pub invariant-loop-written_to : goal.invariant-loop-written_to
invariant-loop-written_to l =
    Ran l.block l.from l.initial.reader.cutter (kept_by l.initial.reader l.initial.storage) (take l.written_to l.out) l.read_to l.reader.cutter (kept_by l.reader l.storage) On
    × Ready l.reader × (l.written_to ≤ length l.out) × (length l.out ≡ length l.initial.out) × (length l.storage ≡ length l.initial.storage) × (l.from ≤ l.read_to)
    × ((l.written_to ≡ 0) ⊎ ((l.from < l.read_to) × (l.read_to ≤ length l.block)))

abbrev pub decreases-loop-written_to : goal.decreases-loop-written_to
decreases-loop-written_to l = length l.block - l.read_to
