-- What the loop of `traffic::reader::lines` keeps, and why it ends.
use mathlib.Core.Path.{◌≡◌}
use mathlib.Core.Logic.{◌⊎◌}
use Prim.Native.Nat.{◌≤◌, ◌<◌, ◌-◌}
use lib.ListN.{length}
use Rattle.traffic.specs.Reader.{Ready, Done}
use Rattle.traffic.specs.declared.reader.Going.TheVariants.{On}
use Rattle.traffic.proofs.reader.lines.Given as goal

abbrev pub invariant-loop-written_to : goal.invariant-loop-written_to
invariant-loop-written_to l =
    Done l.block l.from l.initial.reader l.initial.table l.written_to l.read_to l.reader On l.table l.out
    × Ready l.reader l.table × (l.written_to ≤ length l.out) × (length l.out ≡ length l.initial.out) × (length l.table ≡ length l.initial.table) × (l.from ≤ l.read_to)
    × ((l.written_to ≡ 0) ⊎ ((l.from < l.read_to) × (l.read_to ≤ length l.block)))

abbrev pub decreases-loop-written_to : goal.decreases-loop-written_to
decreases-loop-written_to l = length l.block - l.read_to
