-- What the loop of `mend::reader::lines` keeps, and why it ends.
use mathlib.Core.Path.{◌≡◌}
use mathlib.Core.Logic.{◌⊎◌}
use Prim.Native.Nat.{◌≤◌, ◌<◌, ◌-◌}
use lib.ListN.{length}
use Rattle.mend.specs.Reader.{Done}
use Rattle.mend.specs.declared.reader.Going.TheVariants.{On}
use Rattle.mend.proofs.reader.lines.Given as goal

abbrev pub invariant-loop-written_to : goal.invariant-loop-written_to
invariant-loop-written_to l =
    Done l.pass l.block l.from l.initial.cutter l.written_to l.read_to l.cutter On l.out
    × (l.written_to ≤ length l.out) × (length l.out ≡ length l.initial.out) × (l.from ≤ l.read_to)
    × ((l.written_to ≡ 0) ⊎ ((l.from < l.read_to) × (l.read_to ≤ length l.block)))

abbrev pub decreases-loop-written_to : goal.decreases-loop-written_to
decreases-loop-written_to l = length l.block - l.read_to
