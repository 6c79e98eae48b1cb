-- What the loop of `catalogue::table::lower` keeps, and why it ends.
use Prim.Native.Nat.{◌-◌, ◌≤◌}
use lib.ListN.{length}
use Rattle.catalogue.specs.Packed.{table_rows}
use Rattle.catalogue.proofs.Halving.{Left}
use Rattle.catalogue.proofs.table.lower.Given as goal

abbrev pub invariant-loop-low : goal.invariant-loop-low
invariant-loop-low l = (l.low ≤ l.high) × (l.high ≤ length l.table) × Left (table_rows l.table) l.key l.low l.high

abbrev pub decreases-loop-low : goal.decreases-loop-low
decreases-loop-low l = l.high - l.low
