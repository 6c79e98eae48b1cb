-- What the loop of `traffic::report::put_pairs` keeps.
use Prim.Native.Nat.{◌+◌, ◌*◌, ◌≤◌}
use Rattle.text.specs.Pieces.{Wrote}
use Rattle.traffic.specs.Counters.{rows_text}
use Rattle.traffic.proofs.report.put_pairs.Given as goal

abbrev pub invariant-loop-i : goal.invariant-loop-i
invariant-loop-i l = record {
  within : l.end ≤ l.at + 200 * l.i;
  wrote : Wrote l.initial.out l.at (rows_text l.table l.i) l.out l.end;
}
