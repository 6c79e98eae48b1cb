-- What the loop of `mend::fields::digits_to` keeps.
use mathlib.Core.Path.{◌≡◌}
use Prim.Native.Nat.{◌≤◌, ◌+◌}
use lib.ListN.{length, drop}
use Rattle.mend.specs.Mending.{ahead}
use Rattle.mend.proofs.fields.digits_to.Given as goal

abbrev pub invariant-loop-i : goal.invariant-loop-i
invariant-loop-i l = record {
  within : l.i ≤ length l.line;
  ahead : l.from + length (ahead l.base (drop l.from l.line)) ≡ l.i + length (ahead l.base (drop l.i l.line));
}
