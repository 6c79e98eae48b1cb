-- What the loop of `faults::searches::longest_due` keeps: the greatest age so far, or of the places that are left, is the
-- greatest of all.
use Rattle.std.proofs.Common.{◌≡◌, max, drop}
use Rattle.faults.specs.Sender.{longest_due}
use Rattle.faults.proofs.searches.longest_due.Given as goal

abbrev pub invariant-loop-f : goal.invariant-loop-f
invariant-loop-f l = record {
  left : longest_due l.f-items ≡ max l.longest (longest_due (drop l.f-index l.f-items));
}
