-- What the loop of `claim::list::distinct` keeps, and why it ends.
use Rattle.std.proofs.Common.{◌≡◌, length}
use Rattle.words.specs.Words.{◌=?◌}
use Rattle.words.specs.Lists.{no_two}
use Rattle.claim.proofs.list.distinct.Given as goal

abbrev pub invariant-loop-a : goal.invariant-loop-a
invariant-loop-a l = no_two ◌=?◌ l.list ≡ no_two ◌=?◌ l.rest

abbrev pub decreases-loop-a : goal.decreases-loop-a
decreases-loop-a l = length l.rest
