-- What the loop of `fast::names::none_twice` keeps, and why it ends.
use Rattle.std.proofs.Common.{◌≡◌, length}
use Rattle.words.specs.Words.{◌=?◌}
use Rattle.words.specs.Lists.{no_two}
use Rattle.fast.proofs.names.none_twice.Given as goal

abbrev pub invariant-loop-dgn : goal.invariant-loop-dgn
invariant-loop-dgn l = no_two ◌=?◌ l.initial.rest ≡ no_two ◌=?◌ l.rest

abbrev pub decreases-loop-dgn : goal.decreases-loop-dgn
decreases-loop-dgn l = length l.rest
