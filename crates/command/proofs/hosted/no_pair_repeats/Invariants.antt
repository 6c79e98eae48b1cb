-- What the loop of `command::hosted::no_pair_repeats` keeps, and why it ends.
use Rattle.std.proofs.Common.{◌≡◌, length}
use Rattle.words.specs.Lists.{no_two}
use Rattle.command.specs.Hosted.{is_same_pair}
use Rattle.command.proofs.hosted.no_pair_repeats.Given as goal

abbrev pub invariant-loop-e : goal.invariant-loop-e
invariant-loop-e l = no_two is_same_pair l.entries ≡ no_two is_same_pair l.rest

abbrev pub decreases-loop-e : goal.decreases-loop-e
decreases-loop-e l = length l.rest
