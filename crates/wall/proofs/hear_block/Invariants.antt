-- What the loop of `wall::hear_block` keeps, and why it ends.
use Rattle.std.proofs.Common.{◌-◌, ◌≤◌, length}
use Rattle.wall.proofs.hear_block.Given as goal

abbrev pub invariant-loop-at : goal.invariant-loop-at
invariant-loop-at l = l.at ≤ l.at

abbrev pub decreases-loop-at : goal.decreases-loop-at
decreases-loop-at l = length l.block - l.at
