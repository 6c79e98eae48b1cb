-- `wall::hear_block` is safe and ends. Assumes nothing.
use Rattle.std.proofs.Common.{arith}
use Rattle.wall.proofs.hear_block.Goals as goal

pub loop-at-smaller : goal.loop-at-smaller
loop-at-smaller c =
    let h = c.next_line-turn.ensures in
    omega arith
