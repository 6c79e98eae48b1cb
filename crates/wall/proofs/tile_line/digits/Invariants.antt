-- What the loop of `wall::tile_line::digits` keeps.
use Rattle.std.proofs.Common.{◌^◌, ◌<◌}
use Rattle.wall.proofs.tile_line.digits.Given as goal

abbrev pub invariant-loop-count : goal.invariant-loop-count
invariant-loop-count l = l.value < 16 ^ l.count
