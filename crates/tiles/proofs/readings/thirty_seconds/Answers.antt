-- `tiles::readings::thirty_seconds` meets its contract. Assumes nothing.
use lib.Ieee.{of_bits}
use lib.Dec.{lit≤}
use Rattle.tiles.proofs.Exact.{over_word, in_float_word}
use Rattle.tiles.proofs.readings.thirty_seconds.Goals as goal

pub int_to_float-result : goal.int_to_float-result
int_to_float-result c = in_float_word c.args.v c.ranges.v c.requires

pub returns : goal.returns
unfolding of_bits
returns c = (over_word c.args.v 5 c.ranges.v c.requires (lit≤ tt)).0
