-- `capture::blocks::close` meets its contract. Assumes nothing.
use Rattle.capture.specs.Cutter.{closed}
use Rattle.words.proofs.Tests.{tests}
use Rattle.capture.proofs.blocks.close.Goals as goal

pub returns-then-cutter-eq0 : goal.returns-then-cutter-eq0
unfolding closed
returns-then-cutter-eq0 c = search tests

pub returns : goal.returns
unfolding closed
returns c = search (tests, c.carry_on-carried.ensures)
