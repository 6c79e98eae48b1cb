-- `frame::source_allowed` meets its contract. Assumes nothing.
use borrow.Author.Tests.{ne_eqb}
use Rattle.frame.specs.Frame.{source_allowed}
use Rattle.words.proofs.Tests.{tests}
use Rattle.frame.proofs.source_allowed.Goals as goal

pub returns-in-255 : goal.returns-in-255
unfolding source_allowed
returns-in-255 c = search tests

pub returns-then-upper : goal.returns-then-upper
unfolding source_allowed
returns-then-upper c = rw (c.in-254.is, c.if-upper.true)

pub returns-else-upper : goal.returns-else-upper
unfolding source_allowed
returns-else-upper c = rw (c.in-254.is, ne_eqb _ _ c.if-upper.false)

pub returns-in_default : goal.returns-in_default
unfolding source_allowed
returns-in_default c = search tests
