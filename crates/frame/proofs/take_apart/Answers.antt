-- `frame::take_apart` meets its contract. Assumes nothing.
use Rattle.frame.specs.Frame.{apart_of}
use Rattle.words.proofs.Tests.{tests}
use Rattle.frame.proofs.take_apart.Goals as goal

pub returns-then-id-ge-IDENTIFIERS : goal.returns-then-id-ge-IDENTIFIERS
unfolding apart_of
returns-then-id-ge-IDENTIFIERS c = record { answer = search tests }

pub returns-then-reserved_bit-eq1 : goal.returns-then-reserved_bit-eq1
unfolding apart_of
returns-then-reserved_bit-eq1 c = record { answer = search (tests, ← c.reserved_bit.ensures) }

pub returns : goal.returns
unfolding apart_of
returns c = record { answer = search (tests, ← c.reserved_bit.ensures, c.if-reserved_bit-eq1.false, c.parts_of.ensures) }
