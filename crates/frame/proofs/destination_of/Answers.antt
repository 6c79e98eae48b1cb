-- `frame::destination_of` meets its contract. Assumes nothing.
use native.Mathlib.Nat.{div-one}
use Rattle.frame.specs.Identifier.{is_addressed, destination_of}
use Rattle.words.proofs.Tests.{tests}
use Rattle.frame.proofs.destination_of.Goals as goal

pub returns-then-dgn-ge240 : goal.returns-then-dgn-ge240
unfolding is_addressed destination_of
returns-then-dgn-ge240 c = record { answer = search tests }

pub returns-then-to : goal.returns-then-to
unfolding is_addressed destination_of
returns-then-to c = record { answer = rw div-one (search tests) }

pub returns : goal.returns
unfolding is_addressed destination_of
returns c = record { answer = rw div-one (search tests) }
