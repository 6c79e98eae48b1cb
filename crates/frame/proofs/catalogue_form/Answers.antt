-- `frame::catalogue_form` meets its contract. Assumes nothing.
use native.Mathlib.Nat.{div-one}
use Rattle.frame.specs.Identifier.{is_addressed, destination_of, catalogue_form}
use Rattle.words.proofs.Tests.{tests}
use Rattle.frame.proofs.catalogue_form.Goals as goal

pub returns-then-dgn-lt240 : goal.returns-then-dgn-lt240
unfolding catalogue_form is_addressed destination_of
returns-then-dgn-lt240 c = record { answer = rw div-one (search tests) }

pub returns : goal.returns
unfolding catalogue_form is_addressed
returns c = record { answer = search tests }
