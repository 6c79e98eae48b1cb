-- `mend::fields::is_small` meets its contract. Assumes nothing.
use Rattle.words.proofs.Tests.{tests}
use Rattle.mend.specs.Mending.{is_small}
use Rattle.mend.proofs.fields.is_small.Goals as goal

pub returns-then-code-lt97 : goal.returns-then-code-lt97
unfolding is_small
returns-then-code-lt97 c = search tests

pub returns : goal.returns
unfolding is_small
returns c = search tests
