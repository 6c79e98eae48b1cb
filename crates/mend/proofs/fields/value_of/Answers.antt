-- `mend::fields::value_of` meets its contract. Assumes nothing.
use Rattle.words.proofs.Tests.{tests}
use Rattle.capture.specs.Digits.{value_of}
use Rattle.mend.proofs.fields.value_of.Goals as goal

pub returns-then-wide-lt48 : goal.returns-then-wide-lt48
unfolding value_of
returns-then-wide-lt48 c = rw (← c.capital_of-wide.ensures) (search tests)

pub returns-then-wide-le57 : goal.returns-then-wide-le57
unfolding value_of
returns-then-wide-le57 c = rw (← c.capital_of-wide.ensures) (search tests)

pub returns-then-wide-lt65 : goal.returns-then-wide-lt65
unfolding value_of
returns-then-wide-lt65 c = rw (← c.capital_of-wide.ensures) (search tests)

pub returns-then-wide-le70 : goal.returns-then-wide-le70
unfolding value_of
returns-then-wide-le70 c = rw (← c.capital_of-wide.ensures) (search tests)

pub returns : goal.returns
unfolding value_of
returns c = rw (← c.capital_of-wide.ensures) (search tests)
