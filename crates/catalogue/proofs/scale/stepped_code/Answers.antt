-- `catalogue::scale::stepped_code` meets its contract. Assumes nothing.
use mathlib.Core.Path.{◌∙◌}
use Rattle.catalogue.specs.Codes.{stepped_code}
use Rattle.words.proofs.Tests.{tests}
use Rattle.catalogue.proofs.scale.stepped_code.Goals as goal
use Rattle.catalogue.proofs.scale.stepped_code.Goals.{then-lifted-step-ne0-via-then-lifted-step-ne0, then-lifted-step-ne0-via-else-lifted-step-ne0+then-power-code}

pub returns-then-lifted-step-ne0 : goal.returns-then-lifted-step-ne0
unfolding stepped_code
returns-then-lifted-step-ne0 c =
    elim c.then-lifted-step-ne0.branch [
      | then-lifted-step-ne0-via-then-lifted-step-ne0 w ↦ search tests
      | then-lifted-step-ne0-via-else-lifted-step-ne0+then-power-code w ↦ search (tests, ← w.power.ensures)
    ]

pub returns : goal.returns
unfolding stepped_code
returns c = c.code_where.ensures ∙ search (tests, ← c.power.ensures)
