-- `mend::report::any` meets its contract. Assumes nothing.
use mathlib.Core.Path.{◌∙◌}
use Rattle.mend.proofs.Finding.{either_same}
use Rattle.mend.proofs.report.any.Goals as goal

pub returns : goal.returns
returns c = c.either-3.ensures ∙ either_same c.either.ensures c.either-2.ensures
