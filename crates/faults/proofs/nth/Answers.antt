-- `faults::nth` meets its contract. Assumes nothing.
use mathlib.Core.Path.{sym, refl, ap, ◌∙◌}
use Rattle.std.specs.Prelude.{Ok, Err}
use Rattle.catalogue.specs.Promises.{told_looked}
use Rattle.catalogue.proofs.Found.{row_in_or_none}
use Rattle.faults.specs.Rows.{rows}
use Rattle.faults.proofs.nth.Goals as goal

pub returns-in-Ok : goal.returns-in-Ok
returns-in-Ok c =
    row_in_or_none rows c.args.n (Ok c.in-Ok.row) _ (sym (ap told_looked c.in-Ok.is) ∙ c.row_at.ensures.answer) refl

pub returns-in-Err : goal.returns-in-Err
returns-in-Err c =
    row_in_or_none rows c.args.n (Err c.in-Err.field-0) _ (sym (ap told_looked c.in-Err.is) ∙ c.row_at.ensures.answer)
    (let d = c.default.ensures in search)
