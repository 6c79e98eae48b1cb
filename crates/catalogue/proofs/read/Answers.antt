-- `catalogue::read` meets its contract. Assumes nothing.
use mathlib.Core.Path.{sym, ap, ◌∙◌}
use Rattle.catalogue.specs.Catalogue.{read_row_of}
use Rattle.catalogue.specs.declared.Row.{Row}
use Rattle.catalogue.proofs.Found.{read_at}
use Rattle.catalogue.proofs.read.Goals as goal

pub returns : goal.returns
returns c =
    let a = c.args in
    let bs = a.bytes.now in
    record { answer = c.read_row.ensures.answer ∙ ap (λ (r : Row). read_row_of r a.id bs) c.nth.ensures ∙ sym (read_at a.n a.id bs) }
