-- `catalogue::read_scaled` meets its contract. Assumes nothing.
use mathlib.Core.Path.{sym, ap, ◌∙◌}
use Rattle.catalogue.specs.Catalogue.{scaled_row_of}
use Rattle.catalogue.specs.declared.Row.{Row}
use Rattle.catalogue.proofs.Found.{scaled_at}
use Rattle.catalogue.proofs.read_scaled.Goals as goal

pub returns : goal.returns
returns c =
    let a = c.args in
    let bs = a.bytes.now in
    record { answer = c.read_row_scaled.ensures.answer ∙ ap (λ (r : Row). scaled_row_of r a.id bs) c.nth.ensures ∙ sym (scaled_at a.n a.id bs) }
