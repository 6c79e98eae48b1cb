-- `catalogue::rows_in` meets its contract. Assumes nothing.
use mathlib.Core.Path.{ap, ◌∙◌}
use Rattle.catalogue.specs.Packed.{table_span}
use Rattle.catalogue.proofs.rows_in.Goals as goal

pub returns : goal.returns
returns c =
    let a = c.args in
    record { answer = c.span_in.ensures ∙ ap (table_span a.table.now) c.catalogue_form.ensures.answer }
