-- `catalogue::row_of_in` meets its contract. Assumes nothing.
use mathlib.Core.Path.{ap, ◌∙◌}
use Prim.Native.Nat.{ℕ}
use Rattle.catalogue.specs.Packed.{table_row_with}
use Rattle.catalogue.proofs.row_of_in.Goals as goal

pub returns : goal.returns
returns c =
    let a = c.args in
    record { answer = c.row_with.ensures ∙ ap (λ (d : ℕ). table_row_with a.table.now d a.first) c.catalogue_form.ensures.answer }
