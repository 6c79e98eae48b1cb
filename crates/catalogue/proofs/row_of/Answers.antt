-- `catalogue::row_of` meets its contract. Assumes nothing.
use mathlib.Core.Path.{ap, ◌∙◌}
use mathlib.Core.List.{List}
use Prim.Native.Nat.{ℕ}
use Rattle.frame.specs.Identifier.{catalogue_form}
use Rattle.catalogue.specs.Packed.{table_row_with}
use Rattle.catalogue.proofs.Packing.{row_of_in_packed}
use Rattle.catalogue.proofs.row_of.Goals as goal

pub returns : goal.returns
returns c =
    let a = c.args in
    let d = catalogue_form a.dgn in
    record {
      answer = c.row_of_in.ensures.answer ∙ ap (λ (t : List ℕ). table_row_with t d a.first) c.packed_rows-table.ensures.answer ∙ row_of_in_packed d a.first;
    }
