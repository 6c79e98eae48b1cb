-- `catalogue::rows_of` meets its contract. Assumes nothing.
use mathlib.Core.Path.{ap, ◌∙◌}
use mathlib.Core.List.{List}
use Prim.Native.Nat.{ℕ}
use Rattle.frame.specs.Identifier.{catalogue_form}
use Rattle.catalogue.specs.Packed.{table_span}
use Rattle.catalogue.proofs.Packing.{rows_in_packed}
use Rattle.catalogue.proofs.rows_of.Goals as goal

pub returns : goal.returns
returns c =
    let d = catalogue_form c.args.dgn in
    record { answer = c.rows_in.ensures.answer ∙ ap (λ (t : List ℕ). table_span t d) c.packed_rows-table.ensures.answer ∙ rows_in_packed d }
