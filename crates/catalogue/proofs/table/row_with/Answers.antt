-- `catalogue::table::row_with` meets its contract. Assumes nothing.
use mathlib.Core.Path.{◌∙◌, sym}
use Rattle.catalogue.proofs.Packing.{found_none, found_row}
use Rattle.catalogue.proofs.table.row_with.Goals as goal

pub returns-in-Some : goal.returns-in-Some
returns-in-Some c =
    let a = c.args in
    c.checked.ensures ∙ found_row a.table.now a.dgn a.first c.in-Some.row (sym c.first_with.ensures ∙ c.in-Some.is)

pub returns-in-None : goal.returns-in-None
returns-in-None c =
    let a = c.args in
    found_none a.table.now a.dgn a.first (sym c.first_with.ensures ∙ c.in-None.is)
