-- `catalogue::table::row_in` meets its contract. Assumes nothing.
use mathlib.Core.Path.{sym, ap, ◌∙◌}
use borrow.Author.Tests.{ltb-false}
use Rattle.catalogue.specs.Packed.{lying, unpacked}
use Rattle.catalogue.proofs.Packing.{row_past, row_there}
use Rattle.catalogue.proofs.table.row_in.Goals as goal

pub returns-in-Some : goal.returns-in-Some
returns-in-Some c =
    let a = c.args in
    let k = c.in-Some.ensures.lookup in
    c.checked.ensures ∙ ap lying (c.unpack.ensures ∙ ap unpacked (k.3.1 0)) ∙ row_there a.table.now a.n k.3.0

pub returns-in-None : goal.returns-in-None
returns-in-None c =
    let a = c.args in
    row_past a.table.now a.n (ltb-false _ _ (sym c.in-None.ensures.lookup.0))
