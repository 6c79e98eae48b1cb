-- `catalogue::table::dgn_at` meets its contract. Assumes nothing.
use mathlib.Core.Path.{sym, ap}
use Rattle.catalogue.specs.Packed.{unpacked}
use Rattle.catalogue.specs.declared.Row.{Row}
use Rattle.catalogue.proofs.Packing.{table_at}
use Rattle.catalogue.proofs.table.dgn_at.Goals as goal

pub returns : goal.returns
unfolding unpacked
returns c =
    let a = c.args in
    sym (ap (λ (r : Row). r.dgn) (table_at a.table.now a.n))
