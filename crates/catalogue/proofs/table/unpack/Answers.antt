-- `catalogue::table::unpack` meets its contract. Assumes nothing.
use Rattle.catalogue.specs.Packed.{unpacked}
use Rattle.catalogue.proofs.table.unpack.Goals as goal

pub returns : goal.returns
unfolding unpacked
returns c = rw c.unit_of.ensures
