-- `catalogue::packed_rows` meets its contract. Assumes nothing.
use mathlib.Core.Path.{refl}
use Rattle.catalogue.specs.Rows.{rows}
use Rattle.catalogue.specs.Packed.{pack, packed_rows}
use Rattle.catalogue.proofs.packed_rows.Goals as goal

pub returns : goal.returns
unfolding packed_rows rows pack
returns c = record { answer = refl }
