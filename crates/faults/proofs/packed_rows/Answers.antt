-- `faults::packed_rows` meets its contract. Assumes nothing.
use mathlib.Core.Path.{refl}
use Rattle.catalogue.specs.Packed.{pack}
use Rattle.faults.specs.Rows.{packed}
use Rattle.faults.proofs.packed_rows.Goals as goal

pub returns : goal.returns
unfolding packed pack
returns c = record { answer = refl }
