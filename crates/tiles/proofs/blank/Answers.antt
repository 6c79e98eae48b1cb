-- `tiles::blank` meets its contract. Assumes nothing.
use mathlib.Core.Path.{refl}
use Rattle.tiles.proofs.blank.Goals as goal

pub returns : goal.returns
returns c = refl
