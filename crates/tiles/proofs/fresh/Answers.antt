-- `tiles::fresh` meets its contract. Assumes nothing.
use mathlib.Core.Path.{refl}
use Rattle.tiles.proofs.fresh.Goals as goal

pub returns : goal.returns
returns c = refl
