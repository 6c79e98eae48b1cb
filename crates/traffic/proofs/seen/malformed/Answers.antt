-- `traffic::seen::malformed` meets its contract. Assumes nothing.
use mathlib.Core.Path.{refl}
use Rattle.traffic.specs.Figures.{seen_in}
use Rattle.traffic.proofs.seen.malformed.Goals as goal

pub returns : goal.returns
unfolding seen_in
returns c = refl
