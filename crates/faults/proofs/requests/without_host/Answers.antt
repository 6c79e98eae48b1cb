-- `faults::requests::without_host` meets its contract. Assumes nothing.
use mathlib.Core.Path.{refl}
use Rattle.command.specs.Positions.{filled}
use Rattle.faults.proofs.requests.without_host.Goals as goal

pub returns : goal.returns
unfolding filled
returns c = refl
