-- `catalogue::is_marked` meets its contract. Assumes nothing.
use Rattle.catalogue.specs.Instances.{instance_dgns}
use Rattle.catalogue.proofs.is_marked.Goals as goal

pub returns : goal.returns
unfolding instance_dgns
returns c = c.is_among.ensures
