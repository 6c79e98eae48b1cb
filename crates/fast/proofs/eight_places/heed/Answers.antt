-- `fast::eight_places::heed` meets its contract. Assumes nothing.
use Rattle.fast.proofs.Steps.{rules_of}
use Rattle.fast.proofs.eight_places.heed.Goals as goal

pub names_of-requires : goal.names_of-requires
names_of-requires c = (rules_of c.args.r c.requires.0).few
