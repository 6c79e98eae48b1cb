-- `catalogue::fields::power` meets its contract. Assumes nothing.
use Rattle.catalogue.proofs.Bits.{one_shl}
use Rattle.catalogue.proofs.fields.power.Goals as goal

pub returns : goal.returns
returns c = one_shl c.args.k c.requires
