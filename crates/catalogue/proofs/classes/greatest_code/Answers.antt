-- `catalogue::classes::greatest_code` meets its contract. Assumes nothing.
use Rattle.catalogue.proofs.Classed.{ones_shifted}
use Rattle.catalogue.proofs.classes.greatest_code.Goals as goal

pub returns : goal.returns
returns c = ones_shifted c.args.width c.requires.1
