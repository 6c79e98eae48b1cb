-- `catalogue::classify` meets its contract. Assumes nothing.
use Rattle.catalogue.specs.Catalogue.{field_in}
use Rattle.catalogue.proofs.classify.Goals as goal

pub returns : goal.returns
unfolding field_in
returns c = record { answer = rw (c.class_in.ensures, c.cut-code.ensures) }
