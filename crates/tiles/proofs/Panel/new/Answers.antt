-- `tiles::Panel::new` meets its contract. Assumes nothing.
use Rattle.tiles.proofs.Panel.new.Goals as goal

pub returns : goal.returns
returns c = record { panel = rw c.blank.ensures }
