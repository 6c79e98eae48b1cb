-- `tiles::frames::is_of_instance` meets its contract. Assumes nothing.
use Rattle.words.proofs.Tests.{tests}
use Rattle.tiles.proofs.frames.is_of_instance.Goals as goal

pub returns : goal.returns
returns c = search tests
