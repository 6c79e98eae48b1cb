-- `command::requests::bare` meets its contract. Assumes nothing.
use Rattle.command.proofs.requests.bare.Goals as goal

pub returns : goal.returns
returns c = rw c.none.ensures
