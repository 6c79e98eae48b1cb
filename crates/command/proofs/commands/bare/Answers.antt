-- `command::commands::bare` meets its contract. Assumes nothing.
use Rattle.command.proofs.commands.bare.Goals as goal

pub returns : goal.returns
returns c = rw c.none.ensures
