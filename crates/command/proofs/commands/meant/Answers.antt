-- `command::commands::meant` meets its contract. Assumes nothing.
use Rattle.command.specs.Commands.{is_meant}
use Rattle.command.proofs.commands.meant.Goals as goal

pub returns : goal.returns
returns c = c.pick.ensures (is_meant c.args.dgn c.args.instance) (λ k b l h. h.1)
