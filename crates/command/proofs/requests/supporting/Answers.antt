-- `command::requests::supporting` meets its contract. Assumes nothing.
use Rattle.command.specs.Requests.{supports}
use Rattle.command.specs.Private.{asked_by}
use Rattle.command.proofs.requests.supporting.Goals as goal

pub returns : goal.returns
returns c = c.pick.ensures (supports (asked_by c.args.asked)) (λ k b l h. h.1)
