-- `command::requests::asked_of` meets its contract. Assumes nothing.
use Rattle.command.proofs.Answers.{asked_read}
use Rattle.command.proofs.requests.asked_of.Goals as goal

pub returns : goal.returns
returns c =
    let a = c.args in
    asked_read a.edition a.parts a.bytes _ _ c.dgn_of-dgn.ensures.answer c.instance_asked-instance.ensures
