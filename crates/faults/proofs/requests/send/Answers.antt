-- `faults::requests::send` meets its contract. Assumes nothing.
use Rattle.faults.proofs.Steps.{sends_answered}
use Rattle.faults.proofs.requests.send.Goals as goal

pub returns : goal.returns
returns c =
    let a = c.args in
    sends_answered a.address a.s _ _ _ c.id_from.ensures c.reply_bytes-bytes.ensures
    c.answered.ensures
