-- `command::requests::nak` meets its contract. Assumes nothing.
use Rattle.command.specs.Acknowledgment.{acknowledgment_frame}
use Rattle.command.specs.Requests.{nak_to}
use Rattle.command.specs.Private.{asked_by}
use Rattle.command.proofs.Answers.{nak_requested}
use Rattle.command.proofs.requests.nak.Goals as goal

pub returns : goal.returns
returns c =
    let a = c.args in
    nak_requested _ (acknowledgment_frame a.address (nak_to (asked_by a.asked))) _ _ c.none.ensures c.id_of.ensures c.bytes_of.ensures
