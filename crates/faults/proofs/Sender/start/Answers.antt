-- `faults::Sender::start` meets its contract. Assumes nothing.
use Rattle.faults.proofs.Sender.start.Goals as goal

pub returns : goal.returns
returns c = record { state = rw c.empty.ensures }
