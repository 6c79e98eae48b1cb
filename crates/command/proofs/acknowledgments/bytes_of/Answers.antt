-- `command::acknowledgments::bytes_of` meets its contract. Assumes nothing.
use Rattle.frame.specs.Bytes.{bytes_of}
use Rattle.command.specs.Acknowledgment.{acknowledgment_bytes}
use Rattle.command.proofs.acknowledgments.bytes_of.Goals as goal

pub returns : goal.returns
unfolding acknowledgment_bytes bytes_of
returns c = rw c.dgn_bytes-dgn.ensures.answer
