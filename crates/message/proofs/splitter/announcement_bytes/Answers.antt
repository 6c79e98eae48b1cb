-- `message::splitter::announcement_bytes` meets its contract. Assumes nothing.
use Rattle.frame.specs.Bytes.{bytes_of}
use Rattle.message.specs.Splitter.{announcement_bytes}
use Rattle.message.proofs.splitter.announcement_bytes.Goals as goal

pub returns : goal.returns
unfolding announcement_bytes bytes_of
returns c = rw (c.requires, c.dgn_bytes-dgn.ensures.answer, c.to_le_bytes-size.ensures)
