-- `frame::dgn_bytes` meets its contract. Assumes nothing.
use borrow.Author.Rules.{rules}
use Rattle.frame.specs.Bytes.{bytes_of}
use Rattle.frame.proofs.dgn_bytes.Goals as goal

pub returns : goal.returns
unfolding bytes_of
returns c = search rules
