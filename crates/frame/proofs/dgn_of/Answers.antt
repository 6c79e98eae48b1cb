-- `frame::dgn_of` meets its contract. Assumes nothing.
use borrow.Author.Rules.{rules}
use Rattle.frame.specs.Bytes.{number_of}
use Rattle.frame.proofs.dgn_of.Goals as goal

pub returns : goal.returns
unfolding number_of
returns c = search rules
