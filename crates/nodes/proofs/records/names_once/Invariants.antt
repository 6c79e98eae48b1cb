-- What the loop of `nodes::records::names_once` keeps, and why it ends.
use Rattle.std.proofs.Common.{◌≡◌, length}
use Rattle.words.specs.Lists.{no_two}
use Rattle.nodes.specs.Table.{shares_name}
use Rattle.nodes.proofs.records.names_once.Given as goal

abbrev pub invariant-loop-n : goal.invariant-loop-n
invariant-loop-n l = no_two shares_name l.records ≡ no_two shares_name l.rest

abbrev pub decreases-loop-n : goal.decreases-loop-n
decreases-loop-n l = length l.rest
