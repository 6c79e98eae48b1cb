-- What the loop of `nodes::records::change` keeps: the records so far are as the function makes them.
use Rattle.std.proofs.Common.{◌≡◌, ℕ}
use Rattle.nodes.specs.Table.{each_from}
use Rattle.nodes.specs.Private.{ComputesAt}
use Rattle.nodes.specs.declared.Node.{Node}
use Rattle.nodes.proofs.records.change.Given as goal

abbrev pub invariant-loop-address : goal.invariant-loop-address
invariant-loop-address g l =
    (f : ℕ → Node → Node) → ComputesAt (goal.F-post g l.after) f l.fn.records → l.records ≡ each_from f l.address 0 l.fn.records
