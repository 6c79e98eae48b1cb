-- What the loop of `panel::names::show_nodes` keeps, and why it ends.
use Prim.Native.Nat.{◌≤◌, ◌-◌}
use Rattle.panel.proofs.names.show_nodes.Given as goal

abbrev pub invariant-loop-address : goal.invariant-loop-address
invariant-loop-address l = l.address ≤ 254

abbrev pub decreases-loop-address : goal.decreases-loop-address
decreases-loop-address l = 254 - l.address
