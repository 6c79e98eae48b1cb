-- What the loop of `panel::names::show_others` keeps, and why it ends.
use lib.ListN.{length}
use mathlib.Core.Path.{◌≡◌}
use Prim.Native.Nat.{◌≤◌, ◌-◌}
use Rattle.panel.proofs.names.show_others.Given as goal

abbrev pub invariant-loop-address : goal.invariant-loop-address
invariant-loop-address l = (l.address ≤ 254) × (length l.before ≡ 254) × (length l.after ≡ 254)

abbrev pub decreases-loop-address : goal.decreases-loop-address
decreases-loop-address l = 254 - l.address
