-- What the loop of `text::decimal_width` keeps, and why it ends.
use mathlib.Core.Path.{◌≡◌}
use Prim.Native.Nat.{◌+◌, ◌≤◌}
use Rattle.text.specs.Text.{decimal_width}
use Rattle.text.proofs.decimal_width.Given as goal

abbrev pub invariant-loop-rest : goal.invariant-loop-rest
invariant-loop-rest l =
    (l.width + l.rest ≤ l.number + 1) × (l.width + decimal_width l.rest ≡ decimal_width l.number + 1)

abbrev pub decreases-loop-rest : goal.decreases-loop-rest
decreases-loop-rest l = l.rest
