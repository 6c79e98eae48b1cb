-- What the loop of `mend::line::leading_zeros` keeps.
use mathlib.Core.Path.{◌≡◌}
use lib.ListN.{drop}
use Rattle.mend.specs.Mending.{without_zeros}
use Rattle.mend.proofs.line.leading_zeros.Given as goal

abbrev pub invariant-loop-i : goal.invariant-loop-i
invariant-loop-i l = without_zeros l.part ≡ without_zeros (drop l.i l.part)
