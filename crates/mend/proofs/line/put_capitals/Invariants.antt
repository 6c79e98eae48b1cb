-- What the loop of `mend::line::put_capitals` keeps: the capitals so far are put.
use mathlib.Core.Path.{◌≡◌}
use lib.ListN.{length}
use lib.Seq.{paste}
use Rattle.mend.specs.Mending.{capitals}
use Rattle.mend.proofs.line.put_capitals.Given as goal

abbrev pub invariant-loop-i : goal.invariant-loop-i
invariant-loop-i l = record {
  room : length l.out ≡ length l.initial.out;
  put : l.out ≡ paste l.initial.out l.at (capitals l.part) l.i;
}
