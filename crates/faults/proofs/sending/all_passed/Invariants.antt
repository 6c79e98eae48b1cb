-- What the loop of `faults::sending::all_passed` keeps: for the places so far the time has passed.
use mathlib.Core.List.{map, ◌++◌}
use Rattle.std.proofs.Common.{◌≡◌, take, drop}
use Rattle.faults.specs.Fault.{passed}
use Rattle.faults.proofs.sending.all_passed.Given as goal

abbrev pub invariant-loop-f : goal.invariant-loop-f
invariant-loop-f l = record {
  so_far : l.f-items ≡ map passed (take l.f-index l.initial.f-items) ++ drop l.f-index l.initial.f-items;
}
