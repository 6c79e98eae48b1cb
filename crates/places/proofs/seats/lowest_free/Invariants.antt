-- What the loop of `places::seats::lowest_free` keeps: no place before the one that it is at is free.
use Rattle.std.proofs.Common.{◌≡◌, drop}
use Rattle.std.specs.Prelude.{None}
use Rattle.words.specs.Lists.{first, first_from}
use Rattle.places.proofs.seats.lowest_free.Given as goal

abbrev pub invariant-loop-at : goal.invariant-loop-at
invariant-loop-at g l =
    let is_free = g.P.Seat.is_free in
    (l.lowest ≡ None) × (first is_free l.fn.places ≡ first_from is_free l.at (drop l.at l.fn.places))
