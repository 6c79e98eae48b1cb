-- What the loop of `places::seats::pause` keeps.
use Rattle.std.proofs.Common.{◌≡◌, ◌++◌, map, take, drop, ◌≤◌}
use Rattle.words.specs.Lists.{count}
use Rattle.places.specs.Seats.{closes, idled}
use Rattle.places.proofs.seats.pause.Given as goal

abbrev pub invariant-loop-place : goal.invariant-loop-place
invariant-loop-place g l =
    let s = g.P.Seat in
    (l.closed ≡ count (closes s.is_free s.idle_after l.limit l.ms) (take l.place-index l.fn.places))
    × (l.closed ≤ l.place-index)
    × (l.place-items ≡ map (idled s.is_free s.idle_after s.blank s.waited l.limit l.ms) (take l.place-index l.fn.places) ++ drop l.place-index l.fn.places)
