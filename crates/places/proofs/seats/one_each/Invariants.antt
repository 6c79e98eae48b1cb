-- What the loop of `places::seats::one_each` keeps, and why it ends.
use Rattle.std.proofs.Common.{◌≡◌, length}
use Rattle.places.specs.Seats.{one_each}
use Rattle.places.proofs.seats.one_each.Given as goal

abbrev pub invariant-loop-place : goal.invariant-loop-place
invariant-loop-place g l = one_each g.P.Seat.is_free g.P.Seat.key_of l.initial.rest ≡ one_each g.P.Seat.is_free g.P.Seat.key_of l.rest

abbrev pub decreases-loop-place : goal.decreases-loop-place
decreases-loop-place g l = length l.rest
