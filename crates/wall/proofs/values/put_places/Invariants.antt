-- What the loop of `wall::values::put_places` keeps.
use Rattle.std.proofs.Common.{◌≡◌, ◌<◌, ◌≤◌, length}
use Rattle.wall.proofs.values.put_places.Given as goal

abbrev pub invariant-loop : goal.invariant-loop
invariant-loop l = record {
  within : l.end ≤ length l.out;
  room : length l.out ≡ length l.initial.out;
  small : l.rest < 10000000;
}
