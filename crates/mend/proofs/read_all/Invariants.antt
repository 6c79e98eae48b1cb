-- What the loop of `mend::read_all` keeps.
use Rattle.std.proofs.Common.{◌≡◌, length}
use Rattle.mend.proofs.read_all.Given as goal

abbrev pub invariant-loop : goal.invariant-loop
invariant-loop l = record { block : length l.block ≡ length l.initial.block; out : length l.out ≡ length l.initial.out }
