-- What the loop of `busread::read_all` keeps.
use Rattle.std.proofs.Common.{◌≡◌, length}
use Rattle.busread.specs.Reader.{Ready}
use Rattle.busread.proofs.read_all.Given as goal

abbrev pub invariant-loop : goal.invariant-loop
invariant-loop l = record {
  block : length l.block ≡ length l.initial.block;
  storage : length l.storage ≡ length l.initial.storage;
  out : length l.out ≡ length l.initial.out;
  ready : Ready l.reader;
}
