-- What the loop of `traffic::read_all` keeps.
use Rattle.std.proofs.Common.{◌≡◌, length}
use Rattle.traffic.specs.Reader.{Ready}
use Rattle.traffic.proofs.read_all.Given as goal

abbrev pub invariant-loop : goal.invariant-loop
invariant-loop l = record {
  block : length l.block ≡ length l.initial.block;
  table : length l.table ≡ length l.initial.table;
  out : length l.out ≡ length l.initial.out;
  ready : Ready l.reader l.table;
}
