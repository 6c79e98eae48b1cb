-- What the loop of `capture::spelling::number` keeps: the number that the codes so far spell, and the rest read on.
use Rattle.std.proofs.Common.{◌≡◌, ◌<◌, ◌^◌, drop}
use Rattle.capture.specs.Digits.{number_read}
use Rattle.capture.proofs.Digits.{read_on}
use Rattle.capture.proofs.spelling.number.Given as goal

abbrev pub invariant-loop-code : goal.invariant-loop-code
invariant-loop-code l = record {
  small : l.number < 16 ^ l.code-index;
  read : number_read l.base l.part ≡ read_on l.base l.number (drop l.code-index l.part);
}
