-- What the loop of `capture::spelling::eight_bytes` keeps: the bytes so far, before those that are to be read.
use Rattle.std.proofs.Common.{◌≡◌, ◌-◌, ◌*◌, length, take, drop}
use Rattle.capture.specs.Line.{bytes_read}
use Rattle.capture.proofs.Lines.{on_to}
use Rattle.capture.proofs.spelling.eight_bytes.Given as goal

abbrev pub invariant-loop-i : goal.invariant-loop-i
invariant-loop-i l = record {
  digits : length l.part ≡ 16;
  bytes : length l.byte-items ≡ 8;
  read : bytes_read 8 l.part ≡ on_to (take l.i l.byte-items) (bytes_read (8 - l.i) (drop (2 * l.i) l.part));
}
