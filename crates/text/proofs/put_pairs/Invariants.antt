-- What the loop of `text::put_pairs` keeps: the digits of the bytes so far are put.
use Rattle.std.proofs.Common.{◌≡◌, ◌*◌, ◌+◌, length, take}
use Rattle.text.specs.Text.{byte_pairs}
use Rattle.text.specs.Pieces.{placed}
use Rattle.text.proofs.put_pairs.Given as goal

abbrev pub invariant-loop-byte : goal.invariant-loop-byte
invariant-loop-byte l = record {
  next : l.end ≡ l.at + 2 * l.byte-index;
  room : length l.out ≡ length l.initial.out;
  put : l.out ≡ placed l.initial.out l.at (byte_pairs (take l.byte-index l.bytes));
}
