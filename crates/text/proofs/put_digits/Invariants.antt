-- What the loop of `text::put_digits` keeps: so many digits are left, and with those that it has put they are the digits
-- that were to be put.
use Rattle.std.proofs.Common.{◌≡◌, ◌≤◌, length}
use Rattle.text.proofs.Pieces.{put_down}
use Rattle.text.proofs.put_digits.Given as goal

abbrev pub invariant-loop-i : goal.invariant-loop-i
invariant-loop-i l = record {
  room : length l.out ≡ length l.initial.out;
  within : l.i ≤ l.count;
  put : put_down l.base l.at l.i l.rest l.out ≡ put_down l.base l.at l.count l.number l.initial.out;
}
