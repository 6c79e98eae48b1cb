-- `capture::write` meets its contract. Assumes nothing.
use mathlib.Core.Path.{◌≡◌}
use Prim.Native.Nat.{◌≤◌}
use native.Mathlib.Omega.{arith}
use borrow.Author.Rules.{rules}
use lib.ListN.{length}
use Rattle.capture.specs.Line.{Frame}
use Rattle.capture.proofs.Writing.{line_put}
use Rattle.capture.proofs.write.Goals as goal

pub returns : goal.returns
returns c =
    let a = c.args in
    let f : Frame = record { gap = a.gap; id = a.id; bytes = a.bytes } in
    let g : a.gap ≤ 65535 = omega arith in
    let eight : length a.bytes ≡ 8 = search rules in
    let w = line_put f g eight c.put_decimal-gap_end.ensures c.put_hex-id_end.ensures c.put_bytes-count.ensures in
    record { text = w.0; count = w.1 }
