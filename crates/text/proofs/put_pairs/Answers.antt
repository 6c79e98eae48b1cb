-- `text::put_pairs` meets its contract. Assumes nothing.
use Prim.Native.Nat.{◌*◌, ◌+◌}
use mathlib.Core.Path.{◌≡◌, refl, ap, ◌∙◌}
use lib.ListN.{length, take, get_or}
use lib.Seq.{length-take-le}
use Rattle.text.specs.Text.{digits, byte_pairs}
use Rattle.text.specs.Pieces.{placed}
use Rattle.text.proofs.Digits.{length_digits, length_pairs, pairs_turn}
use Rattle.text.proofs.Pieces.{one_behind, length_placed, placed_nothing}
use native.Mathlib.Omega.{arith}
use Rattle.text.proofs.put_pairs.Goals as goal

pub loop-byte-init : goal.loop-byte-init
unfolding byte_pairs
loop-byte-init c = record { next = omega arith; room = refl; put = placed_nothing c.args.out.now c.args.at }

pub loop-byte-preserved : goal.loop-byte-preserved
loop-byte-preserved c =
    let l = c.loop-byte in
    let a = c.args in
    let p = c.put_digits-end in
    let pairs = byte_pairs (take l.byte-index a.bytes.now) in
    let b = get_or a.bytes.now l.byte-index 0 in
    let n : length pairs ≡ 2 * l.byte-index =
    length_pairs (take l.byte-index a.bytes.now) ∙ ap (λ k. 2 * k) (length-take-le l.byte-index a.bytes.now (omega arith))
    in
    let m : l.end ≡ a.at + length pairs = omega arith in
    let w : p.new.out ≡ placed l.out l.end (digits 16 2 b) = rw (← c.from.ensures) p.ensures.0 in
    let e = one_behind a.out.now pairs (digits 16 2 b) a.at l.invariant.put m w (omega arith) in
    let k : length p.new.out ≡ length l.out =
    ap length w ∙ length_placed l.out (digits 16 2 b) l.end (rw (length_digits 16 2 b) (omega arith)) in
    record { next = omega arith; room = k ∙ l.invariant.room; put = rw (pairs_turn a.bytes.now l.byte-index (omega arith)) e }
