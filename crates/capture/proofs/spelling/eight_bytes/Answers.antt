-- `capture::spelling::eight_bytes` meets its contract. Assumes nothing.
use mathlib.Core.Path.{◌≡◌, sym, ◌∙◌, ap}
use Prim.Native.Nat.{ℕ, ◌+◌, ◌-◌, ◌*◌}
use native.Mathlib.Omega.{arith}
use borrow.Author.Rules.{rules}
use lib.ListN.{take, drop, length-set}
use Rattle.capture.specs.Private.{told_spelled}
use Rattle.capture.specs.Digits.{number_read}
use Rattle.words.specs.Words.{Told}
use Rattle.capture.proofs.Lines.{pairs_pass, pairs_stop, pairs_end, pair_below}
use Rattle.capture.proofs.spelling.eight_bytes.Goals as goal

-- the two digits of byte i, as the code cuts them
pair : (i : ℕ) (part : _) (t : Told ℕ) → t ≡ number_read 16 (take (2 * i + 2 - 2 * i) (drop (2 * i) part)) → number_read 16 (take 2 (drop (2 * i) part)) ≡ t
pair i part t e =
    let w : 2 * i + 2 - 2 * i ≡ 2 = omega arith in
    ap (λ (k : ℕ). number_read 16 (take k (drop (2 * i) part))) (sym w) ∙ sym e

pub returns-in_err-byte : goal.returns-in_err-byte
returns-in_err-byte c =
    let l = c.loop-i in
    let p = c.args.part.now in
    let e = pair l.i p _ c.number.ensures ∙ ap told_spelled c.in_err-byte.was in
    rw c.from_residual.ensures (sym (l.invariant.read ∙ pairs_stop p l.byte-items l.i 19 (omega arith) e))

pub overflow_cast-byte : goal.overflow_cast-byte
overflow_cast-byte c =
    let l = c.loop-i in
    let p = c.args.part.now in
    let e = pair l.i p _ c.number.ensures ∙ ap told_spelled c.in_ok-byte.was in
    let h = pair_below (drop (2 * l.i) p) c.in_ok-byte.field-0 e in
    search rules

pub loop-i-preserved : goal.loop-i-preserved
loop-i-preserved c =
    let l = c.loop-i in
    let p = c.args.part.now in
    let e = pair l.i p _ c.number.ensures ∙ ap told_spelled c.in_ok-byte.was in
    record {
      digits = l.invariant.digits;
      bytes = simp length-set l.invariant.bytes;
      read = l.invariant.read ∙ pairs_pass p l.byte-items l.i c.in_ok-byte.field-0 (omega arith) l.invariant.bytes e;
    }

pub returns : goal.returns
returns c =
    let l = c.loop-i in
    let p = c.args.part.now in
    sym (l.invariant.read ∙ pairs_end p l.byte-items l.i (omega arith) l.invariant.bytes)
