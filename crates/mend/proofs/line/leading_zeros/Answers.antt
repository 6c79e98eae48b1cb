-- `mend::line::leading_zeros` meets its contract. Assumes nothing.
use mathlib.Core.Path.{◌≡◌, sym, ◌∙◌, ap}
use Prim.Native.Nat.{ℕ, ◌<◌, ◌+◌, ◌≤◌}
use native.Mathlib.Omega.{arith}
use lib.ListN.{length, drop}
use Rattle.mend.proofs.Finding.{zero_stop, zero_pass, zero_end}
use Rattle.mend.proofs.line.leading_zeros.Goals as goal

pub returns-then-part-i-ne48 : goal.returns-then-part-i-ne48
returns-then-part-i-ne48 c =
    let l = c.loop-i in
    let a = c.args in
    let h : l.i + 1 < length a.part.now = omega (arith, c.saturating_sub-last.ensures) in
    (sym (l.invariant ∙ zero_stop a.part.now l.i h c.if-part-i-ne48.true), omega arith)

pub loop-i-preserved : goal.loop-i-preserved
loop-i-preserved c =
    let l = c.loop-i in
    let a = c.args in
    let h : l.i + 1 < length a.part.now = omega (arith, c.saturating_sub-last.ensures) in
    l.invariant ∙ zero_pass a.part.now l.i h c.if-part-i-ne48.false

pub returns : goal.returns
returns c =
    let l = c.loop-i in
    let a = c.args in
    let h : length a.part.now ≤ l.i + 1 = omega (arith, c.saturating_sub-last.ensures) in
    let e : l.i ≡ c.saturating_sub-last.result = omega arith in
    (ap (λ (n : ℕ). drop n a.part.now) (sym e) ∙ sym (l.invariant ∙ zero_end a.part.now l.i h), omega (arith, c.saturating_sub-last.ensures))
