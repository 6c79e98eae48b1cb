-- `mend::fields::digits_to` meets its contract. Assumes nothing.
use mathlib.Core.Path.{refl, sym, ◌∙◌}
use mathlib.Core.Path.{◌≡◌}
use Prim.Native.Nat.{◌≤◌, ◌<◌}
use native.Mathlib.Omega.{arith}
use lib.ListN.{length, get_or}
use Rattle.capture.specs.Digits.{value_of}
use Rattle.mend.specs.Mending.{capital}
use Rattle.mend.proofs.Finding.{ahead_stop, ahead_pass, ahead_end}
use Rattle.mend.proofs.fields.digits_to.Goals as goal

pub loop-i-init : goal.loop-i-init
loop-i-init c = record { within = omega arith; ahead = refl }

pub returns-then-base-value_of : goal.returns-then-base-value_of
returns-then-base-value_of c =
    let l = c.loop-i in
    let a = c.args in
    let h : l.i < length a.line.now = omega arith in
    let v : a.base ≤ value_of (capital (get_or a.line.now l.i 0)) = rw (← c.value_of.ensures) c.if-base-value_of.true in
    sym (l.invariant.ahead ∙ ahead_stop a.base a.line.now l.i h v)

pub loop-i-preserved : goal.loop-i-preserved
loop-i-preserved c =
    let l = c.loop-i in
    let a = c.args in
    let h : l.i < length a.line.now = omega arith in
    let g : c.value_of.result < a.base = omega arith in
    let v : value_of (capital (get_or a.line.now l.i 0)) < a.base = rw (← c.value_of.ensures) g in
    record { within = omega arith; ahead = l.invariant.ahead ∙ ahead_pass a.base a.line.now l.i h v }

pub returns : goal.returns
returns c =
    let l = c.loop-i in
    let a = c.args in
    let h : length a.line.now ≤ l.i = omega arith in
    let e : length a.line.now ≡ l.i = omega arith in
    e ∙ sym (l.invariant.ahead ∙ ahead_end a.base a.line.now l.i h)
