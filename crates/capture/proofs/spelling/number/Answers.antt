-- `capture::spelling::number` meets its contract. Assumes nothing.
use mathlib.Core.Path.{refl, sym, ◌∙◌}
use Prim.Native.Nat.{◌≤◌, ◌<◌}
use native.Mathlib.Omega.{arith}
use lib.ListN.{length, get_or}
use Rattle.capture.specs.Digits.{number_read, value_of}
use Rattle.capture.proofs.Digits.{read_pass, read_stop, read_end, read_room}
use Rattle.capture.proofs.spelling.number.Goals as goal

pub loop-code-init : goal.loop-code-init
unfolding number_read
loop-code-init c = record { small = omega arith; read = refl }

pub returns-then-base-value : goal.returns-then-base-value
returns-then-base-value c =
    let l = c.loop-code in
    let a = c.args in
    let h : l.code-index < length a.part.now = omega arith in
    let v : a.base ≤ value_of (get_or a.part.now l.code-index 0) = rw (← c.value_of-value.ensures) c.if-base-value.true in
    sym (l.invariant.read ∙ read_stop a.base l.number a.part.now l.code-index h v)

pub overflow_mul-number : goal.overflow_mul-number
overflow_mul-number c =
    let l = c.loop-code in
    let a = c.args in
    let r = read_room a.base l.number c.value_of-value.result l.code-index (omega arith) (omega arith) (omega arith) l.invariant.small in
    omega arith

pub overflow_add-number : goal.overflow_add-number
overflow_add-number c =
    let l = c.loop-code in
    let a = c.args in
    let r = read_room a.base l.number c.value_of-value.result l.code-index (omega arith) (omega arith) (omega arith) l.invariant.small in
    omega arith

pub loop-code-preserved : goal.loop-code-preserved
loop-code-preserved c =
    let l = c.loop-code in
    let a = c.args in
    let r = read_room a.base l.number c.value_of-value.result l.code-index (omega arith) (omega arith) (omega arith) l.invariant.small in
    let h : l.code-index < length a.part.now = omega arith in
    let g : c.value_of-value.result < a.base = omega arith in
    let v : value_of (get_or a.part.now l.code-index 0) < a.base = rw (← c.value_of-value.ensures) g in
    record { small = r.0; read = l.invariant.read ∙ read_pass a.base l.number a.part.now l.code-index h v ∙ rw (← c.value_of-value.ensures) }

pub returns : goal.returns
returns c =
    let l = c.loop-code in
    let a = c.args in
    let h : length a.part.now ≤ l.code-index = omega arith in
    sym (l.invariant.read ∙ read_end a.base l.number a.part.now l.code-index h)
