-- `wall::tile_line::digits` is safe and ends. Assumes nothing.
use Rattle.std.proofs.Common.{arith}
use Rattle.capture.proofs.Digits.{read_room}
use Rattle.wall.proofs.tile_line.digits.Goals as goal

pub overflow_mul-value : goal.overflow_mul-value
overflow_mul-value c =
    let l = c.loop-count in
    let a = c.args in
    let r = read_room a.base l.value c.value_of-digit.result l.count (omega arith) (omega arith)
    (omega arith) l.invariant in
    omega arith

pub overflow_add-value : goal.overflow_add-value
overflow_add-value c =
    let l = c.loop-count in
    let a = c.args in
    let r = read_room a.base l.value c.value_of-digit.result l.count (omega arith) (omega arith)
    (omega arith) l.invariant in
    omega arith

pub loop-count-preserved : goal.loop-count-preserved
loop-count-preserved c =
    let l = c.loop-count in
    let a = c.args in
    let r = read_room a.base l.value c.value_of-digit.result l.count (omega arith) (omega arith)
    (omega arith) l.invariant in
    r.0
