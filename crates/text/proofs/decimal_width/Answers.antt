-- `text::decimal_width` meets its contract. The loop's invariant: the digits that are counted, and those of the rest,
-- are one more than the number has. Assumes nothing.
use native.Mathlib.Omega.{arith}
use Rattle.text.proofs.Digits.{width_one, width_more}
use Rattle.text.proofs.decimal_width.Goals as goal

pub loop-rest-init : goal.loop-rest-init
loop-rest-init c = (omega arith, omega arith)

pub loop-rest-smaller : goal.loop-rest-smaller
loop-rest-smaller c = omega arith

pub loop-rest-preserved : goal.loop-rest-preserved
loop-rest-preserved c =
    let l = c.loop-rest in
    let w = width_more l.rest (omega arith) in
    (omega arith, omega (arith, l.invariant.1, w))

pub returns : goal.returns
returns c =
    let l = c.loop-rest in
    let w = width_one l.rest (omega arith) in
    record { width = omega (arith, l.invariant.1, w) }
