-- `capture::spelling::value_of` meets its contract. Assumes nothing.
use mathlib.Core.Path.{sym}
use Prim.Native.Nat.{◌+◌, ◌*◌, ◌/◌, ◌%◌}
use native.Mathlib.Omega.{arith}
use Rattle.capture.proofs.Digits.{value_right, value_none}
use Rattle.capture.proofs.spelling.value_of.Goals as goal

pub returns-then-value-ge16 : goal.returns-then-value-ge16
returns-then-value-ge16 c = sym (value_none c.args.code (λ l e. omega arith))

pub returns-then-value-wide : goal.returns-then-value-wide
returns-then-value-wide c = sym (value_none c.args.code (λ l e. c.if-value-wide.true e))

pub returns : goal.returns
returns c =
    let code = c.args.code in
    value_right code (code % 16 + code / 64 * 9) (omega arith) c.if-value-wide.false
