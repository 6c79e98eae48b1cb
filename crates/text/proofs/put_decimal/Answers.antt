-- `text::put_decimal` meets its contract. Assumes nothing.
use mathlib.Core.Path.{sym, ◌∙◌}
use Prim.Native.Nat.{◌+◌, ◌≤◌, ◌<◌, ◌^◌}
use native.Mathlib.Omega.{arith}
use lib.ListN.{length}
use Rattle.text.specs.Text.{decimal_width, decimal}
use Rattle.text.proofs.Digits.{length_decimal, width_most}
use Rattle.text.proofs.Pieces.{has_room, no_room, keyed_fits, keyed_none}
use Rattle.text.proofs.put_decimal.Goals as goal

pub overflow_add-key : goal.overflow_add-key
overflow_add-key c =
    let a = c.args in
    let n : a.number < 10 ^ 20 = omega arith in
    let w : decimal_width a.number ≤ 20 = width_most a.number 20 (omega arith) n in
    omega (arith, c.decimal_width-width.ensures.width)

pub returns-then-not-fits : goal.returns-then-not-fits
returns-then-not-fits c =
    let w = c.decimal_width-width in
    let a = c.args in
    let h = no_room (length a.out.now) a.at (length a.key.now + w.result) c.fits.ensures
    c.if-not-fits.true-raw in
    keyed_none a.at w.result a.key.now (decimal a.number)
    (w.ensures.width ∙ sym (length_decimal a.number)) h

pub put_word-from-requires : goal.put_word-from-requires
put_word-from-requires c =
    let a = c.args in
    let h = has_room (length a.out.now) a.at (length a.key.now + c.decimal_width-width.result)
    c.fits.ensures c.if-not-fits.false-raw in
    omega arith

pub put_digits-requires : goal.put_digits-requires
put_digits-requires c =
    let a = c.args in
    let h = has_room (length a.out.now) a.at (length a.key.now + c.decimal_width-width.result)
    c.fits.ensures c.if-not-fits.false-raw in
    (omega arith, omega arith, omega arith)

pub returns : goal.returns
unfolding decimal
returns c =
    let w = c.decimal_width-width in
    let a = c.args in
    let h = has_room (length a.out.now) a.at (length a.key.now + w.result) c.fits.ensures
    c.if-not-fits.false-raw in
    keyed_fits a.at w.result a.key.now (decimal a.number)
    (w.ensures.width ∙ sym (length_decimal a.number)) h
    c.put_word-from.ensures.0 c.put_word-from.ensures.1 (rw (← w.ensures.width) c.put_digits.ensures.0)
    c.put_digits.ensures.1
