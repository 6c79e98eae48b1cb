-- `text::put_hex` meets its contract. Assumes nothing.
use mathlib.Core.Path.{sym}
use Prim.Native.Nat.{◌+◌}
use native.Mathlib.Omega.{arith}
use lib.ListN.{length}
use Rattle.text.specs.Text.{digits}
use Rattle.text.proofs.Digits.{length_digits}
use Rattle.text.proofs.Pieces.{has_room, no_room, keyed_fits, keyed_none}
use Rattle.text.proofs.put_hex.Goals as goal

pub returns-then-out-count : goal.returns-then-out-count
returns-then-out-count c =
    let a = c.args in
    keyed_none a.at a.count a.key.now (digits 16 a.count a.number)
    (sym (length_digits 16 a.count a.number)) (omega arith)

pub returns-then-not-fits : goal.returns-then-not-fits
returns-then-not-fits c =
    let a = c.args in
    let h = no_room (length a.out.now) a.at (length a.key.now + a.count) c.fits.ensures
    c.if-not-fits.true-raw in
    keyed_none a.at a.count a.key.now (digits 16 a.count a.number)
    (sym (length_digits 16 a.count a.number)) h

pub put_word-from-requires : goal.put_word-from-requires
put_word-from-requires c =
    let a = c.args in
    let h = has_room (length a.out.now) a.at (length a.key.now + a.count) c.fits.ensures
    c.if-not-fits.false-raw in
    omega arith

pub put_digits-requires : goal.put_digits-requires
put_digits-requires c =
    let a = c.args in
    let h = has_room (length a.out.now) a.at (length a.key.now + a.count) c.fits.ensures
    c.if-not-fits.false-raw in
    (omega arith, omega arith, omega arith)

pub returns : goal.returns
returns c =
    let a = c.args in
    let h = has_room (length a.out.now) a.at (length a.key.now + a.count) c.fits.ensures
    c.if-not-fits.false-raw in
    let n = sym (length_digits 16 a.count a.number) in
    keyed_fits a.at a.count a.key.now (digits 16 a.count a.number) n h
    c.put_word-from.ensures.0 c.put_word-from.ensures.1 c.put_digits.ensures.0 c.put_digits.ensures.1
