-- `text::put_bytes` meets its contract. Assumes nothing.
use mathlib.Core.Path.{sym}
use Prim.Native.Nat.{◌+◌, ◌*◌}
use native.Mathlib.Omega.{arith}
use lib.ListN.{length}
use Rattle.text.specs.Text.{byte_pairs}
use Rattle.text.proofs.Digits.{length_pairs}
use Rattle.text.proofs.Pieces.{has_room, no_room, keyed_fits, keyed_none}
use Rattle.text.proofs.put_bytes.Goals as goal

pub returns-then-out-bytes : goal.returns-then-out-bytes
returns-then-out-bytes c =
    let a = c.args in
    let bytes = a.bytes.now in
    keyed_none a.at (2 * length bytes) a.key.now (byte_pairs bytes) (sym (length_pairs bytes)) (omega arith)

pub returns-then-not-fits : goal.returns-then-not-fits
returns-then-not-fits c =
    let a = c.args in
    let bytes = a.bytes.now in
    let h = no_room (length a.out.now) a.at (length a.key.now + 2 * length bytes) c.fits.ensures
    c.if-not-fits.true-raw in
    keyed_none a.at (2 * length bytes) a.key.now (byte_pairs bytes) (sym (length_pairs bytes)) h

pub put_word-from-requires : goal.put_word-from-requires
put_word-from-requires c =
    let a = c.args in
    let h = has_room (length a.out.now) a.at (length a.key.now + 2 * length a.bytes.now)
    c.fits.ensures c.if-not-fits.false-raw in
    omega arith

pub put_pairs-requires : goal.put_pairs-requires
put_pairs-requires c =
    let a = c.args in
    let h = has_room (length a.out.now) a.at (length a.key.now + 2 * length a.bytes.now)
    c.fits.ensures c.if-not-fits.false-raw in
    omega arith

pub returns : goal.returns
returns c =
    let a = c.args in
    let bytes = a.bytes.now in
    let h = has_room (length a.out.now) a.at (length a.key.now + 2 * length bytes) c.fits.ensures
    c.if-not-fits.false-raw in
    keyed_fits a.at (2 * length bytes) a.key.now (byte_pairs bytes) (sym (length_pairs bytes)) h
    c.put_word-from.ensures.0 c.put_word-from.ensures.1 c.put_pairs.ensures.0 (omega arith)
