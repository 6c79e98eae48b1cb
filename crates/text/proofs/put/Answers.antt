-- `text::put` meets its contract. Assumes nothing.
use mathlib.Core.Path.{refl}
use lib.ListN.{length}
use Rattle.text.proofs.Pieces.{has_room, no_room, put_fits, put_none}
use Rattle.text.proofs.put.Goals as goal

pub returns-then-not-fits : goal.returns-then-not-fits
returns-then-not-fits c =
    let a = c.args in
    let word = a.word.now in
    put_none a.at (length word) word refl
    (no_room (length a.out.now) a.at (length word) c.fits.ensures c.if-not-fits.true-raw)

pub put_word-requires : goal.put_word-requires
put_word-requires c =
    let a = c.args in
    has_room (length a.out.now) a.at (length a.word.now) c.fits.ensures c.if-not-fits.false-raw

pub returns : goal.returns
returns c =
    let a = c.args in
    let word = a.word.now in
    let h = has_room (length a.out.now) a.at (length word) c.fits.ensures c.if-not-fits.false-raw in
    put_fits a.at (length word) word refl h c.put_word.ensures.0 c.put_word.ensures.1
