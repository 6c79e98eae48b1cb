-- `mend::line::mend` meets its contract. Assumes nothing.
use mathlib.Core.Path.{◌≡◌, sym, ◌∙◌}
use Prim.Native.Nat.{◌+◌, ◌-◌}
use native.Mathlib.Omega.{arith}
use lib.ListN.{length}
use Rattle.words.specs.Words.{gives}
use Rattle.mend.specs.Mending.{parts_in}
use Rattle.mend.specs.Places.{parts_at, PlacesFit}
use Rattle.mend.proofs.Finding.{id_length}
use Rattle.mend.proofs.Putting.{no_fields, no_digit, unsound, kept_so}
use Rattle.mend.proofs.line.mend.Goals as goal

pub returns-in_default : goal.returns-in_default
returns-in_default c =
    no_fields (sym (rw c.in_default.is at c.find.ensures.told))

pub overflow_add-places : goal.overflow_add-places
overflow_add-places c =
    let line = c.args.line.now in
    let places = c.in-Some.places in
    let fit : PlacesFit line places = c.find.ensures.fits places c.in-Some.is in
    omega (arith, fit.id, fit.bytes, fit.within)

pub returns-then-places : goal.returns-then-places
returns-then-places c =
    let line = c.args.line.now in
    let places = c.in-Some.places in
    let fit : PlacesFit line places = c.find.ensures.fits places c.in-Some.is in
    let read : parts_in line ≡ gives (parts_at line places) = sym (rw c.in-Some.is at c.find.ensures.told) in
    let digits : length (parts_at line places).id ≡ places.id_to - (places.gap_to + 4) = id_length line places fit in
    no_digit read (digits ∙ omega (arith, c.if-places.true))

pub put_tidied-to-requires : goal.put_tidied-to-requires
put_tidied-to-requires c =
    let line = c.args.line.now in
    let places = c.in-Some.places in
    let fit : PlacesFit line places = c.find.ensures.fits places c.in-Some.is in
    (omega arith, omega arith, fit)

pub due-requires : goal.due-requires
due-requires c =
    c.find.ensures.fits c.in-Some.places c.in-Some.is

pub returns-in-Ok : goal.returns-in-Ok
returns-in-Ok c =
    let line = c.args.line.now in
    let places = c.in-Some.places in
    let fit : PlacesFit line places = c.find.ensures.fits places c.in-Some.is in
    let read : parts_in line ≡ gives (parts_at line places) = sym (rw c.in-Some.is at c.find.ensures.told) in
    let digits : length (parts_at line places).id ≡ places.id_to - (places.gap_to + 4) = id_length line places fit in
    kept_so line (parts_at line places) read
    (λ z. c.if-places.false (omega (arith, z, digits, fit.id))) c.put_tidied-to.ensures.0 (omega arith) c.take_apart-read.result c.take_apart-read.ensures
    c.due.ensures c.put_tidied-to.ensures.1 c.in-Ok.is

pub returns-in-Err : goal.returns-in-Err
returns-in-Err c =
    let line = c.args.line.now in
    let places = c.in-Some.places in
    let fit : PlacesFit line places = c.find.ensures.fits places c.in-Some.is in
    let read : parts_in line ≡ gives (parts_at line places) = sym (rw c.in-Some.is at c.find.ensures.told) in
    let digits : length (parts_at line places).id ≡ places.id_to - (places.gap_to + 4) = id_length line places fit in
    unsound line (parts_at line places) read
    (λ z. c.if-places.false (omega (arith, z, digits, fit.id))) c.put_tidied-to.ensures.0 (omega arith) c.take_apart-read.result c.take_apart-read.ensures
    c.in-Err.field-0 c.in-Err.is
