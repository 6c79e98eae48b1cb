-- `catalogue::read_row` meets its contract. Assumes nothing.
use mathlib.Core.Path.{ap, ◌∙◌}
use Rattle.words.specs.Words.{gives}
use Rattle.catalogue.specs.Catalogue.{field_in}
use Rattle.catalogue.specs.Promises.{number_of_not_read}
use Rattle.catalogue.proofs.Found.{handed, opened_none, opened_row, read_none, read_row}
use Rattle.catalogue.proofs.read_row.Goals as goal

pub returns-in_err-number : goal.returns-in_err-number
returns-in_err-number c =
    let a = c.args in
    let why = c.in_err-number.field-0.0 in
    let e = opened_none a.row a.id a.bytes.now (number_of_not_read why) c.in_err-number.ensures.answer in
    record { answer = handed number_of_not_read c.from_residual.result why c.from_residual.ensures.1 ∙ read_none a.row a.id a.bytes.now _ e }

pub returns : goal.returns
returns c =
    let a = c.args in
    let o = opened_row a.row a.id a.bytes.now c.in_ok-number.number c.in_ok-number.ensures.answer in
    record { answer = ap gives (c.classify.ensures.answer ∙ ap (field_in a.row) o.1) ∙ read_row a.row a.id a.bytes.now a.row o.0 }
