-- `catalogue::read_row_scaled` meets its contract. Assumes nothing.
use mathlib.Core.Path.{ap, ◌∙◌}
use Rattle.words.specs.Words.{gives}
use Rattle.catalogue.specs.Scale.{value_of}
use Rattle.catalogue.specs.Promises.{number_of_not_read}
use Rattle.catalogue.proofs.Found.{handed, field_none, field_read, field_small, scaled_none, scaled_row}
use Rattle.catalogue.proofs.read_row_scaled.Goals as goal

pub returns-in_err-field : goal.returns-in_err-field
returns-in_err-field c =
    let a = c.args in
    let why = c.in_err-field.field-0.0 in
    let e = field_none a.row a.id a.bytes.now (number_of_not_read why) c.in_err-field.ensures.answer in
    record { answer = handed number_of_not_read c.from_residual.result why c.from_residual.ensures.1 ∙ scaled_none a.row a.id a.bytes.now _ e }

pub value_in-requires : goal.value_in-requires
value_in-requires c = let a = c.args in field_small a.row a.id a.bytes.now c.in_ok-field.field c.in_ok-field.ensures.answer

pub returns : goal.returns
returns c =
    let a = c.args in
    let f = field_read a.row a.id a.bytes.now c.in_ok-field.field c.in_ok-field.ensures.answer in
    record { answer = ap gives (c.value_in.ensures ∙ ap (value_of a.row) f.1) ∙ scaled_row a.row a.id a.bytes.now a.row f.0 }
