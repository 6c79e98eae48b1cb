-- `catalogue::write_row` meets its contract. Assumes nothing.
use mathlib.Core.Path.{sym, ap, ◌∙◌}
use Rattle.words.specs.Words.{refused}
use Rattle.frame.specs.Frame.{frame_bytes}
use Rattle.frame.specs.Bytes.{bytes_of}
use Rattle.catalogue.specs.Field.{with_field}
use Rattle.catalogue.specs.Catalogue.{replaced}
use Rattle.catalogue.specs.Private.{told_coded, not_written}
use Rattle.catalogue.specs.Promises.{number_of_not_read, number_of_not_written}
use Rattle.catalogue.specs.declared.NotWritten.{NotWritten}
use Rattle.catalogue.proofs.Found.{opened_none, opened_row, found, found_frame, write_none, write_uncoded, write_row}
use Rattle.catalogue.proofs.Found.{write_keeps, write_gives, handed_write, same_number, uncoded}
use Rattle.catalogue.proofs.Codes.{code_given}
use Rattle.catalogue.proofs.write_row.Goals as goal

pub returns-in_err-number : goal.returns-in_err-number
returns-in_err-number c =
    let a = c.args in
    let why = c.in_err-number.field-0.0 in
    let e = opened_none a.row a.id a.bytes.now (number_of_not_read why) c.in_err-number.ensures.answer in
    let t = handed_write c.from_residual.result (not_written why) c.from_residual.ensures.1 ∙ same_number why in
    write_keeps a.row a.id a.bytes.now a.value _ (number_of_not_read why) t (write_none a.row a.id a.bytes.now a.value _ e)

pub code_of-requires : goal.code_of-requires
code_of-requires c =
    let a = c.args in
    let o = opened_row a.row a.id a.bytes.now c.in_ok-number.number c.in_ok-number.ensures.answer in
    found_frame a.row a.id _ a.row o.0

pub returns-in_err-code : goal.returns-in_err-code
returns-in_err-code c =
    let a = c.args in
    let o = opened_row a.row a.id a.bytes.now c.in_ok-number.number c.in_ok-number.ensures.answer in
    let f = sym c.code_of.ensures ∙ ap told_coded c.in_err-code.ensures.ok_part in
    let w = c.in_err-code.field-0.0 in
    let n = ap (λ (x : NotWritten). refused (number_of_not_written x)) (uncoded c.code_of.result w c.in_err-code.ensures.ok_part c.in_err-code.ensures.value) in
    write_keeps a.row a.id a.bytes.now a.value _ 12 (handed_write c.from_residual-in_err-code.result w c.from_residual-in_err-code.ensures.1 ∙ n)
    (write_uncoded a.row a.id a.bytes.now a.value a.row 12 o.0 f)

pub put-requires-clause-in_frame : goal.put-requires-clause-in_frame
put-requires-clause-in_frame c =
    let a = c.args in
    let o = opened_row a.row a.id a.bytes.now c.in_ok-number.number c.in_ok-number.ensures.answer in
    found_frame a.row a.id _ a.row o.0

pub put-requires-clause-code_bound : goal.put-requires-clause-code_bound
put-requires-clause-code_bound c =
    let a = c.args in
    (code_given a.row a.value c.in_ok-code.code (sym c.code_of.ensures ∙ ap told_coded c.in_ok-code.ensures.ok_part)).fits

pub store-requires : goal.store-requires
store-requires c =
    let a = c.args in
    let o = opened_row a.row a.id a.bytes.now c.in_ok-number.number c.in_ok-number.ensures.answer in
    (found a.row a.id _ a.row o.0).eight

pub returns : goal.returns
unfolding replaced
returns c =
    let a = c.args in
    let bs = a.bytes.now in
    let code = c.in_ok-code.code in
    let o = opened_row a.row a.id bs c.in_ok-number.number c.in_ok-number.ensures.answer in
    let f = sym c.code_of.ensures ∙ ap told_coded c.in_ok-code.ensures.ok_part in
    let p = c.put.ensures ∙ ap (with_field a.row.first a.row.width code) o.1 in
    write_gives a.row a.id bs a.value (replaced a.row code bs) _ (write_row a.row a.id bs a.value a.row code o.0 f) (c.store.ensures ∙ ap (bytes_of frame_bytes) p)
