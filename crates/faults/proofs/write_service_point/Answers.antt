-- `faults::write_service_point` meets its contract. Assumes nothing.
use mathlib.Core.Path.{sym, ◌∙◌}
use Rattle.catalogue.specs.Promises.{number_of_not_read}
use Rattle.catalogue.specs.Private.{not_written}
use Rattle.catalogue.proofs.Found.{handed_write, same_number}
use Rattle.faults.proofs.Parts.{write_keeps}
use Rattle.faults.proofs.write_service_point.Goals as goal

pub returns-in_err-read_service_point : goal.returns-in_err-read_service_point
returns-in_err-read_service_point c =
    let a = c.args in
    let why = c.in_err-read_service_point.field-0.0 in
    let t = handed_write c.from_residual.result (not_written why) c.from_residual.ensures.1 ∙ same_number why in
    write_keeps a.id a.bytes.now a.number _ (number_of_not_read why) t (sym c.in_err-read_service_point.ensures.answer)

pub write-requires : goal.write-requires
write-requires c = record { number = c.in_ok-read_service_point.field-0; is = sym c.in_ok-read_service_point.ensures.answer }
