-- `faults::service_point::write_parts` meets its contract. Assumes nothing.
use Rattle.faults.proofs.Parts.{high_not, middle_not, parts_written}
use Rattle.faults.proofs.service_point.write_parts.Goals as goal

pub returns-in_err-write : goal.returns-in_err-write
returns-in_err-write c =
    let a = c.args in
    absurd (high_not a.id a.bytes.now a.number _ _ c.requires.has_service_point c.requires.number_lt_service_points
    c.value_of.ensures c.in_err-write.field-0.0 c.in_err-write.ensures)

pub returns-in_err-write-2 : goal.returns-in_err-write-2
returns-in_err-write-2 c =
    let a = c.args in
    absurd (middle_not a.id a.bytes.now a.number _ _ c.requires.has_service_point c.requires.number_lt_service_points
    c.value_of.ensures _ _ _ c.in_err-write-2.field-0.0 c.write.ensures c.value_of-2.ensures c.in_err-write-2.ensures)

pub returns : goal.returns
returns c =
    parts_written c.args.id c.args.bytes.now c.args.number _ _ _ _ _ _ _ _ _ c.requires.has_service_point c.requires.number_lt_service_points
    c.value_of.ensures c.write.ensures
    c.value_of-2.ensures c.write-2.ensures
    c.value_of-3.ensures c.write-3.ensures
