-- `faults::read_service_point` meets its contract. Assumes nothing.
use mathlib.Core.Path.{◌∙◌}
use Rattle.catalogue.specs.Promises.{number_of_not_read}
use Rattle.catalogue.proofs.Found.{handed}
use Rattle.faults.proofs.Parts.{high_refused, middle_refused, low_refused, parts_below, parts_joined}
use Rattle.faults.proofs.read_service_point.Goals as goal

pub returns-in_err-high : goal.returns-in_err-high
returns-in_err-high c =
    let a = c.args in
    let why = c.in_err-high.field-0.0 in
    record {
      answer = handed number_of_not_read c.from_residual.result why c.from_residual.ensures.1
          ∙ high_refused a.id a.bytes.now (number_of_not_read why) c.in_err-high.ensures.answer;
    }

pub returns-in_err-middle : goal.returns-in_err-middle
returns-in_err-middle c =
    let a = c.args in
    let why = c.in_err-middle.field-0.0 in
    let f = c.from_residual-in_err-middle in
    record {
      answer = handed number_of_not_read f.result why f.ensures.1
          ∙ middle_refused a.id a.bytes.now c.in_ok-high.high c.in_ok-high.ensures.answer (number_of_not_read why) c.in_err-middle.ensures.answer;
    }

pub returns-in_err-low : goal.returns-in_err-low
returns-in_err-low c =
    let a = c.args in
    let why = c.in_err-low.field-0.0 in
    let f = c.from_residual-in_err-low in
    record {
      answer = handed number_of_not_read f.result why f.ensures.1
          ∙ low_refused a.id a.bytes.now c.in_ok-high.high c.in_ok-high.ensures.answer c.in_ok-middle.middle c.in_ok-middle.ensures.answer
          (number_of_not_read why) c.in_err-low.ensures.answer;
    }

pub join-requires : goal.join-requires
join-requires c =
    let a = c.args in
    parts_below a.id a.bytes.now c.in_ok-high.high c.in_ok-high.ensures.answer c.in_ok-middle.middle c.in_ok-middle.ensures.answer
    c.in_ok-low.low c.in_ok-low.ensures.answer

pub returns : goal.returns
returns c =
    let a = c.args in
    record {
      answer = parts_joined a.id a.bytes.now c.in_ok-high.high c.in_ok-high.ensures.answer c.in_ok-middle.middle
          c.in_ok-middle.ensures.answer c.in_ok-low.low _ c.in_ok-low.ensures.answer c.join.ensures;
    }
