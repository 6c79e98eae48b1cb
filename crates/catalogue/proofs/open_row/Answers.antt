-- `catalogue::open_row` meets its contract. Assumes nothing.
use mathlib.Core.Path.{sym, ap, ◌∙◌}
use lib.ListN.{length}
use Rattle.words.specs.Words.{gives}
use Rattle.frame.specs.Bytes.{number_of}
use Rattle.frame.specs.Promises.{told_verdict, refusal_of}
use Rattle.catalogue.specs.Promises.{number_of_not_read}
use Rattle.catalogue.specs.declared.NotRead.TheVariants.{BadFrame}
use Rattle.catalogue.proofs.Found.{handed, number_none, number_other, number_given, sound_bytes}
use Rattle.catalogue.proofs.open_row.Goals as goal

pub returns-in_err-parts : goal.returns-in_err-parts
returns-in_err-parts c =
    let a = c.args in
    let bs = a.bytes.now in
    let why = c.in_err-parts.field-0.0 in
    let e = sym c.check-checked.ensures.answer ∙ ap told_verdict c.in_err-parts.was in
    record {
      answer = handed number_of_not_read c.from_residual.result (BadFrame why) c.from_residual.ensures.1
          ∙ number_none a.row a.id (length bs) (number_of bs) (refusal_of why) e;
    }

pub returns-then-not-is_of : goal.returns-then-not-is_of
returns-then-not-is_of c =
    let a = c.args in
    let bs = a.bytes.now in
    let e = sym c.check-checked.ensures.answer ∙ ap told_verdict c.in_ok-parts.was in
    record { answer = number_other a.row a.id (length bs) (number_of bs) c.in_ok-parts.parts e (sym c.is_of.ensures ∙ c.if-not-is_of.true) }

pub returns : goal.returns
returns c =
    let a = c.args in
    let bs = a.bytes.now in
    let k = c.check-checked.ensures in
    let e = sym k.answer ∙ ap told_verdict c.in_ok-parts.was in
    let m = c.number_of.ensures.answer ∙ ap number_of (k.data_bytes ∙ sound_bytes a.id bs c.in_ok-parts.parts e) in
    record { answer = ap gives m ∙ number_given a.row a.id (length bs) (number_of bs) c.in_ok-parts.parts e (sym c.is_of.ensures ∙ c.if-not-is_of.false) }
