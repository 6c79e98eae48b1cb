-- `mend::fields::field` meets its contract. Assumes nothing.
use mathlib.Core.Path.{sym, ◌∙◌}
use native.Mathlib.Omega.{arith}
use Rattle.mend.proofs.Finding.{field_missing, field_there, key_fits}
use Rattle.mend.proofs.fields.field.Goals as goal

pub returns-then-not-begins : goal.returns-then-not-begins
returns-then-not-begins c =
    let a = c.args in
    field_missing a.line.now a.at a.key.now a.base (sym c.begins.ensures ∙ c.if-not-begins.true)

pub digits_to-requires : goal.digits_to-requires
digits_to-requires c =
    let a = c.args in
    key_fits a.line.now a.at a.key.now (sym c.begins.ensures ∙ c.if-not-begins.false) (omega arith)

pub returns : goal.returns
returns c =
    let a = c.args in
    let e = sym c.begins.ensures ∙ c.if-not-begins.false in
    field_there a.line.now a.at a.key.now a.base c.digits_to.result e (omega arith) c.digits_to.ensures
