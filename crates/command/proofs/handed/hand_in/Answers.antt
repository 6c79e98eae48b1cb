-- `command::handed::hand_in` meets its contract. Assumes nothing.
use Rattle.std.proofs.lemmas.Result.{err_from_is_err_and}
use mathlib.Core.Path.{sym, ◌∙◌}
use Rattle.command.proofs.Handing.{handed_broken, handed_bad, handed_ill, handed_unhosted, handed_given, handed_refused}
use Rattle.command.proofs.handed.hand_in.Goals as goal

pub returns-then-not-keeps_rules : goal.returns-then-not-keeps_rules
returns-then-not-keeps_rules c =
    let k = sym c.keeps_rules.ensures.answer ∙ c.if-not-keeps_rules.true in
    handed_refused _ _ _ _ 2 (handed_broken _ _ _ _ k)

pub returns-in_err-parts : goal.returns-in_err-parts
returns-in_err-parts c =
    let k = sym c.keeps_rules.ensures.answer ∙ c.if-not-keeps_rules.false in
    let p = err_from_is_err_and c.from_residual.result c.from_residual.ensures.1 in
    rw (p.1, p.2)
    (handed_refused _ _ _ _ _ (handed_bad _ _ _ _ _ _ k c.check-checked.ensures.answer c.in_err-parts.was))

pub returns-then-not-holds_list : goal.returns-then-not-holds_list
returns-then-not-holds_list c =
    let k = sym c.keeps_rules.ensures.answer ∙ c.if-not-keeps_rules.false in
    let l = sym c.holds_list.ensures.answer ∙ c.if-not-holds_list.true in
    handed_refused _ _ _ _ 16 (handed_ill _ _ _ _ _ _ k c.check-checked.ensures.answer c.in_ok-parts.was l)

pub returns-then-not-well_formed : goal.returns-then-not-well_formed
returns-then-not-well_formed c =
    let k = sym c.keeps_rules.ensures.answer ∙ c.if-not-keeps_rules.false in
    let l = sym c.holds_list.ensures.answer ∙ c.if-not-holds_list.false in
    let w = sym c.well_formed-2.ensures ∙ c.if-not-well_formed.true in
    handed_refused _ _ _ _ 16 (handed_unhosted _ _ _ _ _ _ k c.check-checked.ensures.answer c.in_ok-parts.was l w)

pub returns : goal.returns
returns c =
    let k = sym c.keeps_rules.ensures.answer ∙ c.if-not-keeps_rules.false in
    let l = sym c.holds_list.ensures.answer ∙ c.if-not-holds_list.false in
    let w = sym c.well_formed-2.ensures ∙ c.if-not-well_formed.false in
    handed_given _ _ _ _ _ _ k c.check-checked.ensures.answer c.in_ok-parts.was _ c.check-checked.ensures.data_bytes l w
