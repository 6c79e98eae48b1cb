-- `claim::contest::answer_to` meets its contract. Assumes nothing.
use Rattle.std.proofs.lemmas.Result.{err_from_is_err_and}
use mathlib.Core.Path.{sym, ◌∙◌}
use Rattle.claim.proofs.Calls.{heard_broken, heard_bad, heard_sound}
use Rattle.claim.proofs.Sound.{rules_of}
use Rattle.claim.proofs.contest.answer_to.Goals as goal

pub returns-then-not-keeps_rules : goal.returns-then-not-keeps_rules
returns-then-not-keeps_rules c = sym (heard_broken _ _ _ (sym c.keeps_rules.ensures.answer ∙ c.if-not-keeps_rules.true))

pub meet-requires : goal.meet-requires
meet-requires c = (rules_of _ (sym c.keeps_rules.ensures.answer ∙ c.if-not-keeps_rules.false)).inside

pub returns-in_err-parts : goal.returns-in_err-parts
returns-in_err-parts c =
    let k = sym c.keeps_rules.ensures.answer ∙ c.if-not-keeps_rules.false in
    let p = err_from_is_err_and c.from_residual.result c.from_residual.ensures.1 in
    rw (p.1, p.2) (heard_bad _ _ _ _ _ k c.check-checked.ensures.answer c.in_err-parts.was)

pub returns : goal.returns
returns c = c.meet.ensures ∙ heard_sound _ _ _ _ _ _ (sym c.keeps_rules.ensures.answer ∙ c.if-not-keeps_rules.false) c.check-checked.ensures.answer c.check-checked.ensures.data_bytes c.in_ok-parts.was
