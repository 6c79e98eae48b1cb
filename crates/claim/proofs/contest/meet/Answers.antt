-- `claim::contest::meet` meets its contract. Assumes nothing.
use mathlib.Core.Path.{sym, ap, ◌∙◌}
use Prim.Native.Nat.{ℕ}
use native.Mathlib.Omega.{arith}
use Rattle.words.specs.Words.{gives}
use Rattle.claim.specs.Claim.{outcome_of}
use Rattle.claim.proofs.Calls.{met_ill, met_other, met_claim}
use Rattle.claim.proofs.Sound.{holds_of}
use Rattle.claim.proofs.contest.meet.Goals as goal

pub returns-then-not-holds_list : goal.returns-then-not-holds_list
returns-then-not-holds_list c = sym (met_ill _ _ _ (sym c.holds_list.ensures.answer ∙ c.if-not-holds_list.true))

pub returns-then-parts-ne-CLAIM : goal.returns-then-parts-ne-CLAIM
returns-then-parts-ne-CLAIM c = sym (met_other _ _ _ (sym c.holds_list.ensures.answer ∙ c.if-not-holds_list.false) c.if-parts-ne-CLAIM.true)

pub reaction-requires : goal.reaction-requires
reaction-requires c =
    let h = holds_of _ (sym c.holds_list.ensures.answer ∙ c.if-not-holds_list.false) in
    omega arith

pub returns : goal.returns
returns c =
    let h = sym c.holds_list.ensures.answer ∙ c.if-not-holds_list.false in
    ap gives (c.reaction.ensures ∙ ap (λ (n : ℕ). outcome_of c.args.parts.source n c.args.claim) c.number_of.ensures.answer) ∙ sym (met_claim _ _ _ h c.if-parts-ne-CLAIM.false)
