-- `command::acknowledge` meets its contract. Assumes nothing.
use Rattle.std.specs.Prelude.{Err}
use mathlib.Core.Path.{refl, sym, ap, ◌∙◌}
use Rattle.command.specs.Acknowledgment.{acknowledgment_frame}
use Rattle.claim.specs.declared.Place.{Place}
use Rattle.claim.proofs.Calls.{sound_well}
use Rattle.command.specs.declared.NotAcknowledged.TheVariants.{BrokenState, RequesterNotAllowed, ListMalformed}
use Rattle.command.specs.declared.NotAcknowledged.TheVariants.{DgnTooLarge, NoAddressHeld}
use Rattle.claim.specs.Promises.{stands_at}
use Rattle.command.specs.Handed.{address_held}
use Rattle.words.specs.Words.{refused}
use Rattle.command.proofs.Answers.{formed_acknowledged, bare_acknowledged_lem, acknowledged_broken}
use Rattle.command.proofs.Answers.{acknowledged_nobody, acknowledged_ill, acknowledged_large, acknowledged_held}
use Rattle.command.proofs.Answers.{acknowledged_unheld}
use Rattle.command.proofs.acknowledge.Goals as goal

pub returns-then-not-keeps_rules : goal.returns-then-not-keeps_rules
returns-then-not-keeps_rules c =
    let k = sym c.keeps_rules.ensures.answer ∙ c.if-not-keeps_rules.true in
    rw (acknowledged_broken _ _ k) (bare_acknowledged_lem (refused 2) (Err BrokenState) _ refl refl c.bare.ensures)

pub returns-then-reply-gt-GREATEST_ADDRESS : goal.returns-then-reply-gt-GREATEST_ADDRESS
returns-then-reply-gt-GREATEST_ADDRESS c =
    let k = sym c.keeps_rules.ensures.answer ∙ c.if-not-keeps_rules.false in
    rw (acknowledged_nobody _ c.args.reply k c.if-reply-gt-GREATEST_ADDRESS.true) (bare_acknowledged_lem (refused 6) (Err RequesterNotAllowed) _ refl refl c.bare-then-reply-gt-GREATEST_ADDRESS.ensures)

pub returns-then-not-holds_list : goal.returns-then-not-holds_list
returns-then-not-holds_list c =
    let k = sym c.keeps_rules.ensures.answer ∙ c.if-not-keeps_rules.false in
    rw (acknowledged_ill _ c.args.reply k c.if-reply-gt-GREATEST_ADDRESS.false (sym c.holds_list.ensures.answer ∙ c.if-not-holds_list.true)) (bare_acknowledged_lem (refused 16) (Err ListMalformed) _ refl refl c.bare-then-not-holds_list.ensures)

pub returns-then-reply-gt-GREATEST_DGN : goal.returns-then-reply-gt-GREATEST_DGN
returns-then-reply-gt-GREATEST_DGN c =
    let k = sym c.keeps_rules.ensures.answer ∙ c.if-not-keeps_rules.false in
    rw (acknowledged_large _ c.args.reply k c.if-reply-gt-GREATEST_ADDRESS.false (sym c.holds_list.ensures.answer ∙ c.if-not-holds_list.false) c.if-reply-gt-GREATEST_DGN.true) (bare_acknowledged_lem (refused 17) (Err DgnTooLarge) _ refl refl c.bare-then-reply-gt-GREATEST_DGN.ensures)

pub of-requires : goal.of-requires
of-requires c =
    let k = sym c.keeps_rules.ensures.answer ∙ c.if-not-keeps_rules.false in
    let l = sym c.holds_list.ensures.answer ∙ c.if-not-holds_list.false in
    (sound_well _ k l).1

pub returns-in-Held : goal.returns-in-Held
unfolding address_held
returns-in-Held c =
    let a = c.args in
    let k = sym c.keeps_rules.ensures.answer ∙ c.if-not-keeps_rules.false in
    let l = sym c.holds_list.ensures.answer ∙ c.if-not-holds_list.false in
    rw (acknowledged_held a.claim a.reply _ _ (sym c.of.ensures) (ap (λ (x : Place). address_held (stands_at x)) c.in-Held.is) k c.if-reply-gt-GREATEST_ADDRESS.false l c.if-reply-gt-GREATEST_DGN.false) (formed_acknowledged (acknowledgment_frame c.in-Held.from a.reply) _ _ c.id_of.ensures c.bytes_of.ensures)

pub returns-in-Claiming : goal.returns-in-Claiming
unfolding address_held
returns-in-Claiming c =
    let a = c.args in
    let k = sym c.keeps_rules.ensures.answer ∙ c.if-not-keeps_rules.false in
    let l = sym c.holds_list.ensures.answer ∙ c.if-not-holds_list.false in
    rw (acknowledged_unheld a.claim a.reply _ (sym c.of.ensures) (ap (λ (x : Place). address_held (stands_at x)) c.in-Claiming.is) k c.if-reply-gt-GREATEST_ADDRESS.false l c.if-reply-gt-GREATEST_DGN.false) (bare_acknowledged_lem (refused 18) (Err NoAddressHeld) _ refl refl c.bare-in-Claiming.ensures)

pub returns-in-Silent : goal.returns-in-Silent
unfolding address_held
returns-in-Silent c =
    let a = c.args in
    let k = sym c.keeps_rules.ensures.answer ∙ c.if-not-keeps_rules.false in
    let l = sym c.holds_list.ensures.answer ∙ c.if-not-holds_list.false in
    rw (acknowledged_unheld a.claim a.reply _ (sym c.of.ensures) (ap (λ (x : Place). address_held (stands_at x)) c.in-Silent.is) k c.if-reply-gt-GREATEST_ADDRESS.false l c.if-reply-gt-GREATEST_DGN.false) (bare_acknowledged_lem (refused 18) (Err NoAddressHeld) _ refl refl c.bare-in-Silent.ensures)
