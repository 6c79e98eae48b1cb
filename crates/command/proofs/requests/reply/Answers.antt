-- `command::requests::reply` meets its contract. Assumes nothing.
use Rattle.std.specs.Prelude.{Ok, Err}
use mathlib.Core.Path.{refl, sym, ap, ◌∙◌}
use Rattle.command.specs.declared.Response.TheVariants.{NothingToDo}
use Rattle.command.specs.declared.NotAnswered.TheVariants.{NoAddressHeld}
use Rattle.claim.specs.declared.Place.{Place}
use Rattle.claim.specs.Promises.{stands_at}
use Rattle.command.specs.Private.{asked_by}
use Rattle.command.specs.Requests.{nothing_to_do}
use Rattle.command.specs.Handed.{address_held}
use Rattle.words.specs.Words.{refused, gives}
use Rattle.command.proofs.Answers.{bare_requested_lem, reply_elsewhere, reply_claims, reply_held, reply_unheld}
use Rattle.command.proofs.requests.reply.Goals as goal

pub returns-then-not-is_ours : goal.returns-then-not-is_ours
returns-then-not-is_ours c =
    let a = c.args in
    rw (reply_elsewhere (asked_by a.asked) _ a.claim _ c.of-place.ensures (sym c.is_ours.ensures ∙ c.if-not-is_ours.true)) (bare_requested_lem (gives nothing_to_do) (Ok NothingToDo) _ refl refl refl c.bare.ensures)

pub returns-then-asked-eq-ADDRESS_CLAIMED : goal.returns-then-asked-eq-ADDRESS_CLAIMED
returns-then-asked-eq-ADDRESS_CLAIMED c =
    let a = c.args in
    rw (reply_claims (asked_by a.asked) _ a.claim _ c.of-place.ensures (sym c.is_ours.ensures ∙ c.if-not-is_ours.false) c.if-asked-eq-ADDRESS_CLAIMED.true) c.our_claim.ensures

pub returns-in-Held : goal.returns-in-Held
unfolding address_held
returns-in-Held c =
    let a = c.args in
    rw (reply_held (asked_by a.asked) _ a.claim _ c.of-place.ensures _ (sym c.is_ours.ensures ∙ c.if-not-is_ours.false) c.if-asked-eq-ADDRESS_CLAIMED.false (ap (λ (x : Place). address_held (stands_at x)) c.in-Held.is)) c.status.ensures

pub returns-in-Claiming : goal.returns-in-Claiming
unfolding address_held
returns-in-Claiming c =
    let a = c.args in
    rw (reply_unheld (asked_by a.asked) _ a.claim _ c.of-place.ensures (sym c.is_ours.ensures ∙ c.if-not-is_ours.false) c.if-asked-eq-ADDRESS_CLAIMED.false (ap (λ (x : Place). address_held (stands_at x)) c.in-Claiming.is)) (bare_requested_lem (refused 18) (Err NoAddressHeld) _ refl refl refl c.bare-in-Claiming.ensures)

pub returns-in-Silent : goal.returns-in-Silent
unfolding address_held
returns-in-Silent c =
    let a = c.args in
    rw (reply_unheld (asked_by a.asked) _ a.claim _ c.of-place.ensures (sym c.is_ours.ensures ∙ c.if-not-is_ours.false) c.if-asked-eq-ADDRESS_CLAIMED.false (ap (λ (x : Place). address_held (stands_at x)) c.in-Silent.is)) (bare_requested_lem (refused 18) (Err NoAddressHeld) _ refl refl refl c.bare-in-Silent.ensures)
