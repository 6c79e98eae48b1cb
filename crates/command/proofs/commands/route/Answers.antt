-- `command::commands::route` meets its contract. Assumes nothing.
use Rattle.std.specs.Prelude.{Ok, Err}
use mathlib.Core.Path.{refl, sym, ap, ◌∙◌}
use Rattle.command.specs.declared.Choice.TheVariants.{NothingToDo}
use Rattle.command.specs.declared.NotRouted.TheVariants.{NoAddressHeld}
use Rattle.claim.specs.declared.Place.{Place}
use Rattle.claim.specs.Promises.{stands_at}
use Rattle.command.specs.Commands.{nothing_to_do}
use Rattle.command.specs.Handed.{address_held}
use Rattle.command.specs.Hosted.{hosted}
use Rattle.words.specs.Words.{refused, gives}
use Rattle.command.proofs.Answers.{bare_routed_lem, route_other, route_held, route_unheld}
use Rattle.command.proofs.commands.route.Goals as goal

pub returns-then-not-is_hosted : goal.returns-then-not-is_hosted
returns-then-not-is_hosted c =
    let a = c.args in
    let n = sym c.is_hosted.ensures ∙ c.if-not-is_hosted.true in
    rw (route_other a.dgn a.instance (hosted a.host) _ _ c.catalogue_form.ensures.answer n) (bare_routed_lem (gives nothing_to_do) (Ok NothingToDo) _ refl refl c.bare.ensures)

pub returns-in-Held : goal.returns-in-Held
returns-in-Held c =
    let a = c.args in
    let n = sym c.is_hosted.ensures ∙ c.if-not-is_hosted.false in
    rw (route_held a.dgn a.instance (hosted a.host) _ _ _ c.catalogue_form.ensures.answer n (ap stands_at c.in-Held.is)) c.picked.ensures

pub returns-in-Claiming : goal.returns-in-Claiming
unfolding address_held
returns-in-Claiming c =
    let a = c.args in
    let n = sym c.is_hosted.ensures ∙ c.if-not-is_hosted.false in
    rw (route_unheld a.dgn a.instance (hosted a.host) _ _ c.catalogue_form.ensures.answer n (ap (λ (x : Place). address_held (stands_at x)) c.in-Claiming.is)) (bare_routed_lem (refused 18) (Err NoAddressHeld) _ refl refl c.bare-in-Claiming.ensures)

pub returns-in-Silent : goal.returns-in-Silent
unfolding address_held
returns-in-Silent c =
    let a = c.args in
    let n = sym c.is_hosted.ensures ∙ c.if-not-is_hosted.false in
    rw (route_unheld a.dgn a.instance (hosted a.host) _ _ c.catalogue_form.ensures.answer n (ap (λ (x : Place). address_held (stands_at x)) c.in-Silent.is)) (bare_routed_lem (refused 18) (Err NoAddressHeld) _ refl refl c.bare-in-Silent.ensures)
