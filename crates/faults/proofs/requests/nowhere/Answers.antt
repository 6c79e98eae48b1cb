-- `faults::requests::nowhere` meets its contract. Assumes nothing.
use mathlib.Core.Path.{◌≡◌, refl, ap, ◌∙◌}
use borrow.Author.Tests.{eq-eqb, ne_eqb}
use Rattle.std.specs.Prelude.{Some, None, Ok, Err}
use Rattle.words.specs.Words.{refused, gives}
use Rattle.frame.specs.Standard.{everyone}
use Rattle.claim.specs.Claim.{silent}
use Rattle.faults.specs.Requests.{nothing_to_do, answer_at}
use Rattle.faults.specs.declared.Response.TheVariants.{NothingToDo}
use Rattle.faults.specs.declared.NotHeard.TheVariants.{NoAddressHeld}
use Rattle.faults.proofs.Steps.{bare_requested_lem, requested_as, answered_other, answered_faults}
use Rattle.faults.proofs.requests.nowhere.Goals as goal

pub returns-then-destination : goal.returns-then-destination
unfolding answer_at
returns-then-destination c =
    let a = c.args in
    let m = c.in-Ok-Some in
    let q : m.field-0 ≡ Some m.destination = rw m.is at m.field-0-is in
    let is : a.meant ≡ Ok (Some m.destination) = m.is ∙ ap Ok q in
    let e = ne_eqb m.destination everyone c.if-destination.true in
    requested_as (answered_faults silent a.s a.meant m.destination is ∙ rw e)
    (bare_requested_lem (gives nothing_to_do) (Ok NothingToDo) a.s _ refl refl c.bare-then-destination.ensures)

pub returns-in-Ok-None : goal.returns-in-Ok-None
returns-in-Ok-None c =
    let a = c.args in
    let m = c.in-Ok-None in
    let q : m.field-0 ≡ None = rw m.is at m.field-0-is in
    let is : a.meant ≡ Ok None = m.is ∙ ap Ok q in
    requested_as (answered_other silent a.s a.meant is)
    (bare_requested_lem (gives nothing_to_do) (Ok NothingToDo) a.s _ refl refl c.bare-in-Ok-None.ensures)

pub returns-else-destination : goal.returns-else-destination
unfolding answer_at
returns-else-destination c =
    let a = c.args in
    let m = c.in-Ok-Some in
    let q : m.field-0 ≡ Some m.destination = rw m.is at m.field-0-is in
    let is : a.meant ≡ Ok (Some m.destination) = m.is ∙ ap Ok q in
    let e = eq-eqb m.destination everyone c.if-destination.false in
    requested_as (answered_faults silent a.s a.meant m.destination is ∙ rw e)
    (bare_requested_lem (refused 18) (Err NoAddressHeld) a.s _ refl refl c.bare-in-Ok-Some.ensures)
