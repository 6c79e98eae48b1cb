-- `faults::requests::at_address` meets its contract. Assumes nothing.
use mathlib.Core.Path.{◌≡◌, refl, sym, ap, ◌∙◌}
use Rattle.std.specs.Prelude.{Some, None, Ok}
use Rattle.words.specs.Words.{gives}
use Rattle.claim.specs.Claim.{held}
use Rattle.faults.specs.Requests.{nothing_to_do, answer_at}
use Rattle.faults.specs.declared.Response.TheVariants.{NothingToDo}
use Rattle.faults.proofs.Steps.{bare_requested_lem, requested_as, answered_other, answered_faults}
use Rattle.faults.proofs.requests.at_address.Goals as goal

pub returns-then-not-is_for_us : goal.returns-then-not-is_for_us
unfolding answer_at
returns-then-not-is_for_us c =
    let a = c.args in
    let m = c.in-Ok-Some in
    let q : m.field-0 ≡ Some m.destination = rw m.is at m.field-0-is in
    let is : a.meant ≡ Ok (Some m.destination) = m.is ∙ ap Ok q in
    let e = sym c.is_for_us.ensures ∙ c.if-not-is_for_us.true in
    requested_as (answered_faults (held a.address) a.s a.meant m.destination is ∙ rw e)
    (bare_requested_lem (gives nothing_to_do) (Ok NothingToDo) a.s _ refl refl c.bare-then-not-is_for_us.ensures)

pub returns-in-Ok-None : goal.returns-in-Ok-None
returns-in-Ok-None c =
    let a = c.args in
    let m = c.in-Ok-None in
    let q : m.field-0 ≡ None = rw m.is at m.field-0-is in
    let is : a.meant ≡ Ok None = m.is ∙ ap Ok q in
    requested_as (answered_other (held a.address) a.s a.meant is)
    (bare_requested_lem (gives nothing_to_do) (Ok NothingToDo) a.s _ refl refl c.bare-in-Ok-None.ensures)

pub returns-else-not-is_for_us : goal.returns-else-not-is_for_us
unfolding answer_at
returns-else-not-is_for_us c =
    let a = c.args in
    let m = c.in-Ok-Some in
    let q : m.field-0 ≡ Some m.destination = rw m.is at m.field-0-is in
    let is : a.meant ≡ Ok (Some m.destination) = m.is ∙ ap Ok q in
    let e = sym c.is_for_us.ensures ∙ c.if-not-is_for_us.false in
    requested_as (answered_faults (held a.address) a.s a.meant m.destination is ∙ rw e) c.send.ensures
