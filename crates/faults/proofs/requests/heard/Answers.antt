-- `faults::requests::heard` meets its contract. Assumes nothing.
use mathlib.Core.Path.{refl, ap, ◌∙◌}
use Rattle.words.specs.Words.{refused}
use Rattle.claim.specs.Claim.{held, silent}
use Rattle.claim.specs.Promises.{told_standing}
use Rattle.faults.specs.Private.{told_meant}
use Rattle.std.specs.Prelude.{Ok, Err}
use Rattle.faults.specs.declared.NotHeard.TheVariants.{BrokenState, ListMalformed}
use Rattle.faults.proofs.Steps.{bare_requested_lem, requested_as, stands_told, heard_refused, heard_stands}
use Rattle.faults.proofs.Steps.{heard_unheld}
use Rattle.faults.proofs.requests.heard.Goals as goal

pub returns-in-Err-BrokenState : goal.returns-in-Err-BrokenState
returns-in-Err-BrokenState c =
    let a = c.args in
    let e = stands_told _ _ c.stands.ensures ∙ ap told_standing (c.in-Err-BrokenState.is ∙ ap Err c.in-Err-BrokenState.field-0-is) in
    requested_as (heard_refused a.dgn a.bytes a.claim a.s 2 e)
    (bare_requested_lem (refused 2) (Err BrokenState) a.s _ refl refl c.bare.ensures)

pub returns-in-Err-ListMalformed : goal.returns-in-Err-ListMalformed
returns-in-Err-ListMalformed c =
    let a = c.args in
    let e = stands_told _ _ c.stands.ensures ∙ ap told_standing (c.in-Err-ListMalformed.is ∙ ap Err c.in-Err-ListMalformed.field-0-is) in
    requested_as (heard_refused a.dgn a.bytes a.claim a.s 16 e)
    (bare_requested_lem (refused 16) (Err ListMalformed) a.s _ refl refl c.bare-in-Err-ListMalformed.ensures)

pub returns-in-Ok-Held : goal.returns-in-Ok-Held
returns-in-Ok-Held c =
    let a = c.args in
    let e = stands_told _ _ c.stands.ensures ∙ ap told_standing (c.in-Ok-Held.is ∙ ap Ok c.in-Ok-Held.field-0-is) in
    requested_as
    (heard_stands a.dgn a.bytes a.claim a.s (held c.in-Ok-Held.address) (told_meant c.meant_by.result) e
    c.meant_by.ensures)
    c.at_address.ensures

pub returns-in-Ok-Claiming : goal.returns-in-Ok-Claiming
returns-in-Ok-Claiming c =
    let a = c.args in
    let e = stands_told _ _ c.stands.ensures ∙ ap told_standing (c.in-Ok-Claiming.is ∙ ap Ok c.in-Ok-Claiming.field-0-is) in
    requested_as
    (heard_unheld a.dgn a.bytes a.claim a.s _ (told_meant c.meant_by-in-Ok-Claiming.result) e c.meant_by-in-Ok-Claiming.ensures)
    c.nowhere.ensures

pub returns-in-Ok-Silent : goal.returns-in-Ok-Silent
returns-in-Ok-Silent c =
    let a = c.args in
    let e = stands_told _ _ c.stands.ensures ∙ ap told_standing (c.in-Ok-Silent.is ∙ ap Ok c.in-Ok-Silent.field-0-is) in
    requested_as
    (heard_stands a.dgn a.bytes a.claim a.s silent (told_meant c.meant_by-in-Ok-Silent.result) e
    c.meant_by-in-Ok-Silent.ensures)
    c.nowhere-in-Ok-Silent.ensures
