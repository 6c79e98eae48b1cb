-- `faults::Sender::step` meets its contract. Assumes nothing.
use mathlib.Core.Path.{refl, sym, ap, ◌∙◌}
use Rattle.words.specs.Words.{refused}
use Rattle.claim.specs.Claim.{held, claiming, silent}
use Rattle.claim.specs.Promises.{told_standing}
use Rattle.command.specs.Handed.{address_held}
use Rattle.std.specs.Prelude.{Ok, Err}
use Rattle.faults.specs.declared.NotStepped.TheVariants.{BrokenState, ListMalformed, NoAddressHeld}
use Rattle.faults.proofs.Steps.{bare_stepped_lem, stepped_as, stands_told, stepped_broken, stepped_refused}
use Rattle.faults.proofs.Steps.{stepped_stands}
use Rattle.faults.proofs.Sender.step.Goals as goal

pub returns-then-not-keep_rules : goal.returns-then-not-keep_rules
returns-then-not-keep_rules c =
    let a = c.args in
    let k = sym c.keep_rules.ensures ∙ c.if-not-keep_rules.true in
    stepped_as (stepped_broken a.claim a.self k)
    (bare_stepped_lem (refused 2) (Err BrokenState) a.self a.self _ refl refl refl c.bare.ensures)

pub returns-in-Ok-Held : goal.returns-in-Ok-Held
unfolding address_held
returns-in-Ok-Held c =
    let a = c.args in
    let k = sym c.keep_rules.ensures ∙ c.if-not-keep_rules.false in
    let e = stands_told _ _ c.stands.ensures ∙ ap told_standing (c.in-Ok-Held.is ∙ ap Ok c.in-Ok-Held.field-0-is) in
    stepped_as (stepped_stands a.claim a.self (held c.in-Ok-Held.address) k e) c.step.ensures

pub returns-in-Ok-Claiming : goal.returns-in-Ok-Claiming
unfolding address_held
returns-in-Ok-Claiming c =
    let a = c.args in
    let k = sym c.keep_rules.ensures ∙ c.if-not-keep_rules.false in
    let e = stands_told _ _ c.stands.ensures ∙ ap told_standing (c.in-Ok-Claiming.is ∙ ap Ok c.in-Ok-Claiming.field-0-is) in
    stepped_as (stepped_stands a.claim a.self (claiming _) k e)
    (bare_stepped_lem (refused 18) (Err NoAddressHeld) a.self a.self _ refl refl refl c.bare-in-Ok-Claiming.ensures)

pub returns-in-Ok-Silent : goal.returns-in-Ok-Silent
unfolding address_held
returns-in-Ok-Silent c =
    let a = c.args in
    let k = sym c.keep_rules.ensures ∙ c.if-not-keep_rules.false in
    let e = stands_told _ _ c.stands.ensures ∙ ap told_standing (c.in-Ok-Silent.is ∙ ap Ok c.in-Ok-Silent.field-0-is) in
    stepped_as (stepped_stands a.claim a.self silent k e)
    (bare_stepped_lem (refused 18) (Err NoAddressHeld) a.self a.self _ refl refl refl c.bare-in-Ok-Silent.ensures)

pub returns-in-Err-BrokenState : goal.returns-in-Err-BrokenState
returns-in-Err-BrokenState c =
    let a = c.args in
    let k = sym c.keep_rules.ensures ∙ c.if-not-keep_rules.false in
    let e = stands_told _ _ c.stands.ensures ∙ ap told_standing (c.in-Err-BrokenState.is ∙ ap Err c.in-Err-BrokenState.field-0-is) in
    stepped_as (stepped_refused a.claim a.self 2 k e)
    (bare_stepped_lem (refused 2) (Err BrokenState) a.self a.self _ refl refl refl c.bare-in-Err-BrokenState.ensures)

pub returns-in-Err-ListMalformed : goal.returns-in-Err-ListMalformed
returns-in-Err-ListMalformed c =
    let a = c.args in
    let k = sym c.keep_rules.ensures ∙ c.if-not-keep_rules.false in
    let e = stands_told _ _ c.stands.ensures ∙ ap told_standing (c.in-Err-ListMalformed.is ∙ ap Err c.in-Err-ListMalformed.field-0-is) in
    stepped_as (stepped_refused a.claim a.self 16 k e)
    (bare_stepped_lem (refused 16) (Err ListMalformed) a.self a.self _ refl refl refl c.bare-in-Err-ListMalformed.ensures)
