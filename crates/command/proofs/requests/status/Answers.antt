-- `command::requests::status` meets its contract. Assumes nothing.
use Rattle.std.specs.Prelude.{Ok}
use mathlib.Core.Path.{◌≡◌, refl}
use native.Mathlib.Omega.{arith}
use Rattle.command.specs.Hosted.{hosted}
use Rattle.command.specs.declared.Response.TheVariants.{Unsupported}
use Rattle.command.specs.Requests.{supports, unsupported}
use Rattle.command.specs.Private.{asked_by}
use Rattle.words.specs.Words.{gives}
use Rattle.command.proofs.Answers.{bare_requested_lem, supported_requested, status_supported, status_global}
use Rattle.command.proofs.Answers.{status_nobody, status_nak}
use Rattle.command.proofs.Picks.{none_picked, some_picked}
use Rattle.command.proofs.requests.status.Goals as goal

pub returns-then-positions-gt0 : goal.returns-then-positions-gt0
returns-then-positions-gt0 c =
    let a = c.args in
    let n = some_picked (supports (asked_by a.asked)) (hosted a.host) _ c.supporting-positions.ensures (λ z. omega arith) in
    rw (status_supported (asked_by a.asked) (hosted a.host) a.address n) (supported_requested _ _ c.supporting-positions.ensures)

pub returns-then-asked-eq-EVERYONE : goal.returns-then-asked-eq-EVERYONE
returns-then-asked-eq-EVERYONE c =
    let a = c.args in
    let z : c.supporting-positions.result.count ≡ 0 = omega arith in
    let n = none_picked (supports (asked_by a.asked)) (hosted a.host) _ c.supporting-positions.ensures z in
    rw (status_global (asked_by a.asked) (hosted a.host) a.address n c.if-asked-eq-EVERYONE.true) (bare_requested_lem (gives unsupported) (Ok Unsupported) _ refl refl refl c.bare.ensures)

pub returns-then-asked-eq-NO_ADDRESS : goal.returns-then-asked-eq-NO_ADDRESS
returns-then-asked-eq-NO_ADDRESS c =
    let a = c.args in
    let z : c.supporting-positions.result.count ≡ 0 = omega arith in
    let n = none_picked (supports (asked_by a.asked)) (hosted a.host) _ c.supporting-positions.ensures z in
    rw (status_nobody (asked_by a.asked) (hosted a.host) a.address n c.if-asked-eq-EVERYONE.false c.if-asked-eq-NO_ADDRESS.true) (bare_requested_lem (gives unsupported) (Ok Unsupported) _ refl refl refl c.bare-then-asked-eq-NO_ADDRESS.ensures)

pub returns : goal.returns
returns c =
    let a = c.args in
    let z : c.supporting-positions.result.count ≡ 0 = omega arith in
    let n = none_picked (supports (asked_by a.asked)) (hosted a.host) _ c.supporting-positions.ensures z in
    rw (status_nak (asked_by a.asked) (hosted a.host) a.address n c.if-asked-eq-EVERYONE.false c.if-asked-eq-NO_ADDRESS.false) c.nak.ensures
