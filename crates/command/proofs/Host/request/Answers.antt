-- `command::Host::request` meets its contract. Assumes nothing.
use Rattle.std.specs.Prelude.{Err}
use mathlib.Core.Path.{refl, sym}
use Rattle.words.specs.Words.{refused}
use Rattle.claim.specs.Promises.{number_of_not_heard}
use Rattle.command.specs.Promises.{number_of_not_answered, not_answered_for}
use Rattle.command.proofs.Handing.{handing_refused, handing_given, handed_fine, well_few}
use Rattle.command.proofs.Answers.{bare_requested_lem, requested_refused, requested_given, not_answered_number}
use Rattle.command.proofs.Host.request.Goals as goal

pub answer-requires : goal.answer-requires
answer-requires c =
    let a = c.args in
    let g = handing_given a.id a.bytes.now a.self a.claim c.in-Ok.handed c.in-Ok.ensures in
    let f = handed_fine a.id a.bytes.now a.self a.claim c.in-Ok.handed.parts g.0 in
    (f.claim, well_few a.self f.list)

pub returns-in-Ok : goal.returns-in-Ok
returns-in-Ok c =
    let a = c.args in
    let g = handing_given a.id a.bytes.now a.self a.claim c.in-Ok.handed c.in-Ok.ensures in
    rw (requested_given a.id a.bytes.now a.self a.claim c.in-Ok.handed.parts _ g.0 g.1) c.answer.ensures

pub returns-in-Err : goal.returns-in-Err
returns-in-Err c =
    let a = c.args in
    let n = number_of_not_heard c.in-Err.why in
    let r = handing_refused a.id a.bytes.now a.self a.claim n c.in-Err.ensures in
    rw (requested_refused a.id a.bytes.now a.self a.claim n r, sym (not_answered_number c.in-Err.why))
    (bare_requested_lem (refused (number_of_not_answered (not_answered_for c.in-Err.why))) (Err (not_answered_for c.in-Err.why)) _ refl refl refl
    (rw c.from.ensures at c.bare.ensures))
