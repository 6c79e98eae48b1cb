-- `command::Host::route` meets its contract. Assumes nothing.
use Rattle.std.specs.Prelude.{Err}
use mathlib.Core.Path.{refl, sym}
use Rattle.words.specs.Words.{refused}
use Rattle.claim.specs.Promises.{number_of_not_heard}
use Rattle.command.specs.Promises.{number_of_not_routed, not_routed_for}
use Rattle.command.proofs.Handing.{handing_refused, handing_given, handed_fine, well_few}
use Rattle.command.proofs.Answers.{bare_routed_lem, routed_refused, routed_given, not_routed_number}
use Rattle.command.proofs.Host.route.Goals as goal

pub of-requires : goal.of-requires
of-requires c =
    let a = c.args in
    let g = handing_given a.id a.bytes.now a.self a.claim c.in-Ok.handed c.in-Ok.ensures in
    (handed_fine a.id a.bytes.now a.self a.claim c.in-Ok.handed.parts g.0).claim

pub route-requires : goal.route-requires
route-requires c =
    let a = c.args in
    let g = handing_given a.id a.bytes.now a.self a.claim c.in-Ok.handed c.in-Ok.ensures in
    well_few a.self (handed_fine a.id a.bytes.now a.self a.claim c.in-Ok.handed.parts g.0).list

pub returns-in-Ok : goal.returns-in-Ok
returns-in-Ok c =
    let a = c.args in
    let g = handing_given a.id a.bytes.now a.self a.claim c.in-Ok.handed c.in-Ok.ensures in
    rw (routed_given a.id a.bytes.now a.self a.claim c.in-Ok.handed.parts _ _ g.0 g.1 c.of.ensures) c.route.ensures

pub returns-in-Err : goal.returns-in-Err
returns-in-Err c =
    let a = c.args in
    let n = number_of_not_heard c.in-Err.why in
    let r = handing_refused a.id a.bytes.now a.self a.claim n c.in-Err.ensures in
    rw (routed_refused a.id a.bytes.now a.self a.claim n r, sym (not_routed_number c.in-Err.why))
    (bare_routed_lem (refused (number_of_not_routed (not_routed_for c.in-Err.why))) (Err (not_routed_for c.in-Err.why)) _ refl refl
    (rw c.from.ensures at c.bare.ensures))
