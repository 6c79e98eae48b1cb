-- `faults::Sender::reply` meets its contract. Assumes nothing.
use mathlib.Core.Path.{◌≡◌, ap, ◌∙◌}
use Rattle.std.specs.Prelude.{Ok}
use Rattle.faults.specs.declared.Response.TheVariants.{NothingToDo, Send}
use Rattle.faults.proofs.Steps.{reply_to_host, reply_alone}
use Rattle.faults.proofs.Sender.reply.Goals as goal

pub returns-in-Ok-NothingToDo : goal.returns-in-Ok-NothingToDo
returns-in-Ok-NothingToDo c =
    let m = c.in-Ok-NothingToDo in
    let q : m.field-0 ≡ NothingToDo = rw m.is at m.field-0-is in
    let is : c.request-faults.result.answer ≡ Ok NothingToDo = m.is ∙ ap Ok q in
    reply_to_host _ c.request-faults.ensures is c.request.ensures

pub returns-in-Ok-Send : goal.returns-in-Ok-Send
returns-in-Ok-Send c =
    let m = c.in-Ok-Send in
    let q : m.field-0 ≡ Send = rw m.is at m.field-0-is in
    let is : c.request-faults.result.answer ≡ Ok Send = m.is ∙ ap Ok q in
    reply_alone c.request-faults.result _ c.request-faults.ensures (λ hosted. rw is) c.without_host.ensures

pub returns-in-Err : goal.returns-in-Err
returns-in-Err c =
    reply_alone c.request-faults.result _ c.request-faults.ensures (λ hosted. rw c.in-Err.is) c.without_host-in-Err.ensures
