-- `faults::sending::step` meets its contract. Assumes nothing.
use mathlib.Core.Path.{◌≡◌, sym, ap, ◌∙◌}
use lib.ListN.{length, length-map}
use Rattle.words.proofs.Lists.{length_field}
use Rattle.faults.specs.Fault.{passed}
use Rattle.faults.specs.Sender.{chosen}
use Rattle.faults.specs.Private.{sent_at, bare_stepped}
use Rattle.faults.specs.declared.Sender.{Sender}
use Rattle.std.specs.Prelude.{None, Ok}
use Rattle.faults.proofs.Steps.{chosen_below, step_sends, step_quiet}
use Rattle.faults.proofs.sending.step.Goals as goal

pub send-requires : goal.send-requires
send-requires c =
    let s = c.args.s in
    let n : length s.faults ≡ 32 = search length_field in
    let p = c.all_passed-later.ensures in
    let m = ap (λ (x : Sender). length x.faults) p ∙ length-map s.faults passed ∙ n in
    chosen_below _ _ m (sym c.chosen.ensures ∙ c.in-Some.is)

pub returns-in-Some : goal.returns-in-Some
returns-in-Some c =
    let a = c.args in
    let p = c.all_passed-later.ensures in
    let g = c.in-Some.is in
    let e = sym (ap (λ (x : Sender). chosen x.faults) p) ∙ sym c.chosen.ensures ∙ g in
    step_sends a.address a.s _ _ e (c.send.ensures ∙ ap (sent_at _ a.address) p)

pub returns-in-None : goal.returns-in-None
returns-in-None c =
    let a = c.args in
    let p = c.all_passed-later.ensures in
    let g = c.in-None.is in
    let e = sym (ap (λ (x : Sender). chosen x.faults) p) ∙ sym c.chosen.ensures ∙ g in
    step_quiet a.address a.s _ e (c.bare.ensures ∙ ap (λ (x : Sender). bare_stepped x (Ok None)) p)
