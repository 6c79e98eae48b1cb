-- `command::Host::start` meets its contract. Assumes nothing.
use mathlib.Core.Path.{sym, ◌∙◌}
use Rattle.command.specs.Promises.{started_of}
use Rattle.command.proofs.Handing.{well_few}
use Rattle.command.proofs.Host.start.Goals as goal

pub returns-then-not-well_formed : goal.returns-then-not-well_formed
unfolding started_of
returns-then-not-well_formed c =
    let e = sym c.well_formed-2.ensures ∙ c.if-not-well_formed.true in
    record { answer = sym (rw e); state = c.empty.ensures ∙ sym (rw e) }

pub begun-requires : goal.begun-requires
begun-requires c = well_few _ (sym c.well_formed-2.ensures ∙ c.if-not-well_formed.false)

pub returns : goal.returns
unfolding started_of
returns c =
    let e = sym c.well_formed-2.ensures ∙ c.if-not-well_formed.false in
    record { answer = sym (rw e); state = c.begun.ensures ∙ sym (rw e) }
