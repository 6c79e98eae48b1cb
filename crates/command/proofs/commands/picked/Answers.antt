-- `command::commands::picked` meets its contract. Assumes nothing.
use Rattle.std.specs.Prelude.{Ok}
use mathlib.Core.Path.{refl, sym, ap, ◌∙◌}
use Prim.Native.Nat.{ℕ}
use Rattle.command.specs.declared.Choice.TheVariants.{NothingToDo}
use Rattle.command.specs.Commands.{is_elsewhere, is_meant, nothing_to_do}
use Rattle.command.specs.Positions.{positions_where, filled}
use Rattle.command.specs.Hosted.{hosted}
use Rattle.frame.specs.declared.Destination.{Destination}
use Rattle.words.specs.Words.{gives}
use Rattle.command.proofs.Answers.{bare_routed_lem, picked_routed}
use Rattle.command.proofs.commands.picked.Goals as goal

pub returns-then-is_elsewhere : goal.returns-then-is_elsewhere
returns-then-is_elsewhere c =
    let a = c.args in
    let x = sym (ap (λ (d : Destination). is_elsewhere d a.address) c.destination_of.ensures.answer) ∙ sym c.is_elsewhere.ensures ∙ c.if-is_elsewhere.true in
    rw x (bare_routed_lem (gives nothing_to_do) (Ok NothingToDo) _ refl refl c.bare.ensures)

pub returns : goal.returns
returns c =
    let a = c.args in
    let x = sym (ap (λ (d : Destination). is_elsewhere d a.address) c.destination_of.ensures.answer) ∙ sym c.is_elsewhere.ensures ∙ c.if-is_elsewhere.false in
    rw x (picked_routed _ _ (c.meant.ensures ∙ ap (λ (f : ℕ). filled (positions_where (is_meant f a.instance) (hosted a.host))) c.catalogue_form-form.ensures.answer))
