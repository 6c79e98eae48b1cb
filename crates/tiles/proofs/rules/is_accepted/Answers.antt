-- `tiles::rules::is_accepted` meets its contract. Assumes nothing.
use mathlib.Core.Path.{◌≡◌}
use Rattle.tiles.proofs.Steps.{no_steps, some_steps}
use Rattle.tiles.proofs.rules.is_accepted.Goals as goal

pub returns-then-steps_in_one-ne0 : goal.returns-then-steps_in_one-ne0
returns-then-steps_in_one-ne0 c =
    some_steps c.args.row _ _ c.steps_in_one.ensures.answer c.if-steps_in_one-ne0.true c.has_instance.ensures.answer

pub returns-else-steps_in_one-ne0 : goal.returns-else-steps_in_one-ne0
returns-else-steps_in_one-ne0 c =
    let z : c.steps_in_one.result ≡ 0 = c.if-steps_in_one-ne0.false in
    rw z (no_steps c.args.row _ c.steps_in_one.ensures.answer z)
