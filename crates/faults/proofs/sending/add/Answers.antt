-- `faults::sending::add` meets its contract. Assumes nothing.
use mathlib.Core.Path.{sym, ap, ◌∙◌}
use Rattle.faults.specs.Sender.{added_at, replacing}
use Rattle.faults.proofs.sending.add.Goals as goal

pub returns-then-not-is_allowed : goal.returns-then-not-is_allowed
unfolding added_at
returns-then-not-is_allowed c =
    let k = sym c.is_allowed.ensures ∙ c.if-not-is_allowed.true in
    record { answer = rw k; state = rw k }

pub returns : goal.returns
unfolding added_at
returns c =
    let a = c.args in
    let k = sym c.is_allowed.ensures ∙ c.if-not-is_allowed.false in
    let t = c.replace.ensures ∙ ap (replacing a.s a.at) c.added.ensures in
    record { answer = rw k; state = rw k t }
