-- `faults::Sender::clear` meets its contract. Assumes nothing.
use mathlib.Core.Path.{sym, ap, ◌∙◌}
use Rattle.faults.specs.Sender.{cleared_of, replacing}
use Rattle.faults.proofs.Steps.{active_below}
use Rattle.faults.proofs.Sender.clear.Goals as goal

pub returns-then-not-keep_rules : goal.returns-then-not-keep_rules
unfolding cleared_of
returns-then-not-keep_rules c =
    let k = sym c.keep_rules.ensures ∙ c.if-not-keep_rules.true in
    record { answer = rw k; state = rw k }

pub returns-then-not-is_active_at : goal.returns-then-not-is_active_at
unfolding cleared_of
returns-then-not-is_active_at c =
    let k = sym c.keep_rules.ensures ∙ c.if-not-keep_rules.false in
    let n = sym c.is_active_at.ensures ∙ c.if-not-is_active_at.true in
    record { answer = rw (k, n); state = rw (k, n) }

pub replace-requires : goal.replace-requires
replace-requires c =
    active_below _ _ (sym c.is_active_at.ensures ∙ c.if-not-is_active_at.false)

pub returns : goal.returns
unfolding cleared_of
returns c =
    let a = c.args in
    let k = sym c.keep_rules.ensures ∙ c.if-not-keep_rules.false in
    let n = sym c.is_active_at.ensures ∙ c.if-not-is_active_at.false in
    record {
      answer = rw (k, n);
      state = rw (k, n) (c.replace.ensures ∙ ap (replacing a.self a.place) c.empty.ensures);
    }
