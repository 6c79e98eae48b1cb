-- `faults::Sender::add` meets its contract. Assumes nothing.
use Rattle.std.specs.Prelude.{Some, None}
use mathlib.Core.Path.{◌≡◌, refl, sym, ◌∙◌}
use lib.ListN.{length}
use Rattle.words.proofs.Lists.{length_field}
use Rattle.faults.specs.Fault.{is_empty}
use Rattle.faults.proofs.Steps.{found_below, added_broken, added_found}
use Rattle.faults.proofs.Sender.add.Goals as goal

pub returns-then-not-keep_rules : goal.returns-then-not-keep_rules
returns-then-not-keep_rules c =
    let a = c.args in
    let k = sym c.keep_rules.ensures ∙ c.if-not-keep_rules.true in
    rw (added_broken a.period a.self k) (record { answer = refl; state = refl })

pub add-requires : goal.add-requires
add-requires c =
    let fs = c.args.self.faults in
    let n : length fs ≡ 32 = search length_field in
    found_below is_empty fs _ n (sym c.lowest_empty.ensures ∙ c.in-Some.is)

pub returns-in-Some : goal.returns-in-Some
returns-in-Some c =
    let a = c.args in
    let k = sym c.keep_rules.ensures ∙ c.if-not-keep_rules.false in
    rw (added_found a.period a.self (Some c.in-Some.at) k (sym c.lowest_empty.ensures ∙ c.in-Some.is)) c.add.ensures

pub returns-in-None : goal.returns-in-None
returns-in-None c =
    let a = c.args in
    let k = sym c.keep_rules.ensures ∙ c.if-not-keep_rules.false in
    rw (added_found a.period a.self None k (sym c.lowest_empty.ensures ∙ c.in-None.is))
    (record { answer = refl; state = refl })
