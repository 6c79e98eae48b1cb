-- `faults::Sender::request` meets its contract. Assumes nothing.
use mathlib.Core.Path.{refl, sym, ap, ◌∙◌}
use Rattle.std.specs.Prelude.{Err}
use Rattle.words.specs.Words.{refused}
use Rattle.frame.specs.Promises.{refusal_of, told_verdict}
use Rattle.faults.specs.declared.NotHeard.TheVariants.{BrokenState, BadFrame}
use Rattle.faults.proofs.Steps.{bare_requested_lem, requested_as, requested_broken, requested_ill, requested_bad}
use Rattle.faults.proofs.Steps.{requested_sound}
use Rattle.faults.proofs.Sender.request.Goals as goal
use Rattle.faults.proofs.Sender.request.Goals.{then-not-keep_rules-via-then-not-keep_rules, then-not-keep_rules-via-else-not-keep_rules+then-not-keeps_rules}

pub returns-then-not-keep_rules : goal.returns-then-not-keep_rules
returns-then-not-keep_rules c =
    let a = c.args in
    elim c.then-not-keep_rules.branch [
      | then-not-keep_rules-via-then-not-keep_rules w ↦
          let k = sym c.keep_rules.ensures ∙ w.if-not-keep_rules.true in
          requested_as (requested_broken a.id a.bytes.now a.claim a.self k)
          (bare_requested_lem (refused 2) (Err BrokenState) a.self _ refl refl c.bare.ensures)
      | then-not-keep_rules-via-else-not-keep_rules+then-not-keeps_rules w ↦
          let k = sym c.keep_rules.ensures ∙ w.if-not-keep_rules.false in
          let l = sym w.keeps_rules.ensures.answer ∙ w.if-not-keeps_rules.true in
          requested_as (requested_ill a.id a.bytes.now a.claim a.self k l)
          (bare_requested_lem (refused 2) (Err BrokenState) a.self _ refl refl c.bare.ensures)
    ]

pub returns-in-Err : goal.returns-in-Err
returns-in-Err c =
    let a = c.args in
    let k = sym c.keep_rules.ensures ∙ c.if-not-keep_rules.false in
    let l = sym c.keeps_rules.ensures.answer ∙ c.if-not-keeps_rules.false in
    let why = c.in-Err.why in
    let e = sym c.check-checked.ensures.answer ∙ ap told_verdict c.in-Err.is in
    requested_as (requested_bad a.id a.bytes.now a.claim a.self (refusal_of why) k l e)
    (bare_requested_lem (refused (refusal_of why)) (Err (BadFrame why)) a.self _ refl refl c.bare-in-Err.ensures)

pub returns-in-Ok : goal.returns-in-Ok
returns-in-Ok c =
    let a = c.args in
    let k = sym c.keep_rules.ensures ∙ c.if-not-keep_rules.false in
    let l = sym c.keeps_rules.ensures.answer ∙ c.if-not-keeps_rules.false in
    let e = sym c.check-checked.ensures.answer ∙ ap told_verdict c.in-Ok.is in
    requested_as
    (requested_sound a.id a.bytes.now a.claim a.self c.in-Ok.parts c.check-checked.result.bytes
    k l e c.check-checked.ensures.data_bytes)
    c.heard.ensures
