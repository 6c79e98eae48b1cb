-- `tiles::Panel::hear` meets its contract. Assumes nothing.
use mathlib.Core.Path.{refl, sym, ◌∙◌}
use Rattle.std.specs.Prelude.{Err}
use Rattle.tiles.specs.declared.NotHeard.TheVariants.{BrokenState}
use Rattle.tiles.proofs.Steps.{hear_refused, hear_done, unsound, sound_as, frame_sound, frame_bad, sound_frame}
use Rattle.tiles.proofs.Panel.hear.Goals as goal

pub returns-then-not-keep_rules : goal.returns-then-not-keep_rules
returns-then-not-keep_rules c =
    let a = c.args in
    let k = sym c.keep_rules.ensures ∙ c.if-not-keep_rules.true in
    hear_refused a.id a.bytes.now a.self (Err BrokenState) 2 _ refl
    (unsound a.id a.bytes.now a.self k) c.unheard.ensures

pub hear-requires : goal.hear-requires
hear-requires c =
    let a = c.args in
    let k = sym c.keep_rules.ensures ∙ c.if-not-keep_rules.false in
    record { frame_sound = sound_frame a.id a.bytes.now a.self _ c.check-checked.ensures _ c.in-Ok.is; panel_sound = k }

pub returns-in-Err : goal.returns-in-Err
returns-in-Err c =
    let a = c.args in
    let k = sym c.keep_rules.ensures ∙ c.if-not-keep_rules.false in
    let e = frame_bad a.id a.bytes.now a.self _ c.check-checked.ensures _ c.in-Err.is
    in
    hear_refused a.id a.bytes.now a.self _ _ _ refl (sound_as a.id a.bytes.now a.self _ k e)
    c.unheard-in-Err.ensures

pub returns-in-Ok : goal.returns-in-Ok
returns-in-Ok c =
    let a = c.args in
    let k = sym c.keep_rules.ensures ∙ c.if-not-keep_rules.false in
    let e = frame_sound a.id a.bytes.now a.self _ c.check-checked.ensures _
    c.in-Ok.is in
    hear_done a.id a.bytes.now a.self _ _ (sound_as a.id a.bytes.now a.self _ k e)
    c.hear.ensures
