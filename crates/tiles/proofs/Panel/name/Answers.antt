-- `tiles::Panel::name` meets its contract. Assumes nothing.
use mathlib.Core.Path.{refl, sym, ap, ◌∙◌}
use Rattle.catalogue.specs.Promises.{told_looked}
use Rattle.std.specs.Prelude.{Err}
use Rattle.words.specs.Words.{refused}
use Rattle.catalogue.proofs.Laws.{row_refused}
use Rattle.tiles.specs.declared.NotNamed.TheVariants as NotNamed
use Rattle.tiles.proofs.Steps.{name_refused, name_done, broken, no_row, no_tile, not_accepted, is_named_lem}
use Rattle.tiles.proofs.Panel.name.Goals as goal

pub returns-then-not-keep_rules : goal.returns-then-not-keep_rules
returns-then-not-keep_rules c =
    let a = c.args in
    let k = sym c.keep_rules.ensures ∙ c.if-not-keep_rules.true in
    name_refused a.tile a.row a.instance a.self (Err NotNamed.BrokenState) 2 _ refl
    (broken a.tile a.row a.instance a.self k) c.unnamed.ensures

pub returns-in_default : goal.returns-in_default
returns-in_default c =
    let a = c.args in
    let k = sym c.keep_rules.ensures ∙ c.if-not-keep_rules.false in
    let e = sym c.row_at.ensures.answer ∙ ap told_looked c.in_default.is in
    name_refused a.tile a.row a.instance a.self (Err NotNamed.NoSuchRow) _ _ (ap refused (sym (row_refused a.row _ e)))
    (no_row a.tile a.row a.instance a.self _ k e) c.unnamed-in_default.ensures

pub returns-then-tile-ge-TILES : goal.returns-then-tile-ge-TILES
returns-then-tile-ge-TILES c =
    let a = c.args in
    let k = sym c.keep_rules.ensures ∙ c.if-not-keep_rules.false in
    let e = sym c.row_at.ensures.answer ∙ ap told_looked c.in-Ok.is in
    name_refused a.tile a.row a.instance a.self (Err NotNamed.NoSuchTile) 23 _ refl
    (no_tile a.tile a.row a.instance a.self _ k e c.if-tile-ge-TILES.true) c.unnamed-then-tile-ge-TILES.ensures

pub returns-then-not-is_accepted : goal.returns-then-not-is_accepted
returns-then-not-is_accepted c =
    let a = c.args in
    let k = sym c.keep_rules.ensures ∙ c.if-not-keep_rules.false in
    let e = sym c.row_at.ensures.answer ∙ ap told_looked
    c.in-Ok.is in
    let n = sym c.is_accepted.ensures ∙ c.if-not-is_accepted.true in
    name_refused a.tile a.row a.instance a.self (Err NotNamed.RowNotAccepted) 24 _ refl
    (not_accepted a.tile a.row a.instance a.self _ k e c.if-tile-ge-TILES.false n)
    c.unnamed-then-not-is_accepted.ensures

pub returns : goal.returns
returns c =
    let a = c.args in
    let k = sym c.keep_rules.ensures ∙ c.if-not-keep_rules.false in
    let e = sym c.row_at.ensures.answer ∙ ap told_looked
    c.in-Ok.is in
    let n = sym c.is_accepted.ensures ∙ c.if-not-is_accepted.false in
    name_done a.tile a.row a.instance a.self _
    (is_named_lem a.tile a.row a.instance a.self _ k e c.if-tile-ge-TILES.false n)
    (rw (c.replace.ensures, c.fresh.ensures))
