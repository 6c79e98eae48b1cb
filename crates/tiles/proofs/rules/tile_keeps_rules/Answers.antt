-- `tiles::rules::tile_keeps_rules` meets its contract. Assumes nothing.
use mathlib.Core.Path.{sym, ◌∙◌}
use Rattle.tiles.proofs.Steps.{looked_row, keeps_blank, keeps_named}
use Rattle.tiles.proofs.rules.tile_keeps_rules.Goals as goal

pub returns-then-is_blank : goal.returns-then-is_blank
returns-then-is_blank c = keeps_blank c.args.t _
    (sym c.is_blank.ensures ∙ c.if-is_blank.true) c.is_zero.ensures

pub returns : goal.returns
returns c =
    let a = c.args in
    let l = looked_row a.table.now a.t.row _ c.requires
    c.row_in.ensures in
    keeps_named a.t _ _ (sym c.is_blank.ensures ∙ c.if-is_blank.false) l
    c.is_named.ensures
