-- `tiles::Panel::reading` meets its contract. Assumes nothing.
use mathlib.Core.Path.{sym, ◌∙◌}
use Rattle.tiles.proofs.Steps.{read_broken, read_no_tile, read_shown}
use Rattle.tiles.proofs.Panel.reading.Goals as goal

pub returns-then-not-keep_rules : goal.returns-then-not-keep_rules
returns-then-not-keep_rules c = read_broken c.args.tile c.args.self
    (sym c.keep_rules.ensures ∙ c.if-not-keep_rules.true)

pub returns-then-tile-ge-TILES : goal.returns-then-tile-ge-TILES
returns-then-tile-ge-TILES c =
    let a = c.args in
    read_no_tile a.tile a.self (sym c.keep_rules.ensures ∙ c.if-not-keep_rules.false)
    c.if-tile-ge-TILES.true

pub returns : goal.returns
returns c =
    let a = c.args in
    read_shown a.tile a.self
    (sym c.keep_rules.ensures ∙ c.if-not-keep_rules.false)
    c.if-tile-ge-TILES.false
