-- `tiles::frames::reading_in` meets its contract. Assumes nothing.
use mathlib.Core.Path.{ap, ◌∙◌}
use Rattle.catalogue.specs.Promises.{told_scaled}
use Rattle.catalogue.specs.declared.Value.{Value}
use Rattle.tiles.specs.Tile.{shown, reading_in}
use Rattle.tiles.proofs.Steps.{read_value, read_small, read_some}
use Rattle.tiles.proofs.frames.reading_in.Goals as goal

pub shown-requires : goal.shown-requires
shown-requires c =
    let a = c.args in
    read_small a.row a.id a.bytes.now _ c.requires c.read_row_scaled.ensures _ c.in-Ok.is

pub returns-in-Ok : goal.returns-in-Ok
unfolding reading_in
returns-in-Ok c =
    let a = c.args in
    let v = read_value a.row a.id a.bytes.now _ c.requires c.read_row_scaled.ensures _ c.in-Ok.is in
    c.shown.ensures ∙ ap (λ (x : Value). shown a.row.unit x) v

pub returns-in-Err : goal.returns-in-Err
returns-in-Err c =
    let a = c.args in
    read_some a.row a.id a.bytes.now _ c.requires c.read_row_scaled.ensures _ (ap told_scaled c.in-Err.is)
