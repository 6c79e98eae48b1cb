-- `tiles::frames::heard_by` meets its contract. Assumes nothing.
use mathlib.Core.Path.{sym, ap, ◌∙◌}
use Rattle.catalogue.specs.Promises.{told_looked}
use Rattle.tiles.proofs.Steps.{looked_row, heard_not, heard_none, heard_as_lem, row_is_read}
use Rattle.tiles.proofs.frames.heard_by.Goals as goal

pub returns-then-not-matches : goal.returns-then-not-matches
returns-then-not-matches c =
    let a = c.args in
    heard_not a.frame.dgn a.frame.instance a.frame.id a.frame.bytes.now a.t c.requires.frame_sound
    (sym c.matches.ensures ∙ c.if-not-matches.true)

pub reading_in-reading-requires : goal.reading_in-reading-requires
reading_in-reading-requires c =
    let a = c.args in
    let l = looked_row a.frame.rows.now a.t.row _ c.requires.rows_held c.row_in.ensures in
    let m = sym c.matches.ensures ∙ c.if-not-matches.false in
    row_is_read a.frame.dgn a.frame.instance a.frame.id a.frame.bytes.now a.t c.requires.frame_sound _ c.requires.tile_sound m
    (sym l ∙ ap told_looked c.in-Ok.is)

pub returns-in-Err : goal.returns-in-Err
returns-in-Err c =
    let a = c.args in
    let l = looked_row a.frame.rows.now a.t.row _ c.requires.rows_held c.row_in.ensures in
    let m = sym c.matches.ensures ∙ c.if-not-matches.false in
    heard_none a.frame.dgn a.frame.instance a.frame.id a.frame.bytes.now a.t c.requires.frame_sound _ m
    (sym l ∙ ap told_looked c.in-Err.is)

pub returns-in-Ok : goal.returns-in-Ok
returns-in-Ok c =
    let a = c.args in
    let l = looked_row a.frame.rows.now a.t.row _ c.requires.rows_held c.row_in.ensures in
    let m = sym c.matches.ensures ∙ c.if-not-matches.false in
    heard_as_lem a.frame.dgn a.frame.instance a.frame.id a.frame.bytes.now a.t c.requires.frame_sound _ _ m
    (sym l ∙ ap told_looked c.in-Ok.is) c.reading_in-reading.ensures
