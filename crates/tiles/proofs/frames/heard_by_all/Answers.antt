-- `tiles::frames::heard_by_all` meets its contract. Assumes nothing.
use mathlib.Core.Path.{◌≡◌, refl, sym, ap, ◌∙◌, subst}
use mathlib.Core.Bool.{true}
use mathlib.Core.List.{List}
use Prim.Native.Nat.{◌≤◌, ◌<◌}
use native.Mathlib.Omega.{arith}
use lib.ListN.{length, get_or}
use Rattle.words.proofs.Lists.{length_field, every_at, map_at, image_turn, image_end}
use Rattle.tiles.specs.Tile.{tile_keeps_rules, blank_tile, heard_by}
use Rattle.tiles.specs.Panel.{keeps_rules}
use Rattle.tiles.specs.declared.Tile.{Tile}
use Rattle.tiles.proofs.frames.heard_by_all.Goals as goal

pub loop-t-init : goal.loop-t-init
loop-t-init c = record { so_far = refl }

pub heard_by-requires-clause-tile_sound : goal.heard_by-requires-clause-tile_sound
unfolding keeps_rules
heard_by-requires-clause-tile_sound c =
    let l = c.loop-t in
    let a = c.args in
    let ts = a.p.tiles in
    let n : length ts ≡ 32 = search length_field in
    let h : l.t-index < length ts = omega arith in
    let e = ap (λ (x : List Tile). get_or x l.t-index blank_tile) l.invariant.so_far ∙ map_at (heard_by a.frame.dgn a.frame.bytes.now) ts l.t-index blank_tile h in
    subst (λ (x : Tile). tile_keeps_rules x ≡ true) (sym e) (every_at tile_keeps_rules ts l.t-index blank_tile h c.requires.panel_sound)

pub loop-t-preserved : goal.loop-t-preserved
loop-t-preserved c =
    let l = c.loop-t in
    let a = c.args in
    let ts = a.p.tiles in
    let n : length ts ≡ 32 = search length_field in
    let h : l.t-index < length ts = omega arith in
    record { so_far = image_turn (heard_by a.frame.dgn a.frame.bytes.now) ts l.t-items l.t-index blank_tile c.heard_by.result h l.invariant.so_far c.heard_by.ensures }

pub returns : goal.returns
returns c =
    let l = c.loop-t in
    let a = c.args in
    let n : length a.p.tiles ≡ 32 = search length_field in
    let h : length a.p.tiles ≤ l.t-index = omega arith in
    rw (image_end (heard_by a.frame.dgn a.frame.bytes.now) a.p.tiles l.t-items l.t-index h l.invariant.so_far)
