-- `tiles::frames::mask` meets its contract. Assumes nothing.
use mathlib.Core.Path.{◌≡◌}
use native.Mathlib.Omega.{arith}
use lib.ListN.{length}
use Rattle.words.proofs.Lists.{length_field}
use Rattle.tiles.specs.Tile.{matches}
use Rattle.tiles.proofs.Steps.{mask_start, mask_room, mask_turn, mask_end}
use Rattle.tiles.proofs.frames.mask.Goals as goal

pub loop-i-init : goal.loop-i-init
loop-i-init c =
    let a = c.args in
    let n : length a.p.tiles ≡ 32 = search length_field in
    record { size = n; so_far = mask_start (matches a.frame.dgn a.frame.instance) a.p.tiles n }

pub with_bit-mask-requires : goal.with_bit-mask-requires
with_bit-mask-requires c =
    let a = c.args in
    let l = c.loop-i in
    mask_room (matches a.frame.dgn a.frame.instance) a.p.tiles l.i l.mask l.invariant.size (omega arith) (omega arith) l.invariant.so_far

pub loop-i-preserved : goal.loop-i-preserved
loop-i-preserved c =
    let a = c.args in
    let l = c.loop-i in
    record {
      size = l.invariant.size;
      so_far = mask_turn (matches a.frame.dgn a.frame.instance) a.p.tiles l.i l.mask _ _ l.invariant.size (omega arith) (omega arith) l.invariant.so_far
          c.matches.ensures c.with_bit-mask.ensures;
    }

pub returns : goal.returns
returns c =
    let a = c.args in
    let l = c.loop-i in
    mask_end (matches a.frame.dgn a.frame.instance) a.p.tiles l.i l.mask (omega arith) l.invariant.so_far
