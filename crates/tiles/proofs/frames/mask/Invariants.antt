-- What the loop of `tiles::frames::mask` keeps: the bits of the tiles from a place on.
use Rattle.std.proofs.Common.{◌≡◌, length, drop}
use Rattle.tiles.specs.Tile.{matches}
use Rattle.tiles.specs.Panel.{mask_of}
use Rattle.tiles.proofs.frames.mask.Given as goal

abbrev pub invariant-loop-i : goal.invariant-loop-i
invariant-loop-i l = record {
  size : length l.p.tiles ≡ 32;
  so_far : l.mask ≡ mask_of (matches l.frame.dgn l.frame.instance) (drop l.i l.p.tiles);
}
