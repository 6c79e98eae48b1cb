-- What the loop of `tiles::frames::heard_by_all` keeps: the tiles so far have heard the frame.
use mathlib.Core.List.{map, ◌++◌}
use Rattle.std.proofs.Common.{◌≡◌, take, drop}
use Rattle.tiles.specs.Tile.{heard_by}
use Rattle.tiles.proofs.frames.heard_by_all.Given as goal

abbrev pub invariant-loop-t : goal.invariant-loop-t
invariant-loop-t l = record {
  so_far : l.t-items ≡ map (heard_by l.frame.dgn l.frame.bytes.now) (take l.t-index l.initial.t-items) ++ drop l.t-index l.initial.t-items;
}
