-- What the loop of `command::picking::pick` keeps: the positions so far are those of the entries that pass.
use Rattle.std.proofs.Common.{◌≡◌, ◌≤◌, Bool, take}
use Rattle.command.specs.Hosted.{hosted}
use Rattle.command.specs.Positions.{positions_where, filled}
use Rattle.command.specs.Private.{Computes}
use Rattle.command.specs.declared.Entry.{Entry}
use Rattle.command.proofs.picking.pick.Given as goal

abbrev pub invariant-loop-i : goal.invariant-loop-i
invariant-loop-i g l = record {
  few : l.picked.count ≤ l.i;
  picked : (passes : Entry → Bool) → Computes (goal.F-post g l.passes) passes (hosted l.fn.host)
      → l.picked ≡ filled (positions_where passes (take l.i (hosted l.fn.host)));
}
