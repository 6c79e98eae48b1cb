-- `nodes::find_challenger` meets its contract. Assumes nothing.
use native.Mathlib.Omega.{arith}
use lib.Seq.{length-take-le}
use Rattle.nodes.specs.Table.{addresses}
use Rattle.nodes.proofs.Call.{judged_sound}
use Rattle.nodes.proofs.find_challenger.Goals as goal

pub slice_bounds-challenger-end : goal.slice_bounds-challenger-end
slice_bounds-challenger-end c = omega (arith, length-take-le addresses c.args.table.now (judged_sound _ c.in_ok-judge.ensures).0)

pub challenger-requires : goal.challenger-requires
challenger-requires c = length-take-le addresses c.args.table.now (judged_sound _ c.in_ok-judge.ensures).0
