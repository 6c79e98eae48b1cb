-- `nodes::look_up` meets its contract. Assumes nothing.
use native.Mathlib.Omega.{arith}
use lib.Seq.{length-take-le}
use Rattle.nodes.specs.Table.{addresses}
use Rattle.nodes.proofs.Call.{judged_sound}
use Rattle.nodes.proofs.look_up.Goals as goal

pub slice_bounds-holder-end : goal.slice_bounds-holder-end
slice_bounds-holder-end c = omega (arith, length-take-le addresses c.args.table.now (judged_sound _ c.in_ok-judge.ensures).0)

pub holder-requires : goal.holder-requires
holder-requires c = length-take-le addresses c.args.table.now (judged_sound _ c.in_ok-judge.ensures).0
