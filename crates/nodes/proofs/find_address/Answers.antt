-- `nodes::find_address` meets its contract. Assumes nothing.
use native.Mathlib.Omega.{arith}
use lib.Seq.{length-take-le}
use Rattle.nodes.specs.Table.{addresses}
use Rattle.nodes.proofs.Call.{judged_sound}
use Rattle.nodes.proofs.find_address.Goals as goal

pub slice_bounds-address-end : goal.slice_bounds-address-end
slice_bounds-address-end c = omega (arith, length-take-le addresses c.args.table.now (judged_sound _ c.in_ok-judge.ensures).0)

pub address-requires : goal.address-requires
address-requires c = length-take-le addresses c.args.table.now (judged_sound _ c.in_ok-judge.ensures).0
