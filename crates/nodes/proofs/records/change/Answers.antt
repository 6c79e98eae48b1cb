-- `nodes::records::change` meets its contract. Assumes nothing.
use mathlib.Core.Path.{◌≡◌, refl, sym, ap, ◌∙◌}
use mathlib.Core.List.{List}
use native.Mathlib.Omega.{arith}
use lib.ListN.{length, get_or}
use Rattle.nodes.specs.Table.{absent, each_from}
use Rattle.nodes.specs.declared.Node.{Node}
use Rattle.nodes.proofs.Each.{each_at, each_turn}
use Rattle.nodes.proofs.records.change.Goals as goal

pub loop-address-init : goal.loop-address-init
unfolding each_from
loop-address-init g c f h = refl

pub loop-address-preserved : goal.loop-address-preserved
loop-address-preserved g c f h =
    let l = c.loop-address in
    let ns = c.args.records.now in
    let same : get_or l.records l.address absent ≡ get_or ns l.address absent =
    ap (λ (xs : List Node). get_or xs l.address absent) (l.invariant f h) ∙ each_at f l.address 0 ns absent in
    let made = rw same at c.after.ensures in
    let e = h l.address c.after.result (omega arith) made in
    each_turn f l.address ns l.records c.after.result absent (l.invariant f h) (e ∙ ap (f l.address) (sym same))

pub returns : goal.returns
returns g c f h =
    let e : c.loop-address.address ≡ length c.args.records.now = omega arith in
    rw e at (c.loop-address.invariant f h)
