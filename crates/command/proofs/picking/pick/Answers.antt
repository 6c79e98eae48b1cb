-- `command::picking::pick` meets its contract. Assumes nothing.
use mathlib.Core.Path.{◌≡◌, sym, ap, ◌∙◌}
use mathlib.Core.Bool.{true, false}
use mathlib.Core.List.{List}
use Prim.Native.Nat.{◌≤◌}
use native.Mathlib.Omega.{arith}
use lib.ListN.{length, get_or}
use lib.Seq.{take_all, length-take-le}
use Rattle.words.proofs.Lists.{length_field}
use Rattle.command.specs.Hosted.{most_entries, blank_entry, hosted}
use Rattle.command.specs.Positions.{positions_where, filled}
use Rattle.command.specs.declared.Entry.{Entry}
use Rattle.command.specs.declared.Host.{Host}
use Rattle.command.specs.declared.Positions.{Positions}
use Rattle.command.proofs.Picks.{pick_turn}
use Rattle.command.proofs.picking.pick.Goals as goal
use Rattle.command.proofs.picking.pick.Goals.{then-passes, else-passes}

few_hosted : (h : Host) → length h.entries ≡ most_entries → h.count ≤ most_entries → length (hosted h) ≤ most_entries
few_hosted h l f =
    let n = length-take-le h.count h.entries (omega arith) in
    omega arith

pub loop-i-init : goal.loop-i-init
unfolding filled positions_where
loop-i-init g c = record {
  few = let e = ap (λ (p : Positions). p.count) c.none-picked.ensures in omega arith;
  picked = λ passes h. c.none-picked.ensures;
}

pub added-picked-requires : goal.added-picked-requires
added-picked-requires g c =
    let n : length c.args.host.entries ≡ most_entries = search length_field in
    let f = few_hosted c.args.host n c.requires.few in
    omega arith

pub loop-i-preserved : goal.loop-i-preserved
loop-i-preserved g c =
    let l = c.loop-i in
    let h = c.args.host in
    let n : length h.entries ≡ most_entries = search length_field in
    let f = few_hosted h n c.requires.few in
    elim c.if-passes.branch [
      | then-passes w ↦
          let e = w.picked-is ∙ w.added-picked.ensures in
          record {
            few = let k = ap (λ (p : Positions). p.count) e in omega arith;
            picked = λ passes q.
                let m : true ≡ passes (get_or (hosted h) l.i blank_entry) =
                sym w.if-passes.true ∙ q l.i c.passes.result c.loop-i-test.true c.passes.ensures in
                pick_turn passes (hosted h) l.i l.picked _ c.loop-i-test.true f (l.invariant.picked passes q)
                (e ∙ sym (rw (sym m)));
          }
      | else-passes w ↦
          record {
            few = let k = ap (λ (p : Positions). p.count) w.picked-is in omega arith;
            picked = λ passes q.
                let m : false ≡ passes (get_or (hosted h) l.i blank_entry) =
                sym w.if-passes.false ∙ q l.i c.passes.result c.loop-i-test.true c.passes.ensures in
                pick_turn passes (hosted h) l.i l.picked _ c.loop-i-test.true f (l.invariant.picked passes q)
                (w.picked-is ∙ sym (rw (sym m)));
          }
    ]

pub returns : goal.returns
returns g c passes h =
    let l = c.loop-i in
    l.invariant.picked passes h
    ∙ ap (λ (es : List Entry). filled (positions_where passes es)) (take_all l.i (hosted c.args.host) (omega arith))
