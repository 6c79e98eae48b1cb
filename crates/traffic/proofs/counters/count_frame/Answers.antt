-- `traffic::counters::count_frame` meets its contract. Assumes nothing.
use mathlib.Core.Path.{refl, sym, ◌∙◌}
use native.Mathlib.Omega.{arith}
use Rattle.traffic.proofs.Holding.{bounds, known, holds_known}
use Rattle.traffic.proofs.counters.count_frame.Goals as goal

pub find-requires : goal.find-requires
find-requires c = let b = bounds c.requires.0.held in let h = c.requires.0.held.holds in omega arith

pub row_at-row-requires : goal.row_at-row-requires
row_at-row-requires c = let k = known c.args.pair c.in-Some.i c.requires.0.held c.find.ensures c.in-Some.is in (k.below, (bounds c.requires.0.held).room)

pub next_frame-requires : goal.next_frame-requires
next_frame-requires c =
    let k = known c.args.pair c.in-Some.i c.requires.0.held c.find.ensures c.in-Some.is in
    let a = c.requires.1.after in
    rw c.row_at-row.ensures
    (omega (arith, k.last, a), omega (arith, k.frames, c.requires.0.fewer), omega (arith, k.sum, a), c.requires.1.bounded)

pub put_row-requires : goal.put_row-requires
put_row-requires c = let k = known c.args.pair c.in-Some.i c.requires.0.held c.find.ensures c.in-Some.is in (k.below, (bounds c.requires.0.held).room)

pub count_new-requires : goal.count_new-requires
count_new-requires c = (c.requires.0, c.requires.1, sym c.find.ensures ∙ c.in-None.is)

pub returns-in-Some : goal.returns-in-Some
returns-in-Some c =
    let i = c.in-Some.i in
    let f = sym c.find.ensures ∙ c.in-Some.is in
    let p = rw (c.next_frame.ensures, c.row_at-row.ensures) at c.put_row.ensures in
    record {
      holds = λ lines pause h e k. holds_known c.args.pair pause c.args.clock h e k i f p;
      one = refl;
    }
