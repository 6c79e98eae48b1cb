-- `traffic::counters::count_new` meets its contract. Assumes nothing.
use mathlib.Core.Path.{refl, ◌∙◌}
use native.Mathlib.Omega.{arith}
use lib.ListN.{length-set}
use Rattle.traffic.proofs.Holding.{bounds, holds_new, holds_other}
use borrow.Author.Rules.{rules}
use Rattle.traffic.proofs.counters.count_new.Goals as goal

pub count_other-requires : goal.count_other-requires
count_other-requires c = (search rules, (bounds c.requires.0.held).other)

pub returns-then-at-ge-MOST_PAIRS : goal.returns-then-at-ge-MOST_PAIRS
returns-then-at-ge-MOST_PAIRS c =
    rw c.count_other.ensures
    (record {
      holds = λ lines pause h e k. holds_other c.args.pair pause c.args.clock h e k c.requires.2 (omega arith);
      one = refl;
    })

pub bounds-table-at : goal.bounds-table-at
bounds-table-at c = let b = bounds c.requires.0.held in search rules

pub put_row-requires : goal.put_row-requires
put_row-requires c = let b = bounds c.requires.0.held in (omega arith, length-set c.args.table.now c.args.totals.pairs c.args.pair ∙ b.room)

pub shape_of-table : goal.shape_of-table
shape_of-table c = c.put_row.ensures.room ∙ length-set c.args.table.now c.args.totals.pairs c.args.pair

pub returns : goal.returns
returns c =
    let p = rw c.first_frame.ensures at c.put_row.ensures in
    record {
      holds = λ lines pause h e k. holds_new c.args.pair pause c.args.clock h e k c.requires.2 (omega arith) p;
      one = refl;
    }
