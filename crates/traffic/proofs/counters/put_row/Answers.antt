-- `traffic::counters::put_row` meets its contract. Assumes nothing.
use lib.ListN.{length-set}
use Rattle.traffic.proofs.Holding.{row_put}
use borrow.Author.Rules.{rules}
use Rattle.traffic.proofs.counters.put_row.Goals as goal

pub bounds-table-i-2 : goal.bounds-table-i-2
bounds-table-i-2 c = simp length-set (search rules)

pub bounds-table-i-3 : goal.bounds-table-i-3
bounds-table-i-3 c = simp length-set (search rules)

pub bounds-table-i-4 : goal.bounds-table-i-4
bounds-table-i-4 c = simp length-set (search rules)

pub bounds-table-i-5 : goal.bounds-table-i-5
bounds-table-i-5 c = simp length-set (search rules)

pub returns : goal.returns
returns c = row_put c.args.table.now c.args.i c.args.row c.requires.0 c.requires.1
