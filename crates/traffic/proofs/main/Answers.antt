-- `traffic::main` meets its contract. Assumes nothing.
use borrow.Author.Rules.{rules}
use Rattle.traffic.proofs.Reading.{ready_at_start}
use Rattle.traffic.proofs.main.Goals as goal

pub read_all-reader-requires : goal.read_all-reader-requires
read_all-reader-requires c = (search rules, ready_at_start c.new.ensures c.table-table.ensures)

pub finish-written_to-requires : goal.finish-written_to-requires
finish-written_to-requires c = (search rules, c.read_all-reader.ensures)
