-- `faults::read` meets its contract. Assumes nothing.
use Rattle.faults.proofs.Table.{read_by}
use Rattle.faults.proofs.read.Goals as goal

pub returns : goal.returns
returns c =
    let a = c.args in
    read_by a.n a.id a.bytes.now _ _ c.nth.ensures c.read_row.ensures
