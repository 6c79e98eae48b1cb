-- `faults::write` meets its contract. Assumes nothing.
use Rattle.faults.proofs.Table.{write_by}
use Rattle.faults.proofs.write.Goals as goal

pub returns : goal.returns
returns c =
    let a = c.args in
    write_by a.n a.id a.bytes.now a.value _ _ _ c.nth.ensures c.write_row.ensures
