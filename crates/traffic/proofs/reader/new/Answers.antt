-- `traffic::reader::new` meets its contract. Assumes nothing.
use Rattle.traffic.proofs.Holding.{start_holds}
use Rattle.traffic.proofs.reader.new.Goals as goal

pub returns : goal.returns
returns c = record { cutter = c.new.ensures.cutter; holds = λ table n. start_holds n }
