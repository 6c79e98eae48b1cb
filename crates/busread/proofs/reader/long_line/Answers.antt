-- `busread::reader::long_line` meets its contract. Assumes nothing.
use Rattle.busread.proofs.reader.long_line.Goals as goal

pub returns : goal.returns
returns c = λ storage. record { step = c.malformed-step.result; took = c.malformed-step.ensures storage; left = c.taken.ensures }
