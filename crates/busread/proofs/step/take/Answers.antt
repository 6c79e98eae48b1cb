-- `busread::step::take` meets its contract. Assumes nothing.
use Rattle.busread.proofs.Printing.{sound_line, malformed_line}
use Rattle.busread.proofs.step.take.Goals as goal

pub returns-in-Ok : goal.returns-in-Ok
returns-in-Ok c = rw (sound_line c.take_apart-line.ensures c.in-Ok.is) c.hear.ensures

pub returns-in-Err : goal.returns-in-Err
returns-in-Err c = rw (malformed_line c.take_apart-line.ensures c.in-Err.is) (c.malformed.ensures c.args.storage.now)
