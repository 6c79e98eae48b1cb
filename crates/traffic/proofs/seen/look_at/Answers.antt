-- `traffic::seen::look_at` meets its contract. Assumes nothing.
use Rattle.traffic.proofs.Looking.{sound_seen, malformed_seen}
use borrow.Author.Rules.{rules}
use Rattle.traffic.proofs.seen.look_at.Goals as goal

pub returns-in-Ok : goal.returns-in-Ok
returns-in-Ok c = sound_seen c.judge.result c.take_apart-line.ensures c.in-Ok.is (search rules) c.judge.ensures

pub returns-in-Err : goal.returns-in-Err
returns-in-Err c = malformed_seen c.take_apart-line.ensures c.in-Err.is c.malformed.ensures
