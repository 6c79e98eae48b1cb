-- `traffic::seen::judge` meets its contract. Assumes nothing.
use Rattle.traffic.proofs.Looking.{sound_says, bad_says}
use borrow.Author.Rules.{rules}
use Rattle.traffic.proofs.seen.judge.Goals as goal

pub returns-in-Ok : goal.returns-in-Ok
returns-in-Ok c = sound_says c.check.ensures c.in-Ok.is (search rules)

pub returns-in-Err : goal.returns-in-Err
returns-in-Err c = rw c.from.ensures (bad_says c.check.ensures c.in-Err.is c.refusal.ensures (search rules))
