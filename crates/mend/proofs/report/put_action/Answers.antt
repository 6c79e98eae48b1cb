-- `mend::report::put_action` meets its contract. Assumes nothing.
use Rattle.mend.proofs.Putting.{not_due, first_due, next_due}
use Rattle.mend.proofs.report.put_action.Goals as goal

pub returns-then-not-due : goal.returns-then-not-due
returns-then-not-due c =
    not_due c.args.some c.args.word.now c.if-not-due.true c.requires.0

pub returns-then-not-some : goal.returns-then-not-some
returns-then-not-some c =
    first_due c.if-not-due.false c.if-not-some.true c.put.ensures c.requires.1 c.requires.0

pub returns : goal.returns
returns c =
    next_due c.if-not-due.false c.if-not-some.false c.put-comma_end.ensures c.put-2.ensures
    c.requires.1 c.requires.0
