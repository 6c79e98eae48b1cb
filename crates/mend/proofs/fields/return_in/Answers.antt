-- `mend::fields::return_in` meets its contract. Assumes nothing.
use mathlib.Core.Path.{sym}
use native.Mathlib.Omega.{arith}
use Rattle.mend.proofs.Finding.{tail_none, tail_more, tail_return, tail_other}
use Rattle.mend.proofs.fields.return_in.Goals as goal

pub returns-then-count-eq0 : goal.returns-then-count-eq0
returns-then-count-eq0 c =
    let a = c.args in
    sym (tail_none a.line.now a.at (omega arith))

pub returns-then-count-ne1 : goal.returns-then-count-ne1
returns-then-count-ne1 c =
    let a = c.args in
    sym (tail_more a.line.now a.at (omega arith))

pub returns-then-line-at-ne13 : goal.returns-then-line-at-ne13
returns-then-line-at-ne13 c =
    let a = c.args in
    sym (tail_other a.line.now a.at (omega arith) c.if-line-at-ne13.true)

pub returns : goal.returns
returns c =
    let a = c.args in
    sym (tail_return a.line.now a.at (omega arith) c.if-line-at-ne13.false)
