-- `capture::blocks::line` meets its contract. Assumes nothing.
use mathlib.Core.Path.{sym, ◌∙◌}
use Prim.Native.Nat.{◌-◌}
use borrow.Author.Rules.{rules}
use Rattle.capture.specs.Cutter.{line_at}
use Rattle.words.proofs.Tests.{tests}
use Rattle.capture.proofs.Cuts.{not_too_long}
use Rattle.capture.proofs.blocks.line.Goals as goal

pub returns-then-too_long : goal.returns-then-too_long
unfolding line_at
returns-then-too_long c = search (tests, sym c.too_long.ensures ∙ c.if-too_long.true)

pub returns-then-length-eq0 : goal.returns-then-length-eq0
unfolding line_at
returns-then-length-eq0 c = search (tests, sym c.too_long.ensures ∙ c.if-too_long.false)

pub overflow_add-result : goal.overflow_add-result
overflow_add-result c =
    let a = c.args in
    let h = not_too_long a.length (a.to - a.from) (sym c.too_long.ensures ∙ c.if-too_long.false) in
    search rules

pub returns : goal.returns
unfolding line_at
returns c = search (tests, sym c.too_long.ensures ∙ c.if-too_long.false)
