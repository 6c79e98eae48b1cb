-- `capture::blocks::too_long` meets its contract. Assumes nothing.
use mathlib.Core.Path.{sym, ◌∙◌}
use Prim.Native.Nat.{◌+◌, ◌-◌}
use native.Mathlib.Omega.{arith}
use borrow.Author.Tests.{ltb-true, ltb-false, lt-ltb, le-ltb}
use Rattle.capture.specs.Cutter.{is_too_long}
use Rattle.words.proofs.Words.{by_test}
use Rattle.words.specs.Words.{◌<?◌}
use Rattle.capture.proofs.blocks.too_long.Goals as goal

pub returns-then-length-gt-LONGEST_LINE : goal.returns-then-length-gt-LONGEST_LINE
unfolding is_too_long
returns-then-length-gt-LONGEST_LINE c =
    let a = c.args in
    lt-ltb 80 a.length (omega arith) ∙ sym (lt-ltb 80 (a.length + a.more) (omega arith))

pub returns-else-length-gt-LONGEST_LINE : goal.returns-else-length-gt-LONGEST_LINE
unfolding is_too_long
returns-else-length-gt-LONGEST_LINE c =
    let a = c.args in
    by_test (80 - a.length <? a.more)
    (λ e. e ∙ sym (lt-ltb 80 (a.length + a.more) (omega (arith, ltb-true (80 - a.length) a.more e))))
    (λ e. e ∙ sym (le-ltb 80 (a.length + a.more) (omega (arith, ltb-false (80 - a.length) a.more e))))
