-- `capture::spelling::gap` meets its contract. Assumes nothing.
use mathlib.Core.Path.{sym, ◌∙◌, ap}
use Rattle.capture.specs.Private.{told_spelled}
use Rattle.capture.specs.Line.{gap_read}
use Rattle.words.proofs.Tests.{tests}
use Rattle.capture.proofs.spelling.gap.Goals as goal

pub returns-in_err-gap : goal.returns-in_err-gap
unfolding gap_read
returns-in_err-gap c =
    let e = sym c.number.ensures ∙ ap told_spelled c.in_err-gap.was in
    rw c.from_residual.ensures (sym (rw e))

pub returns-then-gap-gt-GREATEST_GAP : goal.returns-then-gap-gt-GREATEST_GAP
unfolding gap_read
returns-then-gap-gt-GREATEST_GAP c =
    let e = sym c.number.ensures ∙ ap told_spelled c.in_ok-gap.was in
    search (tests, e)

pub returns-then-decimal_width-part : goal.returns-then-decimal_width-part
unfolding gap_read
returns-then-decimal_width-part c =
    let e = sym c.number.ensures ∙ ap told_spelled c.in_ok-gap.was in
    search (tests, e, ← c.decimal_width.ensures.width)

pub returns : goal.returns
unfolding gap_read
returns c =
    let e = sym c.number.ensures ∙ ap told_spelled c.in_ok-gap.was in
    search (tests, e, ← c.decimal_width.ensures.width)
