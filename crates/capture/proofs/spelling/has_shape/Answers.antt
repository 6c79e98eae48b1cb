-- `capture::spelling::has_shape` meets its contract. Assumes nothing.
use mathlib.Core.Path.{sym, ◌∙◌}
use native.Mathlib.Omega.{arith}
use borrow.Author.Tests.{le-leb}
use lib.ListN.{length}
use Rattle.capture.specs.Line.{has_shape}
use Rattle.words.proofs.Tests.{tests}
use Rattle.capture.proofs.spelling.has_shape.Goals as goal

pub returns-then-line-lt-SHORTEST_LINE : goal.returns-then-line-lt-SHORTEST_LINE
unfolding has_shape
returns-then-line-lt-SHORTEST_LINE c = search tests

pub returns-then-line-gt-TEXT_BYTES : goal.returns-then-line-gt-TEXT_BYTES
unfolding has_shape
returns-then-line-gt-TEXT_BYTES c = search tests

pub returns-then-not-begins : goal.returns-then-not-begins
unfolding has_shape
returns-then-not-begins c = search (tests, sym c.begins.ensures ∙ c.if-not-begins.true)

pub returns-then-not-begins-2 : goal.returns-then-not-begins-2
unfolding has_shape
returns-then-not-begins-2 c =
    search (tests, sym c.begins.ensures ∙ c.if-not-begins.false, sym c.begins-2.ensures ∙ c.if-not-begins-2.true)

pub returns : goal.returns
unfolding has_shape
returns c =
    let line = c.args.line.now in
    let e₁ = sym c.begins.ensures ∙ c.if-not-begins.false in
    let e₂ = sym c.begins-2.ensures ∙ c.if-not-begins-2.false in
    c.begins-3.ensures ∙ rw (le-leb 39 (length line) (omega arith), le-leb (length line) 43 (omega arith), e₁, e₂)
