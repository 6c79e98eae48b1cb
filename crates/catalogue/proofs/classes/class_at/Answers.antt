-- `catalogue::classes::class_at` meets its contract. Assumes nothing.
use mathlib.Core.Path.{refl, sym}
use Prim.Native.Nat.{◌<◌}
use native.Mathlib.Omega.{arith}
use borrow.Author.Rules.{rules}
use Rattle.words.proofs.Tests.{tests}
use Rattle.catalogue.proofs.Classed.{at_none, none_past, counted, three_below}
use Rattle.catalogue.proofs.classes.class_at.Goals as goal
use Rattle.catalogue.proofs.classes.class_at.Goals.{then-width-lt-LEAST_CLASSED-via-then-width-lt-LEAST_CLASSED, then-width-lt-LEAST_CLASSED-via-else-width-lt-LEAST_CLASSED+then-width-gt-FRAME_BITS}

pub returns-then-width-lt-LEAST_CLASSED : goal.returns-then-width-lt-LEAST_CLASSED
returns-then-width-lt-LEAST_CLASSED c =
    let a = c.args in
    elim c.then-width-lt-LEAST_CLASSED.branch [
      | then-width-lt-LEAST_CLASSED-via-then-width-lt-LEAST_CLASSED w ↦ sym (at_none a.width a.code w.if-width-lt-LEAST_CLASSED.true)
      | then-width-lt-LEAST_CLASSED-via-else-width-lt-LEAST_CLASSED+then-width-gt-FRAME_BITS w ↦
          let h : 64 < a.width = omega (arith, w.if-width-gt-FRAME_BITS.true) in
          sym (none_past a.width a.code h c.ranges.code.fits)
    ]

pub returns-then-code-greatest : goal.returns-then-code-greatest
returns-then-code-greatest c =
    let a = c.args in
    rw (counted a.width a.code _ _ c.if-width-lt-LEAST_CLASSED.false c.greatest_code-greatest.ensures refl) (search tests)

pub returns-then-not-has_three : goal.returns-then-not-has_three
returns-then-not-has_three c =
    let a = c.args in
    rw (counted a.width a.code _ _ c.if-width-lt-LEAST_CLASSED.false c.greatest_code-greatest.ensures c.has_three.ensures) (search (tests, c.if-not-has_three.true-raw))

pub overflow_sub-greatest : goal.overflow_sub-greatest
overflow_sub-greatest c =
    let h = three_below _ _ _ c.greatest_code-greatest.ensures c.has_three.ensures c.if-not-has_three.false-raw in
    search (rules, h)

pub returns-then-code-greatest-2 : goal.returns-then-code-greatest-2
returns-then-code-greatest-2 c =
    let a = c.args in
    rw (counted a.width a.code _ _ c.if-width-lt-LEAST_CLASSED.false c.greatest_code-greatest.ensures c.has_three.ensures) (search (tests, c.if-not-has_three.false-raw))

pub returns-then-code-greatest-3 : goal.returns-then-code-greatest-3
returns-then-code-greatest-3 c =
    let a = c.args in
    rw (counted a.width a.code _ _ c.if-width-lt-LEAST_CLASSED.false c.greatest_code-greatest.ensures c.has_three.ensures) (search (tests, c.if-not-has_three.false-raw))

pub returns : goal.returns
returns c =
    let a = c.args in
    rw (counted a.width a.code _ _ c.if-width-lt-LEAST_CLASSED.false c.greatest_code-greatest.ensures c.has_three.ensures) (search (tests, c.if-not-has_three.false-raw))
