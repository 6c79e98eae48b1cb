-- `frame::judge` meets its contract. Assumes nothing.
use mathlib.Core.Path.{sym, ap, ◌∙◌}
use Rattle.frame.specs.declared.Parts.{Parts}
use Rattle.frame.specs.Frame.{source_allowed, checked_of}
use Rattle.words.proofs.Tests.{tests}
use Rattle.frame.proofs.judge.Goals as goal

pub returns-then-id-ge-IDENTIFIERS : goal.returns-then-id-ge-IDENTIFIERS
unfolding checked_of
returns-then-id-ge-IDENTIFIERS c = search tests

pub returns-then-size-ne8 : goal.returns-then-size-ne8
unfolding checked_of
returns-then-size-ne8 c = search tests

pub returns-then-reserved_bit-eq1 : goal.returns-then-reserved_bit-eq1
unfolding checked_of
returns-then-reserved_bit-eq1 c = search (tests, ← c.reserved_bit.ensures)

pub returns-then-not-source_allowed : goal.returns-then-not-source_allowed
unfolding checked_of
returns-then-not-source_allowed c =
    let a = sym (ap (λ (p : Parts). source_allowed p.source p.dgn) c.parts_of-parts.ensures) ∙ sym c.source_allowed.ensures ∙ c.if-not-source_allowed.true in
    search (tests, ← c.reserved_bit.ensures, c.if-reserved_bit-eq1.false, a)

pub returns : goal.returns
unfolding checked_of
returns c =
    let a = sym (ap (λ (p : Parts). source_allowed p.source p.dgn) c.parts_of-parts.ensures) ∙ sym c.source_allowed.ensures ∙ c.if-not-source_allowed.false in
    search (tests, ← c.reserved_bit.ensures, c.if-reserved_bit-eq1.false, a, c.parts_of-parts.ensures)
