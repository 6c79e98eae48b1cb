-- `capture::blocks::carry_on` meets its contract. Assumes nothing.
use mathlib.Core.Path.{◌≡◌, sym, ◌∙◌}
use native.Mathlib.Omega.{arith}
use borrow.Author.Rules.{rules}
use lib.ListN.{length}
use Rattle.capture.specs.Cutter.{carried_on}
use Rattle.words.proofs.Tests.{tests}
use Rattle.text.proofs.Pieces.{put_placed}
use Rattle.capture.proofs.Cuts.{not_too_long}
use Rattle.capture.proofs.blocks.carry_on.Goals as goal

pub returns-then-too_long : goal.returns-then-too_long
unfolding carried_on
returns-then-too_long c = search (tests, sym c.too_long.ensures ∙ c.if-too_long.true)

pub returns : goal.returns
unfolding carried_on
returns c =
    let a = c.args in
    let e = sym c.too_long.ensures ∙ c.if-too_long.false in
    let h = not_too_long a.cutter.length (length a.part.now) e in
    let l : length a.cutter.carry ≡ 80 = search rules in
    let w = put_placed c.put-length.ensures (omega arith) in
    rw (e, w.0, w.1)
