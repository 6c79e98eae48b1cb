-- `text::put_digits` meets its contract. Assumes nothing.
use mathlib.Core.Path.{refl, sym, ◌∙◌}
use native.Mathlib.Omega.{arith}
use lib.ListN.{length-set}
use Rattle.text.proofs.Pieces.{down_turn, down_end, down_digits}
use Rattle.text.proofs.put_digits.Goals as goal

pub loop-i-preserved : goal.loop-i-preserved
loop-i-preserved c =
    let l = c.loop-i in
    let a = c.args in
    record {
      room = simp length-set l.invariant.room;
      within = omega arith;
      put = rw c.glyph_of.ensures (down_turn a.base a.at l.i l.rest l.out (omega arith) ∙ l.invariant.put);
    }

pub returns : goal.returns
returns c =
    let l = c.loop-i in
    let a = c.args in (
      sym (down_end a.base a.at l.i l.rest l.out (omega arith)) ∙ l.invariant.put
          ∙ down_digits a.base a.at a.count a.number a.out.now (omega arith),
      refl,
    )
