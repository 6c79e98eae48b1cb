-- `panel::show::send` is safe and ends. Assumes nothing.
use mathlib.Core.Path.{◌≡◌}
use native.Mathlib.Omega.{arith}
use lib.ListN.{length}
use Rattle.capture.proofs.Laws.{written_length}
use borrow.Author.Rules.{rules}
use Rattle.panel.proofs.show.send.Goals as goal

pub slice_bounds-text-end : goal.slice_bounds-text-end
slice_bounds-text-end c =
    let a = c.args in
    let e : length a.bytes ≡ 8 = search rules in
    let l : length c.write-line.result.bytes ≡ 43 = search rules in
    let h = written_length 0 a.id a.bytes c.write-line.result (omega arith) e c.write-line.ensures in
    omega arith
