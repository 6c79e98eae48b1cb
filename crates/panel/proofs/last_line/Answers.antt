-- `panel::last_line` is safe and ends. Assumes nothing.
use mathlib.Core.Path.{◌≡◌, sym}
use native.Mathlib.Omega.{arith}
use lib.Seq.{length-take-le}
use lib.ListN.{length}
use Rattle.capture.proofs.Feeding.{last_fits}
use borrow.Author.Rules.{rules}
use Rattle.panel.proofs.last_line.Goals as goal

pub slice_bounds-carry-end : goal.slice_bounds-carry-end
slice_bounds-carry-end c =
    let a = c.args in
    let carry = a.listener.cutter.carry in
    let l : length carry ≡ 80 = search rules in
    let h = last_fits c.in-Carried.count a.listener.cutter c.last-ending.result c.last-ending.ensures c.in-Carried.is in
    omega arith

pub slice_bounds-hear_line-end : goal.slice_bounds-hear_line-end
slice_bounds-hear_line-end c =
    let a = c.args in
    let carry = a.listener.cutter.carry in
    let l : length carry ≡ 80 = search rules in
    let h = last_fits c.in-Carried.count a.listener.cutter c.last-ending.result c.last-ending.ensures c.in-Carried.is in
    sym (length-take-le c.in-Carried.count carry (omega arith))
