-- `panel::next_line` is safe and ends. Assumes nothing.
-- What it returns lies ahead in the block, so that the lines of a block end.
use mathlib.Core.Path.{◌≡◌, sym, ap}
use native.Mathlib.Omega.{arith}
use lib.Seq.{length-take-le}
use lib.ListN.{length}
use Rattle.capture.specs.Feeding.{yield_in}
use Rattle.capture.proofs.Feeding.{next_advances, within_block, carried_fits}
use borrow.Author.Rules.{rules}
use Rattle.panel.proofs.next_line.Goals as goal

pub slice_bounds-hear_line-count : goal.slice_bounds-hear_line-count
slice_bounds-hear_line-count c =
    let a = c.args in
    let w = within_block a.block.now a.at _ _ a.listener.cutter c.next-cut.result c.next-cut.ensures c.in-Within.is in
    search rules

pub slice_bounds-hear_line-start : goal.slice_bounds-hear_line-start
slice_bounds-hear_line-start c =
    let a = c.args in
    let w = within_block a.block.now a.at _ _ a.listener.cutter c.next-cut.result c.next-cut.ensures c.in-Within.is in
    search rules

pub slice_bounds-hear_line-end : goal.slice_bounds-hear_line-end
slice_bounds-hear_line-end c =
    let a = c.args in
    let w = within_block a.block.now a.at _ _ a.listener.cutter c.next-cut.result c.next-cut.ensures c.in-Within.is in
    search rules

pub slice_bounds-carry-end : goal.slice_bounds-carry-end
slice_bounds-carry-end c =
    let a = c.args in
    let carry = c.next-cut.result.cutter.carry in
    let l : length carry ≡ 80 = search rules in
    let h = carried_fits a.block.now a.at c.in-Carried.count a.listener.cutter c.next-cut.result c.next-cut.ensures c.in-Carried.is in
    omega arith

pub slice_bounds-hear_line-end-in-Carried : goal.slice_bounds-hear_line-end-in-Carried
slice_bounds-hear_line-end-in-Carried c =
    let a = c.args in
    let carry = c.next-cut.result.cutter.carry in
    let l : length carry ≡ 80 = search rules in
    let h = carried_fits a.block.now a.at c.in-Carried.count a.listener.cutter c.next-cut.result c.next-cut.ensures c.in-Carried.is in
    sym (length-take-le c.in-Carried.count carry (omega arith))

pub returns-in-Within : goal.returns-in-Within
returns-in-Within c =
    let a = c.args in
    let y = ap (yield_in a.block.now c.next-cut.result.cutter) c.in-Within.is in
    let h = next_advances a.block.now a.at a.listener.cutter c.next-cut.result _ c.next-cut.ensures y in
    let e = c.turned.ensures in
    omega arith

pub returns-in-Carried : goal.returns-in-Carried
returns-in-Carried c =
    let a = c.args in
    let y = ap (yield_in a.block.now c.next-cut.result.cutter) c.in-Carried.is in
    let h = next_advances a.block.now a.at a.listener.cutter c.next-cut.result _ c.next-cut.ensures y in
    let e = c.turned-in-Carried.ensures in
    omega arith

pub returns-in-TooLong : goal.returns-in-TooLong
returns-in-TooLong c =
    let a = c.args in
    let y = ap (yield_in a.block.now c.next-cut.result.cutter) c.in-TooLong.is in
    let h = next_advances a.block.now a.at a.listener.cutter c.next-cut.result _ c.next-cut.ensures y in
    let e = c.turned-in-TooLong.ensures in
    omega arith
