-- `mend::reader::turn` meets its contract. Assumes nothing.
use mathlib.Core.Path.{◌≡◌, sym, ap}
use native.Mathlib.Omega.{arith}
use borrow.Author.Rules.{rules}
use lib.ListN.{length, length-take}
use lib.Seq.{length-take-le}
use Rattle.capture.specs.Feeding.{yield_in}
use Rattle.capture.proofs.Feeding.{within_block, carried_fits}
use Rattle.mend.proofs.Reading.{turned, used_up, read_up}
use Rattle.mend.proofs.reader.turn.Goals as goal

pub slice_bounds-put_whole-count : goal.slice_bounds-put_whole-count
slice_bounds-put_whole-count c =
    let a = c.args in
    let w = within_block a.block.now a.read_to _ _ a.cutter c.next-cut.result c.next-cut.ensures c.in-Within.is in
    search rules

pub slice_bounds-put_whole-start : goal.slice_bounds-put_whole-start
slice_bounds-put_whole-start c =
    let a = c.args in
    let w = within_block a.block.now a.read_to _ _ a.cutter c.next-cut.result c.next-cut.ensures c.in-Within.is in
    search rules

pub slice_bounds-put_whole-end : goal.slice_bounds-put_whole-end
slice_bounds-put_whole-end c =
    let a = c.args in
    let w = within_block a.block.now a.read_to _ _ a.cutter c.next-cut.result c.next-cut.ensures c.in-Within.is in
    search rules

pub put_whole-end-requires : goal.put_whole-end-requires
put_whole-end-requires c =
    let a = c.args in
    let w = within_block a.block.now a.read_to _ _ a.cutter c.next-cut.result c.next-cut.ensures c.in-Within.is in
    (omega arith, rw length-take (omega arith))

pub slice_bounds-carry-end : goal.slice_bounds-carry-end
slice_bounds-carry-end c =
    let a = c.args in
    let w = carried_fits a.block.now a.read_to _ a.cutter c.next-cut.result c.next-cut.ensures c.in-Carried.is in
    let l : length c.next-cut.result.cutter.carry ≡ 80 = search rules in
    omega arith

pub slice_bounds-put_whole-end-in-Carried : goal.slice_bounds-put_whole-end-in-Carried
slice_bounds-put_whole-end-in-Carried c =
    let a = c.args in
    let w = carried_fits a.block.now a.read_to _ a.cutter c.next-cut.result c.next-cut.ensures c.in-Carried.is in
    let l : length c.next-cut.result.cutter.carry ≡ 80 = search rules in
    sym (length-take-le c.in-Carried.count c.next-cut.result.cutter.carry (omega arith))

pub put_whole-end-requires-in-Carried : goal.put_whole-end-requires-in-Carried
put_whole-end-requires-in-Carried c =
    let a = c.args in
    let w = carried_fits a.block.now a.read_to _ a.cutter c.next-cut.result c.next-cut.ensures c.in-Carried.is in
    (omega arith, rw length-take (omega arith))

pub returns-in-Within : goal.returns-in-Within
returns-in-Within c =
    let y = ap (yield_in c.args.block.now c.next-cut.result.cutter) c.in-Within.is in
    rw c.left.ensures (turned c.next-cut.ensures y c.put_whole-end.ensures.0)

pub returns-in-Carried : goal.returns-in-Carried
returns-in-Carried c =
    let y = ap (yield_in c.args.block.now c.next-cut.result.cutter) c.in-Carried.is in
    rw c.left-in-Carried.ensures (turned c.next-cut.ensures y c.put_whole-end-in-Carried.ensures.0)

pub returns-in-TooLong : goal.returns-in-TooLong
returns-in-TooLong c =
    let y = ap (yield_in c.args.block.now c.next-cut.result.cutter) c.in-TooLong.is in
    rw c.left-in-TooLong.ensures (turned c.next-cut.ensures y c.put_too_long-end.ensures.0)

pub returns-in-BlockUsed : goal.returns-in-BlockUsed
returns-in-BlockUsed c =
    let y = ap (yield_in c.args.block.now c.next-cut.result.cutter) c.in-BlockUsed.is in
    rw c.left-in-BlockUsed.ensures (used_up c.next-cut.ensures y (omega arith))

pub returns-in-AllRead : goal.returns-in-AllRead
returns-in-AllRead c =
    let y = ap (yield_in c.args.block.now c.next-cut.result.cutter) c.in-AllRead.is in
    rw c.left-in-AllRead.ensures (read_up c.next-cut.ensures y (omega arith))
