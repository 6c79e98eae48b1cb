-- `busread::reader::turn` meets its contract. Assumes nothing.
use mathlib.Core.Path.{◌≡◌, ap, sym}
use lib.ListN.{length}
use lib.Seq.{length-take-le}
use Rattle.capture.specs.Stream.{piece_read}
use Rattle.capture.specs.Feeding.{yield_in}
use Rattle.busread.proofs.Reading.{turned, used_up, read_up, within, carried, one_more}
use native.Mathlib.Omega.{arith}
use borrow.Author.Rules.{rules}
use Rattle.busread.proofs.reader.turn.Goals as goal

pub slice_bounds-line-count : goal.slice_bounds-line-count
slice_bounds-line-count c = let w = within c.next-cut.ensures c.in-Within.is in search rules

pub slice_bounds-line-start : goal.slice_bounds-line-start
slice_bounds-line-start c = let w = within c.next-cut.ensures c.in-Within.is in search rules

pub slice_bounds-line-end : goal.slice_bounds-line-end
slice_bounds-line-end c = let w = within c.next-cut.ensures c.in-Within.is in search rules

pub line-requires : goal.line-requires
line-requires c = (omega arith, omega arith, omega arith, one_more c.requires.3 c.next-cut.ensures (ap (yield_in c.args.block.now c.next-cut.result.cutter) c.in-Within.is), c.requires.4)

pub slice_bounds-carry-end : goal.slice_bounds-carry-end
slice_bounds-carry-end c =
    let l : length c.next-cut.result.cutter.carry ≡ 80 = search rules in
    let w = carried c.next-cut.ensures c.in-Carried.is in
    omega arith

pub slice_bounds-line-end-in-Carried : goal.slice_bounds-line-end-in-Carried
slice_bounds-line-end-in-Carried c =
    let l : length c.next-cut.result.cutter.carry ≡ 80 = search rules in
    let w = carried c.next-cut.ensures c.in-Carried.is in
    sym (length-take-le c.in-Carried.count c.next-cut.result.cutter.carry (omega arith))

pub line-requires-in-Carried : goal.line-requires-in-Carried
line-requires-in-Carried c = (omega arith, omega arith, omega arith, one_more c.requires.3 c.next-cut.ensures (ap (yield_in c.args.block.now c.next-cut.result.cutter) c.in-Carried.is), c.requires.4)

pub long_line-requires : goal.long_line-requires
long_line-requires c = (omega arith, omega arith, one_more c.requires.3 c.next-cut.ensures (ap (yield_in c.args.block.now c.next-cut.result.cutter) c.in-TooLong.is))

pub returns-in-Within : goal.returns-in-Within
unfolding piece_read
returns-in-Within c = turned c.requires.3 c.next-cut.ensures (ap (yield_in c.args.block.now c.next-cut.result.cutter) c.in-Within.is) c.line.ensures

pub returns-in-Carried : goal.returns-in-Carried
unfolding piece_read
returns-in-Carried c = turned c.requires.3 c.next-cut.ensures (ap (yield_in c.args.block.now c.next-cut.result.cutter) c.in-Carried.is) c.line-in-Carried.ensures

pub returns-in-TooLong : goal.returns-in-TooLong
unfolding piece_read
returns-in-TooLong c = turned c.requires.3 c.next-cut.ensures (ap (yield_in c.args.block.now c.next-cut.result.cutter) c.in-TooLong.is) (c.long_line.ensures c.args.storage.now)

pub returns-in-BlockUsed : goal.returns-in-BlockUsed
returns-in-BlockUsed c = rw c.stays.ensures (used_up c.requires.3 c.next-cut.ensures (ap (yield_in c.args.block.now c.next-cut.result.cutter) c.in-BlockUsed.is) (omega arith))

pub returns-in-AllRead : goal.returns-in-AllRead
returns-in-AllRead c = rw c.stays-in-AllRead.ensures (read_up c.requires.3 c.next-cut.ensures (ap (yield_in c.args.block.now c.next-cut.result.cutter) c.in-AllRead.is) (omega arith))
