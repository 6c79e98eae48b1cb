-- `traffic::reader::turn` meets its contract. Assumes nothing.
use mathlib.Core.Path.{◌≡◌, sym, ap}
use lib.ListN.{length}
use lib.Seq.{length-take-le}
use Rattle.capture.specs.Feeding.{yield_in}
use Rattle.traffic.proofs.Reading.{turned, used_up, read_up, within, carried, one_more, whole_seen, too_long_seen}
use native.Mathlib.Omega.{arith}
use borrow.Author.Rules.{rules}
use Rattle.traffic.proofs.reader.turn.Goals as goal

pub slice_bounds-look_at-count : goal.slice_bounds-look_at-count
slice_bounds-look_at-count c = let w = within c.next-cut.ensures c.in-Within.is in search rules

pub slice_bounds-look_at-start : goal.slice_bounds-look_at-start
slice_bounds-look_at-start c = let w = within c.next-cut.ensures c.in-Within.is in search rules

pub slice_bounds-look_at-end : goal.slice_bounds-look_at-end
slice_bounds-look_at-end c = let w = within c.next-cut.ensures c.in-Within.is in search rules

pub line-requires : goal.line-requires
line-requires c = (omega arith, one_more c.requires.2 c.next-cut.ensures (ap (yield_in c.args.block.now c.next-cut.result.cutter) c.in-Within.is))

pub slice_bounds-carry-end : goal.slice_bounds-carry-end
slice_bounds-carry-end c =
    let l : length c.next-cut.result.cutter.carry ≡ 80 = search rules in
    let w = carried c.next-cut.ensures c.in-Carried.is in
    omega arith

pub slice_bounds-look_at-end-in-Carried : goal.slice_bounds-look_at-end-in-Carried
slice_bounds-look_at-end-in-Carried c =
    let l : length c.next-cut.result.cutter.carry ≡ 80 = search rules in
    let w = carried c.next-cut.ensures c.in-Carried.is in
    sym (length-take-le c.in-Carried.count c.next-cut.result.cutter.carry (omega arith))

pub line-requires-in-Carried : goal.line-requires-in-Carried
line-requires-in-Carried c = (omega arith, one_more c.requires.2 c.next-cut.ensures (ap (yield_in c.args.block.now c.next-cut.result.cutter) c.in-Carried.is))

pub line-requires-in-TooLong : goal.line-requires-in-TooLong
line-requires-in-TooLong c = (omega arith, one_more c.requires.2 c.next-cut.ensures (ap (yield_in c.args.block.now c.next-cut.result.cutter) c.in-TooLong.is))

pub returns-in-Within : goal.returns-in-Within
returns-in-Within c =
    turned c.requires.2 c.next-cut.ensures (ap (yield_in c.args.block.now c.next-cut.result.cutter) c.in-Within.is) (whole_seen _ c.look_at-seen.ensures)
    c.line.ensures

pub returns-in-Carried : goal.returns-in-Carried
returns-in-Carried c =
    turned c.requires.2 c.next-cut.ensures (ap (yield_in c.args.block.now c.next-cut.result.cutter) c.in-Carried.is) (whole_seen _ c.look_at-seen-in-Carried.ensures)
    c.line-in-Carried.ensures

pub returns-in-TooLong : goal.returns-in-TooLong
returns-in-TooLong c =
    turned c.requires.2 c.next-cut.ensures (ap (yield_in c.args.block.now c.next-cut.result.cutter) c.in-TooLong.is) (too_long_seen c.malformed-seen.ensures)
    c.line-in-TooLong.ensures

pub returns-in-BlockUsed : goal.returns-in-BlockUsed
returns-in-BlockUsed c = rw c.stays.ensures (used_up c.requires.2 c.next-cut.ensures (ap (yield_in c.args.block.now c.next-cut.result.cutter) c.in-BlockUsed.is) (omega arith))

pub returns-in-AllRead : goal.returns-in-AllRead
returns-in-AllRead c = rw c.stays-in-AllRead.ensures (read_up c.requires.2 c.next-cut.ensures (ap (yield_in c.args.block.now c.next-cut.result.cutter) c.in-AllRead.is) (omega arith))
