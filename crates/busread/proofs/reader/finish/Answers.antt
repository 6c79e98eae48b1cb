-- `busread::reader::finish` meets its contract. Assumes nothing.
use mathlib.Core.Path.{◌≡◌, ap, sym, ◌∙◌}
use Prim.Native.Nat.{ℕ}
use lib.ListN.{length, take}
use lib.Seq.{length-take-le}
use Rattle.capture.specs.Stream.{whole, too_long, piece_read}
use Rattle.capture.specs.Feeding.{last_pieces}
use Rattle.capture.specs.declared.Ending.{Ending}
use Rattle.capture.proofs.Feeding.{last_fits}
use Rattle.busread.specs.Report.{lines_text}
use Rattle.busread.specs.Reader.{kept_by}
use Rattle.busread.proofs.Reading.{one_more_last, last_line}
use native.Mathlib.Omega.{arith}
use borrow.Author.Rules.{rules}
use Rattle.busread.proofs.reader.finish.Goals as goal

pub slice_bounds-carry-end : goal.slice_bounds-carry-end
slice_bounds-carry-end c =
    let l : length c.args.reader.cutter.carry ≡ 80 = search rules in
    let w = last_fits c.in-Carried.count c.args.reader.cutter c.last-ending.result c.last-ending.ensures c.in-Carried.is in
    omega arith

pub slice_bounds-take-end : goal.slice_bounds-take-end
slice_bounds-take-end c =
    let l : length c.args.reader.cutter.carry ≡ 80 = search rules in
    let w = last_fits c.in-Carried.count c.args.reader.cutter c.last-ending.result c.last-ending.ensures c.in-Carried.is in
    sym (length-take-le c.in-Carried.count c.args.reader.cutter.carry (omega arith))

pub take-step-requires : goal.take-step-requires
take-step-requires c = let g = c.in-Carried.is in (omega arith, omega arith, one_more_last c.requires.2 c.last-ending.ensures (λ e. let z : ◌≡◌ {A = ℕ} 0 1 = cc in omega arith), c.requires.2.counting, c.requires.3)

pub put_closing-requires : goal.put_closing-requires
put_closing-requires c = let w = c.take-step.ensures.printed.room in let s = c.take-step.ensures.short in omega arith

pub malformed-step-requires : goal.malformed-step-requires
malformed-step-requires c = let g = c.in-TooLong.is in (omega arith, one_more_last c.requires.2 c.last-ending.ensures (λ e. let z : ◌≡◌ {A = ℕ} 0 1 = cc in omega arith), c.requires.2.counting)

pub put_closing-requires-in-TooLong : goal.put_closing-requires-in-TooLong
put_closing-requires-in-TooLong c = let w = c.malformed-step.ensures c.args.storage.now in omega arith

pub returns-in-Carried : goal.returns-in-Carried
unfolding piece_read
returns-in-Carried c = rw (ap (λ (e : Ending). lines_text (kept_by c.args.reader c.args.storage.now) (last_pieces c.args.reader.cutter e)) (sym c.last-ending.ensures.answer ∙ c.in-Carried.is)) (last_line (whole (take c.in-Carried.count c.args.reader.cutter.carry)) c.take-step.ensures c.put_closing.ensures)

pub returns-in-TooLong : goal.returns-in-TooLong
unfolding piece_read
returns-in-TooLong c = rw (ap (λ (e : Ending). lines_text (kept_by c.args.reader c.args.storage.now) (last_pieces c.args.reader.cutter e)) (sym c.last-ending.ensures.answer ∙ c.in-TooLong.is)) (last_line too_long (c.malformed-step.ensures c.args.storage.now) c.put_closing-in-TooLong.ensures)

pub returns-in-Nothing : goal.returns-in-Nothing
unfolding lines_text
returns-in-Nothing c = rw (ap (λ (e : Ending). lines_text (kept_by c.args.reader c.args.storage.now) (last_pieces c.args.reader.cutter e)) (sym c.last-ending.ensures.answer ∙ c.in-Nothing.is)) c.put_closing-in-Nothing.ensures
