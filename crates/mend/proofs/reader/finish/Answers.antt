-- `mend::reader::finish` meets its contract. Assumes nothing.
use mathlib.Core.Path.{◌≡◌, sym, ap}
use Prim.Native.Nat.{ℕ}
use native.Mathlib.Omega.{arith}
use borrow.Author.Rules.{rules}
use lib.ListN.{length, length-take}
use lib.Seq.{length-take-le}
use Rattle.capture.specs.Feeding.{last_pieces}
use Rattle.capture.proofs.Feeding.{last_fits}
use Rattle.capture.proofs.Runs.{not_ended}
use Rattle.mend.proofs.Reading.{finished_line, finished_empty}
use Rattle.mend.proofs.reader.finish.Goals as goal

pub overflow_add-cutter : goal.overflow_add-cutter
overflow_add-cutter c =
    let g = c.in-Carried.is in
    let s = c.args.cutter in
    let h = not_ended s (λ e. let z : ◌≡◌ {A = ℕ} 0 1 = cc in omega arith) in
    omega arith

pub slice_bounds-carry-end : goal.slice_bounds-carry-end
slice_bounds-carry-end c =
    let n : length c.args.cutter.carry ≡ 80 = search rules in
    let w = last_fits _ c.args.cutter c.last-ending.result c.last-ending.ensures c.in-Carried.is in
    omega arith

pub slice_bounds-put_whole-end : goal.slice_bounds-put_whole-end
slice_bounds-put_whole-end c =
    let carry = c.args.cutter.carry in
    let n : length carry ≡ 80 = search rules in
    let w = last_fits _ c.args.cutter c.last-ending.result c.last-ending.ensures c.in-Carried.is in
    sym (length-take-le c.in-Carried.count carry (omega arith))

pub put_whole-requires : goal.put_whole-requires
put_whole-requires c =
    let w = last_fits _ c.args.cutter c.last-ending.result c.last-ending.ensures c.in-Carried.is in
    (omega arith, rw length-take (omega arith))

pub overflow_add-cutter-in-TooLong : goal.overflow_add-cutter-in-TooLong
overflow_add-cutter-in-TooLong c =
    let g = c.in-TooLong.is in
    let s = c.args.cutter in
    let h = not_ended s (λ e. let z : ◌≡◌ {A = ℕ} 0 1 = cc in omega arith) in
    omega arith

pub returns-in-Carried : goal.returns-in-Carried
returns-in-Carried c =
    finished_line c.last-ending.ensures (ap (last_pieces c.args.cutter) c.in-Carried.is) c.put_whole.ensures.0

pub returns-in-TooLong : goal.returns-in-TooLong
returns-in-TooLong c =
    finished_line c.last-ending.ensures (ap (last_pieces c.args.cutter) c.in-TooLong.is) c.put_too_long.ensures.0

pub returns-in-Nothing : goal.returns-in-Nothing
returns-in-Nothing c =
    finished_empty c.last-ending.ensures (ap (last_pieces c.args.cutter) c.in-Nothing.is)
