-- `traffic::reader::finish` meets its contract. Assumes nothing.
use mathlib.Core.List.{[], ◌∷◌}
use Prim.Native.Nat.{ℕ}
use Rattle.capture.specs.Stream.{whole, too_long}
use Rattle.capture.specs.Feeding.{last_pieces}
use Rattle.traffic.proofs.Reading.{one_more_last, whole_seen, too_long_seen, finished, closed_alone_lem}
use mathlib.Core.Path.{◌≡◌, sym, ap}
use lib.ListN.{length, take}
use lib.Seq.{length-take-le}
use Rattle.capture.proofs.Feeding.{last_fits}
use native.Mathlib.Omega.{arith}
use borrow.Author.Rules.{rules}
use Rattle.traffic.proofs.reader.finish.Goals as goal

pub slice_bounds-carry-end : goal.slice_bounds-carry-end
slice_bounds-carry-end c =
    let l : length c.args.reader.cutter.carry ≡ 80 = search rules in
    let w = last_fits c.in-Carried.count c.args.reader.cutter c.last-ending.result c.last-ending.ensures c.in-Carried.is in
    omega arith

pub slice_bounds-look_at-end : goal.slice_bounds-look_at-end
slice_bounds-look_at-end c =
    let l : length c.args.reader.cutter.carry ≡ 80 = search rules in
    let w = last_fits c.in-Carried.count c.args.reader.cutter c.last-ending.result c.last-ending.ensures c.in-Carried.is in
    sym (length-take-le c.in-Carried.count c.args.reader.cutter.carry (omega arith))

pub close-requires : goal.close-requires
close-requires c =
    let g = c.in-Carried.is in
    (omega arith, one_more_last c.requires.1 c.last-ending.ensures (λ e. let z : ◌≡◌ {A = ℕ} 0 1 = cc in omega arith))

pub close-requires-in-TooLong : goal.close-requires-in-TooLong
close-requires-in-TooLong c =
    let g = c.in-TooLong.is in
    (omega arith, one_more_last c.requires.1 c.last-ending.ensures (λ e. let z : ◌≡◌ {A = ℕ} 0 1 = cc in omega arith))

pub returns-in-Carried : goal.returns-in-Carried
returns-in-Carried c =
    let s = c.args.reader.cutter in
    let w = c.close.ensures in
    let piece = whole (take c.in-Carried.count s.carry) in
    finished (piece ∷ []) c.last-ending.ensures (ap (last_pieces s) c.in-Carried.is)
    (λ before h. w.printed before piece (whole_seen _ c.look_at.ensures) h) w.fits

pub returns-in-TooLong : goal.returns-in-TooLong
returns-in-TooLong c =
    let s = c.args.reader.cutter in
    let w = c.close-in-TooLong.ensures in
    finished (too_long ∷ []) c.last-ending.ensures (ap (last_pieces s) c.in-TooLong.is)
    (λ before h. w.printed before too_long (too_long_seen c.malformed.ensures) h) w.fits

pub returns-in-Nothing : goal.returns-in-Nothing
returns-in-Nothing c =
    let s = c.args.reader.cutter in
    let w = c.put_figures.ensures in
    finished [] c.last-ending.ensures (ap (last_pieces s) c.in-Nothing.is) (λ before h. closed_alone_lem before w h) w.fits
