-- `busread::step::put_fields` meets its contract. Assumes nothing.
use mathlib.Core.Path.{sym}
use Prim.Native.Nat.{◌/◌, ◌%◌}
use native.Mathlib.Nat.{div-one}
use lib.Seq.{length-take-le}
use Rattle.frame.specs.Identifier.{source_of, dgn_of}
use Rattle.busread.specs.Report.{head_text, fields_text}
use Rattle.text.proofs.Pieces.{behind, nothing}
use Rattle.busread.proofs.Fields.{row_there, row_missing, span_there, span_fits, room_left, fields_turn}
use Rattle.busread.proofs.Fields.{whole_span}
use native.Mathlib.Omega.{arith}
use Rattle.busread.proofs.step.put_fields.Goals as goal

pub loop-i-init : goal.loop-i-init
unfolding fields_text
loop-i-init c =
    record {
      span_fits = span_fits c.requires.1 c.rows_in-span.ensures;
      within = omega arith;
      wrote = nothing c.args.out.now c.args.at (omega arith);
    }

pub returns-in_default : goal.returns-in_default
returns-in_default c = row_missing c.requires.1 c.row_in.ensures c.in_default.is (omega arith)

pub slice_bounds-head-end : goal.slice_bounds-head-end
slice_bounds-head-end c = c.put_head-size.ensures.0.fits

pub slice_bounds-put_field-end : goal.slice_bounds-put_field-end
slice_bounds-put_field-end c = sym (length-take-le c.put_head-size.result c.put_head-size.new.out c.put_head-size.ensures.0.fits)

pub put_field-end-requires : goal.put_field-end-requires
put_field-end-requires c = (
  let span = c.rows_in-span.result in
      let l = c.loop-i in
      room_left c.args.at l.i span.start l.invariant.within (omega arith) l.invariant.span_fits c.requires.0 l.invariant.wrote.room,
  rw (length-take-le c.put_head-size.result c.put_head-size.new.out c.put_head-size.ensures.0.fits) c.put_head-size.ensures.1,
)

pub loop-i-preserved : goal.loop-i-preserved
loop-i-preserved c =
    let l = c.loop-i in
    let a = c.args in
    let span = c.rows_in-span.result in
    let e = row_there c.requires.1 c.row_in.ensures c.in-Ok.is (omega arith) in
    record {
      span_fits = l.invariant.span_fits;
      within = omega arith;
      wrote = rw (fields_turn (head_text a.number (a.id % 256) (a.id / 256 % 131072)) c.number_of-content.result span l.i (omega arith) l.invariant.span_fits, ← e, ← c.classify-field.ensures.answer) (behind l.invariant.wrote (rw c.put_head-size.ensures.0.written at c.put_field-end.ensures.0));
    }

pub returns : goal.returns
unfolding source_of dgn_of
returns c =
    let l = c.loop-i in
    let a = c.args in
    let e = whole_span c.rows_in-span.result (a.id / 256 % 131072) l.i (span_there c.requires.1 c.rows_in-span.ensures) (omega arith) in
    (rw (div-one, ← c.number_of-content.ensures.answer, ← e) l.invariant.wrote, omega arith)
