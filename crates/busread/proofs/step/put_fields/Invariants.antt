-- What the loop of `busread::step::put_fields` keeps.
use Prim.Native.Nat.{◌≤◌, ◌*◌, ◌+◌}
use lib.ListN.{take}
use Rattle.text.specs.Pieces.{Wrote}
use Rattle.busread.specs.Report.{head_text, fields_text}
use Rattle.busread.proofs.Fields.{rows_in}
use Rattle.busread.proofs.step.put_fields.Given as goal

abbrev pub invariant-loop-i : goal.invariant-loop-i
invariant-loop-i l = record {
  span_fits : l.span.start + l.span.count ≤ 375;
  within : l.end ≤ l.at + 160 * l.i;
  wrote :
      Wrote l.initial.out l.at (fields_text (head_text l.number l.source l.dgn) l.content (take l.i (rows_in l.span)))
      l.out l.end;
}
