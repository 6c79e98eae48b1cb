-- `mend::fields::find` meets its contract. Assumes nothing.
use Rattle.std.specs.Prelude.{Some}
use Rattle.capture.specs.Line.{gap_key, id_key, data_key}
use Rattle.mend.specs.Places.{FieldFound}
use Rattle.mend.proofs.Finding.{no_gap, no_id, no_data, no_end, all_there, gap_room, id_room, data_room}
use Rattle.mend.proofs.fields.find.Goals as goal

pub returns-in_err-gap_to : goal.returns-in_err-gap_to
returns-in_err-gap_to c = rw c.from_residual.ensures (no_gap c.args.line.now (rw c.in_err-gap_to.was at c.field.ensures))

pub field-requires-2 : goal.field-requires-2
field-requires-2 c =
    let line = c.args.line.now in
    let gap : FieldFound line 0 gap_key 10 (Some c.in_ok-gap_to.gap_to) = rw c.in_ok-gap_to.was at c.field.ensures in
    gap_room line _ gap

pub returns-in_err-id_to : goal.returns-in_err-id_to
returns-in_err-id_to c =
    let line = c.args.line.now in
    let gap : FieldFound line 0 gap_key 10 (Some c.in_ok-gap_to.gap_to) = rw c.in_ok-gap_to.was at c.field.ensures in
    rw c.from_residual-in_err-id_to.ensures (no_id line _ gap (rw c.in_err-id_to.was at c.field-2.ensures))

pub field-requires-3 : goal.field-requires-3
field-requires-3 c =
    let line = c.args.line.now in
    let gap : FieldFound line 0 gap_key 10 (Some c.in_ok-gap_to.gap_to) = rw c.in_ok-gap_to.was at c.field.ensures in
    let id : FieldFound line c.in_ok-gap_to.gap_to id_key 16 (Some c.in_ok-id_to.id_to) = rw c.in_ok-id_to.was at c.field-2.ensures in
    id_room line _ gap _ id

pub returns-in_err-data_to : goal.returns-in_err-data_to
returns-in_err-data_to c =
    let line = c.args.line.now in
    let gap : FieldFound line 0 gap_key 10 (Some c.in_ok-gap_to.gap_to) = rw c.in_ok-gap_to.was at c.field.ensures in
    let id : FieldFound line c.in_ok-gap_to.gap_to id_key 16 (Some c.in_ok-id_to.id_to) = rw c.in_ok-id_to.was at c.field-2.ensures in
    rw c.from_residual-in_err-data_to.ensures (no_data line _ gap _ id (rw c.in_err-data_to.was at c.field-3.ensures))

pub return_in-requires : goal.return_in-requires
return_in-requires c =
    let line = c.args.line.now in
    let gap : FieldFound line 0 gap_key 10 (Some c.in_ok-gap_to.gap_to) = rw c.in_ok-gap_to.was at c.field.ensures in
    let id : FieldFound line c.in_ok-gap_to.gap_to id_key 16 (Some c.in_ok-id_to.id_to) = rw c.in_ok-id_to.was at c.field-2.ensures in
    let bytes : FieldFound line c.in_ok-id_to.id_to data_key 16 (Some c.in_ok-data_to.data_to) = rw c.in_ok-data_to.was at c.field-3.ensures in
    data_room line _ gap _ id _ bytes

pub returns-in_err-returns : goal.returns-in_err-returns
returns-in_err-returns c =
    let line = c.args.line.now in
    let gap : FieldFound line 0 gap_key 10 (Some c.in_ok-gap_to.gap_to) = rw c.in_ok-gap_to.was at c.field.ensures in
    let id : FieldFound line c.in_ok-gap_to.gap_to id_key 16 (Some c.in_ok-id_to.id_to) = rw c.in_ok-id_to.was at c.field-2.ensures in
    let bytes : FieldFound line c.in_ok-id_to.id_to data_key 16 (Some c.in_ok-data_to.data_to) = rw c.in_ok-data_to.was at c.field-3.ensures in
    rw c.from_residual-in_err-returns.ensures (no_end line _ gap _ id _ bytes (rw c.in_err-returns.was at c.return_in.ensures))

pub returns : goal.returns
returns c =
    let line = c.args.line.now in
    let gap : FieldFound line 0 gap_key 10 (Some c.in_ok-gap_to.gap_to) = rw c.in_ok-gap_to.was at c.field.ensures in
    let id : FieldFound line c.in_ok-gap_to.gap_to id_key 16 (Some c.in_ok-id_to.id_to) = rw c.in_ok-id_to.was at c.field-2.ensures in
    let bytes : FieldFound line c.in_ok-id_to.id_to data_key 16 (Some c.in_ok-data_to.data_to) = rw c.in_ok-data_to.was at c.field-3.ensures in
    all_there line _ gap _ id _ bytes c.in_ok-returns.returns (rw c.in_ok-returns.was at c.return_in.ensures)
