-- The statements of specs/Laws.antt, proved.
-- Assumes nothing.
use Rattle.std.specs.Prelude.{if◌then◌else◌}
use mathlib.Core.Path.{◌≡◌, refl, sym, ap, ◌∙◌, subst}
use mathlib.Core.Bool.{true, false, not}
use mathlib.Core.List.{List}
use mathlib.Core.Logic.{◌⊎◌, inl, inr, ⊎_elim}
use Prim.Native.Nat.{ℕ, ◌+◌, ◌^◌, ◌≤◌, ◌<◌}
use native.Mathlib.Omega.{arith}
use borrow.Author.Tests.{eq-eqb, le-ltb, le-leb, ltb-true, ltb-false, leb-true, leb-false}
use lib.ListN.{length, get_or-eq_default}
use Rattle.words.specs.Words.{given◌then◌, ◌<?◌, ◌≤?◌, ◌=?◌, Told, refused, gives}
use Rattle.frame.specs.Bytes.{number_of, AreBytes}
use Rattle.frame.specs.Frame.{frame_bytes}
use Rattle.frame.specs.Promises.{refusal_of}
use Rattle.frame.specs.declared.BadFrame.{BadFrame}
use Rattle.frame.specs.declared.BadFrame.TheVariants.{IdentifierTooLarge, NotEightBytes, ReservedBitSet}
use Rattle.frame.specs.declared.BadFrame.TheVariants.{SourceNotAllowed}
use Rattle.std.specs.Prelude.{Ok, Err}
use Rattle.words.proofs.Words.{by_test, refused_gives, refused_same, gives_same, told_same}
use Rattle.frame.proofs.Bytes.{number_below, number_of_bytes, length_bytes, bytes_small}
use Rattle.frame.proofs.Laws.{bad_back, bad_back_lem}
use Rattle.catalogue.specs.Rows.{rows, row_count}
use Rattle.catalogue.specs.Table.{no_row, having, lies_in_frame, row_at, span_of}
use Rattle.catalogue.specs.Field.{field_of, with_field, widest, frame_bits, InFrame}
use Rattle.catalogue.specs.Classes.{greatest_code, class_in, below_greatest}
use Rattle.catalogue.specs.Scale.{scaled_of, value_as, value_of}
use Rattle.catalogue.specs.Codes.{code_where, class_code, code_of}
use Rattle.catalogue.specs.Catalogue.{field_in, opened_for, read_row_of, scaled_row_of, written_row_of, read_of}
use Rattle.catalogue.specs.Catalogue.{scaled_read_of, replaced, written_of}
use Rattle.catalogue.specs.Promises.{number_of_not_found, number_of_not_read, number_of_not_written}
use Rattle.catalogue.specs.Promises.{done_if, bytes_after}
use Rattle.catalogue.specs.Laws as Laws
use Rattle.catalogue.specs.declared.Row.{Row}
use Rattle.catalogue.specs.declared.Field.{Field}
use Rattle.catalogue.specs.declared.Class.{Class}
use Rattle.catalogue.specs.declared.Class.TheVariants.{Number, NoData, OutOfRange, Reserved}
use Rattle.catalogue.specs.declared.Value.{Value}
use Rattle.catalogue.specs.declared.NotFound.{NotFound}
use Rattle.catalogue.specs.declared.NotRead.{NotRead}
use Rattle.catalogue.specs.declared.NotWritten.{NotWritten}
use Rattle.catalogue.proofs.Rule as Rule
use Rattle.catalogue.proofs.Packing as Packing
use Rattle.catalogue.proofs.Bits as Bits
use Rattle.catalogue.proofs.Classed as Classed
use Rattle.catalogue.proofs.Classed.{Placed, placed}
use Rattle.catalogue.proofs.Found as Found
use Rattle.catalogue.proofs.TwoStates as TwoStates
use Rattle.catalogue.proofs.Instances as Instances
use Rattle.catalogue.proofs.Codes.{scaled_of_lem, code_given}
use Rattle.catalogue.proofs.Found.{given_then, found, found_frame, for_bad, for_sound, read_none, read_row}
use Rattle.catalogue.proofs.Found.{scaled_none, scaled_row, write_none, write_uncoded}
use Rattle.catalogue.specs.Laws.{LookedRefusalTold, ReadingRefusalTold, ScaledReadingRefusalTold, WritingRefusalTold}

-- an answer is read back from what it tells: no two refusals of a call have one number

pub told_looked_same : Laws.ToldLookedSame
told_looked_same = told_same number_of_not_found (elim [ NotFound.NoSuchRow ↦ elim [ NotFound.NoSuchRow ↦ λ e. refl ] ])

-- 3 to 6 are other numbers than 11 and 12

not_eleven : (why : BadFrame) → (refusal_of why =? 11) ≡ false
not_eleven IdentifierTooLarge = refl
not_eleven NotEightBytes = refl
not_eleven ReservedBitSet = refl
not_eleven SourceNotAllowed = refl

not_twelve : (why : BadFrame) → (refusal_of why =? 12) ≡ false
not_twelve IdentifierTooLarge = refl
not_twelve NotEightBytes = refl
not_twelve ReservedBitSet = refl
not_twelve SourceNotAllowed = refl

not_read_back : ℕ → NotRead
not_read_back n = if n =? 11 then NotRead.NoSuchRow else NotRead.BadFrame (bad_back n)

not_read_back_lem : (w : NotRead) → not_read_back (number_of_not_read w) ≡ w
unfolding not_read_back
not_read_back_lem (NotRead.BadFrame why) = rw (not_eleven why) (ap NotRead.BadFrame (bad_back_lem why))
not_read_back_lem NotRead.NoSuchRow = refl

pub not_read_same : (v w : NotRead) → number_of_not_read v ≡ number_of_not_read w → v ≡ w
not_read_same v w e = sym (not_read_back_lem v) ∙ ap not_read_back e ∙ not_read_back_lem w

pub told_reading_same : Laws.ToldReadingSame
told_reading_same = told_same number_of_not_read not_read_same

pub told_scaled_same : Laws.ToldScaledSame
told_scaled_same = told_same number_of_not_read not_read_same

not_written_back : ℕ → NotWritten
not_written_back n = if n =? 11 then NotWritten.NoSuchRow else if n =? 12 then NotWritten.NoCode else NotWritten.BadFrame (bad_back n)

not_written_back_lem : (w : NotWritten) → not_written_back (number_of_not_written w) ≡ w
unfolding not_written_back
not_written_back_lem (NotWritten.BadFrame why) = rw (not_eleven why, not_twelve why) (ap NotWritten.BadFrame (bad_back_lem why))
not_written_back_lem NotWritten.NoSuchRow = refl
not_written_back_lem NotWritten.NoCode = refl

not_written_same : (v w : NotWritten) → number_of_not_written v ≡ number_of_not_written w → v ≡ w
not_written_same v w e = sym (not_written_back_lem v) ∙ ap not_written_back e ∙ not_written_back_lem w

pub told_writing_same : Laws.ToldWritingSame
told_writing_same (Ok a) (Ok b) e = refl
told_writing_same (Ok a) (Err w) e = refused_gives (sym e)
told_writing_same (Err v) (Ok b) e = refused_gives e
told_writing_same (Err v) (Err w) e = ap Err (not_written_same v w (refused_same e))

-- no second answer

pub rows_only : Laws.RowsOnly
rows_only r s p q = p.answer ∙ sym q.answer

pub row_at_only : Laws.RowAtOnly
row_at_only n r s p q = told_looked_same r s (p.answer ∙ sym q.answer)

pub rows_of_only : Laws.RowsOfOnly
rows_of_only dgn r s p q = p.answer ∙ sym q.answer

pub row_of_only : Laws.RowOfOnly
row_of_only dgn first r s p q = told_looked_same r s (p.answer ∙ sym q.answer)

pub packed_rows_only : Laws.PackedRowsOnly
packed_rows_only r s p q = p.answer ∙ sym q.answer

pub row_in_only : Laws.RowInOnly
row_in_only table n r s p q = told_looked_same r s (p.answer ∙ sym q.answer)

pub rows_in_only : Laws.RowsInOnly
rows_in_only table dgn r s p q = p.answer ∙ sym q.answer

pub row_of_in_only : Laws.RowOfInOnly
row_of_in_only table dgn first r s p q = told_looked_same r s (p.answer ∙ sym q.answer)

pub has_instance_only : Laws.HasInstanceOnly
has_instance_only dgn r s p q = p.answer ∙ sym q.answer

pub steps_in_one_only : Laws.StepsInOneOnly
steps_in_one_only unit width r s p q = p.answer ∙ sym q.answer

pub classify_only : Laws.ClassifyOnly
classify_only row number r s p q = p.answer ∙ sym q.answer

pub read_only : Laws.ReadOnly
read_only n id bytes r s p q = told_reading_same r s (p.answer ∙ sym q.answer)

pub read_scaled_only : Laws.ReadScaledOnly
read_scaled_only n id bytes r s p q = told_scaled_same r s (p.answer ∙ sym q.answer)

pub write_only : Laws.WriteOnly
write_only n id bytes value r s after after' p q =
    (told_writing_same r s (p.answer ∙ sym q.answer), p.data_bytes ∙ sym q.data_bytes)

pub read_row_only : Laws.ReadRowOnly
read_row_only row id bytes r s p q = told_reading_same r s (p.answer ∙ sym q.answer)

pub read_row_scaled_only : Laws.ReadRowScaledOnly
read_row_scaled_only row id bytes r s p q = told_scaled_same r s (p.answer ∙ sym q.answer)

pub write_row_only : Laws.WriteRowOnly
write_row_only row id bytes value r s after after' p q =
    (told_writing_same r s (p.answer ∙ sym q.answer), p.data_bytes ∙ sym q.data_bytes)

pub not_found_refusal_only : Laws.NotFoundRefusalOnly
not_found_refusal_only why r s p q = p.number ∙ sym q.number

pub not_read_refusal_only : Laws.NotReadRefusalOnly
not_read_refusal_only why r s p q = p.number ∙ sym q.number

pub not_written_refusal_only : Laws.NotWrittenRefusalOnly
not_written_refusal_only why r s p q = p.number ∙ sym q.number

pub looked_refusal_only : Laws.LookedRefusalOnly
looked_refusal_only answer r s p q = p.number ∙ sym q.number

pub looked_refusal_told : LookedRefusalTold
looked_refusal_told (Ok value) = record { number = refl }
looked_refusal_told (Err why) = record { number = refl }

pub reading_refusal_only : Laws.ReadingRefusalOnly
reading_refusal_only answer r s p q = p.number ∙ sym q.number

pub reading_refusal_told : ReadingRefusalTold
reading_refusal_told (Ok value) = record { number = refl }
reading_refusal_told (Err why) = record { number = refl }

pub scaled_reading_refusal_only : Laws.ScaledReadingRefusalOnly
scaled_reading_refusal_only answer r s p q = p.number ∙ sym q.number

pub scaled_reading_refusal_told : ScaledReadingRefusalTold
scaled_reading_refusal_told (Ok value) = record { number = refl }
scaled_reading_refusal_told (Err why) = record { number = refl }

pub writing_refusal_only : Laws.WritingRefusalOnly
writing_refusal_only answer r s p q = p.number ∙ sym q.number

pub writing_refusal_told : WritingRefusalTold
writing_refusal_told (Ok value) = record { number = refl }
writing_refusal_told (Err why) = record { number = refl }

kept : (t : Told (List ℕ)) (bytes : List ℕ) (k : ℕ) → done_if t ≡ refused k → bytes_after t bytes ≡ bytes
kept (gives new) bytes k e = refused_gives (sym e)
kept (refused n) bytes k e = refl

pub refused_keeps : Laws.RefusedKeeps
refused_keeps n id bytes value r after k p e =
    p.data_bytes ∙ kept (written_of n id bytes value) bytes k (sym p.answer ∙ e)

pub row_refused_keeps : Laws.RowRefusedKeeps
row_refused_keeps row id bytes value r after k p e =
    p.data_bytes ∙ kept (written_row_of row id bytes value) bytes k (sym p.answer ∙ e)

pub row_lowest_wins : (row : Row) (id : ℕ) (bytes : List ℕ) (value : Value) → Laws.RowLowestWins row id bytes value
row_lowest_wins row id bytes value =
    record {
      frame_first = λ k e. refuses k (sym (for_bad row id (length bytes) k e));
      row_next = λ parts e f. refuses 11 (sym (for_sound row id (length bytes) parts e) ∙ f);
      code_last = λ r e f. write_uncoded row id bytes value r 12 e f;
    }
  where
    refuses : (k : ℕ) → opened_for row id (length bytes) ≡ refused k
        → (read_row_of row id bytes ≡ refused k) × (scaled_row_of row id bytes ≡ refused k) × (written_row_of row id bytes value ≡ refused k)
    refuses k e = (sym (read_none row id bytes k e), sym (scaled_none row id bytes k e), write_none row id bytes value k e)

pub read_at : Laws.ReadAt
read_at = Found.read_at

pub scaled_at : Laws.ScaledAt
scaled_at = Found.scaled_at

pub written_at : Laws.WrittenAt
written_at = Found.written_at

pub lowest_wins : (n id : ℕ) (bytes : List ℕ) (value : Value) → Laws.LowestWins n id bytes value
lowest_wins n id bytes value =
    let w = row_lowest_wins (row_at n) id bytes value in
    record {
      frame_first = λ k e. by_number k (w.frame_first k e);
      row_next = λ parts e f. by_number 11 (w.row_next parts e (sym (Found.dgn_at_lem n parts.dgn) ∙ f));
      code_last = λ row e f. written_at n id bytes value ∙ w.code_last row (sym (Found.for_at n id (length bytes)) ∙ e) f;
    }
  where
    by_number : (k : ℕ)
        → (read_row_of (row_at n) id bytes ≡ refused k) × (scaled_row_of (row_at n) id bytes ≡ refused k) × (written_row_of (row_at n) id bytes value ≡ refused k)
        → (read_of n id bytes ≡ refused k) × (scaled_read_of n id bytes ≡ refused k) × (written_of n id bytes value ≡ refused k)
    by_number k e = (read_at n id bytes ∙ e.0, scaled_at n id bytes ∙ e.1, written_at n id bytes value ∙ e.2)

-- a row in a frame

lies : (row : Row) → InFrame row.first row.width → lies_in_frame row ≡ true
unfolding lies_in_frame
lies row i = rw (le-leb 1 row.width i.some, le-leb row.width widest i.most, le-leb (row.first + row.width) frame_bits i.ends)

pub lies_in_frame_lem : Laws.LiesInFrame
lies_in_frame_lem row = (Rule.framed row, lies row)

pub outside_refused : Laws.OutsideRefused
outside_refused row dgn n =
    by_test (lies_in_frame row) (λ t. absurd (n (Rule.framed row t))) (λ t. sym (Found.match_outside row dgn (ap not t)))

-- tables

pub rule_holds : Laws.RuleHolds
rule_holds list rule =
    record {
      rising = Rule.rising list rule;
      ends = Rule.in_frame_at list rule;
      apart = λ i j b h g n e p q. ⊎_elim (λ l. omega arith) (λ l. omega arith) (Rule.apart_at list rule i j h g n e);
      exactly = Rule.exactly list rule;
      one_row = Rule.one_row list rule;
    }

pub catalogue_rule : Laws.CatalogueRule
catalogue_rule = Rule.whole

pub row_found : Laws.RowFound
row_found list dgn first row e =
    let f = Rule.found_with list dgn first e in
    record { number = f.0; there = f.1; is = f.2; dgn_is = f.3; first_is = f.4 }

pub span_within : Laws.SpanWithin
span_within = Rule.span_within

pub row_in_ruled : Laws.RowInRuled
row_in_ruled = Packing.row_in_ruled

pub rows_in_ruled : Laws.RowsInRuled
rows_in_ruled = Packing.rows_in_ruled

pub row_of_in_ruled : Laws.RowOfInRuled
row_of_in_ruled = Packing.row_of_in_ruled

pub rows_in_within : Laws.RowsInWithin
rows_in_within = Packing.rows_in_within

pub row_in_packed : Laws.RowInPacked
row_in_packed = Packing.row_in_packed

pub rows_in_packed : Laws.RowsInPacked
rows_in_packed = Packing.rows_in_packed

pub row_of_in_packed : Laws.RowOfInPacked
row_of_in_packed = Packing.row_of_in_packed

-- the catalogue

pub row_count_lem : Laws.RowCount
row_count_lem = Rule.row_count_lem

catalogue : Laws.Ruled rows
catalogue = rule_holds rows catalogue_rule

in_rows : (n : ℕ) → n < row_count → n < length rows
in_rows n h = rw row_count_lem h

pub rising : Laws.Rising
unfolding row_at
rising i j h g = catalogue.rising i j h (in_rows j g)

pub ends : Laws.Ends
unfolding row_at
ends i h = catalogue.ends i (in_rows i h)

pub apart : Laws.Apart
unfolding row_at
apart i j b h g = catalogue.apart i j b (in_rows i h) (in_rows j g)

pub exactly : Laws.Exactly
unfolding row_at
exactly dgn n h = catalogue.exactly dgn n (in_rows n h)

pub within : Laws.Within
within dgn = subst (λ (n : ℕ). (span_of dgn).start + (span_of dgn).count ≤ n) row_count_lem (span_within rows dgn)

pub three_rows : Laws.ThreeRows
unfolding having rows
three_rows = refl

-- classes

pub three_classes : Laws.ThreeClasses
three_classes = Classed.three_of

pub one_class : Laws.OneClass
one_class = Classed.one_of

pub always_numbers : Laws.AlwaysNumbers
always_numbers = Classed.numbers_of

pub class_by_width_lem : Laws.ClassByWidth
class_by_width_lem = Classed.by_width

pub two_states_lem : Laws.TwoStates
two_states_lem = Classed.two_of

pub two_states_answered : Laws.TwoStatesAnswered
two_states_answered = TwoStates.answered

pub unmarked_as_before : Laws.UnmarkedAsBefore
unmarked_as_before = Classed.unmarked_of

pub mark_reads : Laws.MarkReads
mark_reads = TwoStates.reads_unmarked

pub mark_writes : Laws.MarkWrites
mark_writes = TwoStates.writes_unmarked

pub two_state_rows : Laws.TwoStateRows
two_state_rows = TwoStates.rows_marked

pub two_state_count : Laws.TwoStateCount
two_state_count = TwoStates.marked_count

pub no_third_state : Laws.NoThirdState
no_third_state = TwoStates.never_third

pub instance_row : Laws.InstanceRow
instance_row = Instances.instance_row

pub instance_count : Laws.InstanceCount
instance_count = Instances.instance_count

pub scaled_with_instance : Laws.ScaledWithInstance
scaled_with_instance = Instances.scaled_with_instance

pub scaled_by_unit : Laws.ScaledByUnit
scaled_by_unit = Instances.scaled_by_unit

pub steps_by_unit : Laws.StepsByUnit
steps_by_unit = Instances.steps_by_unit

pub scaled_small : Laws.ScaledSmall
scaled_small = Instances.scaled_small

pub value_small : Laws.ValueSmall
value_small = Instances.value_small

pub code_below : Laws.CodeBelow
code_below = Instances.code_below

pub value_by_class : Laws.ValueByClass
value_by_class = Instances.value_by_class

pub row_given : Laws.RowGiven
row_given = Instances.row_given

pub row_refused : Laws.RowRefused
row_refused = Instances.row_refused

pub scaled_in_frame : Laws.ScaledInFrame
scaled_in_frame = Instances.scaled_in_frame

pub bit_of_byte : Laws.BitOfByte
bit_of_byte = Bits.bit_of_byte

-- codes and values

class_code_of : (row : Row) (k : Class) (c : ℕ) → class_in row c ≡ k → (k ≡ Number → ⊥) → class_code row k ≡ gives c
unfolding class_code code_where
class_code_of row k c e n =
    ⊎_elim (λ z. absurd (n z))
    (λ b. rw (le-ltb (greatest_code row.width) (below_greatest k) b.0, ← b.1, eq-eqb (below_greatest (class_in row c)) (below_greatest k) (ap below_greatest e)))
    (subst (Placed row c) e (placed row c))

not_number : (k : Class) → (below_greatest k ≡ 3 → ⊥) → k ≡ Number → ⊥
not_number k n e = n (ap below_greatest e)

pub code_back : Laws.CodeBack
unfolding value_of code_of
code_back row c h = go (class_in row c) refl
  where
    go : (k : Class) → class_in row c ≡ k → code_of row (value_as k (scaled_of row.unit row.width c)) ≡ gives c
    go Number e = scaled_of_lem row c (record { fits = h; class = e })
    go NoData e = class_code_of row NoData c e (not_number NoData (λ z. omega arith))
    go OutOfRange e = class_code_of row OutOfRange c e (not_number OutOfRange (λ z. omega arith))
    go Reserved e = class_code_of row Reserved c e (not_number Reserved (λ z. omega arith))

pub value_back : Laws.ValueBack
value_back row value c e = let w = code_given row value c e in (w.fits, w.has)

-- a frame that was written

written_number : (row : Row) (code : ℕ) (bytes : List ℕ) → InFrame row.first row.width → code < 2 ^ row.width → length bytes ≡ frame_bytes → AreBytes bytes
    → number_of (replaced row code bytes) ≡ with_field row.first row.width code (number_of bytes)
unfolding replaced
written_number row code bytes i h l a =
    let n : number_of bytes < 2 ^ 64 = rw l at (number_below bytes a) in
    number_of_bytes 8 (with_field row.first row.width code (number_of bytes)) (Bits.with_below row.first row.width code (number_of bytes) i.ends h n)

length_replaced : (row : Row) (code : ℕ) (bytes : List ℕ) → length (replaced row code bytes) ≡ frame_bytes
unfolding replaced
length_replaced row code bytes = length_bytes 8 (with_field row.first row.width code (number_of bytes))

-- the row, code and bytes of a write that gave new bytes
record Wrote (row : Row) (id : ℕ) (bytes new : List ℕ) (value : Value) : Type 0 where
  r : Row
  code : ℕ
  for : opened_for row id (length bytes) ≡ gives r
  coded : code_of r value ≡ gives code
  is : new ≡ replaced r code bytes

wrote : (row : Row) (id : ℕ) (bytes new : List ℕ) (value : Value) → written_row_of row id bytes value ≡ gives new → Wrote row id bytes new value
unfolding written_row_of
wrote row id bytes new value e =
    let a = given_then (opened_for row id (length bytes)) (λ r. given code_of r value then λ code. gives (replaced r code bytes)) e in
    let b = given_then (code_of a.0 value) (λ code. gives (replaced a.0 code bytes)) a.2 in
    record { r = a.0; code = b.0; for = a.1; coded = b.1; is = sym (gives_same b.2) }

-- the field of a frame just written
field_written : (row : Row) (id : ℕ) (bytes : List ℕ) (value : Value) (r : Row) (code : ℕ)
    → AreBytes bytes → opened_for row id (length bytes) ≡ gives r → code_of r value ≡ gives code
    → field_in r (number_of (replaced r code bytes)) ≡ Laws.field_at r code
unfolding field_in
field_written row id bytes value r code a e f =
    let w = code_given r value code f in
    let i = found_frame row id (length bytes) r e in
    let q = (found row id (length bytes) r e).eight in
    let c : field_of r.first r.width (number_of (replaced r code bytes)) ≡ code =
    ap (field_of r.first r.width) (written_number r code bytes i w.fits q a) ∙ Bits.field_back r.first r.width code (number_of bytes) w.fits in
    rw c

same_size : (row : Row) (id : ℕ) (bytes : List ℕ) (r : Row) (code : ℕ) → opened_for row id (length bytes) ≡ gives r
    → length (replaced r code bytes) ≡ length bytes
same_size row id bytes r code e = length_replaced r code bytes ∙ sym (found row id (length bytes) r e).eight

pub row_reads_code : Laws.RowReadsCode
row_reads_code row id bytes value r code a e f =
    let s = same_size row id bytes r code e in
    sym (read_row row id (replaced r code bytes) r (ap (opened_for row id) s ∙ e)) ∙ ap gives (field_written row id bytes value r code a e f)

pub row_reads_back : Laws.RowReadsBack
row_reads_back row id bytes new value a e =
    let w = wrote row id bytes new value e in
    let s = same_size row id bytes w.r w.code w.for in
    let g = code_given w.r value w.code w.coded in
    ap (scaled_row_of row id) w.is
    ∙ sym (scaled_row row id (replaced w.r w.code bytes) w.r (ap (opened_for row id) s ∙ w.for))
    ∙ ap gives (ap (value_of w.r) (field_written row id bytes value w.r w.code a w.for w.coded) ∙ g.has)

pub row_eight_bytes : Laws.RowEightBytes
unfolding replaced
row_eight_bytes row id bytes new value e =
    let w = wrote row id bytes new value e in
    (ap length w.is ∙ length_replaced w.r w.code bytes, subst AreBytes (sym w.is) (bytes_small 8 (with_field w.r.first w.r.width w.code (number_of bytes))))

-- a field beside the row that was written
beside : (row : Row) (id : ℕ) (bytes new : List ℕ) (value : Value) → AreBytes bytes → written_row_of row id bytes value ≡ gives new
    → (g x : ℕ) → (g + x ≤ row.first) ⊎ (row.first + row.width ≤ g) → field_of g x (number_of new) ≡ field_of g x (number_of bytes)
beside row id bytes new value a e g x o =
    let w = wrote row id bytes new value e in
    let q = found row id (length bytes) w.r w.for in
    let c = code_given w.r value w.code w.coded in
    let i = found_frame row id (length bytes) w.r w.for in
    let o' : (g + x ≤ w.r.first) ⊎ (w.r.first + w.r.width ≤ g) = subst (λ (r : Row). (g + x ≤ r.first) ⊎ (r.first + r.width ≤ g)) (sym q.is) o in
    ap (λ (b : List ℕ). field_of g x (number_of b)) w.is
    ∙ ap (field_of g x) (written_number w.r w.code bytes i c.fits q.eight a)
    ∙ Bits.field_beside w.r.first w.r.width w.code (number_of bytes) g x c.fits o'

pub row_bits_kept : Laws.RowBitsKept
row_bits_kept row id b bytes new value a h e =
    beside row id bytes new value a e b 1
    (by_test (b <? row.first) (λ t. inl (let l = ltb-true b row.first t in omega arith))
    (λ t. inr (by_test (row.first + row.width ≤? b) (λ u. leb-true _ _ u) (λ u. absurd (h (ltb-false b row.first t, leb-false _ _ u))))))

-- the cases of a search for a row
row_cases : {P : Type 0} (t : Told Row) → ((k : ℕ) → t ≡ refused k → P) → ((row : Row) → t ≡ gives row → P) → P
row_cases (refused k) f g = f k refl
row_cases (gives row) f g = g row refl

-- two fields that have a bit each and share none lie one before the other
one_before : (f w g x : ℕ) → 1 ≤ w → 1 ≤ x → ((b : ℕ) → (f ≤ b) × (b < f + w) → (g ≤ b) × (b < g + x) → ⊥) → (g + x ≤ f) ⊎ (f + w ≤ g)
one_before f w g x a c h =
    by_test (f <? g)
    (λ t. let l = ltb-true f g t in
    by_test (f + w ≤? g) (λ u. inr (leb-true (f + w) g u)) (λ u. let k = leb-false (f + w) g u in absurd (h g (omega arith, omega arith) (omega arith, omega arith))))
    (λ t. let l = ltb-false f g t in
    by_test (g + x ≤? f) (λ u. inl (leb-true (g + x) f u)) (λ u. let k = leb-false (g + x) f u in absurd (h f (omega arith, omega arith) (omega arith, omega arith))))

pub row_reads_others : Laws.RowReadsOthers
unfolding field_in
row_reads_others row other id bytes new value a d e =
    let w = wrote row id bytes new value e in
    let q = found row id (length bytes) w.r w.for in
    let s : length new ≡ length bytes = ap length w.is ∙ same_size row id bytes w.r w.code w.for in
    let z : opened_for other id (length new) ≡ opened_for other id (length bytes) = ap (opened_for other id) s in
    row_cases (opened_for other id (length bytes))
    (λ k f. (sym (read_none other id new k (z ∙ f)) ∙ read_none other id bytes k f, sym (scaled_none other id new k (z ∙ f)) ∙ scaled_none other id bytes k f))
    (λ r f. let p = found other id (length bytes) r f in
    let i = Rule.framed row q.lies in
    let j = Rule.framed other p.lies in
    let o = one_before row.first row.width other.first other.width i.some j.some (d (q.dgn ∙ sym p.dgn)) in
    let c : field_in r (number_of new) ≡ field_in r (number_of bytes) =
    rw p.is (ap (λ (x : ℕ). record { class = class_in other x; code = x }) (beside row id bytes new value a e other.first other.width o)) in (
      sym (read_row other id new r (z ∙ f)) ∙ ap gives c ∙ read_row other id bytes r f,
      sym (scaled_row other id new r (z ∙ f)) ∙ ap (λ (x : Field). gives (value_of r x)) c ∙ scaled_row other id bytes r f,
    ))

-- the same with the number of a row

at_row : (n id : ℕ) (bytes new : List ℕ) (value : Value) → written_of n id bytes value ≡ gives new → written_row_of (row_at n) id bytes value ≡ gives new
at_row n id bytes new value e = sym (written_at n id bytes value) ∙ e

pub reads_code : Laws.ReadsCode
reads_code n id bytes value row code a e f =
    read_at n id (replaced row code bytes) ∙ row_reads_code (row_at n) id bytes value row code a (sym (Found.for_at n id (length bytes)) ∙ e) f

pub reads_back : Laws.ReadsBack
reads_back n id bytes new value a e = scaled_at n id new ∙ row_reads_back (row_at n) id bytes new value a (at_row n id bytes new value e)

pub eight_bytes_lem : Laws.EightBytes
eight_bytes_lem n id bytes new value e = row_eight_bytes (row_at n) id bytes new value (at_row n id bytes new value e)

pub bits_kept : Laws.BitsKept
bits_kept n id b bytes new value a h e = row_bits_kept (row_at n) id b bytes new value a h (at_row n id bytes new value e)

-- a bit of a row tells that the row is there
has_row : (n b : ℕ) → Laws.HasBit (row_at n) b → n < row_count
unfolding row_at
has_row n b h =
    by_test (n <? row_count) (λ t. ltb-true n row_count t)
    (λ t. let past : length rows ≤ n = rw row_count_lem (ltb-false n row_count t) in absurd (none (rw (get_or-eq_default rows no_row past) at h)))
  where
    none : Laws.HasBit no_row b → ⊥
    none h = omega arith

pub reads_others : Laws.ReadsOthers
reads_others n m id bytes new value a d e =
    let o = row_reads_others (row_at n) (row_at m) id bytes new value a
    (λ s b p q. apart n m b (has_row n b p) (has_row m b q) (λ w. d (sym w)) s p q) (at_row n id bytes new value e) in
    (read_at m id new ∙ o.0 ∙ sym (read_at m id bytes), scaled_at m id new ∙ o.1 ∙ sym (scaled_at m id bytes))

-- examples

pub example_eight : Laws.ExampleEight
example_eight = Classed.eight_bits

pub example_nine : Laws.ExampleNine
unfolding scaled_of
example_nine = refl

pub example_ten : Laws.ExampleTen
unfolding scaled_of
example_ten = refl
