-- The laws of this crate (RULES 6 and 7), each a named statement. proofs/Laws.antt has a proof of each, under the same
-- name written small.
use Rattle.std.specs.Prelude.{◌≡◌, Bool, true, false, not, List, ◌↔◌, ◌⊎◌, ℕ, ◌+◌, ◌*◌, ◌-◌, ◌^◌, ◌≤◌, ◌<◌, ℤ, pos, negsuc, length, get_or, if◌then◌else◌}
use Rattle.std.specs.Int.Signed.{mag}
use Rattle.words.specs.Words.{◌<?◌, ◌=?◌, ◌and◌, ◌or◌, refused, gives}
use Rattle.words.specs.Lists.{count}
use Rattle.frame.specs.Bytes.{number_of, AreBytes}
use Rattle.frame.specs.Identifier.{catalogue_form}
use Rattle.frame.specs.Frame.{checked_of, frame_bytes}
use Rattle.frame.specs.declared.Parts.{Parts}
use Rattle.catalogue.specs.Rows.{rows, row_count}
use Rattle.catalogue.specs.Instances.{instance_dgns, has_instance}
use Rattle.catalogue.specs.Table.{nth, row_in, span_in, row_with, lies_in_frame, KeepsRule}
use Rattle.catalogue.specs.Table.{row_at, row_of, span_of}
use Rattle.catalogue.specs.Packed.{unit_digit, packed_rows, table_rows, table_row, table_row_with, table_span}
use Rattle.catalogue.specs.Field.{field_of, InFrame}
use Rattle.catalogue.specs.Classes.{greatest_code, has_three, class_at, has_two_states, error_code, class_in}
use Rattle.catalogue.specs.Scale.{scaled_of, steps_in_one, value_of}
use Rattle.catalogue.specs.Codes.{code_of}
use Rattle.catalogue.specs.Catalogue.{field_in}
use Rattle.catalogue.specs.Catalogue.{matching, opened_for, read_row_of, scaled_row_of, written_row_of, row_of_dgn, row_for}
use Rattle.catalogue.specs.Catalogue.{read_of, scaled_read_of, replaced, written_of}
use Rattle.catalogue.specs.Promises.{Looked, Reading, ScaledReading, Writing}
use Rattle.catalogue.specs.Promises.{told_looked, told_reading, told_scaled, told_writing, Rows, RowAt, RowsOf, RowOf}
use Rattle.catalogue.specs.Promises.{PackedRows, RowIn, RowsIn, RowOfIn, Classify, ReadField, ReadScaled}
use Rattle.catalogue.specs.Promises.{WriteField, ReadRow, ReadRowScaled, WriteRow, LookedRefusal, ReadingRefusal}
use Rattle.catalogue.specs.Promises.{NotFoundRefusal, NotReadRefusal, NotWrittenRefusal}
use Rattle.catalogue.specs.Promises.{ScaledReadingRefusal, WritingRefusal, HasInstance, StepsInOne}
use Rattle.catalogue.specs.declared.NotFound.{NotFound}
use Rattle.catalogue.specs.declared.NotRead.{NotRead}
use Rattle.catalogue.specs.declared.NotWritten.{NotWritten}
use Rattle.catalogue.specs.declared.Row.{Row}
use Rattle.catalogue.specs.declared.Unit.{Unit}
use Rattle.catalogue.specs.declared.Unit.TheVariants.{Other, Percent, Celsius, Volt, Ampere, Hertz}
use Rattle.catalogue.specs.declared.Span.{Span}
use Rattle.catalogue.specs.declared.Field.{Field}
use Rattle.catalogue.specs.declared.Class.{Class}
use Rattle.catalogue.specs.declared.Class.TheVariants.{Number, NoData, OutOfRange, Reserved}
use Rattle.catalogue.specs.declared.Value.{Value}
use Rattle.catalogue.specs.Promises.{number_of_not_found}
use Rattle.words.specs.Words.{number_of_answer}
use Rattle.catalogue.specs.Promises.{number_of_not_read}
use Rattle.catalogue.specs.Promises.{number_of_not_written}

-- An answer read as number and values loses nothing (RULES 2.10).

abbrev pub ToldLookedSame : Type 0
ToldLookedSame = (r s : Looked) → told_looked r ≡ told_looked s → r ≡ s

abbrev pub ToldReadingSame : Type 0
ToldReadingSame = (r s : Reading) → told_reading r ≡ told_reading s → r ≡ s

abbrev pub ToldScaledSame : Type 0
ToldScaledSame = (r s : ScaledReading) → told_scaled r ≡ told_scaled s → r ≡ s

abbrev pub ToldWritingSame : Type 0
ToldWritingSame = (r s : Writing) → told_writing r ≡ told_writing s → r ≡ s

-- No second answer, and no second frame's bytes, keep a promise.

abbrev pub RowsOnly : Type 0
RowsOnly = (r s : ℕ) → Rows r → Rows s → r ≡ s

abbrev pub RowAtOnly : Type 0
RowAtOnly = (n : ℕ) (r s : Looked) → RowAt n r → RowAt n s → r ≡ s

abbrev pub RowsOfOnly : Type 0
RowsOfOnly = (dgn : ℕ) (r s : Span) → RowsOf dgn r → RowsOf dgn s → r ≡ s

abbrev pub RowOfOnly : Type 0
RowOfOnly = (dgn first : ℕ) (r s : Looked) → RowOf dgn first r → RowOf dgn first s → r ≡ s

abbrev pub PackedRowsOnly : Type 0
PackedRowsOnly = (r s : List ℕ) → PackedRows r → PackedRows s → r ≡ s

abbrev pub RowInOnly : Type 0
RowInOnly = (table : List ℕ) (n : ℕ) (r s : Looked) → RowIn table n r → RowIn table n s → r ≡ s

abbrev pub RowsInOnly : Type 0
RowsInOnly = (table : List ℕ) (dgn : ℕ) (r s : Span) → RowsIn table dgn r → RowsIn table dgn s → r ≡ s

abbrev pub RowOfInOnly : Type 0
RowOfInOnly =
    (table : List ℕ) (dgn first : ℕ) (r s : Looked) → RowOfIn table dgn first r → RowOfIn table dgn first s → r ≡ s

abbrev pub HasInstanceOnly : Type 0
HasInstanceOnly = (dgn : ℕ) (r s : Bool) → HasInstance dgn r → HasInstance dgn s → r ≡ s

abbrev pub StepsInOneOnly : Type 0
StepsInOneOnly = (unit : Unit) (width r s : ℕ) → StepsInOne unit width r → StepsInOne unit width s → r ≡ s

abbrev pub ClassifyOnly : Type 0
ClassifyOnly = (row : Row) (number : ℕ) (r s : Field) → Classify row number r → Classify row number s → r ≡ s

abbrev pub ReadOnly : Type 0
ReadOnly = (n id : ℕ) (bytes : List ℕ) (r s : Reading) → ReadField n id bytes r → ReadField n id bytes s → r ≡ s

abbrev pub ReadScaledOnly : Type 0
ReadScaledOnly =
    (n id : ℕ) (bytes : List ℕ) (r s : ScaledReading) → ReadScaled n id bytes r → ReadScaled n id bytes s → r ≡ s

abbrev pub WriteOnly : Type 0
WriteOnly =
    (n id : ℕ) (bytes : List ℕ) (value : Value) (r s : Writing) (after after' : List ℕ)
    → WriteField n id bytes value r after → WriteField n id bytes value s after' → (r ≡ s) × (after ≡ after')

abbrev pub ReadRowOnly : Type 0
ReadRowOnly =
    (row : Row) (id : ℕ) (bytes : List ℕ) (r s : Reading) → ReadRow row id bytes r → ReadRow row id bytes s → r ≡ s

abbrev pub ReadRowScaledOnly : Type 0
ReadRowScaledOnly =
    (row : Row) (id : ℕ) (bytes : List ℕ) (r s : ScaledReading) → ReadRowScaled row id bytes r
    → ReadRowScaled row id bytes s
    → r ≡ s

abbrev pub WriteRowOnly : Type 0
WriteRowOnly =
    (row : Row) (id : ℕ) (bytes : List ℕ) (value : Value) (r s : Writing) (after after' : List ℕ)
    → WriteRow row id bytes value r after → WriteRow row id bytes value s after' → (r ≡ s) × (after ≡ after')

abbrev pub NotFoundRefusalOnly : Type 0
NotFoundRefusalOnly = (why : NotFound) (r s : ℕ) → NotFoundRefusal why r → NotFoundRefusal why s → r ≡ s

abbrev pub NotReadRefusalOnly : Type 0
NotReadRefusalOnly = (why : NotRead) (r s : ℕ) → NotReadRefusal why r → NotReadRefusal why s → r ≡ s

abbrev pub NotWrittenRefusalOnly : Type 0
NotWrittenRefusalOnly = (why : NotWritten) (r s : ℕ) → NotWrittenRefusal why r → NotWrittenRefusal why s → r ≡ s

abbrev pub LookedRefusalOnly : Type 0
LookedRefusalOnly = (answer : Looked) (r s : ℕ) → LookedRefusal answer r → LookedRefusal answer s → r ≡ s

abbrev pub LookedRefusalTold : Type 0
LookedRefusalTold = (answer : Looked) → LookedRefusal answer (number_of_answer number_of_not_found answer)

abbrev pub ReadingRefusalOnly : Type 0
ReadingRefusalOnly = (answer : Reading) (r s : ℕ) → ReadingRefusal answer r → ReadingRefusal answer s → r ≡ s

abbrev pub ReadingRefusalTold : Type 0
ReadingRefusalTold = (answer : Reading) → ReadingRefusal answer (number_of_answer number_of_not_read answer)

abbrev pub ScaledReadingRefusalOnly : Type 0
ScaledReadingRefusalOnly =
    (answer : ScaledReading) (r s : ℕ) → ScaledReadingRefusal answer r → ScaledReadingRefusal answer s → r ≡ s

abbrev pub ScaledReadingRefusalTold : Type 0
ScaledReadingRefusalTold = (answer : ScaledReading) → ScaledReadingRefusal answer (number_of_answer number_of_not_read answer)

abbrev pub WritingRefusalOnly : Type 0
WritingRefusalOnly = (answer : Writing) (r s : ℕ) → WritingRefusal answer r → WritingRefusal answer s → r ≡ s

abbrev pub WritingRefusalTold : Type 0
WritingRefusalTold = (answer : Writing) → WritingRefusal answer (number_of_answer number_of_not_written answer)

-- A refused write leaves the frame's bytes.
abbrev pub RefusedKeeps : Type 0
RefusedKeeps =
    (n id : ℕ) (bytes : List ℕ) (value : Value) (r : Writing) (after : List ℕ) (k : ℕ)
    → WriteField n id bytes value r after → told_writing r ≡ refused k → after ≡ bytes

abbrev pub RowRefusedKeeps : Type 0
RowRefusedKeeps =
    (row : Row) (id : ℕ) (bytes : List ℕ) (value : Value) (r : Writing) (after : List ℕ) (k : ℕ)
    → WriteRow row id bytes value r after → told_writing r ≡ refused k → after ≡ bytes

-- The lowest number wins: what the frame alone earns, then 11, then 12.
pub record RowLowestWins (row : Row) (id : ℕ) (bytes : List ℕ) (value : Value) : Type 0 where
  pub frame_first :
      (k : ℕ) → checked_of id (length bytes) ≡ refused k
      → (read_row_of row id bytes ≡ refused k) × (scaled_row_of row id bytes ≡ refused k)
      × (written_row_of row id bytes value ≡ refused k)
  pub row_next :
      (parts : Parts) → checked_of id (length bytes) ≡ gives parts → matching row parts.dgn ≡ refused 11
      → (read_row_of row id bytes ≡ refused 11) × (scaled_row_of row id bytes ≡ refused 11)
      × (written_row_of row id bytes value ≡ refused 11)
  pub code_last :
      (r : Row) → opened_for row id (length bytes) ≡ gives r → code_of r value ≡ refused 12
      → written_row_of row id bytes value ≡ refused 12

pub record LowestWins (n id : ℕ) (bytes : List ℕ) (value : Value) : Type 0 where
  pub frame_first :
      (k : ℕ) → checked_of id (length bytes) ≡ refused k
      → (read_of n id bytes ≡ refused k) × (scaled_read_of n id bytes ≡ refused k)
      × (written_of n id bytes value ≡ refused k)
  pub row_next :
      (parts : Parts) → checked_of id (length bytes) ≡ gives parts → row_of_dgn n parts.dgn ≡ refused 11
      → (read_of n id bytes ≡ refused 11) × (scaled_read_of n id bytes ≡ refused 11)
      × (written_of n id bytes value ≡ refused 11)
  pub code_last :
      (row : Row) → row_for n id (length bytes) ≡ gives row → code_of row value ≡ refused 12
      → written_of n id bytes value ≡ refused 12

-- The computed test says that a row lies in a frame; one that does not is refused.

abbrev pub LiesInFrame : Type 0
LiesInFrame = (row : Row) → (lies_in_frame row ≡ true) ↔ InFrame row.first row.width

abbrev pub OutsideRefused : Type 0
OutsideRefused = (row : Row) (dgn : ℕ) → (InFrame row.first row.width → ⊥) → matching row dgn ≡ refused 11

-- The rule of a table (RULES 6.4), in any list of rows that keeps it: by DGN and then by first bit each row comes after
-- the one before; none goes past bit 63; rows of one DGN have no bit in common; the span of a DGN has its rows and no
-- others; and a row is found by its DGN and first bit.

abbrev pub HasBit : Row → ℕ → Type 0
HasBit row b = (row.first ≤ b) × (b < row.first + row.width)

pub record Ruled (list : List Row) : Type 0 where
  pub rising :
      (i j : ℕ) → i < j → j < length list
      → ((nth list i).dgn < (nth list j).dgn)
      ⊎ (((nth list i).dgn ≡ (nth list j).dgn) × ((nth list i).first < (nth list j).first))
  pub ends : (i : ℕ) → i < length list → InFrame (nth list i).first (nth list i).width
  pub apart :
      (i j b : ℕ) → i < length list → j < length list → (i ≡ j → ⊥) → (nth list i).dgn ≡ (nth list j).dgn
      → HasBit (nth list i) b → HasBit (nth list j) b → ⊥
  pub exactly :
      (dgn n : ℕ) → n < length list
      → (((span_in list dgn).start ≤ n) × (n < (span_in list dgn).start + (span_in list dgn).count)) ↔ ((nth list n).dgn ≡ dgn)
  pub one_row : (n : ℕ) → n < length list → row_with list (nth list n).dgn (nth list n).first ≡ gives (nth list n)

abbrev pub RuleHolds : Type 0
RuleHolds = (list : List Row) → KeepsRule list → Ruled list

abbrev pub CatalogueRule : Type 0
CatalogueRule = KeepsRule rows

-- In any list, a row that is found is a row of the list with that DGN and first bit, and a span is within the list.

pub record FoundWith (list : List Row) (dgn first : ℕ) (row : Row) : Type 0 where
  pub number : ℕ
  pub there : number < length list
  pub is : row ≡ nth list number
  pub dgn_is : row.dgn ≡ dgn
  pub first_is : row.first ≡ first

abbrev pub RowFound : Type 0
RowFound =
    (list : List Row) (dgn first : ℕ) (row : Row) → row_with list dgn first ≡ gives row → FoundWith list dgn first row

abbrev pub SpanWithin : Type 0
SpanWithin = (list : List Row) (dgn : ℕ) → (span_in list dgn).start + (span_in list dgn).count ≤ length list

-- A lent table that keeps the rule: what is found in it is what its rows have. In any table a span is within it.

abbrev pub RowInRuled : Type 0
RowInRuled = (table : List ℕ) (n : ℕ) → KeepsRule (table_rows table) → table_row table n ≡ row_in (table_rows table) n

abbrev pub RowsInRuled : Type 0
RowsInRuled =
    (table : List ℕ) (dgn : ℕ) → KeepsRule (table_rows table) → table_span table dgn ≡ span_in (table_rows table) dgn

abbrev pub RowOfInRuled : Type 0
RowOfInRuled =
    (table : List ℕ) (dgn first : ℕ) → KeepsRule (table_rows table)
    → table_row_with table dgn first ≡ row_with (table_rows table) dgn first

abbrev pub RowsInWithin : Type 0
RowsInWithin = (table : List ℕ) (dgn : ℕ) → (table_span table dgn).start + (table_span table dgn).count ≤ length table

-- The catalogue's own table is the catalogue.

abbrev pub RowInPacked : Type 0
RowInPacked = (n : ℕ) → table_row packed_rows n ≡ row_of n

abbrev pub RowsInPacked : Type 0
RowsInPacked = (dgn : ℕ) → table_span packed_rows dgn ≡ span_of dgn

abbrev pub RowOfInPacked : Type 0
RowOfInPacked = (dgn first : ℕ) → table_row_with packed_rows dgn first ≡ row_with rows dgn first

-- Reading and writing by number are reading and writing the row with that number.

abbrev pub ReadAt : Type 0
ReadAt = (n id : ℕ) (bytes : List ℕ) → read_of n id bytes ≡ read_row_of (row_at n) id bytes

abbrev pub ScaledAt : Type 0
ScaledAt = (n id : ℕ) (bytes : List ℕ) → scaled_read_of n id bytes ≡ scaled_row_of (row_at n) id bytes

abbrev pub WrittenAt : Type 0
WrittenAt =
    (n id : ℕ) (bytes : List ℕ) (value : Value) → written_of n id bytes value ≡ written_row_of (row_at n) id bytes value

-- The same of the catalogue.

abbrev pub RowCount : Type 0
RowCount = length rows ≡ row_count

abbrev pub Rising : Type 0
Rising =
    (i j : ℕ) → i < j → j < row_count
    → ((row_at i).dgn < (row_at j).dgn) ⊎ (((row_at i).dgn ≡ (row_at j).dgn) × ((row_at i).first < (row_at j).first))

abbrev pub Ends : Type 0
Ends = (i : ℕ) → i < row_count → InFrame (row_at i).first (row_at i).width

abbrev pub Apart : Type 0
Apart =
    (i j b : ℕ) → i < row_count → j < row_count → (i ≡ j → ⊥) → (row_at i).dgn ≡ (row_at j).dgn
    → HasBit (row_at i) b → HasBit (row_at j) b → ⊥

-- The span of a DGN has its rows and no others.
abbrev pub Exactly : Type 0
Exactly =
    (dgn n : ℕ) → n < row_count
    → (((span_of dgn).start ≤ n) × (n < (span_of dgn).start + (span_of dgn).count)) ↔ ((row_at n).dgn ≡ dgn)

abbrev pub Within : Type 0
Within = (dgn : ℕ) → (span_of dgn).start + (span_of dgn).count ≤ row_count

-- CHARGER_STATUS_3 has three rows.
abbrev pub ThreeRows : Type 0
ThreeRows = (span_of 0x1FDCA).count ≡ 3

-- Instances (RULES 6.16): where a DGN has one, byte 0 is one row of eight bits; 59 DGNs have one.

abbrev pub InstanceRow : Type 0
InstanceRow =
    (dgn : ℕ) → has_instance dgn ≡ true
    → (row : Row) × (row_with rows (catalogue_form dgn) 0 ≡ gives row) × (row.width ≡ 8)

abbrev pub InstanceCount : Type 0
InstanceCount = length instance_dgns ≡ 59

-- The rows with a scale and an instance (RULES 18.5): 74, by unit and width.

-- a row whose unit has a scale at its width
abbrev pub is_scaled : Row → Bool
is_scaled row = not (steps_in_one row.unit row.width =? 0)

abbrev pub ScaledWithInstance : Type 0
ScaledWithInstance = count (λ r. is_scaled r and has_instance r.dgn) rows ≡ 74

-- how many of them have this unit and width
abbrev pub scaled_rows : Unit → ℕ → ℕ
scaled_rows unit width =
    count
    (λ r. (unit_digit r.unit =? unit_digit unit) and (r.width =? width) and is_scaled r and has_instance r.dgn)
    rows

pub record ScaledByUnit : Type 0 where
  pub percent : scaled_rows Percent 8 ≡ 25
  pub celsius : (scaled_rows Celsius 8 ≡ 5) × (scaled_rows Celsius 16 ≡ 14)
  pub volt : scaled_rows Volt 16 ≡ 19
  pub ampere : scaled_rows Ampere 16 ≡ 10
  pub hertz : scaled_rows Hertz 16 ≡ 1

-- How many steps make one, at each unit and width that has a scale.
pub record StepsByUnit : Type 0 where
  pub percent : steps_in_one Percent 8 ≡ 2
  pub celsius : (steps_in_one Celsius 8 ≡ 32) × (steps_in_one Celsius 16 ≡ 32)
  pub volt : steps_in_one Volt 16 ≡ 20
  pub ampere : steps_in_one Ampere 16 ≡ 20
  pub hertz : steps_in_one Hertz 16 ≡ 128
  pub other : (width : ℕ) → steps_in_one Other width ≡ 0

-- Where a unit has a scale, a scaled value is small.

abbrev pub ScaledSmall : Type 0
ScaledSmall =
    (unit : Unit) (width code : ℕ) → (steps_in_one unit width ≡ 0 → ⊥) → code < 2 ^ width
    → mag (scaled_of unit width code) < 2 ^ 16

abbrev pub ValueSmall : Type 0
ValueSmall =
    (row : Row) (number : ℕ) (v : ℤ) → is_scaled row ≡ true → value_of row (field_in row number) ≡ Value.Scaled v
    → mag v < 2 ^ 16

-- What is read of a row is a code below 2 to the width; and its value goes by its class.

abbrev pub CodeBelow : Type 0
CodeBelow = (row : Row) (number : ℕ) → (field_in row number).code < 2 ^ row.width

pub record ValueAnswers (row : Row) (field : Field) : Type 0 where
  pub number :
      field.class ≡ Number → value_of row field ≡ Value.Scaled (scaled_of row.unit row.width field.code)
  pub no_data : field.class ≡ NoData → value_of row field ≡ Value.NoData
  pub out_of_range : field.class ≡ OutOfRange → value_of row field ≡ Value.OutOfRange
  pub reserved : field.class ≡ Reserved → value_of row field ≡ Value.Reserved

abbrev pub ValueByClass : Type 0
ValueByClass = (row : Row) (field : Field) → ValueAnswers row field

-- The row that a number gives is the row at that number, where there is none it is 11, and the value of a row in a
-- frame of its DGN is read.

abbrev pub RowGiven : Type 0
RowGiven = (n : ℕ) (row : Row) → row_of n ≡ gives row → row ≡ row_at n

abbrev pub RowRefused : Type 0
RowRefused = (n k : ℕ) → row_of n ≡ refused k → k ≡ 11

abbrev pub ScaledInFrame : Type 0
ScaledInFrame =
    (n id : ℕ) (bytes : List ℕ) (row : Row) (parts : Parts)
    → row_of n ≡ gives row → checked_of id (length bytes) ≡ gives parts → row.dgn ≡ catalogue_form parts.dgn
    → scaled_row_of row id bytes ≡ gives (value_of row (field_in row (number_of bytes)))

-- The classes, once over the width.

pub record OfThree (row : Row) : Type 0 where
  pub greatest : class_in row (greatest_code row.width) ≡ NoData
  pub one_less : class_in row (greatest_code row.width - 1) ≡ OutOfRange
  pub two_less : class_in row (greatest_code row.width - 2) ≡ Reserved
  pub all_else : (code : ℕ) → code < greatest_code row.width - 2 → class_in row code ≡ Number

abbrev pub ThreeClasses : Type 0
ThreeClasses = (row : Row) → row.plain ≡ false → has_three row.width ≡ true → OfThree row

pub record OfOne (row : Row) : Type 0 where
  pub greatest : class_in row (greatest_code row.width) ≡ NoData
  pub all_else : (code : ℕ) → code < greatest_code row.width → class_in row code ≡ Number

abbrev pub OneClass : Type 0
OneClass =
    (row : Row) → row.plain ≡ false → has_two_states row ≡ false → has_three row.width ≡ false → 2 ≤ row.width
    → OfOne row

abbrev pub AlwaysNumbers : Type 0
AlwaysNumbers = (row : Row) (code : ℕ) → (row.plain ≡ true) ⊎ (row.width < 2) → class_in row code ≡ Number

-- The table of RULES 7.2 read row by row, the width first, as the class was defined before request #103: the same at
-- every width, for every code.

-- its first row
abbrev pub among_three : ℕ → ℕ → Class
among_three width code =
    if code =? 2 ^ width - 1 then NoData else
    if code =? 2 ^ width - 2 then OutOfRange else
    if code =? 2 ^ width - 3 then Reserved else
    Number

abbrev pub class_by_width : ℕ → ℕ → Class
class_by_width width code =
    if width =? 8 or width =? 16 or width =? 32 then among_three width code else
    if width <? 2 then Number else
    if code =? 2 ^ width - 1 then NoData else
    Number

abbrev pub ClassByWidth : Type 0
ClassByWidth = (width code : ℕ) → class_at width code ≡ class_by_width width code

-- Two states (RULES 7.13): 00b and 01b are numbers, 10b is out_of_range, 11b is no-data. No other code of two bits is
-- there.

pub record OfTwoStates (row : Row) : Type 0 where
  pub one_state : class_in row 0 ≡ Number
  pub other_state : class_in row 1 ≡ Number
  pub error : class_in row 2 ≡ OutOfRange
  pub no_data : class_in row 3 ≡ NoData

abbrev pub TwoStates : Type 0
TwoStates = (row : Row) → row.plain ≡ false → has_two_states row ≡ true → OfTwoStates row

-- What the calls answer in such a row, for a frame that they open it for: reading by the code that stands in the frame,
-- writing by the value. Any unit gives the code itself at two bits.
pub record TwoStateAnswers (row : Row) (id : ℕ) (bytes : List ℕ) : Type 0 where
  pub read_state :
      (code : ℕ) → code < error_code → field_of row.first 2 (number_of bytes) ≡ code
      → (read_row_of row id bytes ≡ gives (record { class = Number; code = code }))
      × (scaled_row_of row id bytes ≡ gives (Value.Scaled (pos code)))
  pub read_error :
      field_of row.first 2 (number_of bytes) ≡ error_code
      → (read_row_of row id bytes ≡ gives (record { class = OutOfRange; code = error_code }))
      × (scaled_row_of row id bytes ≡ gives Value.OutOfRange)
  pub read_no_data :
      field_of row.first 2 (number_of bytes) ≡ 3
      → (read_row_of row id bytes ≡ gives (record { class = NoData; code = 3 }))
      × (scaled_row_of row id bytes ≡ gives Value.NoData)
  pub write_state :
      (code : ℕ) → code < error_code
      → written_row_of row id bytes (Value.Scaled (pos code)) ≡ gives (replaced row code bytes)
  pub write_error : written_row_of row id bytes Value.OutOfRange ≡ gives (replaced row error_code bytes)
  pub write_no_data : written_row_of row id bytes Value.NoData ≡ gives (replaced row 3 bytes)
  pub no_third_state : written_row_of row id bytes (Value.Scaled (pos error_code)) ≡ refused 12
  pub no_reserved : written_row_of row id bytes Value.Reserved ≡ refused 12

abbrev pub TwoStatesAnswered : Type 0
TwoStatesAnswered =
    (row opened : Row) (id : ℕ) (bytes : List ℕ) → row.plain ≡ false → has_two_states row ≡ true
    → opened_for row id (length bytes) ≡ gives opened
    → TwoStateAnswers row id bytes

-- A row without the mark has the classes that every row had before request #106.

abbrev pub class_unmarked : Row → ℕ → Class
class_unmarked row code = if row.plain then Number else class_at row.width code

abbrev pub UnmarkedAsBefore : Type 0
UnmarkedAsBefore = (row : Row) (code : ℕ) → row.two_state ≡ false → class_in row code ≡ class_unmarked row code

-- And the mark speaks of 10b alone: but for that code the calls answer as they do for the same row without the mark.

abbrev pub unmarked : Row → Row
unmarked row =
    record {
      dgn = row.dgn;
      first = row.first;
      width = row.width;
      unit = row.unit;
      plain = row.plain;
      two_state = false;
    }

abbrev pub MarkReads : Type 0
MarkReads =
    (row : Row) (id : ℕ) (bytes : List ℕ)
    → (has_two_states row ≡ true → field_of row.first row.width (number_of bytes) ≡ error_code → ⊥)
    → (read_row_of row id bytes ≡ read_row_of (unmarked row) id bytes)
    × (scaled_row_of row id bytes ≡ scaled_row_of (unmarked row) id bytes)

abbrev pub MarkWrites : Type 0
MarkWrites =
    (row : Row) (id : ℕ) (bytes : List ℕ) (value : Value)
    → (has_two_states row ≡ true → code_of row value ≡ gives error_code → ⊥)
    → (has_two_states row ≡ true → code_of (unmarked row) value ≡ gives error_code → ⊥)
    → written_row_of row id bytes value ≡ written_row_of (unmarked row) id bytes value

-- In the catalogue a marked row has two bits and is not plain, and 114 are marked. A number that is read from a row of
-- two bits is 0 or 1.

abbrev pub TwoStateRows : Type 0
TwoStateRows =
    (n : ℕ) → n < row_count → (row_at n).two_state ≡ true → ((row_at n).width ≡ 2) × ((row_at n).plain ≡ false)

abbrev pub TwoStateCount : Type 0
TwoStateCount = count (λ r. r.two_state) rows ≡ 114

abbrev pub NoThirdState : Type 0
NoThirdState =
    (n id : ℕ) (bytes : List ℕ) (field : Field) → (row_at n).width ≡ 2 → read_of n id bytes ≡ gives field
    → field.class ≡ Number
    → field.code < error_code

-- Bit 8b+k of a frame is bit k of byte b.

abbrev pub bit_of : ℕ → ℕ → ℕ
bit_of b number = field_of b 1 number

abbrev pub BitOfByte : Type 0
BitOfByte =
    (bytes : List ℕ) (b k : ℕ) → AreBytes bytes → k < 8 → bit_of (8 * b + k) (number_of bytes) ≡ bit_of k (get_or bytes b 0)

-- A code and its value give each other back.

abbrev pub field_at : Row → ℕ → Field
field_at row code = record { class = class_in row code; code = code }

abbrev pub CodeBack : Type 0
CodeBack = (row : Row) (code : ℕ) → code < 2 ^ row.width → code_of row (value_of row (field_at row code)) ≡ gives code

abbrev pub ValueBack : Type 0
ValueBack =
    (row : Row) (value : Value) (code : ℕ) → code_of row value ≡ gives code
    → (code < 2 ^ row.width) × (value_of row (field_at row code) ≡ value)

-- What was written is read back, with the code that stands for it.

abbrev pub RowReadsBack : Type 0
RowReadsBack =
    (row : Row) (id : ℕ) (bytes new : List ℕ) (value : Value) → AreBytes bytes
    → written_row_of row id bytes value ≡ gives new
    → scaled_row_of row id new ≡ gives value

abbrev pub RowReadsCode : Type 0
RowReadsCode =
    (row : Row) (id : ℕ) (bytes : List ℕ) (value : Value) (r : Row) (code : ℕ)
    → AreBytes bytes → opened_for row id (length bytes) ≡ gives r → code_of r value ≡ gives code
    → read_row_of row id (replaced r code bytes) ≡ gives (field_at r code)

abbrev pub ReadsBack : Type 0
ReadsBack =
    (n id : ℕ) (bytes new : List ℕ) (value : Value) → AreBytes bytes → written_of n id bytes value ≡ gives new
    → scaled_read_of n id new ≡ gives value

abbrev pub ReadsCode : Type 0
ReadsCode =
    (n id : ℕ) (bytes : List ℕ) (value : Value) (row : Row) (code : ℕ) → AreBytes bytes
    → row_for n id (length bytes) ≡ gives row → code_of row value ≡ gives code
    → read_of n id (replaced row code bytes) ≡ gives (field_at row code)

-- Every other row of the frame reads as it did, and every bit outside the row is as it was; the frame keeps eight
-- bytes.

abbrev pub RowReadsOthers : Type 0
RowReadsOthers =
    (row other : Row) (id : ℕ) (bytes new : List ℕ) (value : Value)
    → AreBytes bytes → (row.dgn ≡ other.dgn → (b : ℕ) → HasBit row b → HasBit other b → ⊥)
    → written_row_of row id bytes value ≡ gives new
    → (read_row_of other id new ≡ read_row_of other id bytes) × (scaled_row_of other id new ≡ scaled_row_of other id bytes)

abbrev pub RowBitsKept : Type 0
RowBitsKept =
    (row : Row) (id b : ℕ) (bytes new : List ℕ) (value : Value)
    → AreBytes bytes → (HasBit row b → ⊥) → written_row_of row id bytes value ≡ gives new
    → bit_of b (number_of new) ≡ bit_of b (number_of bytes)

abbrev pub RowEightBytes : Type 0
RowEightBytes =
    (row : Row) (id : ℕ) (bytes new : List ℕ) (value : Value) → written_row_of row id bytes value ≡ gives new
    → (length new ≡ frame_bytes) × AreBytes new

abbrev pub ReadsOthers : Type 0
ReadsOthers =
    (n m id : ℕ) (bytes new : List ℕ) (value : Value) → AreBytes bytes → (m ≡ n → ⊥)
    → written_of n id bytes value ≡ gives new
    → (read_of m id new ≡ read_of m id bytes) × (scaled_read_of m id new ≡ scaled_read_of m id bytes)

abbrev pub BitsKept : Type 0
BitsKept =
    (n id b : ℕ) (bytes new : List ℕ) (value : Value) → AreBytes bytes → (HasBit (row_at n) b → ⊥)
    → written_of n id bytes value ≡ gives new
    → bit_of b (number_of new) ≡ bit_of b (number_of bytes)

abbrev pub EightBytes : Type 0
EightBytes =
    (n id : ℕ) (bytes new : List ℕ) (value : Value) → written_of n id bytes value ≡ gives new
    → (length new ≡ frame_bytes) × AreBytes new

-- Examples 8, 9 and 10 of RULES 13.11.

abbrev pub ExampleEight : Type 0
ExampleEight = (class_at 8 252 ≡ Number) × (class_at 8 253 ≡ Reserved)

abbrev pub ExampleNine : Type 0
ExampleNine = scaled_of Ampere 16 32000 ≡ pos 0

abbrev pub ExampleTen : Type 0
ExampleTen = scaled_of Celsius 8 0 ≡ negsuc 1279
