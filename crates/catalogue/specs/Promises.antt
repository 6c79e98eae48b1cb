-- What each public call of this crate promises (RULES 6.13, 6.14, 7.7 to 7.12 and 13.7): one proposition over all that
-- it answers. The answers are read as numbers and values (RULES 2.10).
use Rattle.std.specs.Prelude.{◌≡◌, Bool, List, ℕ, length, Result, Ok, Err}
use Rattle.words.specs.Words.{given◌then◌, Told, refused, gives, number_in, Done, done, told}
use Rattle.frame.specs.Bytes.{number_of}
use Rattle.frame.specs.Identifier.{catalogue_form}
use Rattle.frame.specs.Promises.{refusal_of}
use Rattle.catalogue.specs.Rows.{rows}
use Rattle.catalogue.specs.Instances.{has_instance}
use Rattle.catalogue.specs.Table.{row_with, row_of, span_of}
use Rattle.catalogue.specs.Packed.{packed_rows, table_row, table_row_with, table_span}
use Rattle.catalogue.specs.Scale.{steps_in_one}
use Rattle.catalogue.specs.Catalogue.{field_in, opened_for, read_row_of, scaled_row_of, written_row_of, read_of}
use Rattle.catalogue.specs.Catalogue.{scaled_read_of, written_of}
use Rattle.catalogue.specs.declared.Row.{Row}
use Rattle.catalogue.specs.declared.Unit as Units
use Rattle.catalogue.specs.declared.Span.{Span}
use Rattle.catalogue.specs.declared.Field.{Field}
use Rattle.catalogue.specs.declared.Value.{Value}
use Rattle.catalogue.specs.declared.NotFound.{NotFound}
use Rattle.catalogue.specs.declared.NotRead.{NotRead}
use Rattle.catalogue.specs.declared.NotWritten.{NotWritten}

-- rows

pub record Rows (r : ℕ) : Type 0 where
  pub answer : r ≡ length rows

-- row_at

abbrev pub Looked : Type 0
Looked = Result Row NotFound

abbrev pub number_of_not_found : NotFound → ℕ
number_of_not_found NotFound.NoSuchRow = 11

abbrev pub told_looked : Looked → Told Row
told_looked r = told number_of_not_found r

pub record RowAt (n : ℕ) (r : Looked) : Type 0 where
  pub answer : told_looked r ≡ row_of n

pub record NotFoundRefusal (why : NotFound) (r : ℕ) : Type 0 where
  pub number : r ≡ number_of_not_found why

pub record LookedRefusal (answer : Looked) (r : ℕ) : Type 0 where
  pub number : r ≡ number_in (told_looked answer)

-- rows_of

pub record RowsOf (dgn : ℕ) (r : Span) : Type 0 where
  pub answer : r ≡ span_of (catalogue_form dgn)

-- row_of

pub record RowOf (dgn first : ℕ) (r : Looked) : Type 0 where
  pub answer : told_looked r ≡ row_with rows (catalogue_form dgn) first

-- packed_rows, and the calls on a lent table of packed rows: row_in, rows_in, row_of_in

pub record PackedRows (r : List ℕ) : Type 0 where
  pub answer : r ≡ packed_rows

pub record RowIn (table : List ℕ) (n : ℕ) (r : Looked) : Type 0 where
  pub answer : told_looked r ≡ table_row table n

pub record RowsIn (table : List ℕ) (dgn : ℕ) (r : Span) : Type 0 where
  pub answer : r ≡ table_span table (catalogue_form dgn)

pub record RowOfIn (table : List ℕ) (dgn first : ℕ) (r : Looked) : Type 0 where
  pub answer : told_looked r ≡ table_row_with table (catalogue_form dgn) first

-- has_instance

pub record HasInstance (dgn : ℕ) (r : Bool) : Type 0 where
  pub answer : r ≡ has_instance dgn

-- steps_in_one

pub record StepsInOne (unit : Units.Unit) (width r : ℕ) : Type 0 where
  pub answer : r ≡ steps_in_one unit width

-- classify

pub record Classify (row : Row) (number : ℕ) (r : Field) : Type 0 where
  pub answer : r ≡ field_in row number

-- read, and read_row

abbrev pub Reading : Type 0
Reading = Result Field NotRead

abbrev pub number_of_not_read : NotRead → ℕ
number_of_not_read (NotRead.BadFrame why) = refusal_of why
number_of_not_read NotRead.NoSuchRow = 11

abbrev pub told_reading : Reading → Told Field
told_reading r = told number_of_not_read r

pub record NotReadRefusal (why : NotRead) (r : ℕ) : Type 0 where
  pub number : r ≡ number_of_not_read why

pub record ReadField (n id : ℕ) (bytes : List ℕ) (r : Reading) : Type 0 where
  pub answer : told_reading r ≡ read_of n id bytes

pub record ReadRow (row : Row) (id : ℕ) (bytes : List ℕ) (r : Reading) : Type 0 where
  pub answer : told_reading r ≡ read_row_of row id bytes

pub record ReadingRefusal (answer : Reading) (r : ℕ) : Type 0 where
  pub number : r ≡ number_in (told_reading answer)

-- read_scaled, and read_row_scaled

abbrev pub ScaledReading : Type 0
ScaledReading = Result Value NotRead

abbrev pub told_scaled : ScaledReading → Told Value
told_scaled r = told number_of_not_read r

pub record ReadScaled (n id : ℕ) (bytes : List ℕ) (r : ScaledReading) : Type 0 where
  pub answer : told_scaled r ≡ scaled_read_of n id bytes

pub record ReadRowScaled (row : Row) (id : ℕ) (bytes : List ℕ) (r : ScaledReading) : Type 0 where
  pub answer : told_scaled r ≡ scaled_row_of row id bytes

pub record ScaledReadingRefusal (answer : ScaledReading) (r : ℕ) : Type 0 where
  pub number : r ≡ number_in (told_scaled answer)

-- write, and write_row: the answer, and the frame's bytes afterwards

abbrev pub Writing : Type 0
Writing = Result Unit NotWritten

abbrev pub number_of_not_written : NotWritten → ℕ
number_of_not_written (NotWritten.BadFrame why) = refusal_of why
number_of_not_written NotWritten.NoSuchRow = 11
number_of_not_written NotWritten.NoCode = 12

abbrev pub told_writing : Writing → Told Done
told_writing (Ok nothing) = gives done
told_writing (Err why) = refused (number_of_not_written why)

pub record NotWrittenRefusal (why : NotWritten) (r : ℕ) : Type 0 where
  pub number : r ≡ number_of_not_written why

abbrev pub done_if : Told (List ℕ) → Told Done
done_if (gives bytes) = gives done
done_if (refused n) = refused n

-- a refusal leaves the bytes
abbrev pub bytes_after : Told (List ℕ) → List ℕ → List ℕ
bytes_after (gives new) old = new
bytes_after (refused n) old = old

pub record WriteField (n id : ℕ) (bytes : List ℕ) (value : Value) (r : Writing) (after : List ℕ) : Type 0 where
  pub answer : told_writing r ≡ done_if (written_of n id bytes value)
  pub data_bytes : after ≡ bytes_after (written_of n id bytes value) bytes

pub record WriteRow (row : Row) (id : ℕ) (bytes : List ℕ) (value : Value) (r : Writing) (after : List ℕ) : Type 0 where
  pub answer : told_writing r ≡ done_if (written_row_of row id bytes value)
  pub data_bytes : after ≡ bytes_after (written_row_of row id bytes value) bytes

pub record WritingRefusal (answer : Writing) (r : ℕ) : Type 0 where
  pub number : r ≡ number_in (told_writing answer)

-- open_row, which the calls on a row share: the frame's bytes as a number, where the row is for the frame

pub record Opens (row : Row) (id : ℕ) (bytes : List ℕ) (r : Result ℕ NotRead) : Type 0 where
  pub answer : told number_of_not_read r ≡ (given opened_for row id (length bytes) then λ _. gives (number_of bytes))
