-- A row's field in a frame, read, read as a scaled value, and written (RULES 7.7 to 7.12): refusals 3 to 6, then 11,
-- then 12.
use Rattle.std.specs.Prelude.{not, List, ℕ, length, if◌then◌else◌}
use Rattle.words.specs.Words.{given◌then◌, ◌=?◌, Told, refused, gives}
use Rattle.frame.specs.Bytes.{number_of, bytes_of}
use Rattle.frame.specs.Identifier.{catalogue_form}
use Rattle.frame.specs.Frame.{checked_of, frame_bytes}
use Rattle.catalogue.specs.Table.{lies_in_frame, row_of}
use Rattle.catalogue.specs.Field.{field_of, with_field}
use Rattle.catalogue.specs.Classes.{class_in}
use Rattle.catalogue.specs.Scale.{value_of}
use Rattle.catalogue.specs.Codes.{code_of}
use Rattle.catalogue.specs.declared.Row.{Row}
use Rattle.catalogue.specs.declared.Field.{Field}
use Rattle.catalogue.specs.declared.Value.{Value}

-- a row's class and code, where the eight bytes are this number
unfoldable pub field_in : Row → ℕ → Field
field_in row number =
    record {
      class = class_in row (field_of row.first row.width number);
      code = field_of row.first row.width number;
    }

-- a row, if it lies in a frame and its DGN is this one (an addressed DGN with 00h for its destination)
unfoldable pub matching : Row → ℕ → Told Row
matching row dgn =
    if not (lies_in_frame row) then refused 11 else
    if row.dgn =? catalogue_form dgn then gives row else
    refused 11

-- a row, for a frame with this identifier and so many bytes
unfoldable pub opened_for : Row → ℕ → ℕ → Told Row
opened_for row id size = given checked_of id size then λ parts. matching row parts.dgn

unfoldable pub read_row_of : Row → ℕ → List ℕ → Told Field
read_row_of row id bytes = given opened_for row id (length bytes) then λ row. gives (field_in row (number_of bytes))

unfoldable pub scaled_row_of : Row → ℕ → List ℕ → Told Value
scaled_row_of row id bytes =
    given opened_for row id (length bytes) then λ row.
    gives (value_of row (field_in row (number_of bytes)))

-- the bytes with a row's code replaced
unfoldable pub replaced : Row → ℕ → List ℕ → List ℕ
replaced row code bytes = bytes_of frame_bytes (with_field row.first row.width code (number_of bytes))

unfoldable pub written_row_of : Row → ℕ → List ℕ → Value → Told (List ℕ)
written_row_of row id bytes value =
    given opened_for row id (length bytes) then λ row.
    given code_of row value then λ code.
    gives (replaced row code bytes)

-- The same with the number of a row of the catalogue.

-- the row with a number, if its DGN is this one
unfoldable pub row_of_dgn : ℕ → ℕ → Told Row
row_of_dgn n dgn = given row_of n then λ row. if row.dgn =? catalogue_form dgn then gives row else refused 11

-- the row for a frame with this identifier and so many bytes
unfoldable pub row_for : ℕ → ℕ → ℕ → Told Row
row_for n id size = given checked_of id size then λ parts. row_of_dgn n parts.dgn

unfoldable pub read_of : ℕ → ℕ → List ℕ → Told Field
read_of n id bytes = given row_for n id (length bytes) then λ row. gives (field_in row (number_of bytes))

unfoldable pub scaled_read_of : ℕ → ℕ → List ℕ → Told Value
scaled_read_of n id bytes =
    given row_for n id (length bytes) then λ row.
    gives (value_of row (field_in row (number_of bytes)))

unfoldable pub written_of : ℕ → ℕ → List ℕ → Value → Told (List ℕ)
written_of n id bytes value =
    given row_for n id (length bytes) then λ row.
    given code_of row value then λ code.
    gives (replaced row code bytes)
