-- The rows of DM_RV (RULES 14.1; 000 and 001, Table 3.2.5.1b), a table of their own beside the catalogue's, read and
-- written by the catalogue's rules. Bit 47 is reserved, and bits 60 to 63 are in no field.
use Rattle.std.specs.Prelude.{List, [], ◌∷◌, map, ℕ}
use Rattle.words.specs.Words.{Told}
use Rattle.catalogue.specs.Rows.{Mark, row, classed, plain}
use Rattle.catalogue.specs.Table.{nth}
use Rattle.catalogue.specs.Packed.{pack}
use Rattle.catalogue.specs.Catalogue.{read_row_of, written_row_of}
use Rattle.catalogue.specs.declared.Row.{Row}
use Rattle.catalogue.specs.declared.Field.{Field}
use Rattle.catalogue.specs.declared.Value.{Value}
use Rattle.catalogue.specs.declared.Unit.TheVariants.{Other}

abbrev pub dm_rv : ℕ
dm_rv = 0x1FECA

-- a field of DM_RV: first bit, width, mark
abbrev pub field : ℕ → ℕ → Mark → Row
field first width mark = row dm_rv first width Other mark

-- The DSA is plain since 253 is one (the network bridge, 000, Table 7.2). The three parts of a service point number are
-- plain since each code of them stands in some number: 7 is one (000, Table 7.3), with 111b in its lowest bits.
abbrev pub high_part : Row
high_part = field 16 8 plain

abbrev pub middle_part : Row
middle_part = field 24 8 plain

abbrev pub low_part : Row
low_part = field 37 3 plain

abbrev pub rows : List Row
rows =
    field 0 2 classed ∷  -- operating status: 00b OFF, 01b ON
    field 2 2 classed ∷  -- operating status: 00b standby, 01b active
    field 4 2 classed ∷  -- yellow lamp status
    field 6 2 classed ∷  -- red lamp status
    field 8 8 plain ∷  -- DSA
    high_part ∷  -- SPN-MSB
    middle_part ∷  -- SPN-ISB
    field 32 5 classed ∷  -- FMI; 31 is not available
    low_part ∷  -- SPN-LSB
    field 40 7 classed ∷  -- occurrence count; 7Fh is not available
    field 48 8 classed ∷  -- DSA extension; FFh where there is none
    field 56 4 classed ∷  -- bank select; Fh where there are no banks
    []

-- packed as the catalogue's are
unfoldable pub packed : List ℕ
packed = map pack rows

-- A row is read and written by its number; past the end stands a row that lies in no frame, 11 after 3 to 6.
unfoldable pub read_of : ℕ → ℕ → List ℕ → Told Field
read_of n id bytes = read_row_of (nth rows n) id bytes

unfoldable pub written_of : ℕ → ℕ → List ℕ → Value → Told (List ℕ)
written_of n id bytes value = written_row_of (nth rows n) id bytes value
