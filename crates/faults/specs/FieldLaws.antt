-- The laws of the fields of a DM_RV (RULES 14.1 to 14.4), each a named statement. proofs/FieldLaws.antt has a proof of
-- each, under the same name written small.
use Rattle.std.specs.Prelude.{◌≡◌, List, [], ◌∷◌, ◌⊎◌, ℕ, ◌/◌, ◌≤◌, ◌<◌, length, get_or}
use Rattle.words.specs.Words.{refused, gives, done}
use Rattle.frame.specs.Bytes.{number_of, AreBytes}
use Rattle.frame.specs.Frame.{checked_of}
use Rattle.frame.specs.declared.Parts.{Parts}
use Rattle.catalogue.specs.Table.{nth, row_in, row_with, span_in, span_of, KeepsRule}
use Rattle.catalogue.specs.Packed.{table_row, table_row_with, table_span}
use Rattle.catalogue.specs.Field.{field_of}
use Rattle.catalogue.specs.Classes.{class_in}
use Rattle.catalogue.specs.Codes.{code_of}
use Rattle.catalogue.specs.Catalogue.{field_in}
use Rattle.catalogue.specs.Promises.{told_writing, done_if}
use Rattle.catalogue.specs.Laws.{Ruled, bit_of}
use Rattle.catalogue.specs.declared.Class.TheVariants.{Number, NoData}
use Rattle.catalogue.specs.declared.Value.{Value}
use Rattle.catalogue.specs.Promises.{Writing}
use Rattle.faults.specs.Rows.{dm_rv, rows, packed, high_part, middle_part, low_part, read_of, written_of}
use Rattle.faults.specs.ServicePoint.{service_points, joined, service_point_of, with_service_point_of}
use Rattle.faults.specs.Promises.{WriteField, WriteServicePoint}

-- The rows keep the rule of a table: each comes after the one before, none goes past bit 63, no two share a bit.

abbrev pub RowsKeepRule : Type 0
RowsKeepRule = KeepsRule rows

abbrev pub RowsRuled : Type 0
RowsRuled = Ruled rows

-- The catalogue's calls on a lent table find these rows in the packed one: by number, by DGN, by DGN and first bit.

pub record Finds (table : List ℕ) : Type 0 where
  pub by_number : (n : ℕ) → table_row table n ≡ row_in rows n
  pub by_dgn : (dgn : ℕ) → table_span table dgn ≡ span_in rows dgn
  pub by_bit : (dgn first : ℕ) → table_row_with table dgn first ≡ row_with rows dgn first

abbrev pub TableIsRows : Type 0
TableIsRows = Finds packed

-- The two tables are apart: the catalogue has no row of DM_RV, and this one has 12 rows, all of DM_RV.

abbrev pub RowsApart : Type 0
RowsApart =
    ((span_of dm_rv).count ≡ 0) × (length rows ≡ 12) × ((n : ℕ) → n < 12 → (nth rows n).dgn ≡ dm_rv)

-- The DSA and the three parts of a service point number are numbers whatever stands in them: 253 is a DSA, and the
-- service points 7 (00h 00h 111b) and 2024 (00h FDh 000b) have no part that is no number. A failure mode, an occurrence
-- count, a DSA extension and a bank of all ones are no data.

abbrev pub PlainParts : Type 0
PlainParts =
    ((code : ℕ) → class_in (nth rows 4) code ≡ Number) × ((code : ℕ) → class_in high_part code ≡ Number)
    × ((code : ℕ) → class_in middle_part code ≡ Number) × ((code : ℕ) → class_in low_part code ≡ Number)
    × (class_in (nth rows 7) 31 ≡ NoData) × (class_in (nth rows 9) 0x7F ≡ NoData)
    × (class_in (nth rows 10) 0xFF ≡ NoData) × (class_in (nth rows 11) 0xF ≡ NoData)

-- A refused write leaves the frame's bytes.

abbrev pub FieldRefusedKeeps : Type 0
FieldRefusedKeeps =
    (n id : ℕ) (bytes : List ℕ) (value : Value) (r : Writing) (after : List ℕ) (k : ℕ)
    → WriteField n id bytes value r after → told_writing r ≡ refused k → after ≡ bytes

abbrev pub ServicePointRefusedKeeps : Type 0
ServicePointRefusedKeeps =
    (id : ℕ) (bytes : List ℕ) (number : ℕ) (r : Writing) (after : List ℕ) (k : ℕ)
    → WriteServicePoint id bytes number r after → told_writing r ≡ refused k → after ≡ bytes

-- The lowest number wins: what the frame alone earns, 3 to 6; then 11, where there is no such row or the frame is no
-- DM_RV; then 12, where the value has no code in its row, or the number more than 19 bits. Nothing else is refused.

pub record FieldLowestWins (n id : ℕ) (bytes : List ℕ) (value : Value) : Type 0 where
  pub frame_first :
      (k : ℕ) → checked_of id (length bytes) ≡ refused k
      → (read_of n id bytes ≡ refused k) × (written_of n id bytes value ≡ refused k)
  pub row_next :
      (parts : Parts) → checked_of id (length bytes) ≡ gives parts → (length rows ≤ n) ⊎ (parts.dgn ≡ dm_rv → ⊥)
      → (read_of n id bytes ≡ refused 11) × (written_of n id bytes value ≡ refused 11)
  pub code_last :
      (parts : Parts) → checked_of id (length bytes) ≡ gives parts → n < length rows → parts.dgn ≡ dm_rv
      → code_of (nth rows n) value ≡ refused 12
      → written_of n id bytes value ≡ refused 12
  pub else_read :
      (parts : Parts) → checked_of id (length bytes) ≡ gives parts → n < length rows → parts.dgn ≡ dm_rv
      → read_of n id bytes ≡ gives (field_in (nth rows n) (number_of bytes))
  pub else_done :
      (parts : Parts) (code : ℕ) → checked_of id (length bytes) ≡ gives parts → n < length rows → parts.dgn ≡ dm_rv
      → code_of (nth rows n) value ≡ gives code
      → done_if (written_of n id bytes value) ≡ gives done

pub record ServicePointLowestWins (id : ℕ) (bytes : List ℕ) (number : ℕ) : Type 0 where
  pub frame_first :
      (k : ℕ) → checked_of id (length bytes) ≡ refused k
      → (service_point_of id bytes ≡ refused k) × (with_service_point_of id bytes number ≡ refused k)
  pub dgn_next :
      (parts : Parts) → checked_of id (length bytes) ≡ gives parts → (parts.dgn ≡ dm_rv → ⊥)
      → (service_point_of id bytes ≡ refused 11) × (with_service_point_of id bytes number ≡ refused 11)
  pub number_last :
      (parts : Parts) → checked_of id (length bytes) ≡ gives parts → parts.dgn ≡ dm_rv → service_points ≤ number
      → with_service_point_of id bytes number ≡ refused 12
  pub else_read :
      (parts : Parts) → checked_of id (length bytes) ≡ gives parts → parts.dgn ≡ dm_rv
      → service_point_of id bytes
      ≡ gives (joined (field_of 16 8 (number_of bytes)) (field_of 24 8 (number_of bytes)) (field_of 37 3 (number_of bytes)))
  pub else_done :
      (parts : Parts) → checked_of id (length bytes) ≡ gives parts → parts.dgn ≡ dm_rv → number < service_points
      → done_if (with_service_point_of id bytes number) ≡ gives done

-- A number that is read has 19 bits.

abbrev pub ServicePointFits : Type 0
ServicePointFits =
    (id : ℕ) (bytes : List ℕ) (number : ℕ) → service_point_of id bytes ≡ gives number → number < service_points

-- It stands in byte 2, byte 3 and the three highest bits of byte 4, the most significant first.

abbrev pub ServicePointBytes : Type 0
ServicePointBytes =
    (id : ℕ) (bytes : List ℕ) (number : ℕ) → AreBytes bytes → service_point_of id bytes ≡ gives number
    → number ≡ joined (get_or bytes 2 0) (get_or bytes 3 0) (get_or bytes 4 0 / 32)

-- What was written is read back.

abbrev pub ServicePointReadsBack : Type 0
ServicePointReadsBack =
    (id : ℕ) (bytes : List ℕ) (number : ℕ) (r : Writing) (after : List ℕ)
    → AreBytes bytes → WriteServicePoint id bytes number r after → told_writing r ≡ gives done
    → service_point_of id after ≡ gives number

-- A write alters the three parts alone: every other row of DM_RV reads as it did, every bit but 16 to 31 and 37 to 39
-- is as it was, the reserved bit 47 too, and the frame has as many bytes.

abbrev pub Outside : ℕ → Type 0
Outside b = (b < 16) ⊎ ((32 ≤ b) × (b < 37)) ⊎ (40 ≤ b)

pub record Alone (id : ℕ) (bytes after : List ℕ) : Type 0 where
  pub rows_kept :
      (n : ℕ) → (n ≡ 5 → ⊥) → (n ≡ 6 → ⊥) → (n ≡ 8 → ⊥) → read_of n id after ≡ read_of n id bytes
  pub bits_kept : (b : ℕ) → Outside b → bit_of b (number_of after) ≡ bit_of b (number_of bytes)
  pub size_kept : length after ≡ length bytes

abbrev pub ServicePointAlone : Type 0
ServicePointAlone =
    (id : ℕ) (bytes : List ℕ) (number : ℕ) (r : Writing) (after : List ℕ)
    → AreBytes bytes → WriteServicePoint id bytes number r after
    → Alone id bytes after

-- 000's example: 01h, 03h and C0h in bytes 2 to 4 are the service point 81Eh. Written into eight bytes FFh it leaves
-- the five bits of the failure mode all ones, so that byte 4 is DFh. The frame is a DM_RV from 54h.

abbrev pub example_id : ℕ
example_id = 0x19FECA54

abbrev pub example_bytes : ℕ → ℕ → ℕ → List ℕ
example_bytes two three four = 0xFF ∷ 0xFF ∷ two ∷ three ∷ four ∷ 0xFF ∷ 0xFF ∷ 0xFF ∷ []

abbrev pub ServicePointExample : Type 0
ServicePointExample =
    (service_point_of example_id (example_bytes 0x01 0x03 0xC0) ≡ gives 0x81E)
    × (with_service_point_of example_id (example_bytes 0xFF 0xFF 0xFF) 0x81E ≡ gives (example_bytes 0x01 0x03 0xDF))
