-- The service point number of a DM_RV (RULES 14.4; 000, Table 3.2.5.5): 19 bits over three rows, the most significant
-- in byte 2, the least significant in bits 5 to 7 of byte 4.
use Rattle.std.specs.Prelude.{ℕ, ◌+◌, ◌*◌, ◌/◌, ◌%◌, ◌≡◌, List, pos, if◌then◌else◌}
use Rattle.words.specs.Words.{given◌then◌, ◌≤?◌, Told, refused, gives}
use Rattle.catalogue.specs.Catalogue.{read_row_of, written_row_of}
use Rattle.catalogue.specs.declared.Value.TheVariants.{Scaled}
use Rattle.faults.specs.Rows.{high_part, middle_part, low_part}

-- numbers of 19 bits
abbrev pub service_points : ℕ
service_points = 0x80000

-- the number that three parts spell: 8, 8 and 3 bits
abbrev pub joined : ℕ → ℕ → ℕ → ℕ
joined high middle low = high * 2048 + middle * 8 + low

-- 3 to 6, then 11
unfoldable pub service_point_of : ℕ → List ℕ → Told ℕ
service_point_of id bytes =
    given read_row_of high_part id bytes then λ high.
    given read_row_of middle_part id bytes then λ middle.
    given read_row_of low_part id bytes then λ low.
    gives (joined high.code middle.code low.code)

-- a frame that a number is read from: a DM_RV
pub record HasServicePoint (id : ℕ) (bytes : List ℕ) : Type 0 where
  pub number : ℕ
  pub is : service_point_of id bytes ≡ gives number

-- the three parts written, each by its row
unfoldable pub written_parts : ℕ → List ℕ → ℕ → Told (List ℕ)
written_parts id bytes number =
    given written_row_of high_part id bytes (Scaled (pos (number / 2048))) then λ one.
    given written_row_of middle_part id one (Scaled (pos (number / 8 % 256))) then λ two.
    written_row_of low_part id two (Scaled (pos (number % 8)))

-- 3 to 6, then 11, then 12 for a number of more than 19 bits
unfoldable pub with_service_point_of : ℕ → List ℕ → ℕ → Told (List ℕ)
with_service_point_of id bytes number =
    given service_point_of id bytes then λ _.
    if service_points ≤? number then refused 12 else
    written_parts id bytes number
