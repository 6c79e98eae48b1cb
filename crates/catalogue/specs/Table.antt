-- Rows by their number, by their DGN, and by DGN and first bit, in any list of rows (RULES 6.13), and the rule of a
-- whole table (RULES 6.4). The catalogue is the list `rows`.
use Rattle.std.specs.Prelude.{◌≡◌, Bool, true, List, [], ◌∷◌, ℕ, ◌+◌, ◌*◌, length, get_or, if◌then◌else◌}
use Rattle.words.specs.Words.{◌and◌, ◌<?◌, ◌≤?◌, ◌=?◌, Told, refused, gives}
use Rattle.words.specs.Lists.{count}
use Rattle.catalogue.specs.Rows.{row, rows, classed}
use Rattle.catalogue.specs.Field.{widest, frame_bits}
use Rattle.catalogue.specs.declared.Row.{Row}
use Rattle.catalogue.specs.declared.Span.{Span}
use Rattle.catalogue.specs.declared.Unit.TheVariants.{Other}

-- no row: what stands past the end
abbrev pub no_row : Row
no_row = row 0 0 0 Other classed

abbrev pub nth : List Row → ℕ → Row
nth list n = get_or list n no_row

-- the row with a number
unfoldable pub row_in : List Row → ℕ → Told Row
row_in list n = if n <? length list then gives (nth list n) else refused 11

-- how many rows have a lower DGN, and how many have this one
unfoldable pub below : List Row → ℕ → ℕ
below list dgn = count (λ r. r.dgn <? dgn) list

unfoldable pub having : List Row → ℕ → ℕ
having list dgn = count (λ r. r.dgn =? dgn) list

-- the rows of a DGN begin after all that have a lower one
abbrev pub span_in : List Row → ℕ → Span
span_in list dgn = record { start = below list dgn; count = having list dgn }

-- the first row with a DGN and a first bit
unfoldable pub row_with : List Row → ℕ → ℕ → Told Row
row_with [] dgn first = refused 11
row_with (r ∷ rs) dgn first = if (r.dgn =? dgn) and (r.first =? first) then gives r else row_with rs dgn first

-- a row that lies in a frame: 1 to 32 bits, the last at or before bit 63
unfoldable pub lies_in_frame : Row → Bool
lies_in_frame r = (1 ≤? r.width) and (r.width ≤? widest) and (r.first + r.width ≤? frame_bits)

-- a row's first bit, and the bit past its last, counted over all DGNs
abbrev pub bit_from : Row → ℕ
bit_from r = frame_bits * r.dgn + r.first

abbrev pub bit_past : Row → ℕ
bit_past r = bit_from r + r.width

-- each row lies in a frame, and begins at or after bit k, where the row before it stopped
unfoldable pub in_order : ℕ → List Row → Bool
in_order k [] = true
in_order k (r ∷ rs) = (k ≤? bit_from r) and lies_in_frame r and in_order (bit_past r) rs

-- the rule of a table, as one computed test (what it says of each row and pair of rows: Laws.antt, `Ruled`)
abbrev pub KeepsRule : List Row → Type 0
KeepsRule list = in_order 0 list ≡ true

-- the catalogue

unfoldable pub row_at : ℕ → Row
row_at n = nth rows n

unfoldable pub row_of : ℕ → Told Row
row_of n = row_in rows n

abbrev pub span_of : ℕ → Span
span_of dgn = span_in rows dgn
