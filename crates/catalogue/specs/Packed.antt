-- A table of packed rows (RULES 6.5 and 6.14). A row is one number, in hexadecimal digits DGN (5), first bit (2), width
-- (2), unit (1), mark (1).
use Rattle.std.specs.Prelude.{not, List, map, ℕ, zero, suc, ◌+◌, ◌*◌, ◌-◌, ◌/◌, ◌%◌, length, if◌then◌else◌}
use Rattle.words.specs.Words.{given◌then◌, ◌<?◌, ◌=?◌, Told, refused, gives}
use Rattle.catalogue.specs.Rows.{rows}
use Rattle.catalogue.specs.Table.{nth, row_in, row_with, lies_in_frame}
use Rattle.catalogue.specs.declared.Row.{Row}
use Rattle.catalogue.specs.declared.Span.{Span}
use Rattle.catalogue.specs.declared.Unit.{Unit}
use Rattle.catalogue.specs.declared.Unit.TheVariants.{Other, Percent, Celsius, Volt, Ampere, Hertz}

unfoldable pub unit_of : ℕ → Unit
unit_of n =
    if n =? 1 then Percent else
    if n =? 2 then Celsius else
    if n =? 3 then Volt else
    if n =? 4 then Ampere else
    if n =? 5 then Hertz else
    Other

unfoldable pub unpacked : ℕ → Row
unpacked n =
    record {
      dgn = n / 0x1000000 % 0x100000;
      first = n / 0x10000 % 256;
      width = n / 256 % 256;
      unit = unit_of (n / 16 % 16);
      plain = n % 16 =? 1;
      two_state = n % 16 =? 2;
    }

abbrev pub unit_digit : Unit → ℕ
unit_digit Other = 0
unit_digit Percent = 1
unit_digit Celsius = 2
unit_digit Volt = 3
unit_digit Ampere = 4
unit_digit Hertz = 5

-- 1 is plain, 2 is two-state
abbrev pub mark_digit : Row → ℕ
mark_digit r =
    if r.plain then 1 else
    if r.two_state then 2 else
    0

unfoldable pub pack : Row → ℕ
pack r = r.dgn * 0x1000000 + r.first * 0x10000 + r.width * 256 + unit_digit r.unit * 16 + mark_digit r

-- the catalogue, packed
unfoldable pub packed_rows : List ℕ
packed_rows = map pack rows

-- the rows of a table
abbrev pub table_rows : List ℕ → List Row
table_rows table = map unpacked table

-- a row of a table is given where it lies in a frame
unfoldable pub lying : Row → Told Row
lying row = if lies_in_frame row then gives row else refused 11

-- by its number
unfoldable pub table_row : List ℕ → ℕ → Told Row
table_row table n = given row_in (table_rows table) n then λ row. lying row

-- by DGN and first bit
unfoldable pub table_row_with : List ℕ → ℕ → ℕ → Told Row
table_row_with table dgn first = given row_with (table_rows table) dgn first then λ row. lying row

-- Halving: where the rows with a DGN below the key end, in a list whose DGNs never fall; each turn halves the stretch
-- from `low` to `high`.
abbrev pub middle : ℕ → ℕ → ℕ
middle low high = low + (high - low) / 2

unfoldable pub halve : ℕ → List Row → ℕ → ℕ → ℕ → ℕ
halve zero list key low high = low
halve (suc turns) list key low high =
    if not (low <? high) then low else
    if (nth list (middle low high)).dgn <? key then halve turns list key (middle low high + 1) high else
    halve turns list key low (middle low high)

unfoldable pub halved : List Row → ℕ → ℕ
halved list key = halve (length list) list key 0 (length list)

-- the rows of a DGN, as halving finds them
unfoldable pub table_span : List ℕ → ℕ → Span
table_span table dgn =
    record {
      start = halved (table_rows table) dgn;
      count = halved (table_rows table) (dgn + 1) - halved (table_rows table) dgn;
    }
