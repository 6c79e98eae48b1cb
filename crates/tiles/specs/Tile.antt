-- One tile of a wall panel (RULES 18.2 to 18.12): the rows that it may name, what it shows of them, which frames are
-- for it, and what they make of it.
use Rattle.std.specs.Prelude.{Bool, true, false, not, List, ℕ, ℤ, get_or, if◌then◌else◌}
use Rattle.words.specs.Words.{◌=?◌, ◌and◌, Told, refused, gives}
use Rattle.frame.specs.Bytes.{number_of}
use Rattle.catalogue.specs.Instances.{has_instance}
use Rattle.catalogue.specs.Table.{row_of}
use Rattle.catalogue.specs.Scale.{value_of}
use Rattle.catalogue.specs.Catalogue.{field_in}
use Rattle.catalogue.specs.Laws.{is_scaled}
use Rattle.catalogue.specs.declared.Row.{Row}
use Rattle.catalogue.specs.declared.Unit.{Unit}
use Rattle.catalogue.specs.declared.Value.{Value}
use Rattle.tiles.specs.Exact.{nearest}
use Rattle.tiles.specs.declared.Reading.{Reading}
use Rattle.tiles.specs.declared.Reading.TheVariants.{Blank, NoData, OutOfRange, Reserved, Degrees, Percent}
use Rattle.tiles.specs.declared.Reading.TheVariants.{Hertz, Volts, Amperes}
use Rattle.tiles.specs.declared.Tile.{Tile}

-- a tile may name a row whose unit has a scale at its width, in a DGN with an instance in byte 0
unfoldable pub is_accepted : Row → Bool
is_accepted row = is_scaled row and has_instance row.dgn

-- What a tile shows.

-- so many steps of a unit: °C in 1/32, percent in halves, hertz in 1/128, as numbers; volts and amperes in twentieths;
-- a tile names no row of another unit
unfoldable pub shown_number : Unit → ℤ → Reading
shown_number Unit.Celsius v = Degrees (nearest v 32)
shown_number Unit.Percent v = Percent (nearest v 2)
shown_number Unit.Hertz v = Hertz (nearest v 128)
shown_number Unit.Volt v = Volts v
shown_number Unit.Ampere v = Amperes v
shown_number Unit.Other v = NoData

-- a number, or the class where there is none
unfoldable pub shown : Unit → Value → Reading
shown unit (Value.Scaled v) = shown_number unit v
shown unit Value.NoData = NoData
shown unit Value.OutOfRange = OutOfRange
shown unit Value.Reserved = Reserved

-- what a frame with these bytes says of a row
unfoldable pub reading_in : Row → List ℕ → Reading
reading_in row bytes = shown row.unit (value_of row (field_in row (number_of bytes)))

-- The rules of a tile.

abbrev pub unit_number : Unit → ℕ
unit_number Unit.Other = 0
unit_number Unit.Celsius = 1
unit_number Unit.Percent = 2
unit_number Unit.Hertz = 3
unit_number Unit.Volt = 4
unit_number Unit.Ampere = 5

infix 50 ◌is◌
abbrev pub ◌is◌ : Unit → Unit → Bool
a is b = unit_number a =? unit_number b

-- a number of this unit, or a class
unfoldable pub is_of : Unit → Reading → Bool
is_of unit Blank = false
is_of unit NoData = true
is_of unit OutOfRange = true
is_of unit Reserved = true
is_of unit (Degrees x) = unit is Unit.Celsius
is_of unit (Percent x) = unit is Unit.Percent
is_of unit (Hertz x) = unit is Unit.Hertz
is_of unit (Volts v) = unit is Unit.Volt
is_of unit (Amperes v) = unit is Unit.Ampere

abbrev pub shows_nothing : Reading → Bool
shows_nothing Blank = true
shows_nothing NoData = false
shows_nothing OutOfRange = false
shows_nothing Reserved = false
shows_nothing (Degrees x) = false
shows_nothing (Percent x) = false
shows_nothing (Hertz x) = false
shows_nothing (Volts v) = false
shows_nothing (Amperes v) = false

-- a tile that names no row
abbrev pub is_blank : Tile → Bool
is_blank t = shows_nothing t.reading

unfoldable pub is_zero : Tile → Bool
is_zero t = (t.row =? 0) and (t.instance =? 0)

-- a row that a tile may name, with a reading of its unit
unfoldable pub is_named : Told Row → Reading → Bool
is_named (refused n) reading = false
is_named (gives row) reading = is_accepted row and is_of row.unit reading

-- a blank tile has zeros; any other names a row that is accepted, and shows a number of its unit or a class
unfoldable pub tile_keeps_rules : Tile → Bool
tile_keeps_rules t = if is_blank t then is_zero t else is_named (row_of t.row) t.reading

abbrev pub blank_tile : Tile
blank_tile = record { row = 0; instance = 0; reading = Blank }

-- a tile that was just named shows no-data
abbrev pub fresh_tile : ℕ → ℕ → Tile
fresh_tile row instance = record { row = row; instance = instance; reading = NoData }

-- Frames.

unfoldable pub of_dgn : Told Row → ℕ → Bool
of_dgn (refused n) dgn = false
of_dgn (gives row) dgn = row.dgn =? dgn

-- a frame is for a tile that has the instance of its byte 0, and a row of its DGN (an addressed DGN with 00h for its
-- destination); none is for a blank tile
unfoldable pub matches : ℕ → ℕ → Tile → Bool
matches dgn instance t = not (is_blank t) and (t.instance =? instance) and of_dgn (row_of t.row) dgn

abbrev pub byte0 : List ℕ → ℕ
byte0 bytes = get_or bytes 0 0

-- the tile with what the frame says of its row
abbrev pub read_by : Told Row → List ℕ → Tile → Tile
read_by (refused n) bytes t = t
read_by (gives row) bytes t = record { row = t.row; instance = t.instance; reading = reading_in row bytes }

-- what a frame of this DGN makes of a tile
unfoldable pub heard_by : ℕ → List ℕ → Tile → Tile
heard_by dgn bytes t = if matches dgn (byte0 bytes) t then read_by (row_of t.row) bytes t else t
