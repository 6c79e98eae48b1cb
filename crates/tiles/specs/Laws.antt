-- The laws of this crate (RULES 18), each a named statement. proofs/Laws.antt has a proof of each, under the same name
-- written small.
use Rattle.std.specs.Prelude.{◌≡◌, true, false, List, ◌↔◌, ℕ, ◌%◌, ◌^◌, ◌<◌, length, Float}
use Rattle.words.specs.Words.{◌<?◌, bits, refused, gives, done}
use Rattle.words.specs.Lists.{count}
use Rattle.frame.specs.Bytes.{number_of}
use Rattle.frame.specs.Identifier.{identifiers, catalogue_form}
use Rattle.frame.specs.Frame.{checked_of}
use Rattle.frame.specs.declared.Parts.{Parts}
use Rattle.catalogue.specs.Rows.{rows}
use Rattle.catalogue.specs.Table.{row_of}
use Rattle.catalogue.specs.Scale.{scaled_of}
use Rattle.catalogue.specs.Catalogue.{field_in}
use Rattle.catalogue.specs.declared.Row.{Row}
use Rattle.catalogue.specs.declared.Unit.{Unit}
use Rattle.catalogue.specs.declared.Field.{Field}
use Rattle.catalogue.specs.declared.Class.TheVariants as Class
use Rattle.tiles.specs.Exact.{nearest, IsExactly}
use Rattle.tiles.specs.Tile.{is_accepted, is_blank, fresh_tile, byte0, matches, reading_in}
use Rattle.tiles.specs.Panel.{tile_count, keeps_rules, tile_at, named_of, heard_of, after_hear, reading_of}
use Rattle.tiles.specs.Promises.{told_naming, told_hearing, told_asking, New, Name, Hear, ReadTile, NamingRefusal}
use Rattle.tiles.specs.Promises.{HearingRefusal, AskingRefusal}
use Rattle.tiles.specs.Runs.{Call, Ran, Shows}
use Rattle.tiles.specs.Promises.{Naming, Hearing, Asking, NotNamedRefusal, NotHeardRefusal, NotShownRefusal}
use Rattle.tiles.specs.declared.NotNamed.{NotNamed}
use Rattle.tiles.specs.declared.NotHeard.{NotHeard}
use Rattle.tiles.specs.declared.NotShown.{NotShown}
use Rattle.tiles.specs.declared.Reading.{Reading}
use Rattle.tiles.specs.declared.Reading.TheVariants.{NoData, OutOfRange, Reserved, Degrees, Percent, Hertz}
use Rattle.tiles.specs.declared.Reading.TheVariants.{Volts, Amperes}
use Rattle.tiles.specs.declared.Tile.{Tile}
use Rattle.tiles.specs.declared.Panel.{Panel}
use Rattle.tiles.specs.declared.Named.{Named}
use Rattle.tiles.specs.declared.Heard.{Heard}
use Rattle.tiles.specs.Promises.{number_of_not_named}
use Rattle.words.specs.Words.{number_of_answer}
use Rattle.tiles.specs.Promises.{number_of_not_heard}
use Rattle.tiles.specs.Promises.{number_of_not_shown}

-- An answer read as number and values loses nothing (RULES 2.10).

abbrev pub ToldNamingSame : Type 0
ToldNamingSame = (r s : Naming) → told_naming r ≡ told_naming s → r ≡ s

abbrev pub ToldHearingSame : Type 0
ToldHearingSame = (r s : Hearing) → told_hearing r ≡ told_hearing s → r ≡ s

abbrev pub ToldAskingSame : Type 0
ToldAskingSame = (r s : Asking) → told_asking r ≡ told_asking s → r ≡ s

-- No second answer, and no second panel, keep a promise.

abbrev pub NewOnly : Type 0
NewOnly = (r s : Panel) → New r → New s → r ≡ s

abbrev pub NameOnly : Type 0
NameOnly =
    (tile row instance : ℕ) (p : Panel) (r s : Named) → Name tile row instance p r → Name tile row instance p s → r ≡ s

abbrev pub HearOnly : Type 0
HearOnly = (id : ℕ) (bytes : List ℕ) (p : Panel) (r s : Heard) → Hear id bytes p r → Hear id bytes p s → r ≡ s

abbrev pub ReadTileOnly : Type 0
ReadTileOnly = (tile : ℕ) (p : Panel) (r s : Asking) → ReadTile tile p r → ReadTile tile p s → r ≡ s

abbrev pub NotNamedRefusalOnly : Type 0
NotNamedRefusalOnly = (why : NotNamed) (r s : ℕ) → NotNamedRefusal why r → NotNamedRefusal why s → r ≡ s

abbrev pub NotHeardRefusalOnly : Type 0
NotHeardRefusalOnly = (why : NotHeard) (r s : ℕ) → NotHeardRefusal why r → NotHeardRefusal why s → r ≡ s

abbrev pub NotShownRefusalOnly : Type 0
NotShownRefusalOnly = (why : NotShown) (r s : ℕ) → NotShownRefusal why r → NotShownRefusal why s → r ≡ s

abbrev pub NamingRefusalOnly : Type 0
NamingRefusalOnly = (answer : Naming) (r s : ℕ) → NamingRefusal answer r → NamingRefusal answer s → r ≡ s

abbrev pub NamingRefusalTold : Type 0
NamingRefusalTold = (answer : Naming) → NamingRefusal answer (number_of_answer number_of_not_named answer)

abbrev pub HearingRefusalOnly : Type 0
HearingRefusalOnly = (answer : Hearing) (r s : ℕ) → HearingRefusal answer r → HearingRefusal answer s → r ≡ s

abbrev pub HearingRefusalTold : Type 0
HearingRefusalTold = (answer : Hearing) → HearingRefusal answer (number_of_answer number_of_not_heard answer)

abbrev pub AskingRefusalOnly : Type 0
AskingRefusalOnly = (answer : Asking) (r s : ℕ) → AskingRefusal answer r → AskingRefusal answer s → r ≡ s

abbrev pub AskingRefusalTold : Type 0
AskingRefusalTold = (answer : Asking) → AskingRefusal answer (number_of_answer number_of_not_shown answer)

-- A refusal leaves the panel.

abbrev pub NameRefusedKeeps : Type 0
NameRefusedKeeps =
    (tile row instance : ℕ) (p : Panel) (r : Named) (n : ℕ) → Name tile row instance p r
    → told_naming r.answer ≡ refused n
    → r.panel ≡ p

abbrev pub HearRefusedKeeps : Type 0
HearRefusedKeeps =
    (id : ℕ) (bytes : List ℕ) (p : Panel) (r : Heard) (n : ℕ) → Hear id bytes p r → told_hearing r.answer ≡ refused n
    → r.panel ≡ p

-- The lowest number wins: each is given where it applies and no lower one does.

pub record NameLowestWins (tile row : ℕ) (p : Panel) : Type 0 where
  pub two : keeps_rules p ≡ false → named_of tile row p ≡ refused 2
  pub eleven : (n : ℕ) → keeps_rules p ≡ true → row_of row ≡ refused n → named_of tile row p ≡ refused n
  pub twenty_three : (found : Row) → keeps_rules p ≡ true → row_of row ≡ gives found → (tile <? tile_count) ≡ false
      → named_of tile row p ≡ refused 23
  pub twenty_four : (found : Row) → keeps_rules p ≡ true → row_of row ≡ gives found → (tile <? tile_count) ≡ true
      → is_accepted found ≡ false
      → named_of tile row p ≡ refused 24
  pub named : (found : Row) → keeps_rules p ≡ true → row_of row ≡ gives found → (tile <? tile_count) ≡ true
      → is_accepted found ≡ true
      → named_of tile row p ≡ gives done

pub record HearLowestWins (id : ℕ) (bytes : List ℕ) (p : Panel) : Type 0 where
  pub two : keeps_rules p ≡ false → heard_of id bytes p ≡ refused 2
  pub three_to_six : (n : ℕ) → keeps_rules p ≡ true → checked_of id (length bytes) ≡ refused n
      → heard_of id bytes p ≡ refused n
  pub heard : (parts : Parts) → keeps_rules p ≡ true → checked_of id (length bytes) ≡ gives parts
      → (mask : ℕ) × (heard_of id bytes p ≡ gives mask)

pub record ReadingLowestWins (tile : ℕ) (p : Panel) : Type 0 where
  pub two : keeps_rules p ≡ false → reading_of tile p ≡ refused 2
  pub twenty_three : keeps_rules p ≡ true → (tile <? tile_count) ≡ false → reading_of tile p ≡ refused 23
  pub read : keeps_rules p ≡ true → (tile <? tile_count) ≡ true → reading_of tile p ≡ gives (tile_at tile p).reading

abbrev pub NameLowest : Type 0
NameLowest = (tile row : ℕ) (p : Panel) → NameLowestWins tile row p

abbrev pub HearLowest : Type 0
HearLowest = (id : ℕ) (bytes : List ℕ) (p : Panel) → HearLowestWins id bytes p

abbrev pub ReadingLowest : Type 0
ReadingLowest = (tile : ℕ) (p : Panel) → ReadingLowestWins tile p

-- The rows that a tile may name are 74 of the catalogue's.
abbrev pub AcceptedRows : Type 0
AcceptedRows = count is_accepted rows ≡ 74

-- Which frames are for a tile. None is for a blank one; and a byte 0 of zero is an instance like any other, not all.

pub record IsFor (dgn instance : ℕ) (t : Tile) : Type 0 where
  pub not_blank : is_blank t ≡ false
  pub same_instance : t.instance ≡ instance
  pub row : Row
  pub of_tile : row_of t.row ≡ gives row
  pub same_dgn : row.dgn ≡ dgn

abbrev pub MatchesExactly : Type 0
MatchesExactly = (dgn instance : ℕ) (t : Tile) → (matches dgn instance t ≡ true) ↔ IsFor dgn instance t

abbrev pub ZeroIsNotAll : Type 0
ZeroIsNotAll = (dgn : ℕ) (t : Tile) → (t.instance ≡ 0 → ⊥) → matches dgn 0 t ≡ false

-- A frame alters just the tiles that it is for, and answers just these. Of each of the 32 tiles: if the frame is for
-- it, its bit is set and it shows what the frame says of its row; if not, its bit is not set and it is as it was.

pub record HeardAt (dgn : ℕ) (bytes : List ℕ) (mask : ℕ) (old new : Tile) (k : ℕ) : Type 0 where
  pub for_it : (row : Row) → matches dgn (byte0 bytes) old ≡ true → row_of old.row ≡ gives row
      → (bits k k mask ≡ 1)
      × (new ≡ record { row = old.row; instance = old.instance; reading = reading_in row bytes })
  pub not_for_it : matches dgn (byte0 bytes) old ≡ false → (bits k k mask ≡ 0) × (new ≡ old)

abbrev pub HeardExactly : Type 0
HeardExactly =
    (id : ℕ) (bytes : List ℕ) (p : Panel) (r : Heard) (parts : Parts) (mask : ℕ)
    → length p.tiles ≡ tile_count → Hear id bytes p r → checked_of id (length bytes) ≡ gives parts
    → told_hearing r.answer ≡ gives mask
    → (mask < 2 ^ tile_count)
    × ((k : ℕ) → k < tile_count
    → HeardAt (catalogue_form parts.dgn) bytes mask (tile_at k p) (tile_at k r.panel) k)

-- Naming alters one tile, which shows no-data, whatever it showed before.
abbrev pub NamedExactly : Type 0
NamedExactly =
    (tile row instance : ℕ) (p : Panel) (r : Named) → length p.tiles ≡ tile_count → Name tile row instance p r
    → told_naming r.answer ≡ gives done
    → (tile_at tile r.panel ≡ fresh_tile row instance)
    × ((k : ℕ) → (k ≡ tile → ⊥) → tile_at k r.panel ≡ tile_at k p)

-- The priority of a frame makes no difference (RULES 3.3).
abbrev pub PriorityIgnored : Type 0
PriorityIgnored =
    (id id' : ℕ) (bytes : List ℕ) (p : Panel) → id < identifiers → id' < identifiers → id % 2 ^ 26 ≡ id' % 2 ^ 26
    → (heard_of id bytes p ≡ heard_of id' bytes p) × (after_hear id bytes p ≡ after_hear id' bytes p)

-- The three float units are exact: for every code of each width that has a scale, a class's code too, the number that a
-- tile would show is the scaled value, and nothing is rounded.

abbrev pub IsExact : Unit → ℕ → ℕ → Type 0
IsExact unit width steps =
    (code : ℕ) → code < 2 ^ width
    → IsExactly (nearest (scaled_of unit width code) steps) (scaled_of unit width code) steps

pub record ExactForEveryCode : Type 0 where
  pub percent : IsExact Unit.Percent 8 2
  pub degrees_8 : IsExact Unit.Celsius 8 32
  pub degrees_16 : IsExact Unit.Celsius 16 32
  pub hertz : IsExact Unit.Hertz 16 128

-- So it is known of every frame what a tile shows of it, by the class of the field and the unit of the row, which is
-- one of five: a number is the scaled value of the code that stands in the frame, exactly; a class is itself.

pub record ShownExactly (row : Row) (field : Field) (reading : Reading) : Type 0 where
  pub has_unit : row.unit ≡ Unit.Other → ⊥
  pub degrees : field.class ≡ Class.Number → row.unit ≡ Unit.Celsius
      → (x : Float) × (reading ≡ Degrees x) × IsExactly x (scaled_of Unit.Celsius row.width field.code) 32
  pub percent : field.class ≡ Class.Number → row.unit ≡ Unit.Percent
      → (x : Float) × (reading ≡ Percent x) × IsExactly x (scaled_of Unit.Percent row.width field.code) 2
  pub hertz : field.class ≡ Class.Number → row.unit ≡ Unit.Hertz
      → (x : Float) × (reading ≡ Hertz x) × IsExactly x (scaled_of Unit.Hertz row.width field.code) 128
  pub volts : field.class ≡ Class.Number → row.unit ≡ Unit.Volt
      → reading ≡ Volts (scaled_of Unit.Volt row.width field.code)
  pub amperes : field.class ≡ Class.Number → row.unit ≡ Unit.Ampere
      → reading ≡ Amperes (scaled_of Unit.Ampere row.width field.code)
  pub no_data : field.class ≡ Class.NoData → reading ≡ NoData
  pub out_of_range : field.class ≡ Class.OutOfRange → reading ≡ OutOfRange
  pub reserved : field.class ≡ Class.Reserved → reading ≡ Reserved

abbrev pub ReadingExact : Type 0
ReadingExact =
    (row : Row) (bytes : List ℕ) → is_accepted row ≡ true
    → ShownExactly row (field_in row (number_of bytes)) (reading_in row bytes)

-- A run from a new panel leads to one that keeps its rules and has 32 tiles; so nothing in a run is refused with 2.
abbrev pub RunSound : Type 0
RunSound = (calls : List Call) (p : Panel) → Ran calls p → (keeps_rules p ≡ true) × (length p.tiles ≡ tile_count)

-- After any run a tile shows what the latest frame for it said since it was named; no-data where none came; and nothing
-- where it was never named.
abbrev pub LatestShown : Type 0
LatestShown =
    (calls : List Call) (p : Panel) (k : ℕ) (r : Asking) → Ran calls p → k < tile_count → ReadTile k p r
    → (reading : Reading) × (told_asking r ≡ gives reading) × Shows k calls reading

-- And there is one such reading: what a run of calls says of a tile is determined.
abbrev pub ShowsOne : Type 0
ShowsOne = (k : ℕ) (calls : List Call) (one other : Reading) → Shows k calls one → Shows k calls other → one ≡ other
