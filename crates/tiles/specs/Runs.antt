-- Runs of calls on one panel (RULES 18.12 and 13.6): each call is told by its promise, and gets the panel that the one
-- before it left. What is said of a run goes by the calls that were made, not by the panel.
use Rattle.std.specs.Prelude.{◌≡◌, Bool, true, false, List, [], ◌∷◌, ◌++◌, ℕ, length}
use Rattle.words.specs.Words.{◌<?◌, ◌=?◌, ◌and◌, Told, refused, gives}
use Rattle.words.specs.Lists.{any}
use Rattle.frame.specs.Identifier.{catalogue_form}
use Rattle.frame.specs.Frame.{checked_of}
use Rattle.frame.specs.declared.Parts.{Parts}
use Rattle.catalogue.specs.Table.{row_of}
use Rattle.catalogue.specs.declared.Row.{Row}
use Rattle.tiles.specs.Tile.{is_accepted, byte0, reading_in}
use Rattle.tiles.specs.Panel.{tile_count}
use Rattle.tiles.specs.Promises.{New, Name, Hear}
use Rattle.tiles.specs.declared.Reading.{Reading}
use Rattle.tiles.specs.declared.Reading.TheVariants.{Blank, NoData}
use Rattle.tiles.specs.declared.Panel.{Panel}
use Rattle.tiles.specs.Promises.{Naming}
use Rattle.tiles.specs.Promises.{Hearing}

-- A call that changes a panel. (`reading` changes nothing, and can stand anywhere.)
pub data Call : Type 0 where
  names : ℕ → ℕ → ℕ → Call  -- tile, row, instance
  hears : ℕ → List ℕ → Call  -- identifier and bytes

-- A call leads from one panel to another.
abbrev pub Leads : Panel → Call → Panel → Type 0
Leads p (names tile row instance) q =
    (answer : Naming) × Name tile row instance p (record { panel = q; answer = answer })
Leads p (hears id bytes) q = (answer : Hearing) × Hear id bytes p (record { panel = q; answer = answer })

-- A run from a new panel, the latest call first.
pub data Ran : List Call → Panel → Type 0 where
  no_call : (p : Panel) → New p → Ran [] p
  a_call : (call : Call) (before : List Call) (p q : Panel) → Ran before p → Leads p call q → Ran (call ∷ before) q

-- Whatever calls are made, there is a run of them: what is said of runs is not said of nothing.
abbrev pub EveryRunRuns : Type 0
EveryRunRuns = (calls : List Call) → (p : Panel) × Ran calls p

-- ---- What the calls say of a tile, with no panel asked.

-- a row that a tile may name
abbrev pub may_name : Told Row → Bool
may_name (refused n) = false
may_name (gives row) = is_accepted row

-- a call that names the tile
abbrev pub is_naming : ℕ → Call → Bool
is_naming k (names tile row instance) = (tile =? k) and (tile <? tile_count) and may_name (row_of row)
is_naming k (hears id bytes) = false

-- a frame of this row's DGN, with this instance
abbrev pub is_of_row : Told Row → Told Parts → Bool
is_of_row (refused n) parts = false
is_of_row (gives row) (refused n) = false
is_of_row (gives row) (gives parts) = row.dgn =? catalogue_form parts.dgn

abbrev pub is_frame_for : ℕ → ℕ → Call → Bool
is_frame_for row instance (names tile n i) = false
is_frame_for row instance (hears id bytes) =
    (byte0 bytes =? instance) and is_of_row (row_of row) (checked_of id (length bytes))

-- what a frame says of a row
abbrev pub says_of : Told Row → List ℕ → Reading
says_of (refused n) bytes = NoData
says_of (gives row) bytes = reading_in row bytes

-- A tile after a run: never named, it is blank. Named, it shows no-data if no frame for it came since, and else what
-- the latest frame for it said. Calls stand with the latest first.
pub data Shows (k : ℕ) : List Call → Reading → Type 0 where
  never_named : (calls : List Call) → any (is_naming k) calls ≡ false → Shows k calls Blank
  no_frame_since : (since before : List Call) (row instance : ℕ)
      → is_naming k (names k row instance) ≡ true
      → any (is_naming k) since ≡ false → any (is_frame_for row instance) since ≡ false
      → Shows k (since ++ (names k row instance ∷ before)) NoData
  latest_frame : (later since before : List Call) (row instance id : ℕ) (bytes : List ℕ)
      → is_naming k (names k row instance) ≡ true
      → any (is_naming k) (later ++ (hears id bytes ∷ since)) ≡ false
      → is_frame_for row instance (hears id bytes) ≡ true → any (is_frame_for row instance) later ≡ false
      → Shows k ((later ++ (hears id bytes ∷ since)) ++ (names k row instance ∷ before)) (says_of (row_of row) bytes)
