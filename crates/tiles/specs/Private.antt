-- What the private functions of this crate promise, where it is no definition of the others (for RULES 18).
use Rattle.std.specs.Prelude.{Ok, ◌≡◌, true, List, ℕ, ◌^◌, ◌<◌, length}
use Rattle.std.specs.Int.Signed.{mag}
use Rattle.words.specs.Words.{gives}
use Rattle.frame.specs.Bytes.{number_of}
use Rattle.frame.specs.Identifier.{catalogue_form}
use Rattle.frame.specs.Frame.{checked_of}
use Rattle.frame.specs.declared.Parts.{Parts}
use Rattle.catalogue.specs.Scale.{value_of}
use Rattle.catalogue.specs.Catalogue.{field_in, scaled_row_of}
use Rattle.catalogue.specs.Laws.{is_scaled}
use Rattle.catalogue.specs.declared.Row.{Row}
use Rattle.catalogue.specs.declared.Value.{Value}
use Rattle.tiles.specs.Tile.{byte0, matches}
use Rattle.tiles.specs.Panel.{mask_of, heard_by_all}
use Rattle.tiles.specs.declared.Panel.{Panel}
use Rattle.tiles.specs.Promises.{Naming, Hearing}
use Rattle.tiles.specs.declared.Named.{Named}
use Rattle.tiles.specs.declared.Heard.{Heard}

-- a number, if it is one, of few enough digits for the division
abbrev pub IsSmall : Value → Type 0
IsSmall (Value.Scaled v) = mag v < 2 ^ 16
IsSmall Value.NoData = Unit
IsSmall Value.OutOfRange = Unit
IsSmall Value.Reserved = Unit

-- a frame that is not refused, of this DGN in the catalogue's form, with this byte 0
pub record IsSound (id : ℕ) (bytes : List ℕ) (dgn instance : ℕ) : Type 0 where
  pub parts : Parts
  pub sound : checked_of id (length bytes) ≡ gives parts
  pub of_dgn : dgn ≡ catalogue_form parts.dgn
  pub of_instance : instance ≡ byte0 bytes

-- a row that has a scale, and is read in this frame
pub record ReadsOf (row : Row) (id : ℕ) (bytes : List ℕ) : Type 0 where
  pub scaled : is_scaled row ≡ true
  pub read : scaled_row_of row id bytes ≡ gives (value_of row (field_in row (number_of bytes)))

abbrev pub named_beside : Panel → Naming → Named
named_beside p answer = record { panel = p; answer = answer }

abbrev pub heard_beside : Panel → Hearing → Heard
heard_beside p answer = record { panel = p; answer = answer }

abbrev pub heard_as : ℕ → List ℕ → Panel → Heard
heard_as dgn bytes p =
    heard_beside (heard_by_all dgn bytes p) (Ok (mask_of (matches dgn (byte0 bytes)) p.tiles))
