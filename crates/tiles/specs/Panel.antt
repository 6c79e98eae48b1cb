-- A wall panel of 32 tiles (RULES 18): a tile named, a frame heard, and what a tile shows.
use Rattle.std.specs.Prelude.{Bool, not, List, [], ◌∷◌, map, ℕ, ◌+◌, ◌*◌, length, get_or, set, replicate, if◌then◌else◌}
use Rattle.words.specs.Words.{given◌then◌, ◌<?◌, Told, refused, gives, Done, done}
use Rattle.words.specs.Lists.{every}
use Rattle.frame.specs.Identifier.{catalogue_form}
use Rattle.frame.specs.Frame.{checked_of}
use Rattle.frame.specs.declared.Parts.{Parts}
use Rattle.catalogue.specs.Table.{row_of}
use Rattle.tiles.specs.Tile.{is_accepted, tile_keeps_rules, blank_tile, fresh_tile, byte0, matches, heard_by}
use Rattle.tiles.specs.declared.Reading.{Reading}
use Rattle.tiles.specs.declared.Tile.{Tile}
use Rattle.tiles.specs.declared.Panel.{Panel}

abbrev pub tile_count : ℕ
tile_count = 32

-- at first every tile is blank
abbrev pub new_panel : Panel
new_panel = record { tiles = replicate tile_count blank_tile }

-- a state that breaks its rules is refused with 2
unfoldable pub keeps_rules : Panel → Bool
keeps_rules p = every tile_keeps_rules p.tiles

abbrev pub tile_at : ℕ → Panel → Tile
tile_at k p = get_or p.tiles k blank_tile

-- one tile replaced
abbrev pub replacing : Panel → ℕ → Tile → Panel
replacing p k t = record { tiles = set p.tiles k t }

-- ---- A tile named: 2; 11; 23 where there is no such tile; 24 where the row is not accepted.

unfoldable pub named_of : ℕ → ℕ → Panel → Told Done
named_of tile row p =
    if not (keeps_rules p) then refused 2 else
    given row_of row then λ found.
    if not (tile <? tile_count) then refused 23 else
    if not (is_accepted found) then refused 24 else
    gives done

abbrev pub after_name : Told Done → ℕ → ℕ → ℕ → Panel → Panel
after_name (refused n) tile row instance p = p
after_name (gives d) tile row instance p = replacing p tile (fresh_tile row instance)

-- ---- A frame heard: 2; 3 to 6.

unfoldable pub sound_of : ℕ → List ℕ → Panel → Told Parts
sound_of id bytes p = if not (keeps_rules p) then refused 2 else checked_of id (length bytes)

abbrev pub bit_of : Bool → ℕ
bit_of b = if b then 1 else 0

-- bit k for the tile with number k, if it passes the test
abbrev pub mask_of : (Tile → Bool) → List Tile → ℕ
mask_of test [] = 0
mask_of test (t ∷ ts) = bit_of (test t) + 2 * mask_of test ts

-- the tiles that the frame is for
abbrev pub tiles_for : Parts → List ℕ → Panel → ℕ
tiles_for parts bytes p = mask_of (matches (catalogue_form parts.dgn) (byte0 bytes)) p.tiles

unfoldable pub heard_of : ℕ → List ℕ → Panel → Told ℕ
heard_of id bytes p = given sound_of id bytes p then λ parts. gives (tiles_for parts bytes p)

-- every tile after a frame of this DGN
abbrev pub heard_by_all : ℕ → List ℕ → Panel → Panel
heard_by_all dgn bytes p = record { tiles = map (heard_by dgn bytes) p.tiles }

abbrev pub after_sound : Told Parts → List ℕ → Panel → Panel
after_sound (refused n) bytes p = p
after_sound (gives parts) bytes p = heard_by_all (catalogue_form parts.dgn) bytes p

unfoldable pub after_hear : ℕ → List ℕ → Panel → Panel
after_hear id bytes p = after_sound (sound_of id bytes p) bytes p

-- ---- What a tile shows: 2; 23.

unfoldable pub reading_of : ℕ → Panel → Told Reading
reading_of tile p =
    if not (keeps_rules p) then refused 2 else
    if not (tile <? tile_count) then refused 23 else
    gives (tile_at tile p).reading
