-- What a tile shows, which frames are for it, and what they make of it and of all 32.
-- Assumes nothing.
use mathlib.Core.Path.{◌≡◌, refl, sym, ap, ◌∙◌, subst}
use mathlib.Core.Bool.{Bool, true, false, not}
use mathlib.Core.List.{List, [], ◌∷◌, map}
use Prim.Native.Nat.{ℕ, zero, suc, ◌+◌, ◌*◌, ◌-◌, ◌/◌, ◌%◌, ◌^◌, ◌≤◌, ◌<◌}
use native.Mathlib.Nat.{le_of_suc-le-suc, not-suc-le-zero, pow-suc}
use native.Mathlib.Omega.{arith}
use borrow.Author.Tests.{eq-eqb, ne_eqb, eqb-true, not-true}
use lib.IntN.{ℤ}
use lib.ListN.{length, get_or, get_or-map}
use lib.Pow.{shr-shr}
use Rattle.words.specs.Words.{given◌then◌, ◌=?◌, ◌and◌, bits, Told, refused, gives}
use Rattle.words.proofs.Words.{by_test, both_true, true_false, refused_gives, gives_same, past_refusal, not_flips}
use Rattle.frame.specs.Bytes.{number_of}
use Rattle.frame.specs.Identifier.{catalogue_form}
use Rattle.frame.specs.Frame.{checked_of}
use Rattle.frame.specs.declared.Parts.{Parts}
use Rattle.catalogue.specs.Table.{row_of}
use Rattle.catalogue.specs.Scale.{value_of}
use Rattle.catalogue.specs.Catalogue.{field_in}
use Rattle.catalogue.specs.declared.Row.{Row}
use Rattle.catalogue.specs.declared.Unit.{Unit as Units}
use Rattle.catalogue.specs.declared.Unit.TheVariants as Unit
use Rattle.catalogue.specs.declared.Value.{Value}
use Rattle.tiles.specs.Tile.{is_accepted, shown_number, shown, reading_in, is_of, shows_nothing, is_blank, is_zero}
use Rattle.tiles.specs.Tile.{is_named, tile_keeps_rules, blank_tile, fresh_tile, of_dgn, matches, byte0, heard_by}
use Rattle.tiles.specs.Panel.{keeps_rules, tile_at, sound_of, bit_of, mask_of, tiles_for, heard_of, heard_by_all}
use Rattle.tiles.specs.Panel.{after_hear}
use Rattle.tiles.specs.Laws.{IsFor, HeardAt}
use Rattle.tiles.specs.declared.Reading.{Reading}
use Rattle.tiles.specs.declared.Reading.TheVariants.{Blank, NoData, OutOfRange, Reserved, Degrees, Percent}
use Rattle.tiles.specs.declared.Reading.TheVariants.{Hertz, Volts, Amperes}
use Rattle.tiles.specs.declared.Tile.{Tile}
use Rattle.tiles.specs.declared.Panel.{Panel}

-- ---- What is shown of a value.

-- a reading is of its row's unit, and so the tile is not blank

number_of_unit : (unit : Units) (v : ℤ) → is_of unit (shown_number unit v) ≡ true
unfolding shown_number is_of
number_of_unit Unit.Celsius v = refl
number_of_unit Unit.Percent v = refl
number_of_unit Unit.Hertz v = refl
number_of_unit Unit.Volt v = refl
number_of_unit Unit.Ampere v = refl
number_of_unit Unit.Other v = refl

pub shown_of_unit : (unit : Units) (value : Value) → is_of unit (shown unit value) ≡ true
unfolding shown is_of
shown_of_unit unit (Value.Scaled v) = number_of_unit unit v
shown_of_unit unit Value.NoData = refl
shown_of_unit unit Value.OutOfRange = refl
shown_of_unit unit Value.Reserved = refl

pub reading_of_unit : (row : Row) (bytes : List ℕ) → is_of row.unit (reading_in row bytes) ≡ true
unfolding reading_in
reading_of_unit row bytes = shown_of_unit row.unit (value_of row (field_in row (number_of bytes)))

something : (unit : Units) (reading : Reading) → is_of unit reading ≡ true → shows_nothing reading ≡ false
unfolding is_of
something unit Blank e = sym e
something unit NoData e = refl
something unit OutOfRange e = refl
something unit Reserved e = refl
something unit (Degrees x) e = refl
something unit (Percent x) e = refl
something unit (Hertz x) e = refl
something unit (Volts v) e = refl
something unit (Amperes v) e = refl

pub reading_shows : (row : Row) (bytes : List ℕ) → shows_nothing (reading_in row bytes) ≡ false
reading_shows row bytes = something row.unit (reading_in row bytes) (reading_of_unit row bytes)

-- ---- Which frames are for a tile.

of_dgn_lem : (told : Told Row) (dgn : ℕ) → of_dgn told dgn ≡ true → (row : Row) × (told ≡ gives row) × (row.dgn ≡ dgn)
unfolding of_dgn
of_dgn_lem (refused n) dgn e = true_false (sym e)
of_dgn_lem (gives row) dgn e = (row, refl, eqb-true row.dgn dgn e)

pub meant_for : (dgn instance : ℕ) (t : Tile) → matches dgn instance t ≡ true → IsFor dgn instance t
unfolding matches
meant_for dgn instance t e =
    let a = both_true (not (is_blank t)) _ e in
    let b = both_true (t.instance =? instance) _ a.1 in
    let o = of_dgn_lem (row_of t.row) dgn b.1 in
    record {
      not_blank = not-true (is_blank t) a.0;
      same_instance = eqb-true t.instance instance b.0;
      row = o.0;
      of_tile = o.1;
      same_dgn = o.2;
    }

pub for_tile : (dgn instance : ℕ) (t : Tile) → IsFor dgn instance t → matches dgn instance t ≡ true
unfolding matches of_dgn
for_tile dgn instance t f =
    let i = eq-eqb t.instance instance f.same_instance in
    rw (f.not_blank, i, f.of_tile, eq-eqb f.row.dgn dgn f.same_dgn)

pub and_false : (a : Bool) → (a and false) ≡ false
and_false true = refl
and_false false = refl

pub other_instance : (dgn instance : ℕ) (t : Tile) → (t.instance ≡ instance → ⊥) → matches dgn instance t ≡ false
unfolding matches
other_instance dgn instance t n = rw (ne_eqb t.instance instance n) (and_false (not (is_blank t)))

pub blank_matches : (dgn instance : ℕ) → matches dgn instance blank_tile ≡ false
unfolding matches
blank_matches dgn instance = refl

-- ---- What a frame makes of a tile.

pub heard_other : (dgn : ℕ) (bytes : List ℕ) (t : Tile) → matches dgn (byte0 bytes) t ≡ false → heard_by dgn bytes t ≡ t
unfolding heard_by
heard_other dgn bytes t e = rw e

pub heard_matching : (dgn : ℕ) (bytes : List ℕ) (t : Tile) (row : Row) → matches dgn (byte0 bytes) t ≡ true
    → row_of t.row ≡ gives row
    → heard_by dgn bytes t ≡ record { row = t.row; instance = t.instance; reading = reading_in row bytes }
unfolding heard_by
heard_matching dgn bytes t row e f = rw (e, f)

pub heard_blank : (dgn : ℕ) (bytes : List ℕ) → heard_by dgn bytes blank_tile ≡ blank_tile
heard_blank dgn bytes = heard_other dgn bytes blank_tile (blank_matches dgn (byte0 bytes))

-- it keeps the rules of the tile

pub fresh_keeps : (row instance : ℕ) (found : Row) → row_of row ≡ gives found → is_accepted found ≡ true
    → tile_keeps_rules (fresh_tile row instance) ≡ true
unfolding tile_keeps_rules is_named is_of
fresh_keeps row instance found e a = rw (e, a)

pub blank_keeps : tile_keeps_rules blank_tile ≡ true
unfolding tile_keeps_rules is_zero
blank_keeps = refl

-- the row of a tile that is not blank is accepted
pub row_accepted : (t : Tile) (row : Row) → is_blank t ≡ false → row_of t.row ≡ gives row → tile_keeps_rules t ≡ true
    → is_accepted row ≡ true
unfolding tile_keeps_rules is_named
row_accepted t row b e k = let x = rw (b, e) at k in (both_true (is_accepted row) _ x).0

heard_as_lem : (t : Tile) (row : Row) (bytes : List ℕ) → row_of t.row ≡ gives row → is_accepted row ≡ true
    → tile_keeps_rules (record { row = t.row; instance = t.instance; reading = reading_in row bytes }) ≡ true
unfolding tile_keeps_rules is_named
heard_as_lem t row bytes e a = rw (reading_shows row bytes, e, a, reading_of_unit row bytes)

pub heard_keeps : (dgn : ℕ) (bytes : List ℕ) (t : Tile) → tile_keeps_rules t ≡ true
    → tile_keeps_rules (heard_by dgn bytes t) ≡ true
heard_keeps dgn bytes t k =
    by_test (matches dgn (byte0 bytes) t)
    (λ e. let f = meant_for dgn (byte0 bytes) t e in
    ap tile_keeps_rules (heard_matching dgn bytes t f.row e f.of_tile)
    ∙ heard_as_lem t f.row bytes f.of_tile (row_accepted t f.row f.not_blank f.of_tile k))
    (λ e. ap tile_keeps_rules (heard_other dgn bytes t e) ∙ k)

-- ---- The mask: below 2 to the number of tiles, and bit k is tile k's.

bit_small : (b : Bool) → bit_of b ≤ 1
bit_small true = omega arith
bit_small false = omega arith

pub mask_below : (test : Tile → Bool) (ts : List Tile) → mask_of test ts < 2 ^ length ts
mask_below test [] = omega arith
mask_below test (t ∷ ts) =
    let h : mask_of test (t ∷ ts) < 2 ^ length ts * 2 = omega (arith, mask_below test ts, bit_small (test t)) in
    subst (λ (m : ℕ). mask_of test (t ∷ ts) < m) (sym (pow-suc 2 (length ts))) h

shifted : (k n : ℕ) → bits k k n ≡ n / 2 ^ k % 2
shifted k n = let e : k + 1 - k ≡ 1 = omega arith in ap (λ (m : ℕ). n / 2 ^ k % 2 ^ m) e

half : (b n : ℕ) → b ≤ 1 → (b + 2 * n) / 2 ≡ n
half b n h = omega arith

mask_shifted : (test : Tile → Bool) (ts : List Tile) (k : ℕ) (d : Tile) → k < length ts
    → mask_of test ts / 2 ^ k % 2 ≡ bit_of (test (get_or ts k d))
mask_shifted test [] k d h = absurd (not-suc-le-zero h)
mask_shifted test (t ∷ ts) zero d h = omega (arith, bit_small (test t))
mask_shifted test (t ∷ ts) (suc k) d h =
    let n = bit_of (test t) + 2 * mask_of test ts in
    let o : suc k ≡ 1 + k = omega arith in
    let e : n / 2 ^ suc k ≡ mask_of test ts / 2 ^ k =
    ap (λ (m : ℕ). n / 2 ^ m) o ∙ sym (shr-shr n 1 k)
    ∙ ap (λ (m : ℕ). m / 2 ^ k) (half (bit_of (test t)) (mask_of test ts) (bit_small (test t))) in
    ap (λ (m : ℕ). m % 2) e ∙ mask_shifted test ts k d (le_of_suc-le-suc h)

pub mask_bit : (test : Tile → Bool) (ts : List Tile) (k : ℕ) (d : Tile) → k < length ts
    → bits k k (mask_of test ts) ≡ bit_of (test (get_or ts k d))
mask_bit test ts k d h = shifted k (mask_of test ts) ∙ mask_shifted test ts k d h

-- ---- A frame that is heard.

-- a mask is answered to a frame that is sound
pub mask_given : (id : ℕ) (bytes : List ℕ) (p : Panel) (mask : ℕ) → heard_of id bytes p ≡ gives mask
    → (parts : Parts) × (sound_of id bytes p ≡ gives parts) × (mask ≡ tiles_for parts bytes p)
unfolding heard_of
mask_given id bytes p mask e = go (sound_of id bytes p) refl e
  where
    go : (t : Told Parts) → sound_of id bytes p ≡ t → (given t then λ parts. gives (tiles_for parts bytes p)) ≡ gives mask
        → (parts : Parts) × (sound_of id bytes p ≡ gives parts) × (mask ≡ tiles_for parts bytes p)
    go (refused n) s e = refused_gives e
    go (gives parts) s e = (parts, s, sym (gives_same e))

-- sound are the frames that keep their own rules, heard by a panel that keeps its own
pub sound_given : (id : ℕ) (bytes : List ℕ) (p : Panel) (parts : Parts) → sound_of id bytes p ≡ gives parts
    → (keeps_rules p ≡ true) × (checked_of id (length bytes) ≡ gives parts)
unfolding sound_of
sound_given id bytes p parts e =
    let r = past_refusal (not (keeps_rules p)) 2 (checked_of id (length bytes)) e in
    (not_flips (keeps_rules p) r.0, r.1)

pub after_sound_lem : (id : ℕ) (bytes : List ℕ) (p : Panel) (parts : Parts) → sound_of id bytes p ≡ gives parts
    → after_hear id bytes p ≡ heard_by_all (catalogue_form parts.dgn) bytes p
unfolding after_hear
after_sound_lem id bytes p parts e = rw e

pub after_refused : (id : ℕ) (bytes : List ℕ) (p : Panel) (n : ℕ) → sound_of id bytes p ≡ refused n
    → after_hear id bytes p ≡ p
unfolding after_hear
after_refused id bytes p n e = rw e

-- every tile of the panel after it
pub tile_heard : (dgn : ℕ) (bytes : List ℕ) (p : Panel) (k : ℕ)
    → tile_at k (heard_by_all dgn bytes p) ≡ heard_by dgn bytes (tile_at k p)
tile_heard dgn bytes p k =
    ap (λ (d : Tile). get_or (map (heard_by dgn bytes) p.tiles) k d) (sym (heard_blank dgn bytes))
    ∙ get_or-map (heard_by dgn bytes) p.tiles k blank_tile

heard_here : (dgn : ℕ) (bytes : List ℕ) (mask : ℕ) (old new : Tile) (k : ℕ)
    → bits k k mask ≡ bit_of (matches dgn (byte0 bytes) old) → new ≡ heard_by dgn bytes old
    → HeardAt dgn bytes mask old new k
heard_here dgn bytes mask old new k b n =
    record {
      for_it = λ row e f. (b ∙ ap bit_of e, n ∙ heard_matching dgn bytes old row e f);
      not_for_it = λ e. (b ∙ ap bit_of e, n ∙ heard_other dgn bytes old e);
    }

pub heard_at : (parts : Parts) (bytes : List ℕ) (p : Panel) (k : ℕ) → k < length p.tiles
    → HeardAt (catalogue_form parts.dgn) bytes (tiles_for parts bytes p) (tile_at k p)
    (tile_at k (heard_by_all (catalogue_form parts.dgn) bytes p)) k
heard_at parts bytes p k h =
    let dgn = catalogue_form parts.dgn in
    heard_here dgn bytes (tiles_for parts bytes p) (tile_at k p) (tile_at k (heard_by_all dgn bytes p)) k
    (mask_bit (matches dgn (byte0 bytes)) p.tiles k blank_tile h) (tile_heard dgn bytes p k)
