-- The steps by which the code comes to its answers.
-- Assumes nothing.
use Rattle.std.specs.Prelude.{Ok, Err, if◌then◌else◌}
use mathlib.Core.Path.{◌≡◌, refl, sym, ap, ◌∙◌, subst}
use mathlib.Core.Bool.{Bool, true, false, not}
use mathlib.Core.List.{List}
use Prim.Native.Nat.{ℕ, suc, ◌+◌, ◌*◌, ◌-◌, ◌^◌, ◌≤◌, ◌<◌}
use native.Mathlib.Nat.{lt_of_lt_of_le}
use native.Mathlib.Omega.{arith}
use borrow.Author.Tests.{ne_eqb, eqb-true, not-true, lt-ltb, le-ltb}
use lib.Dec.{lit≤}
use lib.ListN.{length, get_or, drop, length-drop, drop_of_length-le}
use lib.Pow.{pow_mono}
use lib.Seq.{drop-cons}
use lib.IntN.{ℤ, pos, negsuc}
use lib.Signed.{mag}
use mir.Syntax.{w64}
use mir.Val.{SFits, to_z, of_z}
use mir.ValLaws.{to_z-of_z}
use Rattle.words.specs.Words.{◌=?◌, Told, refused, gives, Done, done}
use Rattle.words.proofs.Words.{by_test, both_true, gives_same, refused_gives}
use Rattle.frame.specs.Bytes.{number_of}
use Rattle.frame.specs.Identifier.{catalogue_form}
use Rattle.frame.specs.Frame.{checked_of}
use Rattle.frame.specs.Promises.{refusal_of, told_verdict, bytes_if, Check}
use Rattle.frame.specs.declared.Parts.{Parts}
use Rattle.frame.specs.declared.Checked.{Checked}
use Rattle.frame.specs.declared.BadFrame.{BadFrame}
use Rattle.catalogue.specs.Instances.{has_instance}
use Rattle.catalogue.specs.Scale.{steps_in_one, value_of}
use Rattle.catalogue.specs.Table.{row_of}
use Rattle.catalogue.specs.Packed.{packed_rows, table_row}
use Rattle.catalogue.specs.Catalogue.{field_in}
use Rattle.catalogue.specs.Promises.{Looked, ScaledReading, told_looked, told_scaled, RowIn, ReadRowScaled}
use Rattle.catalogue.specs.Laws.{is_scaled}
use Rattle.catalogue.proofs.Laws.{row_in_packed, scaled_in_frame, value_small}
use Rattle.catalogue.specs.declared.Row.{Row}
use Rattle.catalogue.specs.declared.Value.{Value}
use Rattle.catalogue.specs.declared.NotFound.{NotFound}
use Rattle.tiles.proofs.OneFrame.{mask_below}
use Rattle.tiles.specs.Tile.{is_accepted, is_of, is_blank, is_zero, is_named, tile_keeps_rules, of_dgn, matches, byte0}
use Rattle.tiles.specs.Tile.{reading_in, heard_by, blank_tile, fresh_tile}
use Rattle.tiles.specs.Panel.{keeps_rules, tile_at, replacing, named_of, after_name, sound_of, bit_of, mask_of, heard_of}
use Rattle.tiles.specs.Panel.{heard_by_all, after_hear, reading_of}
use Rattle.tiles.specs.declared.NotShown.{NotShown}
use Rattle.tiles.specs.Promises.{Naming, Hearing, told_naming, Name, told_hearing, Hear, ReadTile}
use Rattle.tiles.specs.Private.{IsSmall, IsSound, ReadsOf, named_beside, heard_beside, heard_as}
use Rattle.tiles.specs.declared.Reading.{Reading}
use Rattle.tiles.specs.declared.Tile.{Tile}
use Rattle.tiles.specs.declared.Panel.{Panel}
use Rattle.tiles.specs.declared.Named.{Named}
use Rattle.tiles.specs.declared.Heard.{Heard}

-- ---- A row that is looked up in the table of packed rows.

pub looked_row : (table : List ℕ) (n : ℕ) (r : Looked) → table ≡ packed_rows → RowIn table n r → told_looked r ≡ row_of n
looked_row table n r e p = p.answer ∙ ap (λ (t : List ℕ). table_row t n) e ∙ row_in_packed n

-- ---- Rules.

-- whether a row is accepted: how many steps make one, and whether its DGN has an instance

pub no_steps : (row : Row) (k : ℕ) → k ≡ steps_in_one row.unit row.width → k ≡ 0 → false ≡ is_accepted row
unfolding is_accepted
no_steps row k e z = sym (rw (sym e ∙ z))

pub some_steps : (row : Row) (k : ℕ) (b : Bool) → k ≡ steps_in_one row.unit row.width → (k ≡ 0 → ⊥)
    → b ≡ has_instance row.dgn
    → b ≡ is_accepted row
unfolding is_accepted
some_steps row k b e n h = h ∙ sym (rw (ne_eqb (steps_in_one row.unit row.width) 0 (λ z. n (e ∙ z))))

-- a row that was found, with a reading

pub named_nothing : (looked : Looked) (reading : Reading) (why : NotFound) → looked ≡ Err why
    → false ≡ is_named (told_looked looked) reading
unfolding is_named
named_nothing looked reading why e = sym (rw e)

pub named_not : (told : Told Row) (row : Row) (reading : Reading) → told ≡ gives row → is_accepted row ≡ false
    → false ≡ is_named told reading
unfolding is_named
named_not told row reading e a = sym (rw (e, a))

pub named_as : (told : Told Row) (row : Row) (reading : Reading) (b : Bool) → told ≡ gives row → is_accepted row ≡ true
    → b ≡ is_of row.unit reading
    → b ≡ is_named told reading
unfolding is_named
named_as told row reading b e a o = o ∙ sym (rw (e, a))

-- a tile, blank or not

pub keeps_blank : (t : Tile) (b : Bool) → is_blank t ≡ true → b ≡ is_zero t → b ≡ tile_keeps_rules t
unfolding tile_keeps_rules
keeps_blank t b e z = z ∙ sym (rw e)

pub keeps_named : (t : Tile) (told : Told Row) (b : Bool) → is_blank t ≡ false → told ≡ row_of t.row
    → b ≡ is_named told t.reading
    → b ≡ tile_keeps_rules t
unfolding tile_keeps_rules
keeps_named t told b e l n = n ∙ ap (λ (x : Told Row). is_named x t.reading) l ∙ sym (rw e)

-- ---- Frames.

pub matches_blank : (dgn instance : ℕ) (t : Tile) → is_blank t ≡ true → false ≡ matches dgn instance t
unfolding matches
matches_blank dgn instance t e = sym (rw e)

pub matches_other : (dgn instance : ℕ) (t : Tile) → (t.instance =? instance) ≡ false → false ≡ matches dgn instance t
unfolding matches
matches_other dgn instance t n = by_test (is_blank t) (λ e. sym (rw e)) (λ e. sym (rw (e, n)))

pub matches_by : (dgn instance : ℕ) (t : Tile) (told : Told Row) (b : Bool) → is_blank t ≡ false
    → (t.instance =? instance) ≡ true → told ≡ row_of t.row → b ≡ of_dgn told dgn
    → b ≡ matches dgn instance t
unfolding matches
matches_by dgn instance t told b e i l o = o ∙ ap (λ (x : Told Row). of_dgn x dgn) l ∙ sym (rw (e, i))

-- ---- What is read.

-- a small value fits a word, and comes back from its bits

pub small_fits : (v : ℤ) → mag v < 2 ^ 16 → SFits w64 v
small_fits (pos n) h = record { sfits = omega arith }
small_fits (negsuc n) h = record { sfits = omega arith }

pub small_word : (v : ℤ) → mag v < 2 ^ 16 → mag (to_z w64 (of_z w64 v)) < 2 ^ 16
small_word v h = subst (λ (z : ℤ). mag z < 2 ^ 16) (sym (to_z-of_z w64 v (small_fits v h))) h

pub small_scaled : (value : Value) (v : ℤ) → value ≡ Value.Scaled v → IsSmall value → mag v < 2 ^ 16
small_scaled value v e h = subst IsSmall e h

pub small_value : (row : Row) (number : ℕ) (value : Value) → is_scaled row ≡ true
    → value ≡ value_of row (field_in row number)
    → IsSmall value
small_value row number (Value.Scaled v) t e = value_small row number v t (sym e)
small_value row number Value.NoData t e = tt
small_value row number Value.OutOfRange t e = tt
small_value row number Value.Reserved t e = tt

module _ (row : Row) (id : ℕ) (bytes : List ℕ) (r : ScaledReading) (s : ReadsOf row id bytes)
    (p : ReadRowScaled row id bytes r) where
  read_gives : told_scaled r ≡ gives (value_of row (field_in row (number_of bytes)))
  read_gives = p.answer ∙ s.read

  pub read_value : (value : Value) → r ≡ Ok value → value ≡ value_of row (field_in row (number_of bytes))
  read_value value e = gives_same (sym (ap told_scaled e) ∙ read_gives)

  pub read_small : (value : Value) → r ≡ Ok value → IsSmall value
  read_small value e = small_value row (number_of bytes) value s.scaled (read_value value e)

  -- a frame of the row's DGN is not refused
  pub read_some : {B : Type 0} (k : ℕ) → told_scaled r ≡ refused k → B
  read_some k e = refused_gives (sym e ∙ read_gives)

-- ---- A tile after a frame.

module _ (dgn instance id : ℕ) (bytes : List ℕ) (t : Tile) (s : IsSound id bytes dgn instance) where
  same_test : matches dgn instance t ≡ matches dgn (byte0 bytes) t
  same_test = ap (λ (i : ℕ). matches dgn i t) s.of_instance

  pub heard_not : matches dgn instance t ≡ false → t ≡ heard_by dgn bytes t
  unfolding heard_by
  heard_not m = sym (rw (sym same_test ∙ m))

  pub heard_none : (k : ℕ) → matches dgn instance t ≡ true → row_of t.row ≡ refused k → t ≡ heard_by dgn bytes t
  unfolding heard_by
  heard_none k m e = sym (rw (sym same_test ∙ m, e))

  pub heard_as_lem : (row : Row) (reading : Reading) → matches dgn instance t ≡ true → row_of t.row ≡ gives row
      → reading ≡ reading_in row bytes
      → record { row = t.row; instance = t.instance; reading = reading } ≡ heard_by dgn bytes t
  unfolding heard_by
  heard_as_lem row reading m e f = rw f (sym (rw (sym same_test ∙ m, e)))

  -- the row of a tile that the frame is for has a scale, and is read
  pub row_is_read : (row : Row) → tile_keeps_rules t ≡ true → matches dgn instance t ≡ true → row_of t.row ≡ gives row
      → ReadsOf row id bytes
  unfolding tile_keeps_rules matches is_named is_accepted of_dgn
  row_is_read row k m e =
      let b = both_true (not (is_blank t)) _ m in
      let o = both_true (t.instance =? instance) _ b.1 in
      let d = eqb-true row.dgn dgn (subst (λ (x : Told Row). of_dgn x dgn ≡ true) e o.1) in
      let n = subst (λ (x : Bool). (if x then is_zero t else is_named (row_of t.row) t.reading) ≡ true)
      (not-true (is_blank t) b.0) k in
      let a = both_true (is_accepted row) _ (subst (λ (x : Told Row). is_named x t.reading ≡ true) e n) in
      record {
        scaled = (both_true (is_scaled row) _ a.0).0;
        read = scaled_in_frame t.row id bytes row s.parts e s.sound (d ∙ s.of_dgn);
      }

-- ---- Which tiles a frame is for, from the last tile down.

-- the mask of the tiles from i on has room for one tile more
pub mask_room : (test : Tile → Bool) (ts : List Tile) (i mask : ℕ) → length ts ≡ 32 → 0 < i → i ≤ 32
    → mask ≡ mask_of test (drop i ts)
    → mask < 2 ^ 31
mask_room test ts i mask n h g e =
    let l : length (drop i ts) ≤ 31 = rw (length-drop i ts, n) (omega arith) in
    subst (λ (m : ℕ). m < 2 ^ 31) (sym e)
    (lt_of_lt_of_le (mask_below test (drop i ts)) (pow_mono {i = length (drop i ts)} {j = 31} l))

pub mask_turn : (test : Tile → Bool) (ts : List Tile) (i mask next : ℕ) (b : Bool) → length ts ≡ 32 → 0 < i → i ≤ 32
    → mask ≡ mask_of test (drop i ts) → b ≡ test (get_or ts (i - 1) blank_tile) → next ≡ bit_of b + 2 * mask
    → next ≡ mask_of test (drop (i - 1) ts)
mask_turn test ts i mask next b n h g e f x =
    let k : suc (i - 1) ≡ i = omega arith in
    let c : i - 1 < length ts = rw n (omega arith) in
    x ∙ ap (λ (m : ℕ). bit_of b + 2 * m) (e ∙ ap (λ (j : ℕ). mask_of test (drop j ts)) (sym k))
    ∙ ap (λ (y : Bool). bit_of y + 2 * mask_of test (drop (suc (i - 1)) ts)) f
    ∙ sym (ap (λ (l : List Tile). mask_of test l) (drop-cons ts (i - 1) blank_tile c))

pub mask_start : (test : Tile → Bool) (ts : List Tile) → length ts ≡ 32 → 0 ≡ mask_of test (drop 32 ts)
mask_start test ts n =
    let h : length ts ≤ 32 = rw n (lit≤ tt) in
    sym (ap (λ (l : List Tile). mask_of test l) (drop_of_length-le ts h))

pub mask_end : (test : Tile → Bool) (ts : List Tile) (i mask : ℕ) → i ≤ 0 → mask ≡ mask_of test (drop i ts)
    → mask ≡ mask_of test ts
mask_end test ts i mask h e =
    let z : i ≡ 0 = omega arith in
    e ∙ ap (λ (j : ℕ). mask_of test (drop j ts)) z

-- ---- All tiles after a frame.

pub all_heard : (dgn form instance mask : ℕ) (bytes : List ℕ) (p q : Panel) → form ≡ dgn → instance ≡ byte0 bytes
    → q ≡ heard_by_all form bytes p → mask ≡ mask_of (matches form instance) p.tiles
    → record { panel = q; answer = Ok mask } ≡ heard_as dgn bytes p
all_heard dgn form instance mask bytes p q f i e m = rw (e, m, i, f)

-- ---- A tile named.

module _ (tile row instance : ℕ) (p : Panel) where
  pub name_refused : (answer : Naming) (n : ℕ) (r : Named) → told_naming answer ≡ refused n
      → named_of tile row p ≡ refused n → r ≡ named_beside p answer
      → Name tile row instance p r
  name_refused answer n r t e s =
      rw s
      (record {
        answer = t ∙ sym e;
        panel = sym (ap (λ (x : Told Done). after_name x tile row instance p) e);
      })

  pub name_done : (r : Named) → named_of tile row p ≡ gives done
      → r ≡ record { panel = replacing p tile (fresh_tile row instance); answer = Ok tt }
      → Name tile row instance p r
  name_done r e s =
      rw s
      (record {
        answer = sym e;
        panel = sym (ap (λ (x : Told Done). after_name x tile row instance p) e);
      })

  pub broken : keeps_rules p ≡ false → named_of tile row p ≡ refused 2
  unfolding named_of
  broken k = rw k

  pub no_row : (n : ℕ) → keeps_rules p ≡ true → row_of row ≡ refused n → named_of tile row p ≡ refused n
  unfolding named_of
  no_row n k e = rw (k, e)

  pub no_tile : (found : Row) → keeps_rules p ≡ true → row_of row ≡ gives found → 32 ≤ tile
      → named_of tile row p ≡ refused 23
  unfolding named_of
  no_tile found k e h = rw (k, e, le-ltb tile 32 h)

  pub not_accepted : (found : Row) → keeps_rules p ≡ true → row_of row ≡ gives found → tile < 32
      → is_accepted found ≡ false
      → named_of tile row p ≡ refused 24
  unfolding named_of
  not_accepted found k e h a = rw (k, e, lt-ltb tile 32 h, a)

  pub is_named_lem : (found : Row) → keeps_rules p ≡ true → row_of row ≡ gives found → tile < 32 → is_accepted found ≡ true
      → named_of tile row p ≡ gives done
  unfolding named_of
  is_named_lem found k e h a = rw (k, e, lt-ltb tile 32 h, a)

-- ---- A frame heard.

module _ (id : ℕ) (bytes : List ℕ) (p : Panel) where
  pub hear_refused : (answer : Hearing) (n : ℕ) (r : Heard) → told_hearing answer ≡ refused n
      → sound_of id bytes p ≡ refused n → r ≡ heard_beside p answer
      → Hear id bytes p r
  unfolding heard_of after_hear
  hear_refused answer n r t e s = rw s (record { answer = t ∙ sym (rw e); panel = sym (rw e) })

  pub hear_done : (parts : Parts) (r : Heard) → sound_of id bytes p ≡ gives parts
      → r ≡ heard_as (catalogue_form parts.dgn) bytes p
      → Hear id bytes p r
  unfolding heard_of after_hear
  hear_done parts r e s = rw s (record { answer = sym (rw e); panel = sym (rw e) })

  pub unsound : keeps_rules p ≡ false → sound_of id bytes p ≡ refused 2
  unfolding sound_of
  unsound k = rw k

  pub sound_as : (t : Told Parts) → keeps_rules p ≡ true → checked_of id (length bytes) ≡ t → sound_of id bytes p ≡ t
  unfolding sound_of
  sound_as t k e = rw k e

  module _ (r : Checked) (c : Check id bytes r) where
    pub frame_sound : (parts : Parts) → r.verdict ≡ Ok parts → checked_of id (length bytes) ≡ gives parts
    frame_sound parts e = sym c.answer ∙ ap told_verdict e

    pub frame_bad : (why : BadFrame) → r.verdict ≡ Err why → checked_of id (length bytes) ≡ refused (refusal_of why)
    frame_bad why e = sym c.answer ∙ ap told_verdict e

    pub sound_frame : (parts : Parts) → r.verdict ≡ Ok parts
        → IsSound id bytes (catalogue_form parts.dgn) (get_or r.bytes 0 0)
    sound_frame parts e =
        record {
          parts = parts;
          sound = frame_sound parts e;
          of_dgn = refl;
          of_instance =
              ap byte0 (c.data_bytes ∙ ap (λ (t : Told Parts). bytes_if t bytes) (frame_sound parts e));
        }

-- ---- What a tile shows.

module _ (tile : ℕ) (p : Panel) where
  pub read_broken : keeps_rules p ≡ false → ReadTile tile p (Err NotShown.BrokenState)
  unfolding reading_of
  read_broken k = record { answer = sym (rw k) }

  pub read_no_tile : keeps_rules p ≡ true → 32 ≤ tile → ReadTile tile p (Err NotShown.NoSuchTile)
  unfolding reading_of
  read_no_tile k h = record { answer = sym (rw (k, le-ltb tile 32 h)) }

  pub read_shown : keeps_rules p ≡ true → tile < 32 → ReadTile tile p (Ok (tile_at tile p).reading)
  unfolding reading_of
  read_shown k h = record { answer = sym (rw (k, lt-ltb tile 32 h)) }
