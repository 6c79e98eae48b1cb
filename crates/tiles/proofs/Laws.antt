-- The statements of specs/Laws.antt, proved.
-- Assumes nothing.
use Rattle.std.specs.Prelude.{Ok, Err, if◌then◌else◌}
use mathlib.Core.Path.{◌≡◌, refl, sym, ap, ◌∙◌, subst}
use mathlib.Core.Bool.{true, not}
use mathlib.Core.List.{List}
use Prim.Native.Nat.{ℕ, ◌^◌, ◌≤◌, ◌<◌}
use native.Mathlib.Omega.{arith}
use borrow.Author.Tests.{ltb-true, lt-ltb}
use lib.ListN.{length}
use lib.Signed.{mag}
use lib.Seq.{get_or-set_same, get_or-set_other}
use Rattle.words.specs.Words.{given◌then◌, ◌=?◌, Told, refused, gives, Done, done}
use Rattle.words.proofs.Words.{by_test, both_true, true_false, gives_same, told_same}
use Rattle.frame.specs.Bytes.{number_of}
use Rattle.frame.specs.Identifier.{catalogue_form}
use Rattle.frame.specs.Frame.{checked_of}
use Rattle.frame.specs.Laws.{told_but_priority}
use Rattle.frame.specs.declared.Parts.{Parts}
use Rattle.frame.specs.declared.BadFrame.TheVariants.{IdentifierTooLarge, NotEightBytes, ReservedBitSet}
use Rattle.frame.specs.declared.BadFrame.TheVariants.{SourceNotAllowed}
use Rattle.frame.proofs.Laws as frame_laws
use Rattle.catalogue.specs.Instances.{has_instance}
use Rattle.catalogue.specs.Scale.{scaled_of, steps_in_one, value_of}
use Rattle.catalogue.specs.Catalogue.{field_in}
use Rattle.catalogue.specs.Laws.{is_scaled}
use Rattle.catalogue.specs.declared.Row.{Row}
use Rattle.catalogue.specs.declared.Unit.{Unit as Units}
use Rattle.catalogue.specs.declared.Unit.TheVariants as Unit
use Rattle.catalogue.specs.declared.Field.{Field}
use Rattle.catalogue.specs.declared.Class.TheVariants as Class
use Rattle.catalogue.specs.declared.Value.{Value}
use Rattle.catalogue.proofs.Laws as catalogue_laws
use Rattle.tiles.specs.Exact.{nearest, IsExactly}
use Rattle.tiles.specs.Tile.{is_accepted, shown_number, shown, reading_in, blank_tile, fresh_tile, byte0, matches}
use Rattle.tiles.specs.Panel.{tile_count, keeps_rules, tile_at, named_of, after_name, sound_of, mask_of, tiles_for}
use Rattle.tiles.specs.Panel.{heard_of, heard_by_all, after_sound, after_hear, reading_of}
use Rattle.tiles.specs.Promises.{Naming, told_naming, told_asking}
use Rattle.tiles.specs.Promises.{number_of_not_heard, number_of_not_shown}
use Rattle.tiles.specs.declared.NotNamed.{NotNamed}
use Rattle.tiles.specs.declared.NotHeard.{NotHeard}
use Rattle.tiles.specs.declared.NotShown.{NotShown}
use Rattle.tiles.specs.Runs as Runs
use Rattle.tiles.specs.Laws as Laws
use Rattle.tiles.specs.declared.Tile.{Tile}
use Rattle.tiles.specs.declared.Panel.{Panel}
use Rattle.tiles.proofs.Exact.{nearest_exact}
use Rattle.tiles.proofs.OneFrame.{meant_for, for_tile, other_instance, mask_below, mask_given}
use Rattle.tiles.proofs.OneFrame.{sound_given, after_sound_lem, heard_at}
use Rattle.tiles.proofs.Running.{named_so, ran_sound, ran_tile, tile_shows, shows_tile, every_run}
use Rattle.tiles.specs.Laws.{NamingRefusalTold, HearingRefusalTold, AskingRefusalTold}

-- an answer is read back from what it tells

naming_back : Told Done → Naming
naming_back (gives d) = Ok tt
naming_back (refused n) =
    Err (
    if n =? 2 then NotNamed.BrokenState else
    if n =? 11 then NotNamed.NoSuchRow else
    if n =? 23 then NotNamed.NoSuchTile else
    NotNamed.RowNotAccepted
    )

naming_back_lem : (r : Naming) → naming_back (told_naming r) ≡ r
unfolding naming_back
naming_back_lem (Ok nothing) = refl
naming_back_lem (Err NotNamed.BrokenState) = refl
naming_back_lem (Err NotNamed.NoSuchRow) = refl
naming_back_lem (Err NotNamed.NoSuchTile) = refl
naming_back_lem (Err NotNamed.RowNotAccepted) = refl

pub told_naming_same : Laws.ToldNamingSame
told_naming_same r s e = sym (naming_back_lem r) ∙ ap naming_back e ∙ naming_back_lem s

not_heard_back : ℕ → NotHeard
not_heard_back n = if n =? 2 then NotHeard.BrokenState else NotHeard.BadFrame (frame_laws.bad_back n)

not_heard_back_lem : (w : NotHeard) → not_heard_back (number_of_not_heard w) ≡ w
unfolding not_heard_back
not_heard_back_lem NotHeard.BrokenState = refl
not_heard_back_lem (NotHeard.BadFrame IdentifierTooLarge) = ap NotHeard.BadFrame (frame_laws.bad_back_lem IdentifierTooLarge)
not_heard_back_lem (NotHeard.BadFrame NotEightBytes) = ap NotHeard.BadFrame (frame_laws.bad_back_lem NotEightBytes)
not_heard_back_lem (NotHeard.BadFrame ReservedBitSet) = ap NotHeard.BadFrame (frame_laws.bad_back_lem ReservedBitSet)
not_heard_back_lem (NotHeard.BadFrame SourceNotAllowed) = ap NotHeard.BadFrame (frame_laws.bad_back_lem SourceNotAllowed)

not_heard_same : (v w : NotHeard) → number_of_not_heard v ≡ number_of_not_heard w → v ≡ w
not_heard_same v w e = sym (not_heard_back_lem v) ∙ ap not_heard_back e ∙ not_heard_back_lem w

pub told_hearing_same : Laws.ToldHearingSame
told_hearing_same = told_same number_of_not_heard not_heard_same

not_shown_back : ℕ → NotShown
not_shown_back n = if n =? 2 then NotShown.BrokenState else NotShown.NoSuchTile

not_shown_back_lem : (w : NotShown) → not_shown_back (number_of_not_shown w) ≡ w
unfolding not_shown_back
not_shown_back_lem NotShown.BrokenState = refl
not_shown_back_lem NotShown.NoSuchTile = refl

not_shown_same : (v w : NotShown) → number_of_not_shown v ≡ number_of_not_shown w → v ≡ w
not_shown_same v w e = sym (not_shown_back_lem v) ∙ ap not_shown_back e ∙ not_shown_back_lem w

pub told_asking_same : Laws.ToldAskingSame
told_asking_same = told_same number_of_not_shown not_shown_same

-- no second answer

pub new_only : Laws.NewOnly
new_only r s p q = p.panel ∙ sym q.panel

pub name_only : Laws.NameOnly
name_only tile row instance p r s m n =
    let a = told_naming_same r.answer s.answer (m.answer ∙ sym n.answer) in
    let t = m.panel ∙ sym n.panel in
    λ i. record { panel = t i; answer = a i }

pub hear_only : Laws.HearOnly
hear_only id bytes p r s m n =
    let a = told_hearing_same r.answer s.answer (m.answer ∙ sym n.answer) in
    let t = m.panel ∙ sym n.panel in
    λ i. record { panel = t i; answer = a i }

pub read_tile_only : Laws.ReadTileOnly
read_tile_only tile p r s m n = told_asking_same r s (m.answer ∙ sym n.answer)

pub not_named_refusal_only : Laws.NotNamedRefusalOnly
not_named_refusal_only why r s p q = p.number ∙ sym q.number

pub not_heard_refusal_only : Laws.NotHeardRefusalOnly
not_heard_refusal_only why r s p q = p.number ∙ sym q.number

pub not_shown_refusal_only : Laws.NotShownRefusalOnly
not_shown_refusal_only why r s p q = p.number ∙ sym q.number

pub naming_refusal_only : Laws.NamingRefusalOnly
naming_refusal_only answer r s p q = p.number ∙ sym q.number

pub naming_refusal_told : NamingRefusalTold
naming_refusal_told (Ok value) = record { number = refl }
naming_refusal_told (Err why) = record { number = refl }

pub hearing_refusal_only : Laws.HearingRefusalOnly
hearing_refusal_only answer r s p q = p.number ∙ sym q.number

pub hearing_refusal_told : HearingRefusalTold
hearing_refusal_told (Ok value) = record { number = refl }
hearing_refusal_told (Err why) = record { number = refl }

pub asking_refusal_only : Laws.AskingRefusalOnly
asking_refusal_only answer r s p q = p.number ∙ sym q.number

pub asking_refusal_told : AskingRefusalTold
asking_refusal_told (Ok value) = record { number = refl }
asking_refusal_told (Err why) = record { number = refl }

-- a refusal leaves the panel

pub name_refused_keeps : Laws.NameRefusedKeeps
name_refused_keeps tile row instance p r n m e =
    let t : named_of tile row p ≡ refused n = sym m.answer ∙ e in
    m.panel ∙ rw t

refused_sound : (t : Told Parts) (bytes : List ℕ) (p : Panel) (n : ℕ)
    → (given t then λ parts. gives (tiles_for parts bytes p)) ≡ refused n → after_sound t bytes p ≡ p
refused_sound (refused m) bytes p n e = refl
refused_sound (gives parts) bytes p n e = let z : ◌≡◌ {A = ℕ} 0 1 = cc in absurd (omega arith)

pub hear_refused_keeps : Laws.HearRefusedKeeps
unfolding heard_of after_hear
hear_refused_keeps id bytes p r n m e =
    m.panel ∙ refused_sound (sound_of id bytes p) bytes p n (sym m.answer ∙ e)

-- the lowest number wins

pub name_lowest : Laws.NameLowest
unfolding named_of
name_lowest tile row p =
    record {
      two = λ k. rw k;
      eleven = λ n k e. rw (k, e);
      twenty_three = λ found k e t. rw (k, e, t);
      twenty_four = λ found k e t a. rw (k, e, t, a);
      named = λ found k e t a. rw (k, e, t, a);
    }

pub hear_lowest : Laws.HearLowest
unfolding heard_of sound_of
hear_lowest id bytes p =
    record {
      two = λ k. rw k;
      three_to_six = λ n k e. rw (k, e);
      heard = λ parts k e. (tiles_for parts bytes p, rw (k, e));
    }

pub reading_lowest : Laws.ReadingLowest
unfolding reading_of
reading_lowest tile p = record { two = λ k. rw k; twenty_three = λ k t. rw (k, t); read = λ k t. rw (k, t) }

-- the rows that a tile may name

pub accepted_rows : Laws.AcceptedRows
unfolding is_accepted
accepted_rows = catalogue_laws.scaled_with_instance

-- which frames are for a tile

pub matches_exactly : Laws.MatchesExactly
matches_exactly dgn instance t = (meant_for dgn instance t, for_tile dgn instance t)

pub zero_is_not_all : Laws.ZeroIsNotAll
zero_is_not_all dgn t n = other_instance dgn 0 t n

-- a frame alters just the tiles that it is for

pub heard_exactly : Laws.HeardExactly
heard_exactly id bytes p r parts mask size m c e =
    let g = mask_given id bytes p mask (sym m.answer ∙ e) in
    let s = sound_given id bytes p g.0 g.1 in
    let o : g.0 ≡ parts = gives_same (sym s.1 ∙ c) in
    let q : sound_of id bytes p ≡ gives parts = g.1 ∙ ap gives o in
    let w : mask ≡ tiles_for parts bytes p = g.2 ∙ ap (λ (x : Parts). tiles_for x bytes p) o in
    let dgn = catalogue_form parts.dgn in
    let after : r.panel ≡ heard_by_all dgn bytes p = m.panel ∙ after_sound_lem id bytes p parts q in
    let below : tiles_for parts bytes p < 2 ^ length p.tiles = mask_below (matches dgn (byte0 bytes)) p.tiles in (
      subst (λ (n : ℕ). n < 2 ^ tile_count) (sym w) (subst (λ (n : ℕ). tiles_for parts bytes p < 2 ^ n) size below),
      λ k h.
          subst (λ (q : Panel). Laws.HeardAt dgn bytes mask (tile_at k p) (tile_at k q) k) (sym after)
          (subst (λ (n : ℕ). Laws.HeardAt dgn bytes n (tile_at k p) (tile_at k (heard_by_all dgn bytes p)) k) (sym w)
          (heard_at parts bytes p k (subst (λ (n : ℕ). k < n) (sym size) h))),
    )

-- naming alters one tile

pub named_exactly : Laws.NamedExactly
named_exactly tile row instance p r size m e =
    let n : named_of tile row p ≡ gives done = sym m.answer ∙ e in
    let t = fresh_tile row instance in
    let after = m.panel ∙ ap (λ (x : Told Done). after_name x tile row instance p) n in
    let o = named_so tile row p done n in
    let l : tile < length p.tiles = subst (λ (n : ℕ). tile < n) (sym size) (ltb-true tile tile_count o.there) in (
      ap (tile_at tile) after ∙ get_or-set_same p.tiles tile t blank_tile l,
      λ k d. ap (tile_at k) after ∙ get_or-set_other p.tiles tile k t blank_tile d,
    )

-- a frame is heard by its DGN alone

abbrev mask_but : List ℕ → Panel → ℕ × ℕ → Told ℕ
mask_but bytes p q = gives (mask_of (matches (catalogue_form q.0) (byte0 bytes)) p.tiles)

mask_but_lem : (t : Told Parts) (bytes : List ℕ) (p : Panel)
    → (given t then λ parts. gives (tiles_for parts bytes p)) ≡ (given told_but_priority t then mask_but bytes p)
mask_but_lem (refused n) bytes p = refl
mask_but_lem (gives parts) bytes p = refl

after_but : Told (ℕ × ℕ) → List ℕ → Panel → Panel
after_but (refused n) bytes p = p
after_but (gives q) bytes p = heard_by_all (catalogue_form q.0) bytes p

after_but_lem : (t : Told Parts) (bytes : List ℕ) (p : Panel) → after_sound t bytes p ≡ after_but (told_but_priority t) bytes p
unfolding after_but
after_but_lem (refused n) bytes p = refl
after_but_lem (gives parts) bytes p = refl

sound_but : (id id' : ℕ) (bytes : List ℕ) (p : Panel)
    → told_but_priority (checked_of id (length bytes)) ≡ told_but_priority (checked_of id' (length bytes))
    → told_but_priority (sound_of id bytes p) ≡ told_but_priority (sound_of id' bytes p)
unfolding sound_of
sound_but id id' bytes p e = by_test (keeps_rules p) (λ k. rw k e) (λ k. rw k)

pub priority_ignored : Laws.PriorityIgnored
unfolding heard_of after_hear
priority_ignored id id' bytes p l l' e =
    let q = sound_but id id' bytes p (frame_laws.priority_ignored id id' (length bytes) l l' e) in
    let s = sound_of id bytes p in
    let s' = sound_of id' bytes p in (
      mask_but_lem s bytes p
          ∙ ap (λ (t : Told (ℕ × ℕ)). given t then mask_but bytes p) q
          ∙ sym (mask_but_lem s' bytes p),
      after_but_lem s bytes p ∙ ap (λ (t : Told (ℕ × ℕ)). after_but t bytes p) q ∙ sym (after_but_lem s' bytes p),
    )

-- the float units are exact

not_zero : {n : ℕ} (m : ℕ) → n ≡ m → 0 < m → n ≡ 0 → ⊥
not_zero m e h z = omega arith

exact_at : (unit : Units) (width k m : ℕ) → steps_in_one unit width ≡ m → 0 < m → k ≤ 149
    → Laws.IsExact unit width (2 ^ k)
exact_at unit width k m e h g code l =
    nearest_exact (scaled_of unit width code) k (catalogue_laws.scaled_small unit width code (not_zero m e h) l) g

pub exact_for_every_code : Laws.ExactForEveryCode
exact_for_every_code =
    let s = catalogue_laws.steps_by_unit in
    record {
      percent = exact_at Unit.Percent 8 1 2 s.percent (omega arith) (omega arith);
      degrees_8 = exact_at Unit.Celsius 8 5 32 s.celsius.0 (omega arith) (omega arith);
      degrees_16 = exact_at Unit.Celsius 16 5 32 s.celsius.1 (omega arith) (omega arith);
      hertz = exact_at Unit.Hertz 16 7 128 s.hertz (omega arith) (omega arith);
    }

-- what a tile shows of a frame

some_steps : (k : ℕ) → not (k =? 0) ≡ true → k ≡ 0 → ⊥
some_steps k t e = true_false (sym (subst (λ (m : ℕ). not (m =? 0) ≡ true) e t))

module _ (row : Row) (bytes : List ℕ) (a : is_accepted row ≡ true) where
  abbrev number : ℕ
  number = number_of bytes

  abbrev field : Field
  field = field_in row number

  has_steps : steps_in_one row.unit row.width ≡ 0 → ⊥
  unfolding is_accepted
  has_steps = some_steps (steps_in_one row.unit row.width) (both_true (is_scaled row) (has_instance row.dgn) a).0

  -- the number of a unit, and its size
  number_shown : (unit : Units) → field.class ≡ Class.Number → row.unit ≡ unit
      → reading_in row bytes ≡ shown_number unit (scaled_of unit row.width field.code)
  unfolding reading_in shown
  number_shown unit n u = rw ((catalogue_laws.value_by_class row field).number n, u)

  number_exact : (unit : Units) (k : ℕ) → row.unit ≡ unit → k ≤ 149
      → IsExactly (nearest (scaled_of unit row.width field.code) (2 ^ k))
      (scaled_of unit row.width field.code)
      (2 ^ k)
  number_exact unit k u h =
      let s = catalogue_laws.scaled_small row.unit row.width field.code has_steps
      (catalogue_laws.code_below row number) in
      nearest_exact (scaled_of unit row.width field.code) k
      (subst (λ (x : Units). mag (scaled_of x row.width field.code) < 2 ^ 16) u s) h

  class_shown : (value : Value) → value_of row field ≡ value → reading_in row bytes ≡ shown row.unit value
  unfolding reading_in
  class_shown value e = rw e

pub reading_exact : Laws.ReadingExact
unfolding shown shown_number
reading_exact row bytes a =
    let v = catalogue_laws.value_by_class row (field_in row (number_of bytes)) in
    record {
      has_unit = λ u.
          has_steps row bytes a
          (ap (λ (x : Units). steps_in_one x row.width) u ∙ (catalogue_laws.steps_by_unit).other row.width);
      degrees = λ n u. (
        _,
        number_shown row bytes a Unit.Celsius n u,
        number_exact row bytes a Unit.Celsius 5 u
            (omega arith),
      );
      percent = λ n u. (
        _,
        number_shown row bytes a Unit.Percent n u,
        number_exact row bytes a Unit.Percent 1 u
            (omega arith),
      );
      hertz = λ n u. (
        _,
        number_shown row bytes a Unit.Hertz n u,
        number_exact row bytes a Unit.Hertz 7 u
            (omega arith),
      );
      volts = λ n u. number_shown row bytes a Unit.Volt n u;
      amperes = λ n u. number_shown row bytes a Unit.Ampere n u;
      no_data = λ n. class_shown row bytes a Value.NoData (v.no_data n);
      out_of_range = λ n. class_shown row bytes a Value.OutOfRange (v.out_of_range n);
      reserved = λ n. class_shown row bytes a Value.Reserved (v.reserved n);
    }

-- runs

pub run_sound : Laws.RunSound
run_sound calls p r = let s = ran_sound calls p r in (s.keeps, s.size)

pub latest_shown : Laws.LatestShown
latest_shown calls p k r ran h m =
    let s = ran_sound calls p ran in
    let e : told_asking r ≡ gives (tile_at k p).reading =
    m.answer ∙ (reading_lowest k p).read s.keeps (lt-ltb k tile_count h) in (
      (tile_at k p).reading,
      e,
      subst (λ (t : Tile). Runs.Shows k calls t.reading) (sym (ran_tile k calls p ran h)) (tile_shows k calls),
    )

pub shows_one : Laws.ShowsOne
shows_one k calls one other a b = sym (shows_tile k calls one a) ∙ shows_tile k calls other b

-- There is a run of whatever calls are made.
pub every_run_runs : Runs.EveryRunRuns
every_run_runs = every_run catalogue_laws.row_refused frame_laws.refused_for_reason
