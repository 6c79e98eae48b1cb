-- Runs of calls on one panel: they keep its rules, and what they make of one tile goes by the calls alone.
-- Assumes nothing.
use Rattle.std.specs.Prelude.{if◌then◌else◌}
use mathlib.Core.Path.{◌≡◌, refl, sym, ap, ◌∙◌, subst}
use mathlib.Core.Bool.{Bool, true, false, not}
use mathlib.Core.List.{List, [], ◌∷◌, ◌++◌, append_assoc}
use Prim.Native.Nat.{ℕ, zero, suc, ◌<◌}
use borrow.Author.Tests.{eq-eqb, ne_eqb, eqb-true, eqb-false, ltb-true}
use lib.ListN.{length, get_or, set, replicate, length-map, length-set}
use lib.Seq.{get_or-set_same, get_or-set_other}
use Rattle.words.specs.Words.{given◌then◌, ◌<?◌, ◌=?◌, ◌and◌, ◌or◌, Told, refused, gives, Done, done}
use Rattle.words.specs.Lists.{any}
use Rattle.words.proofs.Words.{by_test, both_true, true_false, refused_gives, past_refusal, not_flips}
use Rattle.words.proofs.Lists.{every_map, every_replicate, every_set}
use Rattle.frame.specs.Identifier.{catalogue_form}
use Rattle.frame.specs.Frame.{checked_of}
use Rattle.frame.specs.Promises.{refusal_of}
use Rattle.frame.specs.declared.Parts.{Parts}
use Rattle.frame.specs.declared.BadFrame.{BadFrame}
use Rattle.catalogue.specs.Table.{row_of}
use Rattle.catalogue.specs.declared.Row.{Row}
use Rattle.tiles.specs.Tile.{is_accepted, shows_nothing, is_blank, tile_keeps_rules, blank_tile, fresh_tile}
use Rattle.tiles.specs.Tile.{of_dgn, matches, byte0, heard_by}
use Rattle.tiles.specs.Panel.{tile_count, new_panel, keeps_rules, tile_at, replacing, named_of, after_name, sound_of}
use Rattle.tiles.specs.Panel.{tiles_for, heard_of, heard_by_all, after_hear}
use Rattle.tiles.specs.Promises.{told_naming, told_hearing}
use Rattle.tiles.specs.Runs.{Call, names, hears, Leads, Ran, no_call, a_call, EveryRunRuns, may_name, is_naming}
use Rattle.tiles.specs.Runs.{is_of_row, is_frame_for, says_of, Shows, never_named, no_frame_since, latest_frame}
use Rattle.tiles.specs.declared.Reading.{Reading}
use Rattle.tiles.specs.declared.Tile.{Tile}
use Rattle.tiles.specs.declared.Panel.{Panel}
use Rattle.std.specs.Prelude.{Ok, Err}
use Rattle.tiles.specs.Promises.{Naming, Hearing}
use Rattle.tiles.specs.declared.NotNamed.{NotNamed}
use Rattle.tiles.specs.declared.NotHeard.{NotHeard}
use Rattle.tiles.proofs.OneFrame.{reading_shows, meant_for, and_false, heard_other, heard_matching, heard_blank}
use Rattle.tiles.proofs.OneFrame.{fresh_keeps, blank_keeps, heard_keeps, after_sound_lem, after_refused, tile_heard}

-- ---- The panel that a call leaves.

abbrev pub after : Call → Panel → Panel
after (names tile row instance) p = after_name (named_of tile row p) tile row instance p
after (hears id bytes) p = after_hear id bytes p

pub leads_after : (call : Call) (p q : Panel) → Leads p call q → q ≡ after call p
leads_after (names tile row instance) p q l = l.1.panel
leads_after (hears id bytes) p q l = l.1.panel

-- a panel of 32 tiles that keeps its rules
pub record Sound (p : Panel) : Type 0 where
  pub keeps : keeps_rules p ≡ true
  pub size : length p.tiles ≡ tile_count

pub new_sound : Sound new_panel
unfolding keeps_rules
new_sound = record { keeps = every_replicate tile_keeps_rules 32 blank_tile blank_keeps; size = refl }

-- the answer to a naming of this row

abbrev named : ℕ → Row → Told Done
named tile found =
    if not (tile <? tile_count) then refused 23 else
    if not (is_accepted found) then refused 24 else
    gives done

-- what a naming that is not refused had
pub record NamedSo (tile row : ℕ) (p : Panel) : Type 0 where
  pub keeps : keeps_rules p ≡ true
  pub found : Row
  pub is : row_of row ≡ gives found
  pub there : (tile <? tile_count) ≡ true
  pub accepted : is_accepted found ≡ true

pub named_so : (tile row : ℕ) (p : Panel) (d : Done) → named_of tile row p ≡ gives d → NamedSo tile row p
unfolding named_of
named_so tile row p d e =
    let r = past_refusal (not (keeps_rules p)) 2 _ e in
    go (not_flips (keeps_rules p) r.0) (row_of row) refl r.1
  where
    go : keeps_rules p ≡ true → (t : Told Row) → row_of row ≡ t
        → (given t then named tile) ≡ gives d
        → NamedSo tile row p
    go k (refused n) s e = refused_gives e
    go k (gives found) s e =
        let a = past_refusal (not (tile <? tile_count)) 23 _ e in
        let b = past_refusal (not (is_accepted found)) 24 _ a.1 in
        record {
          keeps = k;
          found = found;
          is = s;
          there = not_flips (tile <? tile_count) a.0;
          accepted = not_flips (is_accepted found) b.0;
        }

replaced_sound : (p : Panel) (k : ℕ) (t : Tile) → Sound p → tile_keeps_rules t ≡ true → Sound (replacing p k t)
unfolding keeps_rules
replaced_sound p k t s e =
    record { keeps = every_set tile_keeps_rules p.tiles k t s.keeps e; size = length-set p.tiles k t ∙ s.size }

pub name_sound : (tile row instance : ℕ) (p : Panel) → Sound p → Sound (after (names tile row instance) p)
name_sound tile row instance p s = go (named_of tile row p) refl
  where
    go : (t : Told Done) → named_of tile row p ≡ t → Sound (after_name t tile row instance p)
    go (refused n) e = s
    go (gives d) e =
        let o = named_so tile row p d e in
        replaced_sound p tile (fresh_tile row instance) s (fresh_keeps row instance o.found o.is o.accepted)

all_heard : (dgn : ℕ) (bytes : List ℕ) (p : Panel) → Sound p → Sound (heard_by_all dgn bytes p)
unfolding keeps_rules
all_heard dgn bytes p s =
    record {
      keeps = every_map tile_keeps_rules (heard_by dgn bytes) (heard_keeps dgn bytes) p.tiles s.keeps;
      size = length-map p.tiles (heard_by dgn bytes) ∙ s.size;
    }

pub hear_sound : (id : ℕ) (bytes : List ℕ) (p : Panel) → Sound p → Sound (after (hears id bytes) p)
hear_sound id bytes p s = go (sound_of id bytes p) refl
  where
    go : (t : Told Parts) → sound_of id bytes p ≡ t → Sound (after (hears id bytes) p)
    go (refused n) e = subst Sound (sym (after_refused id bytes p n e)) s
    go (gives parts) e =
        subst Sound (sym (after_sound_lem id bytes p parts e)) (all_heard (catalogue_form parts.dgn) bytes p s)

pub call_sound : (call : Call) (p : Panel) → Sound p → Sound (after call p)
call_sound (names tile row instance) p s = name_sound tile row instance p s
call_sound (hears id bytes) p s = hear_sound id bytes p s

pub ran_sound : (calls : List Call) (p : Panel) → Ran calls p → Sound p
ran_sound _ _ (no_call p n) = subst Sound (sym n.panel) new_sound
ran_sound _ _ (a_call call before p q r l) =
    subst Sound (sym (leads_after call p q l)) (call_sound call p (ran_sound before p r))

-- ---- What a call makes of tile k, with no panel asked.

abbrev stepped_by : Told Parts → List ℕ → Tile → Tile
stepped_by (refused n) bytes t = t
stepped_by (gives parts) bytes t = heard_by (catalogue_form parts.dgn) bytes t

abbrev pub stepped : ℕ → Call → Tile → Tile
stepped k (names tile row instance) t = if is_naming k (names tile row instance) then fresh_tile row instance else t
stepped k (hears id bytes) t = stepped_by (checked_of id (length bytes)) bytes t

-- a naming of tile k

naming_says : (k tile row instance : ℕ) → is_naming k (names tile row instance) ≡ true
    → (tile ≡ k) × (found : Row) × (row_of row ≡ gives found) × ((tile <? tile_count) ≡ true) × (is_accepted found ≡ true)
naming_says k tile row instance e =
    let a = both_true (tile =? k) _ e in
    let b = both_true (tile <? tile_count) _ a.1 in
    let o = go (row_of row) b.1 in
    (eqb-true tile k a.0, o.0, o.1, b.0, o.2)
  where
    go : (t : Told Row) → may_name t ≡ true → (found : Row) × (t ≡ gives found) × (is_accepted found ≡ true)
    go (refused n) e = true_false (sym e)
    go (gives found) e = (found, refl, e)

named_by : (tile row : ℕ) (p : Panel) (found : Row) → keeps_rules p ≡ true → row_of row ≡ gives found
    → (tile <? tile_count) ≡ true → is_accepted found ≡ true → named_of tile row p ≡ gives done
unfolding named_of
named_by tile row p found k e t a = rw (k, e, t, a)

naming_of : (k tile row instance : ℕ) (p : Panel) → tile ≡ k → NamedSo tile row p
    → is_naming k (names tile row instance) ≡ true
naming_of k tile row instance p e o = rw (eq-eqb tile k e, o.there, o.is, o.accepted)

pub name_stepped : (k tile row instance : ℕ) (p : Panel) → Sound p → k < tile_count
    → tile_at k (after (names tile row instance) p) ≡ stepped k (names tile row instance) (tile_at k p)
name_stepped k tile row instance p s h =
    by_test (is_naming k (names tile row instance))
    (λ e.
    let o = naming_says k tile row instance e in
    let n = named_by tile row p o.1 s.keeps o.2 o.3 o.4 in
    let l : tile < length p.tiles = rw s.size (ltb-true tile tile_count o.3) in
    ap (λ (t : Told Done). tile_at k (after_name t tile row instance p)) n
    ∙ ap (λ (j : ℕ). get_or (set p.tiles tile (fresh_tile row instance)) j blank_tile) (sym o.0)
    ∙ get_or-set_same p.tiles tile (fresh_tile row instance) blank_tile l
    ∙ ap (λ (b : Bool). if b then fresh_tile row instance else tile_at k p) (sym e))
    (λ e.
    go (named_of tile row p) refl e
    ∙ ap (λ (b : Bool). if b then fresh_tile row instance else tile_at k p) (sym e))
  where
    go : (t : Told Done) → named_of tile row p ≡ t → is_naming k (names tile row instance) ≡ false
        → tile_at k (after_name t tile row instance p) ≡ tile_at k p
    go (refused n) e f = refl
    go (gives d) e f =
        get_or-set_other p.tiles tile k (fresh_tile row instance) blank_tile
        (λ z. true_false (sym (naming_of k tile row instance p (sym z) (named_so tile row p d e)) ∙ f))

sound_as : (id : ℕ) (bytes : List ℕ) (p : Panel) → keeps_rules p ≡ true
    → sound_of id bytes p ≡ checked_of id (length bytes)
unfolding sound_of
sound_as id bytes p k = rw k

pub hear_stepped : (k id : ℕ) (bytes : List ℕ) (p : Panel) → Sound p
    → tile_at k (after (hears id bytes) p) ≡ stepped k (hears id bytes) (tile_at k p)
hear_stepped k id bytes p s = go (checked_of id (length bytes)) (sound_as id bytes p s.keeps)
  where
    go : (t : Told Parts) → sound_of id bytes p ≡ t → tile_at k (after_hear id bytes p) ≡ stepped_by t bytes (tile_at k p)
    go (refused n) e = ap (tile_at k) (after_refused id bytes p n e)
    go (gives parts) e =
        ap (tile_at k) (after_sound_lem id bytes p parts e) ∙ tile_heard (catalogue_form parts.dgn) bytes p k

pub call_stepped : (k : ℕ) (call : Call) (p : Panel) → Sound p → k < tile_count
    → tile_at k (after call p) ≡ stepped k call (tile_at k p)
call_stepped k (names tile row instance) p s h = name_stepped k tile row instance p s h
call_stepped k (hears id bytes) p s h = hear_stepped k id bytes p s

-- tile k after the calls
abbrev pub tile_after : ℕ → List Call → Tile
tile_after k [] = blank_tile
tile_after k (call ∷ calls) = stepped k call (tile_after k calls)

new_tile : (n k : ℕ) → get_or (replicate n blank_tile) k blank_tile ≡ blank_tile
new_tile zero k = refl
new_tile (suc n) zero = refl
new_tile (suc n) (suc k) = new_tile n k

pub ran_tile : (k : ℕ) (calls : List Call) (p : Panel) → Ran calls p → k < tile_count → tile_at k p ≡ tile_after k calls
ran_tile k _ _ (no_call p n) h = ap (tile_at k) n.panel ∙ new_tile 32 k
ran_tile k _ _ (a_call call before p q r l) h =
    ap (tile_at k) (leads_after call p q l) ∙ call_stepped k call p (ran_sound before p r) h
    ∙ ap (stepped k call) (ran_tile k before p r h)

-- ---- A call that names tile k, one that is for it, and all others.

step_named : (k row instance : ℕ) (t : Tile) → is_naming k (names k row instance) ≡ true
    → stepped k (names k row instance) t ≡ fresh_tile row instance
step_named k row instance t e = rw e

step_blank : (k : ℕ) (call : Call) → is_naming k call ≡ false → stepped k call blank_tile ≡ blank_tile
step_blank k (names tile row instance) e = rw e
step_blank k (hears id bytes) e = go (checked_of id (length bytes))
  where
    go : (t : Told Parts) → stepped_by t bytes blank_tile ≡ blank_tile
    go (refused n) = refl
    go (gives parts) = heard_blank (catalogue_form parts.dgn) bytes

-- whether a frame is for a tile that is not blank
frame_matches : (id : ℕ) (bytes : List ℕ) (t : Tile) (parts : Parts) → is_blank t ≡ false
    → matches (catalogue_form parts.dgn) (byte0 bytes) t
    ≡ (byte0 bytes =? t.instance) and is_of_row (row_of t.row) (gives parts)
unfolding matches of_dgn
frame_matches id bytes t parts b =
    rw (b, eq_turns t.instance (byte0 bytes))
    (ap (λ (x : Bool). (byte0 bytes =? t.instance) and x) (go (row_of t.row)))
  where
    eq_turns : (m n : ℕ) → (m =? n) ≡ (n =? m)
    eq_turns m n =
        by_test (m =? n)
        (λ e. e ∙ sym (eq-eqb n m (sym (eqb-true m n e))))
        (λ e. e ∙ sym (ne_eqb n m (λ z. eqb-false m n e (sym z))))

    go : (told : Told Row) → of_dgn told (catalogue_form parts.dgn) ≡ is_of_row told (gives parts)
    go (refused n) = refl
    go (gives row) = refl

not_of_row : (told : Told Row) (n : ℕ) → is_of_row told (refused n) ≡ false
not_of_row (refused m) n = refl
not_of_row (gives row) n = refl

-- the tile that a frame makes of one that it is for
abbrev saying : Tile → List ℕ → Tile
saying t bytes = record { row = t.row; instance = t.instance; reading = says_of (row_of t.row) bytes }

heard_saying : (dgn : ℕ) (bytes : List ℕ) (t : Tile) → matches dgn (byte0 bytes) t ≡ true
    → heard_by dgn bytes t ≡ saying t bytes
heard_saying dgn bytes t e =
    let f = meant_for dgn (byte0 bytes) t e in
    heard_matching dgn bytes t f.row e f.of_tile
    ∙ ap (λ (told : Told Row). record { row = t.row; instance = t.instance; reading = says_of told bytes })
    (sym f.of_tile)

step_for : (k id : ℕ) (bytes : List ℕ) (t : Tile) → is_blank t ≡ false
    → is_frame_for t.row t.instance (hears id bytes) ≡ true → stepped k (hears id bytes) t ≡ saying t bytes
step_for k id bytes t b e = go (checked_of id (length bytes)) e
  where
    go : (told : Told Parts) → ((byte0 bytes =? t.instance) and is_of_row (row_of t.row) told) ≡ true
        → stepped_by told bytes t ≡ saying t bytes
    go (refused n) e =
        true_false (sym e ∙ rw (not_of_row (row_of t.row) n) (and_false (byte0 bytes =? t.instance)))
    go (gives parts) e = heard_saying (catalogue_form parts.dgn) bytes t (frame_matches id bytes t parts b ∙ e)

step_not_for : (k : ℕ) (call : Call) (t : Tile) → is_blank t ≡ false → is_naming k call ≡ false
    → is_frame_for t.row t.instance call ≡ false → stepped k call t ≡ t
step_not_for k (names tile row instance) t b n f = rw n
step_not_for k (hears id bytes) t b n f = go (checked_of id (length bytes)) f
  where
    go : (told : Told Parts) → ((byte0 bytes =? t.instance) and is_of_row (row_of t.row) told) ≡ false
        → stepped_by told bytes t ≡ t
    go (refused n) e = refl
    go (gives parts) e = heard_other (catalogue_form parts.dgn) bytes t (frame_matches id bytes t parts b ∙ e)

says_shows : (told : Told Row) (bytes : List ℕ) → shows_nothing (says_of told bytes) ≡ false
says_shows (refused n) bytes = refl
says_shows (gives row) bytes = reading_shows row bytes

-- ---- The tile after the calls, with the calls that made it so.

data Made (k : ℕ) : List Call → Tile → Type 0 where
  blank : (calls : List Call) → any (is_naming k) calls ≡ false → Made k calls blank_tile
  fresh : (since before : List Call) (row instance : ℕ)
      → is_naming k (names k row instance) ≡ true
      → any (is_naming k) since ≡ false → any (is_frame_for row instance) since ≡ false
      → Made k (since ++ (names k row instance ∷ before)) (fresh_tile row instance)
  heard : (later since before : List Call) (row instance id : ℕ) (bytes : List ℕ)
      → is_naming k (names k row instance) ≡ true
      → any (is_naming k) (later ++ (hears id bytes ∷ since)) ≡ false
      → is_frame_for row instance (hears id bytes) ≡ true → any (is_frame_for row instance) later ≡ false
      → Made k ((later ++ (hears id bytes ∷ since)) ++ (names k row instance ∷ before))
      (saying (fresh_tile row instance) bytes)

made_shows : (k : ℕ) (calls : List Call) (t : Tile) → Made k calls t → Shows k calls t.reading
made_shows k _ _ (blank calls n) = never_named calls n
made_shows k _ _ (fresh since before row instance a n f) = no_frame_since since before row instance a n f
made_shows k _ _ (heard later since before row instance id bytes a n f g) =
    latest_frame later since before row instance id bytes a n f g

-- one call more

made_named : (k tile row instance : ℕ) (calls : List Call) → is_naming k (names tile row instance) ≡ true
    → Made k (names tile row instance ∷ calls) (fresh_tile row instance)
made_named k tile row instance calls e =
    let z : tile ≡ k = (naming_says k tile row instance e).0 in
    subst (λ (j : ℕ). Made k (names j row instance ∷ calls) (fresh_tile row instance)) (sym z)
    (fresh [] calls row instance (subst (λ (j : ℕ). is_naming k (names j row instance) ≡ true) z e) refl refl)

made_unnamed : (k tile row instance : ℕ) (calls : List Call) (t : Tile) → Made k calls t
    → is_naming k (names tile row instance) ≡ false → Made k (names tile row instance ∷ calls) t
made_unnamed k tile row instance _ _ (blank calls n) e = blank (names tile row instance ∷ calls) (rw e n)
made_unnamed k tile row instance _ _ (fresh since before r i a n f) e =
    fresh (names tile row instance ∷ since) before r i a (rw e n) f
made_unnamed k tile row instance _ _ (heard later since before r i id bytes a n f g) e =
    heard (names tile row instance ∷ later) since before r i id bytes a (rw e n) f g

made_heard : (k id : ℕ) (bytes : List ℕ) (calls : List Call) (t : Tile) → Made k calls t
    → Made k (hears id bytes ∷ calls) (stepped k (hears id bytes) t)
made_heard k id bytes _ _ (blank calls n) =
    let h = hears id bytes in
    subst (Made k (h ∷ calls)) (sym (step_blank k h refl)) (blank (h ∷ calls) n)
made_heard k id bytes _ _ (fresh since before row instance a n f) =
    let h = hears id bytes in
    let t = fresh_tile row instance in
    let M = Made k (h ∷ (since ++ (names k row instance ∷ before))) in
    by_test (is_frame_for row instance h)
    (λ e. subst M (sym (step_for k id bytes t refl e)) (heard [] since before row instance id bytes a n e refl))
    (λ e. subst M (sym (step_not_for k h t refl refl e)) (fresh (h ∷ since) before row instance a n (rw e f)))
made_heard k id bytes _ _ (heard later since before row instance i b a n f g) =
    let h = hears id bytes in
    let t = saying (fresh_tile row instance) b in
    let s = later ++ (hears i b ∷ since) in
    let M = Made k (h ∷ (s ++ (names k row instance ∷ before))) in
    let o = says_shows (row_of row) b in
    by_test (is_frame_for row instance h)
    (λ e. subst M (sym (step_for k id bytes t o e)) (heard [] s before row instance id bytes a n e refl))
    (λ e. subst M (sym (step_not_for k h t o refl e)) (heard (h ∷ later) since before row instance i b a n f (rw e g)))

made_call : (k : ℕ) (call : Call) (calls : List Call) (t : Tile) → Made k calls t
    → Made k (call ∷ calls) (stepped k call t)
made_call k (names tile row instance) calls t m =
    by_test (is_naming k (names tile row instance))
    (λ e. rw e (made_named k tile row instance calls e))
    (λ e. rw e (made_unnamed k tile row instance calls t m e))
made_call k (hears id bytes) calls t m = made_heard k id bytes calls t m

made : (k : ℕ) (calls : List Call) → Made k calls (tile_after k calls)
made k [] = blank [] refl
made k (call ∷ calls) = made_call k call calls (tile_after k calls) (made k calls)

-- what the calls say is what the tile shows
pub tile_shows : (k : ℕ) (calls : List Call) → Shows k calls (tile_after k calls).reading
tile_shows k calls = made_shows k calls (tile_after k calls) (made k calls)

-- ---- And nothing else: the tile shows whatever the calls say.

any_cons : (f : Call → Bool) (call : Call) (calls : List Call) → any f (call ∷ calls) ≡ false
    → (f call ≡ false) × (any f calls ≡ false)
any_cons f call calls e = go (f call) (any f calls) e
  where
    go : (a b : Bool) → (a or b) ≡ false → (a ≡ false) × (b ≡ false)
    go true b e = true_false e
    go false b e = (refl, e)

any_append : (f : Call → Bool) (xs ys : List Call) → any f (xs ++ ys) ≡ false → (any f xs ≡ false) × (any f ys ≡ false)
any_append f [] ys e = (refl, e)
any_append f (x ∷ xs) ys e =
    let a = any_cons f x (xs ++ ys) e in
    let b = any_append f xs ys a.1 in
    (rw a.0 b.0, b.1)

stays_blank : (k : ℕ) (calls : List Call) → any (is_naming k) calls ≡ false → tile_after k calls ≡ blank_tile
stays_blank k [] e = refl
stays_blank k (call ∷ calls) e =
    let a = any_cons (is_naming k) call calls e in
    ap (stepped k call) (stays_blank k calls a.1) ∙ step_blank k call a.0

-- calls that neither name the tile nor are for it leave it
stays : (k : ℕ) (later calls : List Call) (t : Tile) → is_blank t ≡ false → any (is_naming k) later ≡ false
    → any (is_frame_for t.row t.instance) later ≡ false → tile_after k calls ≡ t → tile_after k (later ++ calls) ≡ t
stays k [] calls t b n f e = e
stays k (call ∷ later) calls t b n f e =
    let m = any_cons (is_naming k) call later n in
    let g = any_cons (is_frame_for t.row t.instance) call later f in
    ap (stepped k call) (stays k later calls t b m.1 g.1 e) ∙ step_not_for k call t b m.0 g.0

-- calls that do not name it leave it its row and instance
record Has (row instance : ℕ) (t : Tile) : Type 0 where
  pub not_blank : is_blank t ≡ false
  pub of_row : t.row ≡ row
  pub of_instance : t.instance ≡ instance

step_has : (k : ℕ) (call : Call) (row instance : ℕ) (t : Tile) → is_naming k call ≡ false → Has row instance t
    → Has row instance (stepped k call t)
step_has k (names tile r i) row instance t e h = rw e h
step_has k (hears id bytes) row instance t e h =
    by_test (is_frame_for t.row t.instance (hears id bytes))
    (λ f. subst (Has row instance) (sym (step_for k id bytes t h.not_blank f))
    (record {
      not_blank = says_shows (row_of t.row) bytes;
      of_row = h.of_row;
      of_instance = h.of_instance;
    }))
    (λ f. subst (Has row instance) (sym (step_not_for k (hears id bytes) t h.not_blank refl f)) h)

still_has : (k : ℕ) (since before : List Call) (row instance : ℕ) → is_naming k (names k row instance) ≡ true
    → any (is_naming k) since ≡ false → Has row instance (tile_after k (since ++ (names k row instance ∷ before)))
still_has k [] before row instance a n =
    subst (Has row instance) (sym (step_named k row instance (tile_after k before) a))
    (record { not_blank = refl; of_row = refl; of_instance = refl })
still_has k (call ∷ since) before row instance a n =
    let m = any_cons (is_naming k) call since n in
    step_has k call row instance (tile_after k (since ++ (names k row instance ∷ before))) m.0
    (still_has k since before row instance a m.1)

-- a tile with this row and instance, after a frame for it
heard_has : (k id : ℕ) (bytes : List ℕ) (row instance : ℕ) (t : Tile) → Has row instance t
    → is_frame_for row instance (hears id bytes) ≡ true
    → stepped k (hears id bytes) t ≡ saying (fresh_tile row instance) bytes
heard_has k id bytes row instance t h f =
    let r = h.of_row in
    let i = h.of_instance in
    step_for k id bytes t h.not_blank (rw (r, i) f)
    ∙ (λ j. record { row = r j; instance = i j; reading = says_of (row_of (r j)) bytes })

pub shows_tile : (k : ℕ) (calls : List Call) (reading : Reading) → Shows k calls reading
    → (tile_after k calls).reading ≡ reading
shows_tile k _ _ (never_named calls n) = ap (λ (t : Tile). t.reading) (stays_blank k calls n)
shows_tile k _ _ (no_frame_since since before row instance a n f) =
    ap (λ (t : Tile). t.reading)
    (stays k since (names k row instance ∷ before) (fresh_tile row instance) refl n f
    (step_named k row instance (tile_after k before) a))
shows_tile k _ _ (latest_frame later since before row instance id bytes a n f g) =
    let m = any_append (is_naming k) later (hears id bytes ∷ since) n in
    let rest = since ++ (names k row instance ∷ before) in
    let t = saying (fresh_tile row instance) bytes in
    ap (λ (l : List Call). (tile_after k l).reading)
    (append_assoc later (hears id bytes ∷ since) (names k row instance ∷ before))
    ∙ ap (λ (t : Tile). t.reading)
    (stays k later (hears id bytes ∷ rest) t (says_shows (row_of row) bytes) m.0 g
    (heard_has k id bytes row instance (tile_after k rest) (still_has k since before row instance a m.1) f))

-- ---- There is a run of whatever calls are made, where a row is refused with 11 alone and a frame with 3 to 6 alone:
-- these two facts are the catalogue's and the frames', and are handed over.

module _ (row_refused : (n k : ℕ) → row_of n ≡ refused k → k ≡ 11)
    (bad_frame : (id size n : ℕ) → checked_of id size ≡ refused n → (why : BadFrame) × (refusal_of why ≡ n)) where
  name_answer : (tile row : ℕ) (p : Panel) → (answer : Naming) × (told_naming answer ≡ named_of tile row p)
  unfolding named_of
  name_answer tile row p =
      by_test (keeps_rules p)
      (λ k. let o = go (row_of row) refl in (o.0, o.1 ∙ sym (rw k)))
      (λ k. (Err NotNamed.BrokenState, sym (rw k)))
    where
      go : (t : Told Row) → row_of row ≡ t
          → (answer : Naming)
          × (told_naming answer
          ≡ (given t then named tile))
      go (refused n) e = (Err NotNamed.NoSuchRow, ap refused (sym (row_refused row n e)))
      go (gives found) e =
          by_test (tile <? tile_count)
          (λ t. by_test (is_accepted found)
          (λ a. (Ok tt, sym (rw (t, a))))
          (λ a. (Err NotNamed.RowNotAccepted, sym (rw (t, a)))))
          (λ t. (Err NotNamed.NoSuchTile, sym (rw t)))

  hear_answer : (id : ℕ) (bytes : List ℕ) (p : Panel) → (answer : Hearing) × (told_hearing answer ≡ heard_of id bytes p)
  unfolding heard_of sound_of
  hear_answer id bytes p =
      by_test (keeps_rules p)
      (λ k. let o = go (checked_of id (length bytes)) refl in (o.0, o.1 ∙ sym (rw k)))
      (λ k. (Err NotHeard.BrokenState, sym (rw k)))
    where
      go : (t : Told Parts) → checked_of id (length bytes) ≡ t
          → (answer : Hearing) × (told_hearing answer ≡ (given t then λ parts. gives (tiles_for parts bytes p)))
      go (refused n) e = let w = bad_frame id (length bytes) n e in (Err (NotHeard.BadFrame w.0), ap refused w.1)
      go (gives parts) e = (Ok (tiles_for parts bytes p), refl)

  leads : (call : Call) (p : Panel) → Leads p call (after call p)
  leads (names tile row instance) p =
      let o = name_answer tile row p in
      (o.0, record { answer = o.1; panel = refl })
  leads (hears id bytes) p =
      let o = hear_answer id bytes p in
      (o.0, record { answer = o.1; panel = refl })

  pub every_run : EveryRunRuns
  every_run [] = (new_panel, no_call new_panel (record { panel = refl }))
  every_run (call ∷ before) =
      let o = every_run before in
      (after call o.0, a_call call before o.0 (after call o.0) o.1 (leads call o.0))
