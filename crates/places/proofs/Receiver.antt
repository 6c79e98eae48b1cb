-- One step of a receiver on its place structs and its storage (RULES 5.1 to 5.12): what it has to do with the places of
-- its format, case by case, for every format and every layout.
-- Assumes nothing.
use Rattle.std.specs.Prelude.{Some, None}
use mathlib.Core.Path.{◌≡◌, sym, ap, ◌∙◌}
use mathlib.Core.Bool.{true}
use mathlib.Core.List.{List, [], map}
use Prim.Native.Nat.{ℕ}
use lib.ListN.{length, get_or, set}
use Rattle.words.specs.Lists.{first}
use Rattle.places.specs.Format.{fixed, opens, finishes, feeds, goes, ends, Format}
use Rattle.places.specs.Places.{Out, full, said, hear, rest}
use Rattle.places.specs.Statements.{is_opening}
use Rattle.places.specs.Layout.{stretch, AgreeBut, Layout, open_by, seat, view, one_each}
use Rattle.places.proofs.Steps.{no_place, one_step, pass_each}
use Rattle.places.proofs.View.{lookup_nowhere, lookup_at, free_nowhere, free_at, update_at, close_at, take_at}
use Rattle.places.proofs.View.{free_write, one_each_view, length_view, view_pass}

-- structs ps and storage s become qs and t with the answer o, and the places that they are seen as do the same
pub record Shows {P : Type 0} (𝓕 : Format) (L : Layout P 𝓕.Session) (f : 𝓕.Frame) (ps : List P) (s : List ℕ)
    (qs : List P) (t : List ℕ)
    (o : Out 𝓕.Answer) : Type 0 where
  pub places : view L qs t ≡ (hear 𝓕 f (view L ps s)).next
  pub answer : o ≡ (hear 𝓕 f (view L ps s)).answer

module _ {P : Type 0} (𝓕 : Format) (L : Layout P 𝓕.Session) (f : 𝓕.Frame) (ps : List P) (s : List ℕ) where
  -- a fixed answer
  pub shows_fixed : (a : 𝓕.Answer) → 𝓕.asks f ≡ fixed a → Shows 𝓕 L f ps s ps s (said a)
  shows_fixed a e = record { places = rw e; answer = rw e }

  -- an opening: in the key's place, or in the lowest free one

  pub shows_opens_held : (x : 𝓕.Session) (a : 𝓕.Answer) (j : ℕ) (q : P) (t : List ℕ) → 𝓕.asks f ≡ opens x a
      → first (open_by L (𝓕.key f)) ps ≡ Some j
      → open_by L (𝓕.key f) q ≡ true → L.session q (stretch L.stride j t) ≡ x → AgreeBut L.stride j s t
      → Shows 𝓕 L f ps s (set ps j q) t (said a)
  shows_opens_held x a j q t e h o i g =
      let l = lookup_at L (𝓕.key f) j ps s L.blank h in
      let u = update_at L (𝓕.key f) j ps s t q h o g in
      record { places = rw e (rw l (u ∙ rw i)); answer = rw e (rw l) }

  pub shows_opens_free : (x : 𝓕.Session) (a : 𝓕.Answer) (j : ℕ) (q : P) (t : List ℕ) → 𝓕.asks f ≡ opens x a
      → first (open_by L (𝓕.key f)) ps ≡ None
      → first L.is_free ps ≡ Some j → open_by L (𝓕.key f) q ≡ true → L.session q (stretch L.stride j t) ≡ x
      → AgreeBut L.stride j s t
      → Shows 𝓕 L f ps s (set ps j q) t (said a)
  shows_opens_free x a j q t e n h o i g =
      let l = lookup_nowhere L (𝓕.key f) ps s n in
      let u = take_at L (𝓕.key f) j ps s t q h o g in
      let y = free_at L j ps s h in
      record { places = rw e (rw l (rw y (u ∙ rw i))); answer = rw e (rw l (rw y)) }

  -- one that finishes at once: the key's place is freed, or a free one stays free, whatever its stretch now has

  pub shows_finishes_held : (a : 𝓕.Answer) (j : ℕ) (q : P) (t : List ℕ) → 𝓕.asks f ≡ finishes a
      → first (open_by L (𝓕.key f)) ps ≡ Some j
      → L.is_free q ≡ true → AgreeBut L.stride j s t → Shows 𝓕 L f ps s (set ps j q) t (said a)
  shows_finishes_held a j q t e h o g =
      let l = lookup_at L (𝓕.key f) j ps s L.blank h in
      record { places = rw e (rw l (close_at L (𝓕.key f) j ps s t q h o g)); answer = rw e (rw l) }

  pub shows_finishes_free : (a : 𝓕.Answer) (j : ℕ) (t : List ℕ) → 𝓕.asks f ≡ finishes a
      → first (open_by L (𝓕.key f)) ps ≡ None
      → first L.is_free ps ≡ Some j
      → AgreeBut L.stride j s t → Shows 𝓕 L f ps s ps t (said a)
  shows_finishes_free a j t e n h g =
      let l = lookup_nowhere L (𝓕.key f) ps s n in
      let y = free_at L j ps s h in
      record { places = rw e (rw l (rw y (free_write L j ps s t h g))); answer = rw e (rw l (rw y)) }

  -- either, where no place is free
  pub shows_full : is_opening (𝓕.asks f) ≡ true → first (open_by L (𝓕.key f)) ps ≡ None
      → first L.is_free ps ≡ None → Shows 𝓕 L f ps s ps s full
  shows_full o n h =
      let r = no_place 𝓕 (𝓕.key f) (𝓕.asks f) (view L ps s) o (lookup_nowhere L (𝓕.key f) ps s n) ((free_nowhere L ps s).0 h) in
      record { places = sym (ap (λ t. t.next) r); answer = sym (ap (λ t. t.answer) r) }

  -- a packet: of no open session, of one that goes on, of one that ends

  pub shows_feeds_nowhere : (d : 𝓕.Data) (a : 𝓕.Answer) → 𝓕.asks f ≡ feeds d a
      → first (open_by L (𝓕.key f)) ps ≡ None
      → Shows 𝓕 L f ps s ps s (said a)
  shows_feeds_nowhere d a e n =
      let l = lookup_nowhere L (𝓕.key f) ps s n in
      record { places = rw e (rw l); answer = rw e (rw l) }

  pub shows_feeds_goes : (d : 𝓕.Data) (a b : 𝓕.Answer) (x : 𝓕.Session) (j : ℕ) (e q : P) (t : List ℕ)
      → 𝓕.asks f ≡ feeds d a → first (open_by L (𝓕.key f)) ps ≡ Some j
      → 𝓕.feed (L.session (get_or ps j e) (stretch L.stride j s)) d ≡ goes x b
      → open_by L (𝓕.key f) q ≡ true → L.session q (stretch L.stride j t) ≡ x → AgreeBut L.stride j s t
      → Shows 𝓕 L f ps s (set ps j q) t (said b)
  shows_feeds_goes d a b x j z q t e h w o i g =
      let l = lookup_at L (𝓕.key f) j ps s z h in
      let u = update_at L (𝓕.key f) j ps s t q h o g in
      record { places = rw e (rw l (rw w (u ∙ rw i))); answer = rw e (rw l (rw w)) }

  pub shows_feeds_ends : (d : 𝓕.Data) (a b : 𝓕.Answer) (j : ℕ) (e q : P) (t : List ℕ)
      → 𝓕.asks f ≡ feeds d a → first (open_by L (𝓕.key f)) ps ≡ Some j
      → 𝓕.feed (L.session (get_or ps j e) (stretch L.stride j s)) d ≡ ends b
      → L.is_free q ≡ true → AgreeBut L.stride j s t → Shows 𝓕 L f ps s (set ps j q) t (said b)
  shows_feeds_ends d a b j z q t e h w o g =
      let l = lookup_at L (𝓕.key f) j ps s z h in
      record { places = rw e (rw l (rw w (close_at L (𝓕.key f) j ps s t q h o g))); answer = rw e (rw l (rw w)) }

  -- after any of these no key has two places, and there are as many as before
  pub shows_keeps : (qs : List P) (t : List ℕ) (o : Out 𝓕.Answer) → Shows 𝓕 L f ps s qs t o → one_each L ps ≡ true
      → (one_each L qs ≡ true) × (length qs ≡ length ps)
  shows_keeps qs t o w h =
      let k = one_step 𝓕 f (view L ps s) ((one_each_view L ps s).0 h) in (
        (one_each_view L qs t).1 (rw w.places k.one_each),
        sym (length_view L qs t) ∙ ap length w.places ∙ k.as_many ∙ length_view L ps s,
      )

-- nor has one after a pause
pub pass_keeps : {P : Type 0} (𝓕 : Format) (L : Layout P 𝓕.Session) (ms : ℕ) (f : P → P)
    → ((p : P) (bytes : List ℕ) → seat L (f p) bytes ≡ rest 𝓕 ms (seat L p bytes))
    → (ps : List P) → one_each L ps ≡ true → one_each L (map f ps) ≡ true
pass_keeps 𝓕 L ms f k ps h =
    (one_each_view L (map f ps) []).1 (rw (view_pass 𝓕 L ms f k ps []) (pass_each 𝓕 ms (view L ps []) ((one_each_view L ps []).0 h)))
