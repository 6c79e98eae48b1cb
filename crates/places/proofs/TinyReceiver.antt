-- The receiver of the made-up format keeps to its places.
-- Assumes nothing.
use Rattle.std.specs.Prelude.{Option, Some, None}
use mathlib.Core.Path.{◌≡◌, refl, ap, ◌∙◌, subst⁻¹}
use mathlib.Core.Bool.{Bool, true, false, not}
use mathlib.Core.List.{List, [], ◌∷◌, ◌++◌, map}
use mathlib.Core.Logic.{◌≢◌}
use Prim.Native.Nat.{ℕ, ◌+◌, ◌-◌, ◌*◌, ◌≤◌, ◌<◌}
use native.Mathlib.Nat.{sub_self}
use native.Mathlib.Omega.{arith}
use borrow.Author.Tests.{eq-eqb, ne_eqb, eqb-true, eqb-false, le-leb, lt-leb, leb-true, leb-false, not-true}
use lib.ListN.{length, take, get_or, set, length-take, length-drop, length-map}
use lib.Seq.{length-paste, take-paste}
use Rattle.words.specs.Words.{◌<?◌, ◌≤?◌, ◌=?◌, gives}
use Rattle.words.specs.Lists.{every, count, first}
use Rattle.words.proofs.Words.{by_test, both_true}
use Rattle.places.specs.Format.{finishes, opens, feeds, goes, ends}
use Rattle.places.specs.Places.{said, place_count, rest, closes}
use Rattle.places.specs.Layout.{stretch, AgreeBut, open_by, seat, view}
use Rattle.places.specs.Tiny.{Card, opened, stored, unknown, finished, new_pile, most_packets}
use Rattle.places.specs.Tiny.{tiny_idle_limit, tiny_asks, tiny_feed, tiny_wait, tiny}
use Rattle.places.specs.TinyReceiver.{Slot, free_slot, is_free_slot, pile_in, tiny_layout, TinyHeld, slot_keeps_rules}
use Rattle.places.specs.TinyReceiver.{TinyKeeps, TinyAfter, written, handed, tiny_finishes, new_slot}
use Rattle.places.specs.TinyReceiver.{tiny_opens, next_slot, tiny_stores, tiny_feeds, tiny_heard, slot_closes}
use Rattle.places.specs.TinyReceiver.{slot_idled, TinyStarts, TinyKeepsPlaces}
use Rattle.words.proofs.Lists.{found_at, every_at, every_set, every_map}
use Rattle.places.proofs.Stretch.{stretch_same, stretch_other}
use Rattle.places.proofs.View.{one_each_view, length_view, blank_view, view_pass, view_closes}
use Rattle.places.proofs.Receiver.{Shows, shows_opens_held, shows_opens_free, shows_finishes_held}
use Rattle.places.proofs.Receiver.{shows_finishes_free, shows_full, shows_feeds_nowhere, shows_feeds_goes}
use Rattle.places.proofs.Receiver.{shows_feeds_ends, shows_keeps, pass_keeps}

-- the rules of an open slot, one by one
record OpenSlot (s : Slot) : Type 0 where
  some_missing : 1 ≤ s.missing
  within : s.missing ≤ s.size
  short : s.size ≤ most_packets

open_slot : (s : Slot) → is_free_slot s ≡ false → slot_keeps_rules s ≡ true → OpenSlot s
open_slot s f e =
    let r₁ = both_true (1 ≤? s.missing) _ (rw f at e) in
    let r₂ = both_true (s.missing ≤? s.size) _ r₁.1 in
    record { some_missing = leb-true _ _ r₁.0; within = leb-true _ _ r₂.0; short = leb-true _ _ r₂.1 }

slot_rules : (s : Slot) → is_free_slot s ≡ false → OpenSlot s → slot_keeps_rules s ≡ true
slot_rules s f o = rw (f, le-leb _ _ o.some_missing, le-leb _ _ o.within, le-leb _ _ o.short)

not_free : (s : Slot) → 1 ≤ s.size → is_free_slot s ≡ false
not_free s h = ne_eqb s.size 0 (λ e. omega arith)

-- a byte written into a slot's stretch

module _ (s : List ℕ) (j at byte : ℕ) (enough : place_count * most_packets ≤ length s) (below : j < place_count) (fits : at < most_packets) where
  inside : most_packets * j + at + 1 ≤ length s
  inside = omega arith

  written_others : AgreeBut most_packets j s (written j at byte s)
  written_others = stretch_other most_packets j at 1 s (byte ∷ []) (omega arith) inside (omega arith)

  written_own : take (at + 1) (stretch most_packets j (written j at byte s)) ≡ take at (stretch most_packets j s) ++ (byte ∷ [])
  written_own =
      let g : at ≤ length (stretch most_packets j s) = rw (length-take, length-drop) (omega arith) in
      rw (stretch_same most_packets j at 1 s (byte ∷ []) (omega arith) inside (omega arith))
      (take-paste (stretch most_packets j s) at (byte ∷ []) 1 g (omega arith))

  written_long : length (written j at byte s) ≡ length s
  written_long = length-paste s (most_packets * j + at) (byte ∷ []) 1 inside (omega arith)

-- one card at a state that keeps its rules

module _ (c : Card) (ps : List Slot) (s : List ℕ) (eight : length ps ≡ place_count) (ok : every slot_keeps_rules ps ≡ true)
    (enough : place_count * most_packets ≤ length s) where
  record TinyAgrees (a : TinyAfter) : Type 0 where
    shows : Shows tiny tiny_layout c ps s a.held.slots a.held.storage a.answer
    rules : every slot_keeps_rules a.held.slots ≡ true
    long : length a.held.storage ≡ length s

  found_below : (f : Slot → Bool) (j : ℕ) → first f ps ≡ Some j → j < place_count
  found_below f j e = omega (arith, (found_at j f ps free_slot e).below)

  freed : (j : ℕ) → every slot_keeps_rules (set ps j free_slot) ≡ true
  freed j = every_set slot_keeps_rules ps j free_slot ok refl

  -- an opening that finishes at once
  module _ (asks : tiny.asks c ≡ finishes (finished (c.byte ∷ []))) where
    handed_byte : (j : ℕ) → j < place_count → handed j 1 (written j 0 c.byte s) ≡ said (finished (c.byte ∷ []))
    handed_byte j b = ap (λ (l : List ℕ). said (finished l)) (written_own s j 0 c.byte enough b (omega arith))

    finishing : (place free : Option ℕ) → first (open_by tiny_layout c.key) ps ≡ place → first is_free_slot ps ≡ free
        → TinyAgrees (tiny_finishes c.byte place free ps s)
    unfolding tiny_finishes
    finishing (Some j) free e g =
        let b = found_below (open_by tiny_layout c.key) j e in
        record {
          shows =
              rw (handed_byte j b)
              (shows_finishes_held tiny tiny_layout c ps s (finished (c.byte ∷ [])) j free_slot (written j 0 c.byte s) asks e refl (written_others s j 0 c.byte enough b (omega arith)));
          rules = freed j;
          long = written_long s j 0 c.byte enough b (omega arith);
        }
    finishing None (Some j) e g =
        let b = found_below is_free_slot j g in
        record {
          shows =
              rw (handed_byte j b)
              (shows_finishes_free tiny tiny_layout c ps s (finished (c.byte ∷ [])) j (written j 0 c.byte s) asks e g (written_others s j 0 c.byte enough b (omega arith)));
          rules = ok;
          long = written_long s j 0 c.byte enough b (omega arith);
        }
    finishing None None e g = record { shows = shows_full tiny tiny_layout c ps s (rw asks) e g; rules = ok; long = refl }

  -- an opening of a message of several packets
  module _ (n : ℕ) (some : 1 ≤ n) (most : n ≤ most_packets) (asks : tiny.asks c ≡ opens (new_pile n) opened) where
    abbrev new : Slot
    new = new_slot c.key n

    new_rules : slot_keeps_rules new ≡ true
    new_rules = slot_rules new (not_free new some) (record { some_missing = some; within = omega arith; short = most })

    new_open : open_by tiny_layout c.key new ≡ true
    new_open = rw (not_free new some, eq-eqb c.key c.key refl)

    new_session : (bytes : List ℕ) → pile_in new bytes ≡ new_pile n
    new_session bytes = rw (sub_self n)

    opening : (place free : Option ℕ) → first (open_by tiny_layout c.key) ps ≡ place → first is_free_slot ps ≡ free
        → TinyAgrees (tiny_opens c.key n place free ps s)
    unfolding tiny_opens
    opening (Some j) free e g =
        record {
          shows = shows_opens_held tiny tiny_layout c ps s (new_pile n) opened j new s asks e new_open (new_session (stretch most_packets j s)) (λ i x. refl);
          rules = every_set slot_keeps_rules ps j new ok new_rules;
          long = refl;
        }
    opening None (Some j) e g =
        record {
          shows = shows_opens_free tiny tiny_layout c ps s (new_pile n) opened j new s asks e g new_open (new_session (stretch most_packets j s)) (λ i x. refl);
          rules = every_set slot_keeps_rules ps j new ok new_rules;
          long = refl;
        }
    opening None None e g = record { shows = shows_full tiny tiny_layout c ps s (rw asks) e g; rules = ok; long = refl }

  -- a packet
  module _ (asks : tiny.asks c ≡ feeds c.byte unknown) where
    module _ (j : ℕ) (e : first (open_by tiny_layout c.key) ps ≡ Some j) where
      abbrev p : Slot
      p = get_or ps j free_slot

      abbrev at : ℕ
      at = p.size - p.missing

      abbrev t : List ℕ
      t = written j at c.byte s

      passes : (not (is_free_slot p) ≡ true) × ((p.key =? c.key) ≡ true)
      passes = both_true (not (is_free_slot p)) _ (found_at j (open_by tiny_layout c.key) ps free_slot e).passes

      below : j < place_count
      below = found_below (open_by tiny_layout c.key) j e

      here : OpenSlot p
      here =
          open_slot p (not-true (is_free_slot p) passes.0)
          (every_at slot_keeps_rules ps j free_slot (found_at j (open_by tiny_layout c.key) ps free_slot e).below ok)

      fits : at < most_packets
      fits = omega (arith, here.some_missing, here.within, here.short)

      abbrev joined : List ℕ
      joined = take at (stretch most_packets j s) ++ (c.byte ∷ [])

      ended : p.missing ≤ 1 → tiny_feed (pile_in p (stretch most_packets j s)) c.byte ≡ ends (finished joined)
      unfolding tiny_feed
      ended h = rw (le-leb _ _ h)

      went : 1 < p.missing → tiny_feed (pile_in p (stretch most_packets j s)) c.byte
          ≡ goes (record { size = p.size; missing = p.missing - 1; idle = 0; bytes = joined }) stored
      unfolding tiny_feed
      went h = rw (lt-leb _ _ h)

      last : p.missing ≤ 1 → TinyAgrees (tiny_stores c.byte j p ps t)
      unfolding tiny_stores
      last h =
          let z : p.size ≡ at + 1 = omega (arith, here.some_missing, here.within) in
          let own : take p.size (stretch most_packets j t) ≡ joined =
          ap (λ (n : ℕ). take n (stretch most_packets j t)) z ∙ written_own s j at c.byte enough below fits in
          rw (le-leb _ _ h)
          (record {
            shows =
                rw own
                (shows_feeds_ends tiny tiny_layout c ps s c.byte unknown (finished joined) j free_slot free_slot t
                asks e (ended h) refl (written_others s j at c.byte enough below fits));
            rules = freed j;
            long = written_long s j at c.byte enough below fits;
          })

      next : 1 < p.missing → TinyAgrees (tiny_stores c.byte j p ps t)
      unfolding tiny_stores
      next h =
          let z : p.size - (p.missing - 1) ≡ at + 1 = omega (arith, here.some_missing, here.within) in
          let own : take (p.size - (p.missing - 1)) (stretch most_packets j t) ≡ joined =
          ap (λ (n : ℕ). take n (stretch most_packets j t)) z ∙ written_own s j at c.byte enough below fits in
          let big : 1 ≤ p.size = omega (arith, here.within) in
          let open_still : open_by tiny_layout c.key (next_slot p) ≡ true = rw (not_free p big, passes.1) in
          rw (lt-leb _ _ h)
          (record {
            shows =
                shows_feeds_goes tiny tiny_layout c ps s c.byte unknown stored
                (record { size = p.size; missing = p.missing - 1; idle = 0; bytes = joined })
                j free_slot (next_slot p) t asks e (went h) open_still (rw own) (written_others s j at c.byte enough below fits);
            rules =
                every_set slot_keeps_rules ps j (next_slot p) ok
                (slot_rules (next_slot p) (not_free p big) (record { some_missing = omega arith; within = omega (arith, here.within); short = here.short }));
            long = written_long s j at c.byte enough below fits;
          })

      storing : TinyAgrees (tiny_stores c.byte j p ps t)
      storing = by_test (p.missing ≤? 1) (λ f. last (leb-true _ _ f)) (λ f. next (leb-false _ _ f))

    feeding : (place : Option ℕ) → first (open_by tiny_layout c.key) ps ≡ place → TinyAgrees (tiny_feeds c.byte place ps s)
    unfolding tiny_feeds
    feeding (Some j) e = storing j e
    feeding None e = record { shows = shows_feeds_nowhere tiny tiny_layout c ps s c.byte unknown asks e; rules = ok; long = refl }

  asks_finishes : c.number ≡ 0 → tiny.asks c ≡ finishes (finished (c.byte ∷ []))
  unfolding tiny_asks
  asks_finishes e = rw (eq-eqb _ _ e)

  asks_opens : c.number ≢ 0 → c.number ≤ most_packets → tiny.asks c ≡ opens (new_pile c.number) opened
  unfolding tiny_asks
  asks_opens n h = rw (ne_eqb _ _ n, le-leb _ _ h)

  asks_feeds : c.number ≢ 0 → most_packets < c.number → tiny.asks c ≡ feeds c.byte unknown
  unfolding tiny_asks
  asks_feeds n h = rw (ne_eqb _ _ n, lt-leb _ _ h)

  agrees : TinyAgrees (tiny_heard c (record { slots = ps; storage = s }))
  unfolding tiny_heard
  agrees =
      let place = first (open_by tiny_layout c.key) ps in
      let free = first is_free_slot ps in
      by_test (c.number =? 0)
      (λ f. rw f (finishing (asks_finishes (eqb-true _ _ f)) place free refl refl))
      (λ f. by_test (c.number ≤? most_packets)
      (λ g.
      let n = eqb-false c.number 0 f in
      let some : 1 ≤ c.number = omega (arith, n) in
      rw (f, g) (opening c.number some (leb-true _ _ g) (asks_opens n (leb-true _ _ g)) place free refl refl))
      (λ g. rw (f, g) (feeding (asks_feeds (eqb-false _ _ f) (leb-false _ _ g)) place refl)))

-- a pause at one slot

seat_idled : (ms : ℕ) (p : Slot) (bytes : List ℕ) → seat tiny_layout (slot_idled ms p) bytes ≡ rest tiny ms (seat tiny_layout p bytes)
unfolding slot_idled tiny_wait
seat_idled ms p bytes =
    by_test (is_free_slot p)
    (λ f. rw f (rw f))
    (λ f. by_test (tiny_idle_limit <? p.idle + ms) (λ g. rw (f, g)) (λ g. rw (f, g) (rw f)))

seat_closes : (ms : ℕ) (p : Slot) (bytes : List ℕ) → slot_closes ms p ≡ closes tiny ms (seat tiny_layout p bytes)
unfolding slot_closes tiny_wait
seat_closes ms p bytes =
    by_test (is_free_slot p)
    (λ f. rw f)
    (λ f. by_test (tiny_idle_limit <? p.idle + ms) (λ g. rw (f, g)) (λ g. rw (f, g)))

idled_rules : (ms : ℕ) (p : Slot) → slot_keeps_rules p ≡ true → slot_keeps_rules (slot_idled ms p) ≡ true
unfolding slot_idled
idled_rules ms p k =
    by_test (is_free_slot p)
    (λ f. rw f k)
    (λ f. by_test (tiny_idle_limit <? p.idle + ms)
    (λ g. rw (f, g))
    (λ g.
    rw (f, g)
    (slot_rules (record { key = p.key; size = p.size; missing = p.missing; idle = p.idle + ms }) f
    (let o = open_slot p f k in record { some_missing = o.some_missing; within = o.within; short = o.short }))))

-- the calls

heard_keeps : (c : Card) (h : TinyHeld) → TinyKeeps h → TinyKeeps (tiny_heard c h).held
heard_keeps c h k =
    let a = agrees c h.slots h.storage k.eight k.rules k.enough in
    let o = shows_keeps tiny tiny_layout c h.slots h.storage _ _ _ a.shows k.each in
    record { eight = o.1 ∙ k.eight; rules = a.rules; each = o.0; enough = rw a.long k.enough }

idled_keeps : (ms : ℕ) (h : TinyHeld) → TinyKeeps h → TinyKeeps (record { slots = map (slot_idled ms) h.slots; storage = h.storage })
idled_keeps ms h k =
    record {
      eight = length-map h.slots (slot_idled ms) ∙ k.eight;
      rules = every_map slot_keeps_rules (slot_idled ms) (idled_rules ms) h.slots k.rules;
      each = pass_keeps tiny tiny_layout ms (slot_idled ms) (seat_idled ms) h.slots k.each;
      enough = k.enough;
    }

starts_keep : (h : TinyHeld) → TinyStarts h → TinyKeeps h
starts_keep h n = record { eight = rw n.new; rules = rw n.new; each = rw n.new; enough = n.enough }

pub tiny_keeps_places : TinyKeepsPlaces
tiny_keeps_places = record {
  eight = λ h k. length_view tiny_layout h.slots h.storage ∙ k.eight;
  each = λ h k. (one_each_view tiny_layout h.slots h.storage).0 k.each;
  starts_kept = starts_keep;
  starts_free = λ h n. ap (λ (l : List Slot). view tiny_layout l h.storage) n.new ∙ blank_view tiny_layout place_count h.storage;
  hears_kept = λ h t c o k r. subst⁻¹ TinyKeeps r.state (heard_keeps c h k);
  hears_seen = λ h t c o k r.
      ap (λ (x : TinyHeld). view tiny_layout x.slots x.storage) r.state ∙ (agrees c h.slots h.storage k.eight k.rules k.enough).shows.places;
  hears_told = λ h t c o k r. r.answer ∙ (agrees c h.slots h.storage k.eight k.rules k.enough).shows.answer;
  hears_some = λ h c k. ((tiny_heard c h).answer, (tiny_heard c h).held, record { state = refl; answer = refl });
  pauses_kept = λ h t ms n k r. subst⁻¹ TinyKeeps r.state (idled_keeps ms h k);
  pauses_seen = λ h t ms n k r.
      ap (λ (x : TinyHeld). view tiny_layout x.slots x.storage) r.state ∙ view_pass tiny tiny_layout ms (slot_idled ms) (seat_idled ms) h.slots h.storage;
  pauses_told = λ h t ms n k r. r.answer ∙ ap gives (view_closes tiny tiny_layout ms (slot_closes ms) (seat_closes ms) h.slots h.storage);
  pauses_some = λ h ms k. (
    gives (count (slot_closes ms) h.slots),
    record { slots = map (slot_idled ms) h.slots; storage = h.storage },
    record { state = refl; answer = refl },
  );
}
