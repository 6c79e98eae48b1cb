-- The statements of specs/Statements.antt, proved for every format (OneStep is in Steps.antt).
-- Assumes nothing.
use Rattle.std.specs.Prelude.{if◌then◌else◌}
use mathlib.Core.Path.{◌≡◌, refl, sym, ap, ap₂, ◌∙◌}
use mathlib.Core.Bool.{Bool, true, false}
use mathlib.Core.List.{List, [], ◌∷◌, map}
use mathlib.Core.Logic.{◌≢◌}
use mathlib.Core.Option.{Option, some, none}
use Prim.Native.Nat.{ℕ, ◌+◌, ◌≤◌}
use native.Mathlib.Nat.{zero-add}
use native.Mathlib.Omega.{arith}
use borrow.Author.Tests.{eq-eqb, ne_eqb}
use lib.ListN.{length, length-map}
use Rattle.words.specs.Words.{◌=?◌}
use Rattle.words.specs.Lists.{count, Absent, Distinct}
use Rattle.words.proofs.Words.{by_test}
use Rattle.words.proofs.Lists.{absent_cons, absent_head, absent_tail, distinct_cons, distinct_head, distinct_tail}
use Rattle.places.specs.Format.{Asks, fixed, opens, finishes, feeds, Fed, goes, ends, Format, is_none, Event}
use Rattle.places.specs.Format.{frame, pause, step}
use Rattle.places.specs.OneKey.{fed_alone, packet_alone, asked_alone, hear_alone, pause_alone, closes_alone, solo}
use Rattle.places.specs.OneKey.{open_after}
use Rattle.places.specs.Places.{free, held, Out, full, said, heard, paused, lookup, keyed, update, any_free}
use Rattle.places.specs.Places.{keys_of, OnePlaceEach, place_count, Places, hears_opening, hears_whole, after_packet}
use Rattle.places.specs.Places.{hears_packet, asked, hear, rest, pass, closes, closed_by, eight_free, after, History}
use Rattle.places.specs.Places.{run, events_of, told_to, only, admitted, NeverFull, answered}
use Rattle.places.specs.Statements.{StepAgrees, PauseCloses, RunKeeps, on_busy_bus, AsRulesFrom, AsRulesFromAny}
use Rattle.places.specs.Statements.{OpenAsRules, ToldAsRules, BusyAsQuiet, EightOthersOpen, EightOthers}
use Rattle.places.specs.Statements.{is_opening, FullExactlyWhen, FullExactlyWhenAt, ClosesAsRules, Pausing, spaced}
use Rattle.places.specs.Statements.{spacing, SumsOfPauses, AllKept, PausesAdd}
use Rattle.places.proofs.Places.{by_equal, some_none, absent_lookup, lookup_absent, update_other, update_each}
use Rattle.places.proofs.Places.{freed_holders, holders_below, holders_full, full_holders}
use Rattle.places.proofs.Steps.{said_full, no_place, one_step, pass_lookup, pass_each, closed_count}

said_same : {A : Type 0} {a b : A} → said a ≡ said b → a ≡ b
said_same e = cc

count_same : {f g : ℕ → Bool} → ((k : ℕ) → f k ≡ g k) → (ks : List ℕ) → count f ks ≡ count g ks
count_same e [] = refl
count_same e (k ∷ ks) = rw (e k, count_same e ks)

module _ (𝓕 : Format) where
  pub pause_closes : PauseCloses 𝓕
  pause_closes ms ps u = record { session = λ k. pass_lookup 𝓕 k ms ps u; closed = closed_count 𝓕 ms ps u }

  pub run_keeps : RunKeeps 𝓕
  run_keeps ps [] u = (refl, u)
  run_keeps ps (frame f ∷ es) u =
      let t = one_step 𝓕 f ps u in
      let r = run_keeps (hear 𝓕 f ps).next es t.one_each in
      (r.0 ∙ t.as_many, r.1)
  run_keeps ps (pause ms ∷ es) u =
      let r = run_keeps (pass 𝓕 ms ps) es (pass_each 𝓕 ms ps u) in
      (r.0 ∙ length-map ps (rest 𝓕 ms), r.1)

  -- one frame, by its answer: where it found no place nothing happened, and where it is another key's nothing happened to k
  frame_as_rules : (k : ℕ) (f : 𝓕.Frame) (o : Out 𝓕.Answer) (ps next : Places 𝓕) (es : List (Event 𝓕.Frame))
      → StepAgrees (𝓕.key f) ps (step next o) (hear_alone 𝓕 f (lookup (𝓕.key f) ps)) → AsRulesFrom 𝓕 next k es
      → (lookup k (after 𝓕 next es) ≡ open_after 𝓕 (lookup k ps) (admitted 𝓕 k (heard f o ∷ run 𝓕 next es)))
      × (answered (told_to 𝓕 k (heard f o ∷ run 𝓕 next es)) ≡ solo 𝓕 (lookup k ps) (admitted 𝓕 k (heard f o ∷ run 𝓕 next es)))
  frame_as_rules k f full ps next es t later =
      let own = admitted 𝓕 k (run 𝓕 next es) in
      let same : lookup k next ≡ lookup k ps = ap (lookup k) (t.full_keeps refl) in
      let told : answered (told_to 𝓕 k (run 𝓕 next es)) ≡ solo 𝓕 (lookup k ps) own = later.told_as_rules ∙ ap (λ m. solo 𝓕 m own) same in (
        later.open_as_rules ∙ ap (λ m. open_after 𝓕 m own) same,
        by_test (𝓕.key f =? k) (λ e. rw e told) (λ e. rw e told),
      )
  frame_as_rules k f (said a) ps next es t later =
      let own = admitted 𝓕 k (run 𝓕 next es) in
      by_equal (𝓕.key f) k
      (λ e.
      let n : said a ≢ full = λ p. said_full p in
      let x : a ≡ (hear_alone 𝓕 f (lookup k ps)).answer = said_same (t.answered n) ∙ ap (λ j. (hear_alone 𝓕 f (lookup j ps)).answer) e in
      let y : lookup k next ≡ (hear_alone 𝓕 f (lookup k ps)).next =
      ap (λ j. lookup j next) (sym e) ∙ t.session n ∙ ap (λ j. (hear_alone 𝓕 f (lookup j ps)).next) e in
      rw (eq-eqb (𝓕.key f) k e) (
        later.open_as_rules ∙ ap (λ m. open_after 𝓕 m own) y,
        ap₂ (λ b l. b ∷ l) x (later.told_as_rules ∙ ap (λ m. solo 𝓕 m own) y),
      ))
      (λ n.
      let same : lookup k next ≡ lookup k ps = t.others k (λ e. n (sym e)) in
      rw (ne_eqb (𝓕.key f) k n) (
        later.open_as_rules ∙ ap (λ m. open_after 𝓕 m own) same,
        later.told_as_rules ∙ ap (λ m. solo 𝓕 m own) same,
      ))

  pub as_rules_from_any : AsRulesFromAny 𝓕
  as_rules_from_any ps k [] u = record { open_as_rules = refl; told_as_rules = refl }
  as_rules_from_any ps k (frame f ∷ es) u =
      let t = one_step 𝓕 f ps u in
      let r = frame_as_rules k f (hear 𝓕 f ps).answer ps (hear 𝓕 f ps).next es t (as_rules_from_any (hear 𝓕 f ps).next k es t.one_each) in
      record { open_as_rules = r.0; told_as_rules = r.1 }
  as_rules_from_any ps k (pause ms ∷ es) u =
      let r = as_rules_from_any (pass 𝓕 ms ps) k es (pass_each 𝓕 ms ps u) in
      let own = admitted 𝓕 k (run 𝓕 (pass 𝓕 ms ps) es) in
      let e = pass_lookup 𝓕 k ms ps u in
      record {
        open_as_rules = r.open_as_rules ∙ ap (λ m. open_after 𝓕 m own) e;
        told_as_rules = r.told_as_rules ∙ ap (λ m. solo 𝓕 m own) e;
      }

  pub open_as_rules : OpenAsRules 𝓕
  open_as_rules k events = (as_rules_from_any (eight_free 𝓕) k events refl).open_as_rules

  pub told_as_rules : ToldAsRules 𝓕
  told_as_rules k events = (as_rules_from_any (eight_free 𝓕) k events refl).told_as_rules

  -- a busy bus: a key that never found all places held has all its frames admitted

  pub never_full_answered : (os : List (Out 𝓕.Answer)) → NeverFull os → os ≡ map said (answered os)
  never_full_answered [] n = refl
  never_full_answered (full ∷ os) n = absurd n
  never_full_answered (said a ∷ os) n = ap (λ l. said a ∷ l) (never_full_answered os n)

  pub never_full_admitted : (k : ℕ) (h : History 𝓕) → NeverFull (told_to 𝓕 k h) → admitted 𝓕 k h ≡ only 𝓕 k (events_of 𝓕 h)
  never_full_admitted k [] n = refl
  never_full_admitted k (heard f full ∷ h) n =
      by_test (𝓕.key f =? k)
      (λ e. let z : ⊥ = rw e at n in absurd z)
      (λ e. rw e (never_full_admitted k h (rw e at n)))
  never_full_admitted k (heard f (said a) ∷ h) n =
      by_test (𝓕.key f =? k)
      (λ e. rw e (ap (λ l. frame f ∷ l) (never_full_admitted k h (rw e at n))))
      (λ e. rw e (never_full_admitted k h (rw e at n)))
  never_full_admitted k (paused ms told ∷ h) n = ap (λ l. pause ms ∷ l) (never_full_admitted k h n)

  -- what happened in a run are its events
  pub events_run : (ps : Places 𝓕) (events : List (Event 𝓕.Frame)) → events_of 𝓕 (run 𝓕 ps events) ≡ events
  events_run ps [] = refl
  events_run ps (frame f ∷ es) = ap (λ l. frame f ∷ l) (events_run (hear 𝓕 f ps).next es)
  events_run ps (pause ms ∷ es) = ap (λ l. pause ms ∷ l) (events_run (pass 𝓕 ms ps) es)

  pub busy_as_quiet : BusyAsQuiet 𝓕
  busy_as_quiet k events n =
      let h = on_busy_bus 𝓕 events in
      never_full_answered (told_to 𝓕 k h) n
      ∙ ap (map said) (told_as_rules k events ∙ ap (solo 𝓕 none) (never_full_admitted k h n ∙ ap (only 𝓕 k) (events_run (eight_free 𝓕) events)))

  -- full exactly when

  others_of : (k : ℕ) (ps : Places 𝓕) → length ps ≡ place_count → OnePlaceEach ps → lookup k ps ≡ none → any_free ps ≡ false → EightOthers k ps
  others_of k ps h u e f =
      let apart = distinct_cons k (keys_of ps) (lookup_absent k ps e) u in
      record { places = h; holders = full_holders ps f ∙ h; different = apart }

  others_full : (k : ℕ) (ps : Places 𝓕) → EightOthers k ps → (lookup k ps ≡ none) × (any_free ps ≡ false)
  others_full k ps o = (
    absent_lookup k ps (distinct_head k (keys_of ps) o.different),
    holders_full ps (o.holders ∙ sym o.places),
  )

  full_opening : (k : ℕ) (s : 𝓕.Session) (a : 𝓕.Answer) (ps : Places 𝓕) (m : Option 𝓕.Session)
      → (hears_opening 𝓕 k s a ps m).answer ≡ full
      → (m ≡ none) × (any_free ps ≡ false)
  full_opening k s a ps none h = by_test (any_free ps) (λ f. said_full (rw f at h)) (λ f. (refl, f))
  full_opening k s a ps (some t) h = said_full h

  full_whole : (k : ℕ) (a : 𝓕.Answer) (ps : Places 𝓕) (m : Option 𝓕.Session) → (hears_whole 𝓕 k a ps m).answer ≡ full
      → (m ≡ none) × (any_free ps ≡ false)
  full_whole k a ps none h = by_test (any_free ps) (λ f. said_full (rw f at h)) (λ f. (refl, f))
  full_whole k a ps (some t) h = said_full h

  not_after_packet : (k : ℕ) (ps : Places 𝓕) (r : Fed 𝓕.Session 𝓕.Answer) → (after_packet 𝓕 k ps r).answer ≢ full
  not_after_packet k ps (goes s a) h = said_full h
  not_after_packet k ps (ends a) h = said_full h

  not_packet : (k : ℕ) (d : 𝓕.Data) (a : 𝓕.Answer) (ps : Places 𝓕) (m : Option 𝓕.Session)
      → (hears_packet 𝓕 k d a ps m).answer ≢ full
  not_packet k d a ps none h = said_full h
  not_packet k d a ps (some s) h = not_after_packet k ps (𝓕.feed s d) h

  full_asked : (k : ℕ) (q : Asks 𝓕.Session 𝓕.Data 𝓕.Answer) (ps : Places 𝓕) → (asked 𝓕 k q ps).answer ≡ full
      → (is_opening q ≡ true) × (lookup k ps ≡ none) × (any_free ps ≡ false)
  full_asked k (fixed a) ps h = said_full h
  full_asked k (opens s a) ps h = let r = full_opening k s a ps (lookup k ps) h in (refl, r.0, r.1)
  full_asked k (finishes a) ps h = let r = full_whole k a ps (lookup k ps) h in (refl, r.0, r.1)
  full_asked k (feeds d a) ps h = absurd (not_packet k d a ps (lookup k ps) h)

  pub full_exactly_when_at : FullExactlyWhenAt 𝓕
  full_exactly_when_at ps f h u = (
    (λ e. let r = full_asked (𝓕.key f) (𝓕.asks f) ps e in (r.0, others_of (𝓕.key f) ps h u r.1 r.2)),
    (λ r. let o = others_full (𝓕.key f) ps r.1 in ap (λ t. t.answer) (no_place 𝓕 (𝓕.key f) (𝓕.asks f) ps r.0 o.0 o.1)),
  )

  -- as many different keys as the rules have open hold places
  holders_cover : (ps : Places 𝓕) (others : List ℕ) → OnePlaceEach ps → Distinct others → ((j : ℕ) → lookup j ps ≡ none → Absent j others)
      → length others ≤ length (keys_of ps)
  holders_cover ps [] u d c = omega arith
  holders_cover ps (j ∷ js) u d c = go (λ rest v e. holders_cover rest js v (distinct_tail j js d) e) (lookup j ps) refl
    where
      go : ((rest : Places 𝓕) → OnePlaceEach rest → ((i : ℕ) → lookup i rest ≡ none → Absent i js) → length js ≤ length (keys_of rest))
          → (m : Option 𝓕.Session) → lookup j ps ≡ m → length (j ∷ js) ≤ length (keys_of ps)
      go later none e = absurd (absent_head j j js (c j e) refl)
      go later (some s) e =
          let rest = update j none ps in
          let covers : (i : ℕ) → lookup i rest ≡ none → Absent i js = λ i f.
          by_equal i j
          (λ x. rw x (distinct_head j js d))
          (λ n. absent_tail i j js (c i (sym (update_other i j none ps (λ x. n (sym x))) ∙ f)))
          in
          omega (arith, later rest (update_each j none ps u) covers, freed_holders j s ps e)

  -- where eight others have a session, k has none, and the eight are all that hold places
  others_hold : (k : ℕ) (ps : Places 𝓕) (others : List ℕ) → length ps ≡ place_count → OnePlaceEach ps → length others ≡ place_count
      → Distinct (k ∷ others) → ((j : ℕ) → lookup j ps ≡ none → Absent j others) → EightOthers k ps
  others_hold k ps others h u n d c = go (lookup k ps) refl
    where
      go : (m : Option 𝓕.Session) → lookup k ps ≡ m → EightOthers k ps
      go none e =
          let all = holders_cover ps others u (distinct_tail k others d) c in
          let apart = distinct_cons k (keys_of ps) (lookup_absent k ps e) u in
          record { places = h; holders = omega (arith, all, holders_below ps); different = apart }
      go (some s) e =
          let covers : (j : ℕ) → lookup j ps ≡ none → Absent j (k ∷ others) = λ j f.
          absent_cons j k others (λ x. some_none (sym e ∙ ap (λ i. lookup i ps) (sym x) ∙ f)) (c j f)
          in
          absurd (omega (arith, holders_cover ps (k ∷ others) u d covers, holders_below ps))

  -- eight others that the rules have open hold the eight places
  eight_hold : (k : ℕ) (events : List (Event 𝓕.Frame)) → EightOthersOpen 𝓕 k (on_busy_bus 𝓕 events) → EightOthers k (after 𝓕 (eight_free 𝓕) events)
  eight_hold k events o =
      let r = run_keeps (eight_free 𝓕) events refl in
      others_hold k (after 𝓕 (eight_free 𝓕) events) o.others r.0 r.1 o.eight o.different
      (λ j n. o.all_open j (sym (open_as_rules j events) ∙ n))

  -- and the other way round
  eight_open : (k : ℕ) (events : List (Event 𝓕.Frame)) → EightOthers k (after 𝓕 (eight_free 𝓕) events) → EightOthersOpen 𝓕 k (on_busy_bus 𝓕 events)
  eight_open k events o =
      let ps = after 𝓕 (eight_free 𝓕) events in
      record {
        others = keys_of ps;
        eight = o.holders;
        different = o.different;
        all_open = λ j n. lookup_absent j ps (open_as_rules j events ∙ n);
      }

  pub full_exactly_when : FullExactlyWhen 𝓕
  full_exactly_when events f =
      let r = run_keeps (eight_free 𝓕) events refl in
      let i = full_exactly_when_at (after 𝓕 (eight_free 𝓕) events) f r.0 r.1 in (
        (λ e. let o = i.0 e in (o.0, eight_open (𝓕.key f) events o.1)),
        (λ e. i.1 (e.0, eight_hold (𝓕.key f) events e.1)),
      )

  pub closes_as_rules : ClosesAsRules 𝓕
  closes_as_rules ms events =
      let ps = after 𝓕 (eight_free 𝓕) events in
      let u = (run_keeps (eight_free 𝓕) events refl).1 in
      record {
        keys = keys_of ps;
        different = u;
        exactly = λ k. ((λ a. sym (open_as_rules k events) ∙ absent_lookup k ps a), (λ e. lookup_absent k ps (open_as_rules k events ∙ e)));
        number = closed_count 𝓕 ms ps u ∙ count_same (λ k. ap (closes_alone 𝓕 ms) (open_as_rules k events)) (keys_of ps);
      }

module _ (𝓕 : Format) (𝓟 : Pausing 𝓕) where
  -- the machine of one key over frames with the sums of the pauses before them
  abbrev solo_spaced : Option 𝓕.Session → List (ℕ × 𝓕.Frame) → List 𝓕.Answer
  solo_spaced m [] = []
  solo_spaced m (r ∷ rs) = (hear_alone 𝓕 r.1 (pause_alone 𝓕 r.0 m)).answer ∷ solo_spaced (hear_alone 𝓕 r.1 (pause_alone 𝓕 r.0 m)).next rs

  abbrev KeptIf : Option 𝓕.Session → Type 0
  KeptIf none = Unit {0}
  KeptIf (some s) = 𝓟.Kept s

  pause_zero : (m : Option 𝓕.Session) → KeptIf m → pause_alone 𝓕 0 m ≡ m
  pause_zero none h = refl
  pause_zero (some s) h = 𝓟.wait_zero s h

  pause_more : (m : Option 𝓕.Session) (a b : ℕ) → KeptIf m → pause_alone 𝓕 b (pause_alone 𝓕 a m) ≡ pause_alone 𝓕 (a + b) m
  pause_more none a b h = refl
  pause_more (some s) a b h = 𝓟.wait_more s a b h

  kept_waited : (s : 𝓕.Session) (ms : ℕ) (m : Option 𝓕.Session) → 𝓟.Kept s → 𝓕.wait ms s ≡ m → KeptIf m
  kept_waited s ms none h e = tt
  kept_waited s ms (some t) h e = 𝓟.wait_kept s t ms h e

  kept_paused : (m : Option 𝓕.Session) (ms : ℕ) → KeptIf m → KeptIf (pause_alone 𝓕 ms m)
  kept_paused none ms h = tt
  kept_paused (some s) ms h = kept_waited s ms (𝓕.wait ms s) h refl

  kept_fed : (s : 𝓕.Session) (d : 𝓕.Data) (r : Fed 𝓕.Session 𝓕.Answer) → 𝓟.Kept s → 𝓕.feed s d ≡ r → KeptIf (fed_alone 𝓕 r).next
  kept_fed s d (goes t a) h e = 𝓟.feed_kept s t d a h e
  kept_fed s d (ends a) h e = tt

  kept_packet : (d : 𝓕.Data) (a : 𝓕.Answer) (m : Option 𝓕.Session) → KeptIf m → KeptIf (packet_alone 𝓕 d a m).next
  kept_packet d a none h = tt
  kept_packet d a (some s) h = kept_fed s d (𝓕.feed s d) h refl

  kept_asked : (f : 𝓕.Frame) (q : Asks 𝓕.Session 𝓕.Data 𝓕.Answer) (m : Option 𝓕.Session) → 𝓕.asks f ≡ q → KeptIf m
      → KeptIf (asked_alone 𝓕 q m).next
  kept_asked f (fixed a) m e h = h
  kept_asked f (opens s a) m e h = 𝓟.opens_kept f s a e
  kept_asked f (finishes a) m e h = tt
  kept_asked f (feeds d a) m e h = kept_packet d a m h

  solo_spaced_lem : (m : Option 𝓕.Session) (sum : ℕ) (es : List (Event 𝓕.Frame)) → KeptIf m
      → solo 𝓕 (pause_alone 𝓕 sum m) es ≡ solo_spaced m (spaced sum es)
  solo_spaced_lem m sum [] h = refl
  solo_spaced_lem m sum (frame f ∷ es) h =
      let n = pause_alone 𝓕 sum m in
      let next = (hear_alone 𝓕 f n).next in
      let h' : KeptIf next = kept_asked f (𝓕.asks f) n refl (kept_paused m sum h) in
      ap (λ l. (hear_alone 𝓕 f n).answer ∷ l) (ap (λ x. solo 𝓕 x es) (sym (pause_zero next h')) ∙ solo_spaced_lem next 0 es h')
  solo_spaced_lem m sum (pause ms ∷ es) h = ap (λ x. solo 𝓕 x es) (pause_more m sum ms h) ∙ solo_spaced_lem m (sum + ms) es h

  solo_spacing : (es : List (Event 𝓕.Frame)) → solo 𝓕 none es ≡ solo_spaced none (spacing es)
  solo_spacing [] = refl
  solo_spacing (frame f ∷ es) = solo_spaced_lem none 0 (frame f ∷ es) tt
  solo_spacing (pause ms ∷ es) = solo_spacing es

  -- frames with the same sums of pauses between them are told the same
  pub solo_sums : (es es' : List (Event 𝓕.Frame)) → spacing es ≡ spacing es' → solo 𝓕 none es ≡ solo 𝓕 none es'
  solo_sums es es' e = solo_spacing es ∙ ap (solo_spaced none) e ∙ sym (solo_spacing es')

  -- pauses of all places

  pass_zero : (ps : Places 𝓕) → AllKept 𝓟.Kept ps → (pass 𝓕 0 ps ≡ ps) × (closed_by 𝓕 0 ps ≡ 0)
  pass_zero [] h = (refl, refl)
  pass_zero (free ∷ ps) h = let r = pass_zero ps h in (ap (λ l. free ∷ l) r.0, zero-add _ ∙ r.1)
  pass_zero (held k s ∷ ps) h =
      let r = pass_zero ps h.1 in
      rw (𝓟.wait_zero s h.0) (ap (λ l. held k s ∷ l) r.0, zero-add _ ∙ r.1)

  rest_keyed : (k b : ℕ) (m : Option 𝓕.Session) → rest 𝓕 b (keyed k m) ≡ keyed k (pause_alone 𝓕 b m)
  rest_keyed k b none = refl
  rest_keyed k b (some s) = refl

  pass_more : (a b : ℕ) (ps : Places 𝓕) → AllKept 𝓟.Kept ps → pass 𝓕 b (pass 𝓕 a ps) ≡ pass 𝓕 (a + b) ps
  pass_more a b [] h = refl
  pass_more a b (free ∷ ps) h = ap (λ l. free ∷ l) (pass_more a b ps h)
  pass_more a b (held k s ∷ ps) h =
      ap₂ (λ p l. p ∷ l) (rest_keyed k b (𝓕.wait a s) ∙ ap (keyed k) (𝓟.wait_more s a b h.0)) (pass_more a b ps h.1)

  -- a session closes in the first pause or in the second
  abbrev one : Bool → ℕ
  one b = if b then 1 else 0

  closes_more : (k b : ℕ) (m : Option 𝓕.Session) → one (is_none m) + one (closes 𝓕 b (keyed k m)) ≡ one (is_none (pause_alone 𝓕 b m))
  closes_more k b none = refl
  closes_more k b (some s) = zero-add _

  closed_more : (a b : ℕ) (ps : Places 𝓕) → AllKept 𝓟.Kept ps → closed_by 𝓕 a ps + closed_by 𝓕 b (pass 𝓕 a ps) ≡ closed_by 𝓕 (a + b) ps
  closed_more a b [] h = refl
  closed_more a b (free ∷ ps) h = omega (arith, closed_more a b ps h)
  closed_more a b (held k s ∷ ps) h =
      let e = closes_more k b (𝓕.wait a s) ∙ ap (λ m. one (is_none m)) (𝓟.wait_more s a b h.0) in
      omega (arith, e, closed_more a b ps h.1)

  pub pauses_add : PausesAdd 𝓕 𝓟
  pauses_add a b ps h =
      let z = pass_zero ps h in
      record { zero_keeps = z.0; zero_closes = z.1; sum = pass_more a b ps h; closed = closed_more a b ps h }

pub sums_of_pauses : (𝓕 : Format) → SumsOfPauses 𝓕
sums_of_pauses 𝓕 𝓟 k es es' e =
    told_as_rules 𝓕 k es
    ∙ solo_sums 𝓕 𝓟 (admitted 𝓕 k (on_busy_bus 𝓕 es)) (admitted 𝓕 k (on_busy_bus 𝓕 es')) e
    ∙ sym (told_as_rules 𝓕 k es')
