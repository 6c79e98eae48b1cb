-- What a pause makes of places that keep their rules: it leaves places that keep them. And pauses add up.
-- Assumes nothing.
use Rattle.std.specs.Prelude.{Ok, Err, if◌then◌else◌}
use mathlib.Core.Path.{◌≡◌, refl, ◌∙◌}
use mathlib.Core.Bool.{true, false}
use mathlib.Core.List.{List, map}
use Prim.Native.Nat.{ℕ, ◌+◌, ◌<◌, ◌≤◌}
use native.Mathlib.Omega.{arith}
use borrow.Author.Tests.{le-leb, ltb-true, ltb-false, lt-ltb, le-ltb}
use Rattle.words.specs.Words.{given◌then◌, ◌<?◌, Told, refused, gives, Done, done}
use Rattle.words.specs.Lists.{every, count}
use Rattle.words.proofs.Words.{by_test, both_true, before_refusal}
use Rattle.words.proofs.Lists.{every_map}
use Rattle.words.proofs.Pauses.{standing, computed_add_up, map_sum, map_none, count_sum, count_none}
use Rattle.places.specs.Places.{rest}
use Rattle.places.specs.Places as Places
use Rattle.places.specs.Layout.{seat, one_each}
use Rattle.places.proofs.Receiver.{pass_keeps}
use Rattle.message.specs.LongMessage.{idle_limit}
use Rattle.message.specs.OneSender.{long_messages}
use Rattle.message.specs.Receiver.{free_place, is_free, layout, is_zero, place_keeps_rules, keeps_rules}
use Rattle.message.specs.Receiver.{closes, idled, paused_places, paused_answer}
use Rattle.message.specs.Promises.{Pausing, told_pausing}
use Rattle.message.specs.Calls.{Held, Pauses}
use Rattle.message.specs.Pauses.{pause_call, PausesAddUp}
use Rattle.message.specs.declared.Place.{Place}
use Rattle.message.specs.declared.BadState.TheVariants.{BrokenState}
use Rattle.message.proofs.Steps.{OpenRules, open_rules}

-- an open place that keeps its rules
pub rules_open : (p : Place) → is_free p ≡ false → OpenRules p → place_keeps_rules p ≡ true
unfolding place_keeps_rules
rules_open p f o =
    rw (
      f,
      le-leb _ _ o.named,
      le-leb _ _ o.long,
      le-leb _ _ o.short,
      le-leb _ _ o.about,
      le-leb _ _ o.fresh,
      le-leb _ _ o.begun,
      le-leb _ _ o.within,
    )

pub free_rules : place_keeps_rules free_place ≡ true
unfolding place_keeps_rules is_zero
free_rules = refl

-- a pause at one place

pub seat_idled : (ms : ℕ) (p : Place) (bytes : List ℕ)
    → seat layout (idled ms p) bytes ≡ rest long_messages ms (seat layout p bytes)
unfolding idled
seat_idled ms p bytes =
    by_test (is_free p)
    (λ f. rw f (rw f))
    (λ f. by_test (idle_limit <? p.idle + ms) (λ g. rw (f, g)) (λ g. rw (f, g) (rw f)))

pub seat_closes : (ms : ℕ) (p : Place) (bytes : List ℕ)
    → closes ms p ≡ Places.closes long_messages ms (seat layout p bytes)
unfolding closes
seat_closes ms p bytes =
    by_test (is_free p)
    (λ f. rw f)
    (λ f. by_test (idle_limit <? p.idle + ms) (λ g. rw (f, g)) (λ g. rw (f, g)))

pub idled_rules : (ms : ℕ) (p : Place) → place_keeps_rules p ≡ true → place_keeps_rules (idled ms p) ≡ true
unfolding idled
idled_rules ms p k =
    by_test (is_free p)
    (λ f. rw f k)
    (λ f. by_test (idle_limit <? p.idle + ms)
    (λ g. rw (f, g) free_rules)
    (λ g.
    let o = open_rules p f k in
    rw (f, g)
    (rules_open
    (record { sender = p.sender; length = p.length; dgn = p.dgn; expected = p.expected; idle = p.idle + ms }) f
    (record {
      named = o.named;
      long = o.long;
      short = o.short;
      about = o.about;
      fresh = ltb-false _ _ g;
      begun = o.begun;
      within = o.within;
    }))))

-- the rules, put together and taken apart

pub both_rules : (ps : List Place) → every place_keeps_rules ps ≡ true → one_each layout ps ≡ true → keeps_rules ps ≡ true
unfolding keeps_rules
both_rules ps e o = rw (e, o)

pub each_alone : (ps : List Place) → keeps_rules ps ≡ true → one_each layout ps ≡ true
unfolding keeps_rules
each_alone ps v = (both_true (every place_keeps_rules ps) _ v).1

pub all_rules : (ps : List Place) → keeps_rules ps ≡ true → every place_keeps_rules ps ≡ true
unfolding keeps_rules
all_rules ps v = (both_true (every place_keeps_rules ps) _ v).0

pub paused_places_lem : (ms : ℕ) (ps : List Place) → keeps_rules ps ≡ true → paused_places ms ps ≡ map (idled ms) ps
unfolding paused_places
paused_places_lem ms ps v = rw v

pub paused_count : (ms : ℕ) (ps : List Place) → keeps_rules ps ≡ true → paused_answer ms ps ≡ gives (count (closes ms) ps)
unfolding paused_answer
paused_count ms ps v = rw v

-- a pause leads from places that keep their rules to places that do
pub idled_keeps : (ms : ℕ) (ps : List Place) → keeps_rules ps ≡ true → keeps_rules (map (idled ms) ps) ≡ true
idled_keeps ms ps v =
    both_rules (map (idled ms) ps) (every_map place_keeps_rules (idled ms) (idled_rules ms) ps (all_rules ps v))
    (pass_keeps long_messages layout ms (idled ms) (seat_idled ms) ps (each_alone ps v))

-- ---- Pauses add up (specs/Pauses.antt).

-- one place, after a pause of a and one of b

module _ (a b : ℕ) (p : Place) where
  idled_sum : idled b (idled a p) ≡ idled (a + b) p
  unfolding idled
  idled_sum =
      by_test (is_free p)
      (λ f. rw f (rw f))
      (λ f. by_test (idle_limit <? p.idle + a)
      (λ g.
      let h : idle_limit < p.idle + (a + b) = omega (arith, ltb-true idle_limit (p.idle + a) g) in
      rw (f, g, lt-ltb _ _ h))
      (λ g. let z : p.idle + a + b ≡ p.idle + (a + b) = omega arith in rw (f, g) (rw (f, z))))

  closes_sum :
      (if closes a p then 1 else 0) + (if closes b (idled a p) then 1 else 0) ≡ (if closes (a + b) p then 1 else 0)
  unfolding closes idled
  closes_sum =
      by_test (is_free p)
      (λ f. rw f (rw f))
      (λ f. by_test (idle_limit <? p.idle + a)
      (λ g.
      let h : idle_limit < p.idle + (a + b) = omega (arith, ltb-true idle_limit (p.idle + a) g) in
      rw (f, g, lt-ltb _ _ h))
      (λ g. let z : p.idle + a + b ≡ p.idle + (a + b) = omega arith in rw (f, g) (rw (f, z) (omega arith))))

-- a pause of 0

idled_none : (p : Place) → place_keeps_rules p ≡ true → idled 0 p ≡ p
unfolding idled
idled_none p k =
    by_test (is_free p)
    (λ f. rw f)
    (λ f.
    let l : p.idle + 0 ≤ idle_limit = omega (arith, (open_rules p f k).fresh) in
    let z : p.idle + 0 ≡ p.idle = omega arith in
    rw (f, le-ltb _ _ l, z))

closes_none : (p : Place) → place_keeps_rules p ≡ true → closes 0 p ≡ false
unfolding closes
closes_none p k =
    by_test (is_free p)
    (λ f. rw f)
    (λ f. let l : p.idle + 0 ≤ idle_limit = omega (arith, (open_rules p f k).fresh) in rw (f, le-ltb _ _ l))

-- all places

module _ (s : Held) where
  abbrev ps : List Place
  ps = s.receiver.places

  abbrev verdict : Told Done
  verdict = if keeps_rules ps then gives done else refused 2

  abbrev next : ℕ → Held
  next ms = record { receiver = record { places = map (idled ms) ps }; storage = s.storage }

  told_so : (ms : ℕ) (t : Held) (told : Told ℕ) → Pauses s ms told t
      → told ≡ (given verdict then λ _. gives (count (closes ms) ps))
  unfolding paused_answer
  told_so ms t told p =
      p.told_so ∙ p.pause.answer ∙ by_test (keeps_rules ps) (λ k. rw k) (λ k. rw k)

  left_so : (ms : ℕ) (t : Held) (told : Told ℕ) → Pauses s ms told t → t ≡ standing verdict s (next ms)
  unfolding paused_places
  left_so ms t told p =
      let places = p.pause.places in
      let storage = p.storage_kept in
      let same : t ≡ record { receiver = record { places = paused_places ms ps }; storage = s.storage }
      = λ i. record { receiver = record { places = places i }; storage = storage i } in
      same ∙ by_test (keeps_rules ps) (λ k. rw k) (λ k. rw k)

  some : (ms : ℕ) → (told : Told ℕ) × (t : Held) × Pauses s ms told t
  unfolding paused_answer
  some ms =
      by_test (keeps_rules ps)
      (λ k. answers ms (Ok (count (closes ms) ps)) (rw k))
      (λ k. answers ms (Err BrokenState) (rw k))
    where
      answers : (ms : ℕ) (answer : Pausing) → told_pausing answer ≡ paused_answer ms ps
          → (told : Told ℕ) × (t : Held) × Pauses s ms told t
      answers ms answer e = (
        told_pausing answer,
        record { receiver = record { places = paused_places ms ps }; storage = s.storage },
        record { answer = answer; pause = record { places = refl; answer = e }; storage_kept = refl; told_so = refl },
      )

  unsound : verdict ≡ gives done → keeps_rules ps ≡ true
  unsound e = (before_refusal (keeps_rules ps) 2 (gives done) e).0

pub pauses_add_up : PausesAddUp
pauses_add_up = computed_add_up pause_call (record {
  verdict = verdict;
  next = λ ms s. next s ms;
  number = λ ms s. count (closes ms) (ps s);
  told_so = λ ms s t told p. told_so s ms t told p;
  left_so = λ ms s t told p. left_so s ms t told p;
  some = λ ms s. some s ms;
  sound = λ s k. rw k;
  unsound = unsound;
  next_keeps = λ ms s k. idled_keeps ms (ps s) k;
  next_none = λ s k.
      let same = map_none place_keeps_rules (idled 0) idled_none (ps s) (all_rules (ps s) k) in
      λ i. record { receiver = record { places = same i }; storage = s.storage };
  number_none = λ s k. count_none place_keeps_rules (closes 0) closes_none (ps s) (all_rules (ps s) k);
  next_sum = λ a b s k.
      let same = map_sum (idled a) (idled b) (idled (a + b)) (idled_sum a b) (ps s) in
      λ i. record { receiver = record { places = same i }; storage = s.storage };
  number_sum = λ a b s k. count_sum (idled a) (closes a) (closes b) (closes (a + b)) (closes_sum a b) (ps s);
})
