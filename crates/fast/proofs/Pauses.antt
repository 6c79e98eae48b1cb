-- The pauses of fast packets add up (specs/Pauses.antt): at one place, and at all eight.
-- Assumes nothing.
use Rattle.std.specs.Prelude.{Ok, Err}
use Rattle.std.specs.Prelude.{if◌then◌else◌}
use mathlib.Core.Path.{◌≡◌, refl, ◌∙◌}
use mathlib.Core.Bool.{true, false}
use mathlib.Core.List.{List, map}
use Prim.Native.Nat.{ℕ, ◌+◌, ◌<◌, ◌≤◌}
use native.Mathlib.Omega.{arith}
use borrow.Author.Tests.{ltb-true, lt-ltb, le-ltb}
use Rattle.words.specs.Words.{given◌then◌, ◌<?◌, Told, refused, gives, Done, done}
use Rattle.words.specs.Lists.{every, count}
use Rattle.words.proofs.Words.{by_test, before_refusal}
use Rattle.words.proofs.Pauses.{standing, computed_add_up, map_sum, map_none, count_sum, count_none}
use Rattle.fast.specs.FastPacket.{idle_limit}
use Rattle.fast.specs.Receiver.{is_free, names_of, place_keeps_rules, keeps_rules, holding, closes, idled, paused_state}
use Rattle.fast.specs.Receiver.{paused_answer}
use Rattle.fast.specs.Promises.{Pausing, told_pausing}
use Rattle.fast.specs.Calls.{Held, Pauses}
use Rattle.fast.specs.Pauses.{pause_call, PausesAddUp}
use Rattle.fast.specs.declared.Place.{Place}
use Rattle.fast.specs.declared.Receiver.{Receiver}
use Rattle.fast.specs.declared.BadState.TheVariants.{BrokenState}
use Rattle.fast.proofs.Steps.{rules_of, open_rules}
use Rattle.fast.proofs.KeepsPlaces.{idled_keeps}

-- one place, after a pause of a and one of b

module _ (a b : ℕ) (p : Place) where
  idled_sum : idled b (idled a p) ≡ idled (a + b) p
  unfolding idled
  idled_sum =
      by_test (is_free p)
      (λ f. rw f (rw f))
      (λ f. by_test (idle_limit <? p.idle + a)
      (λ g.
      let h : idle_limit < p.idle + (a + b) = omega (arith, ltb-true idle_limit (p.idle + a) g) in
      rw (f, g, lt-ltb _ _ h))
      (λ g. let z : p.idle + a + b ≡ p.idle + (a + b) = omega arith in rw (f, g) (rw (f, z))))

  closes_sum :
      (if closes a p then 1 else 0) + (if closes b (idled a p) then 1 else 0) ≡ (if closes (a + b) p then 1 else 0)
  unfolding closes idled
  closes_sum =
      by_test (is_free p)
      (λ f. rw f (rw f))
      (λ f. by_test (idle_limit <? p.idle + a)
      (λ g.
      let h : idle_limit < p.idle + (a + b) = omega (arith, ltb-true idle_limit (p.idle + a) g) in
      rw (f, g, lt-ltb _ _ h))
      (λ g. let z : p.idle + a + b ≡ p.idle + (a + b) = omega arith in rw (f, g) (rw (f, z) (omega arith))))

-- a pause of 0

module _ (names : List ℕ) (p : Place) (k : place_keeps_rules names p ≡ true) where
  idled_none : idled 0 p ≡ p
  unfolding idled
  idled_none =
      by_test (is_free p)
      (λ f. rw f)
      (λ f.
      let l : p.idle + 0 ≤ idle_limit = omega (arith, (open_rules names p f k).fresh) in
      let z : p.idle + 0 ≡ p.idle = omega arith in
      rw (f, le-ltb _ _ l, z))

  closes_none : closes 0 p ≡ false
  unfolding closes
  closes_none =
      by_test (is_free p)
      (λ f. rw f)
      (λ f. let l : p.idle + 0 ≤ idle_limit = omega (arith, (open_rules names p f k).fresh) in rw (f, le-ltb _ _ l))

-- all places

module _ (s : Held) where
  abbrev r : Receiver
  r = s.receiver

  abbrev verdict : Told Done
  verdict = if keeps_rules r then gives done else refused 2

  abbrev next : ℕ → Held
  next ms = record { receiver = holding r (map (idled ms) r.places); storage = s.storage }

  told_so : (ms : ℕ) (t : Held) (told : Told ℕ) → Pauses s ms told t
      → told ≡ (given verdict then λ _. gives (count (closes ms) r.places))
  unfolding paused_answer
  told_so ms t told p = p.told_so ∙ p.pause.answer ∙ by_test (keeps_rules r) (λ k. rw k) (λ k. rw k)

  left_so : (ms : ℕ) (t : Held) (told : Told ℕ) → Pauses s ms told t → t ≡ standing verdict s (next ms)
  unfolding paused_state
  left_so ms t told p =
      let after = p.pause.after in
      let storage = p.storage_kept in
      let same : t ≡ record { receiver = paused_state ms r; storage = s.storage }
      = λ i. record { receiver = after i; storage = storage i } in
      same ∙ by_test (keeps_rules r) (λ k. rw k) (λ k. rw k)

  some : (ms : ℕ) → (told : Told ℕ) × (t : Held) × Pauses s ms told t
  unfolding paused_answer
  some ms =
      by_test (keeps_rules r)
      (λ k. answers ms (Ok (count (closes ms) r.places)) (rw k))
      (λ k. answers ms (Err BrokenState) (rw k))
    where
      answers : (ms : ℕ) (answer : Pausing) → told_pausing answer ≡ paused_answer ms r
          → (told : Told ℕ) × (t : Held) × Pauses s ms told t
      answers ms answer e = (
        told_pausing answer,
        record { receiver = paused_state ms r; storage = s.storage },
        record { answer = answer; pause = record { after = refl; answer = e }; storage_kept = refl; told_so = refl },
      )

  unsound : verdict ≡ gives done → keeps_rules r ≡ true
  unsound e = (before_refusal (keeps_rules r) 2 (gives done) e).0

  each_keeps : keeps_rules r ≡ true → every (place_keeps_rules (names_of r)) r.places ≡ true
  each_keeps k = (rules_of r k).each

pub pauses_add_up : PausesAddUp
pauses_add_up = computed_add_up pause_call (record {
  verdict = verdict;
  next = λ ms s. next s ms;
  number = λ ms s. count (closes ms) s.receiver.places;
  told_so = λ ms s t told p. told_so s ms t told p;
  left_so = λ ms s t told p. left_so s ms t told p;
  some = λ ms s. some s ms;
  sound = λ s k. rw k;
  unsound = unsound;
  next_keeps = λ ms s k. idled_keeps ms s.receiver k;
  next_none = λ s k.
      let names = names_of s.receiver in
      let same = map_none (place_keeps_rules names) (idled 0) (idled_none names) s.receiver.places (each_keeps s k) in
      λ i. record { receiver = holding s.receiver (same i); storage = s.storage };
  number_none = λ s k.
      let names = names_of s.receiver in
      count_none (place_keeps_rules names) (closes 0) (closes_none names) s.receiver.places (each_keeps s k);
  next_sum = λ a b s k.
      let same = map_sum (idled a) (idled b) (idled (a + b)) (idled_sum a b) s.receiver.places in
      λ i. record { receiver = holding s.receiver (same i); storage = s.storage };
  number_sum = λ a b s k.
      count_sum (idled a) (closes a) (closes b) (closes (a + b)) (closes_sum a b) s.receiver.places;
})
