-- A frame, case by case: what each definition leaves where its tests are known.
-- Assumes nothing.
use Rattle.std.specs.Prelude.{Option, Some, None}
use mathlib.Core.Path.{◌≡◌, refl, ap, ◌∙◌}
use mathlib.Core.Bool.{Bool, true, false, not}
use mathlib.Core.List.{List}
use Prim.Native.Nat.{ℕ, ◌+◌, ◌<◌, ◌≤◌}
use native.Mathlib.Omega.{arith}
use borrow.Author.Tests.{leb-true, eqb-true, eqb-false, not-true, eq-eqb, ne_eqb, lt-ltb, le-ltb}
use lib.ListN.{length, get_or, set}
use Rattle.words.specs.Words.{◌≤?◌, ◌=?◌, refused, gives}
use Rattle.words.specs.Lists.{every, first}
use Rattle.frame.specs.Identifier.{greatest_dgn}
use Rattle.words.proofs.Words.{both_true, by_test}
use Rattle.words.proofs.Lists.{found_at, every_at}
use Rattle.frame.specs.Standard.{greatest_address}
use Rattle.places.specs.Telling.{stored, finished}
use Rattle.message.specs.LongMessage.{shortest, longest, packets_of, idle_limit, meaning_of}
use Rattle.message.specs.Receiver.{room, free_place, is_free, is_open_by, place_keeps_rules}
use Rattle.message.specs.Receiver.{keeps_rules, whole_at, After, leaves}
use Rattle.message.specs.Receiver.{place_for, opened_at, hears_announcement, kept_at, expecting, advanced, packet_at}
use Rattle.message.specs.Receiver.{carries, by_meaning, heard}
use Rattle.message.specs.Private.{Live}
use Rattle.message.specs.declared.Place.{Place}

-- an announcement

pub found_below : (f : Place → Bool) (ps : List Place) (j : ℕ) → length ps ≡ 8 → first f ps ≡ Some j → j < 8
found_below f ps j h e = omega (arith, (found_at j f ps free_place e).below)

pub place_for_below : (sender : ℕ) (ps : List Place) (j : ℕ) → length ps ≡ 8 → place_for sender ps ≡ Some j → j < 8
unfolding place_for
place_for_below sender ps j h e = go (first (is_open_by sender) ps) refl
  where
    go : (f : Option ℕ) → first (is_open_by sender) ps ≡ f → j < 8
    go (Some i) k = let z : Some i ≡ Some j = rw k at e in found_below (is_open_by sender) ps j h (k ∙ z)
    go None k = found_below is_free ps j h (rw k at e)

module _ (sender size dgn : ℕ) (ps : List Place) (s : List ℕ) where
  pub announcing_at : (i : ℕ) → place_for sender ps ≡ Some i
      → hears_announcement sender size dgn ps s
      ≡ opened_at (Some i) (record { sender = sender; length = size; dgn = dgn; expected = 1; idle = 0 }) ps s
  unfolding hears_announcement
  announcing_at i e = rw e

  pub announcing_nowhere : place_for sender ps ≡ None
      → hears_announcement sender size dgn ps s ≡ leaves ps s (refused 8)
  unfolding hears_announcement
  announcing_nowhere e = rw e

-- a packet

module _ (i : ℕ) (p : Place) (ps : List Place) (s : List ℕ) where
  pub advanced_last : p.expected ≡ packets_of p.length
      → advanced i p ps s ≡ leaves (set ps i free_place) s (gives (finished (whole_at i p)))
  unfolding advanced
  advanced_last e = rw (eq-eqb _ _ e)

  pub advanced_next : (p.expected ≡ packets_of p.length → ⊥) → advanced i p ps s ≡ leaves (set ps i (expecting (p.expected + 1) p)) s (gives stored)
  unfolding advanced
  advanced_next n = rw (ne_eqb _ _ n)

  pub packet_expected : (n : ℕ) (bytes : List ℕ) → n ≡ p.expected → packet_at i p n bytes ps s ≡ advanced i p ps (kept_at i p bytes s)
  unfolding packet_at
  packet_expected n bytes e = rw (eq-eqb _ _ e)

  pub packet_other : (n : ℕ) (bytes : List ℕ) → (n ≡ p.expected → ⊥) → packet_at i p n bytes ps s ≡ leaves (set ps i free_place) s (refused 10)
  unfolding packet_at
  packet_other n bytes e = rw (ne_eqb _ _ e)

  -- whether or not it is the last, the storage stays as it was handed on
  pub advanced_storage : (advanced i p ps s).storage ≡ s
  advanced_storage =
      by_test (p.expected =? packets_of p.length)
      (λ t. ap (λ (a : After). a.storage) (advanced_last (eqb-true p.expected (packets_of p.length) t)))
      (λ t. ap (λ (a : After). a.storage) (advanced_next (eqb-false p.expected (packets_of p.length) t)))

module _ (sender number : ℕ) (bytes : List ℕ) (ps : List Place) (s : List ℕ) where
  pub carries_at : (i : ℕ) → first (is_open_by sender) ps ≡ Some i → carries sender number bytes ps s ≡ packet_at i (get_or ps i free_place) number bytes ps s
  unfolding carries
  carries_at i e = rw e

  pub carries_nowhere : first (is_open_by sender) ps ≡ None → carries sender number bytes ps s ≡ leaves ps s (refused 9)
  unfolding carries
  carries_nowhere e = rw e

-- the rules of an open place, one by one
pub record OpenRules (p : Place) : Type 0 where
  pub named : p.sender ≤ greatest_address
  pub long : shortest ≤ p.length
  pub short : p.length ≤ longest
  pub about : p.dgn ≤ greatest_dgn
  pub fresh : p.idle ≤ idle_limit
  pub begun : 1 ≤ p.expected
  pub within : p.expected ≤ packets_of p.length

pub open_rules : (p : Place) → is_free p ≡ false → place_keeps_rules p ≡ true → OpenRules p
unfolding place_keeps_rules
open_rules p f e =
    let r₁ = both_true (p.sender ≤? greatest_address) _ (rw f at e) in
    let r₂ = both_true (shortest ≤? p.length) _ r₁.1 in
    let r₃ = both_true (p.length ≤? longest) _ r₂.1 in
    let r₄ = both_true (p.dgn ≤? greatest_dgn) _ r₃.1 in
    let r₅ = both_true (p.idle ≤? idle_limit) _ r₄.1 in
    let r₆ = both_true (1 ≤? p.expected) _ r₅.1 in
    record {
      named = leb-true _ _ r₁.0;
      long = leb-true _ _ r₂.0;
      short = leb-true _ _ r₃.0;
      about = leb-true _ _ r₄.0;
      fresh = leb-true _ _ r₅.0;
      begun = leb-true _ _ r₆.0;
      within = leb-true _ _ r₆.1;
    }

-- the open place of a sender, in a state that keeps its rules
pub rules_at : (sender j : ℕ) (ps : List Place) → keeps_rules ps ≡ true → first (is_open_by sender) ps ≡ Some j → OpenRules (get_or ps j free_place)
unfolding keeps_rules
rules_at sender j ps v e =
    let t = found_at j (is_open_by sender) ps free_place e in
    let p = get_or ps j free_place in
    let o = both_true (not (is_free p)) _ t.passes in
    open_rules p (not-true (is_free p) o.0) (every_at place_keeps_rules ps j free_place t.below (both_true (every place_keeps_rules ps) _ v).0)

pub live_at : (sender j : ℕ) (ps : List Place) → keeps_rules ps ≡ true → first (is_open_by sender) ps ≡ Some j → Live (get_or ps j free_place)
live_at sender j ps v e = let o = rules_at sender j ps v e in record { short = o.short; begun = o.begun; within = o.within }

-- a frame

module _ (id : ℕ) (bytes : List ℕ) (ps : List Place) (s : List ℕ) where
  pub heard_short : length s < room → heard id bytes ps s ≡ leaves ps s (refused 1)
  unfolding heard
  heard_short h = rw (lt-ltb _ _ h)

  pub heard_broken : room ≤ length s → keeps_rules ps ≡ false → heard id bytes ps s ≡ leaves ps s (refused 2)
  unfolding heard
  heard_broken h v = rw (le-ltb _ _ h, v)

  pub heard_kept : room ≤ length s → keeps_rules ps ≡ true → heard id bytes ps s ≡ by_meaning (meaning_of id bytes) bytes ps s
  unfolding heard
  heard_kept h v = rw (le-ltb _ _ h, v)
