-- One frame and one pause: the places against the machine of one key.
-- Assumes nothing.
use Rattle.std.specs.Prelude.{if◌then◌else◌}
use mathlib.Core.Path.{◌≡◌, refl, sym, ap, ◌∙◌}
use mathlib.Core.Bool.{true, false}
use mathlib.Core.List.{List, [], ◌∷◌}
use mathlib.Core.Option.{Option, some, none}
use Prim.Native.Nat.{ℕ, ◌+◌}
use native.Mathlib.Nat.{zero-add}
use native.Mathlib.Omega.{arith}
use borrow.Author.Tests.{eq-eqb, ne_eqb}
use Rattle.words.specs.Lists.{count, Absent}
use Rattle.words.proofs.Words.{by_test, true_false}
use Rattle.words.proofs.Lists.{absent_head, absent_tail, distinct_head, distinct_tail}
use Rattle.places.specs.Format.{Asks, fixed, opens, finishes, feeds, Fed, goes, ends, Format, is_none, Step, step}
use Rattle.places.specs.OneKey.{fed_alone, packet_alone, asked_alone, pause_alone, closes_alone}
use Rattle.places.specs.Places.{free, held, full, said, lookup, update, any_free, keys_of, OnePlaceEach, Places}
use Rattle.places.specs.Places.{hears_opening, hears_whole, after_packet, hears_packet, asked, pass, closed_by}
use Rattle.places.specs.Statements.{StepAgrees, OneStep, closed_alone, is_opening}
use Rattle.places.proofs.Places.{by_equal, some_none, absent_lookup, keyed_other, keyed_same, keyed_each}
use Rattle.places.proofs.Places.{update_other, update_same, update_each, length_update, take_other, take_same}
use Rattle.places.proofs.Places.{take_each, length_lowest}

pub said_full : {A B : Type 0} {a : A} → said a ≡ full → B
said_full p = let z : ◌≡◌ {A = ℕ} 0 1 = cc in absurd (omega arith)

module _ (𝓕 : Format) where
  -- an opening that finds no place is answered so, and changes nothing
  pub no_place : (k : ℕ) (q : Asks 𝓕.Session 𝓕.Data 𝓕.Answer) (ps : Places 𝓕) → is_opening q ≡ true → lookup k ps ≡ none → any_free ps ≡ false
      → asked 𝓕 k q ps ≡ step ps full
  no_place k (fixed a) ps o e f = true_false (sym o)
  no_place k (opens s a) ps o e f = rw e (rw f)
  no_place k (finishes a) ps o e f = rw e (rw f)
  no_place k (feeds d a) ps o e f = true_false (sym o)

  -- k's place updated
  updated : (k : ℕ) (m : Option 𝓕.Session) (a : 𝓕.Answer) (t : 𝓕.Session) (ps : Places 𝓕) → OnePlaceEach ps → lookup k ps ≡ some t
      → StepAgrees k ps (step (update k m ps) (said a)) (step m a)
  updated k m a t ps u e =
      record {
        answered = λ _. refl;
        session = λ _. update_same k m t ps u e;
        full_keeps = λ p. said_full p;
        others = λ j n. update_other j k m ps (λ e. n (sym e));
        one_each = update_each k m ps u;
        as_many = length_update k m ps;
      }

  -- nothing done
  idle : (k : ℕ) (a : 𝓕.Answer) (m : Option 𝓕.Session) (ps : Places 𝓕) → OnePlaceEach ps → lookup k ps ≡ m → StepAgrees k ps (step ps (said a)) (step m a)
  idle k a m ps u e =
      record {
        answered = λ _. refl;
        session = λ _. e;
        full_keeps = λ _. refl;
        others = λ j n. refl;
        one_each = u;
        as_many = refl;
      }

  -- no place free
  refused : (k : ℕ) (t₁ : Step (Option 𝓕.Session) 𝓕.Answer) (ps : Places 𝓕) → OnePlaceEach ps → StepAgrees k ps (step ps full) t₁
  refused k t₁ ps u =
      record {
        answered = λ n. absurd (n refl);
        session = λ n. absurd (n refl);
        full_keeps = λ _. refl;
        others = λ j n. refl;
        one_each = u;
        as_many = refl;
      }

  opening_agrees : (k : ℕ) (s : 𝓕.Session) (a : 𝓕.Answer) (ps : Places 𝓕) (m : Option 𝓕.Session)
      → OnePlaceEach ps → lookup k ps ≡ m
      → StepAgrees k ps (hears_opening 𝓕 k s a ps m) (step (some s) a)
  opening_agrees k s a ps none u e =
      by_test (any_free ps)
      (λ f. rw f (record {
        answered = λ _. refl;
        session = λ _. take_same k s ps f e;
        full_keeps = λ p. said_full p;
        others = λ j n. take_other j k s ps (λ e. n (sym e));
        one_each = take_each k s ps u e;
        as_many = length_lowest k s ps;
      }))
      (λ f. rw f (refused k (step (some s) a) ps u))
  opening_agrees k s a ps (some t) u e = updated k (some s) a t ps u e

  whole_agrees : (k : ℕ) (a : 𝓕.Answer) (ps : Places 𝓕) (m : Option 𝓕.Session) → OnePlaceEach ps → lookup k ps ≡ m
      → StepAgrees k ps (hears_whole 𝓕 k a ps m) (step none a)
  whole_agrees k a ps none u e =
      by_test (any_free ps)
      (λ f. rw f (idle k a none ps u e))
      (λ f. rw f (refused k (step none a) ps u))
  whole_agrees k a ps (some t) u e = updated k none a t ps u e

  after_packet_agrees : (k : ℕ) (ps : Places 𝓕) (t : 𝓕.Session) (r : Fed 𝓕.Session 𝓕.Answer)
      → OnePlaceEach ps → lookup k ps ≡ some t
      → StepAgrees k ps (after_packet 𝓕 k ps r) (fed_alone 𝓕 r)
  after_packet_agrees k ps t (goes s a) u e = updated k (some s) a t ps u e
  after_packet_agrees k ps t (ends a) u e = updated k none a t ps u e

  packet_agrees : (k : ℕ) (d : 𝓕.Data) (a : 𝓕.Answer) (ps : Places 𝓕) (m : Option 𝓕.Session) → OnePlaceEach ps → lookup k ps ≡ m
      → StepAgrees k ps (hears_packet 𝓕 k d a ps m) (packet_alone 𝓕 d a m)
  packet_agrees k d a ps none u e = idle k a none ps u e
  packet_agrees k d a ps (some s) u e = after_packet_agrees k ps s (𝓕.feed s d) u e

  asked_agrees : (k : ℕ) (q : Asks 𝓕.Session 𝓕.Data 𝓕.Answer) (ps : Places 𝓕) → OnePlaceEach ps
      → StepAgrees k ps (asked 𝓕 k q ps) (asked_alone 𝓕 q (lookup k ps))
  asked_agrees k (fixed a) ps u = idle k a (lookup k ps) ps u refl
  asked_agrees k (opens s a) ps u = opening_agrees k s a ps (lookup k ps) u refl
  asked_agrees k (finishes a) ps u = whole_agrees k a ps (lookup k ps) u refl
  asked_agrees k (feeds d a) ps u = packet_agrees k d a ps (lookup k ps) u refl

  -- a frame
  pub one_step : OneStep 𝓕
  one_step f ps u = asked_agrees (𝓕.key f) (𝓕.asks f) ps u

  -- a pause

  pass_none : (k ms : ℕ) (ps : Places 𝓕) → lookup k ps ≡ none → lookup k (pass 𝓕 ms ps) ≡ none
  pass_none k ms [] h = refl
  pass_none k ms (free ∷ ps) h = pass_none k ms ps h
  pass_none k ms (held j s ∷ ps) h =
      by_equal j k
      (λ e. some_none (rw (eq-eqb j k e) at h))
      (λ n. keyed_other k j (𝓕.wait ms s) (pass 𝓕 ms ps) n ∙ pass_none k ms ps (rw (ne_eqb j k n) at h))

  pub pass_lookup : (k ms : ℕ) (ps : Places 𝓕) → OnePlaceEach ps → lookup k (pass 𝓕 ms ps) ≡ pause_alone 𝓕 ms (lookup k ps)
  pass_lookup k ms [] u = refl
  pass_lookup k ms (free ∷ ps) u = pass_lookup k ms ps u
  pass_lookup k ms (held j s ∷ ps) u =
      by_equal j k
      (λ e.
      let alone = absent_lookup j ps (distinct_head j (keys_of ps) u) in
      rw (eq-eqb j k e, e) (keyed_same k (𝓕.wait ms s) (pass 𝓕 ms ps) (pass_none k ms ps (rw e at alone))))
      (λ n.
      let others = distinct_tail j (keys_of ps) u in
      rw (ne_eqb j k n) (keyed_other k j (𝓕.wait ms s) (pass 𝓕 ms ps) n ∙ pass_lookup k ms ps others))

  pub pass_each : (ms : ℕ) (ps : Places 𝓕) → OnePlaceEach ps → OnePlaceEach (pass 𝓕 ms ps)
  pass_each ms [] u = u
  pass_each ms (free ∷ ps) u = pass_each ms ps u
  pass_each ms (held j s ∷ ps) u =
      let alone = absent_lookup j ps (distinct_head j (keys_of ps) u) in
      let others = distinct_tail j (keys_of ps) u in
      keyed_each j (𝓕.wait ms s) (pass 𝓕 ms ps) (pass_none j ms ps alone) (pass_each ms ps others)

  -- a first place changes nothing of the keys that are not its own
  count_apart : (ms j : ℕ) (s : 𝓕.Session) (ps : Places 𝓕) (ks : List ℕ) → Absent j ks
      → count (λ k. closes_alone 𝓕 ms (lookup k (held j s ∷ ps))) ks ≡ count (λ k. closes_alone 𝓕 ms (lookup k ps)) ks
  count_apart ms j s ps [] h = refl
  count_apart ms j s ps (k ∷ ks) h =
      rw (ne_eqb j k (absent_head j k ks h), count_apart ms j s ps ks (absent_tail j k ks h))

  pub closed_count : (ms : ℕ) (ps : Places 𝓕) → OnePlaceEach ps → closed_by 𝓕 ms ps ≡ closed_alone 𝓕 ms ps
  closed_count ms [] u = refl
  closed_count ms (free ∷ ps) u = zero-add _ ∙ closed_count ms ps u
  closed_count ms (held j s ∷ ps) u =
      rw (eq-eqb j j refl, count_apart ms j s ps (keys_of ps) (distinct_head j (keys_of ps) u))
      (ap (λ n. (if is_none (𝓕.wait ms s) then 1 else 0) + n) (closed_count ms ps (distinct_tail j (keys_of ps) u)))
