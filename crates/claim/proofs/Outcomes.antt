-- How a claim that is heard can go, case by case, and what each leaves.
-- Assumes nothing.
use mathlib.Core.Path.{◌≡◌, refl, sym, ◌∙◌}
use mathlib.Core.Bool.{true, false}
use Prim.Native.Nat.{ℕ, ◌+◌, ◌≤◌, ◌<◌}
use native.Mathlib.Omega.{arith}
use borrow.Author.Tests.{eqb-true, eqb-false, ltb-true, ltb-false}
use Rattle.words.specs.Words.{◌<?◌, ◌=?◌}
use Rattle.words.proofs.Words.{true_false, by_test}
use Rattle.claim.specs.Claim.{address, Outcome, nothing_to_do, own_name, repeated, moved, fell_silent, lost_by}
use Rattle.claim.specs.Claim.{outcome_of, after, pause}
use Rattle.claim.specs.declared.Claim.{Claim}
use Rattle.claim.proofs.Sound.{Rules, count_awake, pause_silent, pause_awake}

pub data Went (source name : ℕ) (c : Claim) : Outcome → Type 0 where
  deaf : c.silent ≡ true → Went source name c nothing_to_do
  apart : c.silent ≡ false → (source ≡ address c → ⊥) → Went source name c nothing_to_do
  same : c.silent ≡ false → source ≡ address c → name ≡ c.name → Went source name c own_name
  wins : c.silent ≡ false → source ≡ address c → c.name < name → Went source name c repeated
  goes : c.silent ≡ false → source ≡ address c → name < c.name → c.position + 1 < c.candidates → Went source name c moved
  ends : c.silent ≡ false → source ≡ address c → name < c.name → c.candidates ≤ c.position + 1 → Went source name c fell_silent

module _ (source name : ℕ) (c : Claim) where
  pub when_silent : c.silent ≡ true → outcome_of source name c ≡ nothing_to_do
  unfolding outcome_of
  when_silent s = rw s

  when_apart : c.silent ≡ false → (source =? address c) ≡ false → outcome_of source name c ≡ nothing_to_do
  unfolding outcome_of
  when_apart s a = rw (s, a)

  when_moved : c.silent ≡ false → (source =? address c) ≡ true → (name <? c.name) ≡ true → (c.position + 1 <? c.candidates) ≡ true
      → outcome_of source name c ≡ moved
  unfolding outcome_of lost_by
  when_moved s a l m = rw (s, a, l, m)

  when_fell : c.silent ≡ false → (source =? address c) ≡ true → (name <? c.name) ≡ true → (c.position + 1 <? c.candidates) ≡ false
      → outcome_of source name c ≡ fell_silent
  unfolding outcome_of lost_by
  when_fell s a l m = rw (s, a, l, m)

  when_won : c.silent ≡ false → (source =? address c) ≡ true → (name <? c.name) ≡ false → (c.name <? name) ≡ true
      → outcome_of source name c ≡ repeated
  unfolding outcome_of
  when_won s a l h = rw (s, a, l, h)

  when_equal : c.silent ≡ false → (source =? address c) ≡ true → (name <? c.name) ≡ false → (c.name <? name) ≡ false
      → outcome_of source name c ≡ own_name
  unfolding outcome_of
  when_equal s a l h = rw (s, a, l, h)

  pub went : Went source name c (outcome_of source name c)
  went =
      by_test c.silent
      (λ s. rw (when_silent s) (deaf s))
      (λ s. by_test (source =? address c)
      (λ a.
      let at = eqb-true source (address c) a in
      by_test (name <? c.name)
      (λ l. by_test (c.position + 1 <? c.candidates)
      (λ m. rw (when_moved s a l m) (goes s at (ltb-true _ _ l) (ltb-true _ _ m)))
      (λ m. rw (when_fell s a l m) (ends s at (ltb-true _ _ l) (ltb-false _ _ m))))
      (λ l. by_test (c.name <? name)
      (λ h. rw (when_won s a l h) (wins s at (ltb-true _ _ h)))
      (λ h.
      let x : c.name ≤ name = ltb-false name c.name l in
      let y : name ≤ c.name = ltb-false c.name name h in
      let z : name ≡ c.name = omega arith in
      rw (when_equal s a l h) (same s at z))))
      (λ a. rw (when_apart s a) (apart s (eqb-false _ _ a))))

-- a state that keeps its rules leads to one that does

rules_went : (source name : ℕ) (c : Claim) (o : Outcome) → Rules c → Went source name c o → Rules (after o c)
unfolding after
rules_went source name c o k (deaf s) = k
rules_went source name c o k (apart s a) = k
rules_went source name c o k (same s a e) = k
rules_went source name c o k (wins s a e) = k
rules_went source name c o k (goes s a e m) =
    record {
      inside = m;
      short = omega arith;
      still = λ f. true_false (sym f);
      count = omega (arith, count_awake c k s);
    }
rules_went source name c o k (ends s a e m) =
    record {
      inside = omega arith;
      short = omega arith;
      still = λ f. (refl, refl);
      count = omega (arith, count_awake c k s, k.inside);
    }

pub rules_heard : (source name : ℕ) (c : Claim) → Rules c → Rules (after (outcome_of source name c) c)
rules_heard source name c k = rules_went source name c (outcome_of source name c) k (went source name c)

pub rules_paused : (ms : ℕ) (c : Claim) → Rules c → Rules (pause ms c)
rules_paused ms c k =
    by_test c.silent
    (λ s. rw (pause_silent ms c s) k)
    (λ s. rw (pause_awake ms c s)
    (record { inside = k.inside; short = omega arith; still = λ f. true_false (sym f ∙ s); count = k.count }))
