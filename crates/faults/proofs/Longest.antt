-- The fault that a step sends is the one that has been due longest by the calls alone: the state's ages are the steps
-- since it fell due, and never reach the 31 at which they stop. Assumes nothing.
use Rattle.std.specs.Prelude.{Some, None}
use Rattle.std.specs.Prelude.{if◌then◌else◌}
use mathlib.Core.Path.{◌≡◌, refl, sym, ap, ◌∙◌, subst, subst⁻¹}
use mathlib.Core.Bool.{true, false}
use mathlib.Core.List.{List, map}
use Prim.Native.Nat.{ℕ, zero, suc, ◌+◌, ◌*◌, ◌/◌, ◌%◌, ◌≤◌, ◌<◌}
use native.Mathlib.Omega.{arith}
use borrow.Author.Tests.{eqb-true, eqb-false, leb-true, leb-false, ltb-true, ltb-false, eq-eqb, ne_eqb}
use lib.ListN.{length, get_or, set, replicate, length-set}
use lib.Seq.{get_or-set_other, get_or-set_same}
use Rattle.words.specs.Words.{◌=?◌, ◌≤?◌, ◌<?◌, gives}
use Rattle.words.proofs.Words.{by_test, true_false}
use Rattle.words.proofs.Lists.{found_at}
use Rattle.claim.specs.declared.Claim.{Claim}
use Rattle.faults.specs.Fault.{step_time, no_fault, is_empty, is_due, passed, added, sent}
use Rattle.faults.specs.Sender.{fault_places, fault_at, replacing, begun, passed_all, chosen, Outcome}
use Rattle.faults.specs.Runs.{Happened, adds, clears, steps, Ran, no_call, a_call, Duty, idle}
use Rattle.faults.specs.Runs.{due_from, again, Known, nothing_known, learns, known_after, known}
use Rattle.faults.specs.Runs.{Rightly, LongestDue}
use Rattle.faults.specs.declared.Fault.{Fault}
use Rattle.faults.specs.declared.Sender.{Sender}
use Rattle.faults.proofs.Counting.{count_one, count_none}
use Rattle.faults.proofs.Passing.{Phase, vacant, ready, coming, phase, active_true, due_true, due_says, ripe}
use Rattle.faults.proofs.Passing.{ripe_suc, ripe_says, added_unripe, none_unripe, sent_unripe}
use Rattle.faults.proofs.Chosen.{chosen_at, chosen_nowhere}
use Rattle.faults.proofs.Moves.{Move, add_refused, added_at_lem, clear_refused, cleared_at, step_refused, rested}
use Rattle.faults.proofs.Moves.{sent_at, asked, move, inside, active_at, fault_passed, length_passed}
use Rattle.faults.proofs.Fair.{Few, few_zero, few_set, few_sent}
use Rattle.faults.proofs.Waiting.{allowed_says}

-- what the calls tell of a place, after n steps, and what stands in it
pub data Matches (n : ℕ) (f : Fault) : Duty → Type 0 where
  no_duty : f.period ≡ 0 → Matches n f idle
  was_due : (d : ℕ) → 100 ≤ f.period → f.period % step_time ≡ 0 → f.until_due ≡ 0 → d + f.age ≡ n
      → Matches n f (due_from f.period d)
  will_be : (d : ℕ) → 100 ≤ f.period → f.period % step_time ≡ 0 → n < d → f.until_due + step_time * n ≡ step_time * d
      → Matches n f (due_from f.period d)

-- 50 ms later; an age below 31 goes on

later_phase : (n : ℕ) (f : Fault) (k : Duty) → Phase f → (is_due f ≡ true → f.age < 31) → Matches n f k
    → Matches (n + 1) (passed f) k
later_phase n f _ (vacant z e) y (no_duty x) = subst⁻¹ (λ (g : Fault). Matches (n + 1) g idle) e (no_duty x)
later_phase n f _ (vacant z e) y (was_due d l m u a) = absurd (omega (arith, z, l))
later_phase n f _ (vacant z e) y (will_be d l m h u) = absurd (omega (arith, z, l))
later_phase n f _ (ready k z e) y (no_duty x) = absurd (k x)
later_phase n f _ (ready k z e) y (was_due d l m u a) =
    let b = y (due_true f k z) in
    subst⁻¹ (λ (g : Fault). Matches (n + 1) g (due_from f.period d)) e (was_due d l m refl (omega (arith, a, b)))
later_phase n f _ (ready k z e) y (will_be d l m h u) = absurd (omega (arith, z, h, u))
later_phase n f _ (coming k p e) y (no_duty x) = absurd (k x)
later_phase n f _ (coming k p e) y (was_due d l m u a) = absurd (omega (arith, u, p))
later_phase n f _ (coming k p e) y (will_be d l m h u) =
    by_test (n + 1 <? d)
    (λ t.
    subst⁻¹ (λ (g : Fault). Matches (n + 1) g (due_from f.period d)) e
    (will_be d l m (ltb-true (n + 1) d t) (omega (arith, u, ltb-true (n + 1) d t))))
    (λ t.
    subst⁻¹ (λ (g : Fault). Matches (n + 1) g (due_from f.period d)) e
    (was_due d l m (omega (arith, u, ltb-false (n + 1) d t)) (omega (arith, h, ltb-false (n + 1) d t))))

-- a fault that is sent by step n
again_sent : (n : ℕ) (f : Fault) (k : Duty) → is_due f ≡ true → Matches n f k → Matches n (sent f) (again n k)
again_sent n f _ e (no_duty x) = absurd ((due_says f e).0 x)
again_sent n f _ e (was_due d l m u a) = will_be (n + f.period / step_time) l m (omega (arith, l)) (omega (arith, m))
again_sent n f _ e (will_be d l m h u) = will_be (n + f.period / step_time) l m (omega (arith, l)) (omega (arith, m))

-- ---- What is known of every place.

record Knows (s : Sender) (ks : ℕ → Known) : Type 0 where
  pub clock : ℕ
  pub same : (p : ℕ) → (ks p).clock ≡ clock
  pub places : length s.faults ≡ fault_places
  pub few : (j : ℕ) → j ≤ fault_places → Few j s.faults
  pub matches : (p : ℕ) → Matches clock (fault_at p s) (ks p).duty

-- an age has not reached 31 before the next step
young : (s : Sender) (ks : ℕ → Known) → Knows s ks → (p : ℕ) → is_due (fault_at p s) ≡ true → (fault_at p s).age < 31
young s ks k p e =
    by_test ((fault_at p s).age <? 31)
    (λ t. ltb-true (fault_at p s).age 31 t)
    (λ t.
    let r = ripe_suc 31 (fault_at p s) e (ltb-false (fault_at p s).age 31 t) in
    let l = inside s.faults p (active_true (fault_at p s) (due_says (fault_at p s) e).0) in
    let c = count_one (ripe 32) s.faults p no_fault l r in
    absurd (omega (arith, c, k.few 32 (omega arith))))

-- 50 ms later every place matches
all_later : (s : Sender) (ks : ℕ → Known) (k : Knows s ks) (p : ℕ)
    → Matches (k.clock + 1) (fault_at p (passed_all s)) (ks p).duty
all_later s ks k p =
    subst⁻¹ (λ (g : Fault). Matches (k.clock + 1) g (ks p).duty) (fault_passed p s)
    (later_phase k.clock (fault_at p s) (ks p).duty (phase (fault_at p s)) (young s ks k p) (k.matches p))

-- few are left after a step that sends none, or the one that has been due longest

few_rested : (j : ℕ) (fs : List Fault) → length fs ≡ fault_places → chosen (map passed fs) ≡ None
    → j ≤ fault_places → Few j (map passed fs)
few_rested zero fs n e h = few_zero (map passed fs) (length_passed fs ∙ n)
few_rested (suc j) fs n e h =
    let c = count_none (ripe (suc j)) (map passed fs) no_fault (λ i l. by_test (ripe (suc j) (get_or
    (map passed fs) i no_fault))
    (λ r. true_false (sym (ripe_says j (get_or (map passed fs) i no_fault) r).0 ∙ chosen_nowhere (map passed fs) e i l))
    (λ r. r)) in
    omega (arith, c, h)

few_chosen : (j q : ℕ) (s : Sender) → length s.faults ≡ fault_places → chosen (map passed s.faults) ≡ Some q
    → j ≤ fault_places
    → ((i : ℕ) → i ≤ fault_places → Few i s.faults)
    → Few j (set (map passed s.faults) q (sent (fault_at q (passed_all s))))
few_chosen zero q s n e h k =
    few_zero (set (map passed s.faults) q (sent (fault_at q (passed_all s))))
    (length-set (map passed s.faults) q (sent (fault_at q (passed_all s))) ∙ length_passed s.faults ∙ n)
few_chosen (suc j) q s n e h k =
    let fs = s.faults in
    let ms = map passed fs in
    let x = sent (fault_at q (passed_all s)) in
    let c = chosen_at ms q e in
    let eq = fault_passed q s in
    let l : q < length fs = omega (arith, c.below, length_passed fs) in
    by_test (j ≤? (passed (fault_at q s)).age)
    (λ t.
    subst⁻¹ (λ (y : Fault). Few (suc j) (set ms q (sent y))) eq
    (few_sent j q fs l (ap is_due (sym eq)
    ∙ c.due) (leb-true j (passed (fault_at q s)).age t) eq (k j (omega (arith, h)))))
    (λ t.
    let b = leb-false j (passed (fault_at q s)).age t in
    let ae = ap (λ (y : Fault). y.age) eq in
    let o = count_none (ripe (suc j)) (set ms q x) no_fault (λ i v. by_test (ripe (suc j) (get_or (set ms q x) i no_fault))
    (λ r. by_test (i =? q)
    (λ w.
    let z = eqb-true i q w in
    let y : get_or (set ms q x) i no_fault ≡ x = ap (λ (a : ℕ). get_or (set ms q x) a no_fault) z
    ∙ get_or-set_same ms q x no_fault c.below in
    let u = sent_unripe j (fault_at q (passed_all s)) (active_true (fault_at q (passed_all s)) (due_says (fault_at q
    (passed_all s)) c.due).0) in
    true_false (sym r ∙ ap (λ (g : Fault). ripe (suc j) g) y ∙ u))
    (λ w.
    let y = get_or-set_other ms q i x no_fault (eqb-false i q w) in
    let p = ripe_says j (get_or ms i no_fault) (ap (λ (g : Fault). ripe (suc j) g) (sym y) ∙ r) in
    let f = c.most i (omega (arith, v, length-set ms q x)) p.0 in
    absurd (omega (arith, p.1, f, ae, b))))
    (λ r. r)) in
    omega (arith, o, h))

-- another fault in a place, and what is known of the places then
put : (s : Sender) (ks ls : ℕ → Known) (at : ℕ) (f : Fault) (k : Knows s ks) → at < length s.faults → ((i : ℕ)
    → ripe (suc i) f ≡ false)
    → ((p : ℕ) → (ls p).clock ≡ k.clock) → ((p : ℕ) → (at ≡ p → ⊥) → (ls p).duty ≡ (ks p).duty)
    → Matches k.clock f (ls at).duty
    → Knows (replacing s at f) ls
put s ks ls at f k l u c d m =
    record {
      clock = k.clock;
      same = c;
      places = length-set s.faults at f ∙ k.places;
      few = λ j h. few_set j s.faults at f k.places u (k.few j h);
      matches = λ p. by_test (at =? p)
          (λ e.
          let z = eqb-true at p e in
          let y : fault_at p (replacing s at f) ≡ f = ap (λ (i : ℕ). get_or (set s.faults at f) i no_fault) (sym z)
          ∙ get_or-set_same s.faults at f no_fault l in
          subst⁻¹ (λ (g : Fault). Matches k.clock g (ls p).duty) y
          (subst (λ (i : ℕ). Matches k.clock f (ls i).duty) z m))
          (λ e.
          let n = eqb-false at p e in
          subst⁻¹ (λ (g : Fault). Matches k.clock g (ls p).duty) (get_or-set_other s.faults at p f no_fault
          (λ z. n (sym z)))
          (subst⁻¹ (λ (t : Duty). Matches k.clock (fault_at p s) t) (d p n) (k.matches p)));
    }

-- a test that holds of a place itself, and fails for others
if_same : {A : Type 0} (p : ℕ) (a b : A) → (if p =? p then a else b) ≡ a
if_same p a b = rw (eq-eqb p p refl)

if_other : {A : Type 0} (p q : ℕ) (a b : A) → (p ≡ q → ⊥) → (if p =? q then a else b) ≡ b
if_other p q a b n = rw (ne_eqb p q n)

turn : (s m : Sender) (h : Happened) (ks : ℕ → Known) → Move s h m → Knows s ks → Knows m (λ p. learns p h (ks p))
turn s _ _ ks (add_refused _ bytes period n) k = k
turn s _ _ ks (added_at_lem _ bytes period at e a) k =
    let t = found_at at is_empty s.faults no_fault e in
    let w = allowed_says period a in
    put s ks (λ p. learns p (adds bytes period (gives at)) (ks p)) at (added bytes period) k t.below
    (λ i. added_unripe i bytes period) k.same
    (λ p n. if_other at p (due_from period ((ks p).clock + 1)) (ks p).duty n)
    (subst⁻¹ (λ (x : Duty). Matches k.clock (added bytes period) x)
    (if_same at (due_from period ((ks at).clock + 1)) (ks at).duty ∙ ap (λ (n : ℕ). due_from period (n + 1)) (k.same at))
    (will_be (k.clock + 1) w.0 w.1 (omega arith) (omega arith)))
turn s _ _ ks (clear_refused _ place n) k = k
turn s _ _ ks (cleared_at _ at e) k =
    let l = inside s.faults at (active_at at s e) in
    put s ks (λ p. learns p (clears at (gives at)) (ks p)) at no_fault k l (λ i. none_unripe (suc i)) k.same
    (λ p n. if_other at p idle (ks p).duty n)
    (subst⁻¹ (λ (x : Duty). Matches k.clock no_fault x) (if_same at idle (ks at).duty) (no_duty refl))
turn s _ _ ks (step_refused _ c n) k = k
turn s _ _ ks (rested _ c e) k =
    record {
      clock = k.clock + 1;
      same = λ p. ap (λ (n : ℕ). n + 1) (k.same p);
      places = length_passed s.faults ∙ k.places;
      few = λ j h. few_rested j s.faults k.places e h;
      matches = λ p. all_later s ks k p;
    }
turn s _ _ ks (sent_at _ c at address e g) k =
    let ms = map passed s.faults in
    let x = sent (fault_at at (passed_all s)) in
    let o = chosen_at ms at e in
    let n = k.clock + 1 in
    record {
      clock = n;
      same = λ p. ap (λ (i : ℕ). i + 1) (k.same p);
      places = length-set ms at x ∙ length_passed s.faults ∙ k.places;
      few = λ j h. few_chosen j at s k.places e h k.few;
      matches = λ p. by_test (at =? p)
          (λ w.
          let z = eqb-true at p w in
          let y : get_or (set ms at x) p no_fault ≡ x = ap (λ (i : ℕ). get_or (set ms at x) i no_fault) (sym z)
          ∙ get_or-set_same ms at x no_fault o.below in
          let b = again_sent n (fault_at at (passed_all s)) (ks at).duty o.due (all_later s ks k at) in
          subst⁻¹ (λ (f : Fault). Matches n f (if at =? p then again ((ks p).clock + 1) (ks p).duty else (ks p).duty)) y
          (subst⁻¹ (λ (d : Duty). Matches n x d)
          (rw w (ap (λ (i : ℕ). again (i + 1) (ks p).duty) (k.same p)
          ∙ ap (λ (i : ℕ). again n (ks i).duty) (sym z))) b))
          (λ w.
          let v = eqb-false at p w in
          subst⁻¹ (λ (f : Fault). Matches n f (if at =? p then again ((ks p).clock + 1) (ks p).duty else (ks p).duty))
          (get_or-set_other ms at p x no_fault (λ z. v (sym z)))
          (subst⁻¹ (λ (d : Duty). Matches n (fault_at p (passed_all s)) d) (if_other at p (again ((ks p).clock + 1)
          (ks p).duty) (ks p).duty v) (all_later s ks k p)));
    }
turn s _ _ ks (asked _ id bytes c told) k = k

known_run : (s t : Sender) (hs : List Happened) (ks : ℕ → Known) → Ran s hs t → Knows s ks
    → Knows t (λ p. known_after p (ks p) hs)
known_run s t _ ks (no_call _) k = k
known_run s t _ ks (a_call _ m _ h hs l r) k =
    known_run m t hs (λ p. learns p h (ks p)) r (turn s m h ks (move s m h l) k)

-- ---- Some the start.

same_all : (n i : ℕ) → get_or (replicate n no_fault) i no_fault ≡ no_fault
same_all zero i = refl
same_all (suc n) zero = refl
same_all (suc n) (suc i) = same_all n i

at_start : (bytes : List ℕ) → Knows (begun bytes) (λ p. nothing_known)
at_start bytes =
    record {
      clock = 0;
      same = λ p. refl;
      places = refl;
      few = λ j h.
          let c = count_none (ripe j) (replicate fault_places no_fault) no_fault (λ i l. ap (λ (f : Fault). ripe j f)
          (same_all fault_places i) ∙ none_unripe j) in
          omega (arith, c, h);
      matches = λ p. subst⁻¹ (λ (f : Fault). Matches 0 f idle) (same_all fault_places p) (no_duty refl);
    }

-- ---- The step.

-- what a place that is due at step n, or is not, has been told
record Since (n : ℕ) (f : Fault) (k : Duty) : Type 0 where
  pub period : ℕ
  pub from : ℕ
  pub is : k ≡ due_from period from
  pub sum : from + f.age ≡ n

since : (n : ℕ) (f : Fault) (k : Duty) → is_due f ≡ true → Matches n f k → Since n f k
since n f _ e (no_duty x) = absurd ((due_says f e).0 x)
since n f _ e (was_due d l m u a) = record { period = f.period; from = d; is = refl; sum = a }
since n f _ e (will_be d l m h u) = absurd (omega (arith, (due_says f e).1, h, u))

-- the step from which a fault is due, counted from 1; 0 where there is no duty
abbrev from_in : Duty → ℕ
from_in idle = 0
from_in (due_from period d) = suc d

-- when a place is due that has been told so
data When (n : ℕ) (f : Fault) (d : ℕ) : Type 0 where
  now_due : is_due f ≡ true → d + f.age ≡ n → When n f d
  not_yet : n < d → When n f d

when : (n : ℕ) (f : Fault) (k : Duty) (period d : ℕ) → k ≡ due_from period d → Matches n f k → When n f d
when n f _ period d e (no_duty x) = let z : 0 ≡ suc d = ap from_in e in absurd (omega (arith, z))
when n f _ period d e (was_due c l m u a) =
    let z : suc c ≡ suc d = ap from_in e in
    now_due (due_true f (λ (y : f.period ≡ 0). absurd (omega (arith, y, l))) u) (omega (arith, a, z))
when n f _ period d e (will_be c l m h u) =
    let z : suc c ≡ suc d = ap from_in e in
    not_yet (omega (arith, h, z))

-- the chosen one against another
against : (n age from d q p : ℕ) (f : Fault) → from + age ≡ n → (is_due f ≡ true → f.age ≤ age)
    → (is_due f ≡ true → f.age ≡ age → p ≤ q) → When n f d → (from ≤ d) × (from ≡ d → p ≤ q)
against n age from d q p f a m l (now_due e b) =
    (omega (arith, a, b, m e), λ z. l e (omega (arith, a, b, z)))
against n age from d q p f a m l (not_yet h) = (omega (arith, a, h), λ z. absurd (omega (arith, a, h, z)))

rightly_none : (n d : ℕ) (f : Fault) → is_due f ≡ false → When n f d → n < d
rightly_none n d f e (now_due k b) = true_false (sym k ∙ e)
rightly_none n d f e (not_yet h) = h

-- a place that is due is one of the places
due_inside : (s : Sender) (q : ℕ) → is_due (fault_at q (passed_all s)) ≡ true → q < length (map passed s.faults)
due_inside s q e =
    inside (map passed s.faults) q (active_true (fault_at q (passed_all s)) (due_says (fault_at q (passed_all s)) e).0)

not_due_outside : (s : Sender) (q : ℕ) → chosen (map passed s.faults) ≡ None
    → is_due (fault_at q (passed_all s)) ≡ false
not_due_outside s q e =
    by_test (is_due (fault_at q (passed_all s)))
    (λ k. true_false (sym k ∙ chosen_nowhere (map passed s.faults) e q (due_inside s q k)))
    (λ k. k)

-- a step that is made
made_rightly : (s t : Sender) (hs : List Happened) (c : Claim) (outcome : Outcome) → Knows s (λ p. known p hs)
    → Move s (steps c (gives outcome)) t → Rightly hs outcome
made_rightly s _ hs c _ k (rested _ _ e) = λ q period d w.
    let n = k.clock + 1 in
    let x = when n (fault_at q (passed_all s)) (known q hs).duty period d w (all_later s (λ p. known p hs) k q) in
    let r = rightly_none n d (fault_at q (passed_all s)) (not_due_outside s q e) x in
    omega (arith, r, k.same q)
made_rightly s _ hs c _ k (sent_at _ _ at address e g) =
    let n = k.clock + 1 in
    let ms = map passed s.faults in
    let o = chosen_at ms at e in
    let v = since n (fault_at at (passed_all s)) (known at hs).duty o.due (all_later s (λ p. known p hs) k at) in
    record {
      period = v.period;
      from = v.from;
      is = v.is;
      due = omega (arith, v.sum, k.same at);
      longest = λ q period d w.
          against n (fault_at at (passed_all s)).age v.from d q at (fault_at q (passed_all s)) v.sum
          (λ y. o.most q (due_inside s q y) y)
          (λ y z. o.lowest q (due_inside s q y) y z)
          (when n (fault_at q (passed_all s)) (known q hs).duty period d w (all_later s (λ p. known p hs) k q));
    }

pub longest_due_lem : LongestDue
longest_due_lem no_fault_bytes start s t hs c outcome b r l =
    let k = known_run start s hs (λ p. nothing_known) r
    (subst⁻¹ (λ (x : Sender). Knows x (λ p. nothing_known)) b.state (at_start no_fault_bytes)) in
    made_rightly s t hs c outcome k (move s t (steps c (gives outcome)) l)
