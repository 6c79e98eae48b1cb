-- Fairness: while a due fault waits, each step sends one that has been due at least as long, and what is sent or added
-- then is due later. So of 32 places at most 32 - j have been due for j steps. Assumes nothing.
use Rattle.std.specs.Prelude.{Some}
use mathlib.Core.Path.{◌≡◌, refl, sym, ap, ◌∙◌, subst⁻¹}
use mathlib.Core.Bool.{true, false}
use mathlib.Core.List.{List, [], ◌∷◌, map}
use Prim.Native.Nat.{ℕ, zero, suc, ◌+◌, ◌≤◌, ◌<◌}
use native.Mathlib.Omega.{arith}
use borrow.Author.Tests.{eqb-true, eqb-false}
use lib.ListN.{length, get_or, set, length-set}
use lib.Seq.{get_or-set_other}
use Rattle.words.specs.Words.{◌=?◌, ◌or◌}
use Rattle.words.specs.Lists.{any, count, first}
use Rattle.words.proofs.Words.{by_test, both_true, true_false}
use Rattle.words.proofs.Lists.{found_at}
use Rattle.faults.specs.Fault.{oldest, no_fault, is_empty, is_active, is_due, passed, added, sent}
use Rattle.faults.specs.Sender.{fault_places, fault_at, replacing, passed_all, chosen}
use Rattle.faults.specs.Runs.{Happened, Ran, no_call, a_call}
use Rattle.faults.specs.Runs.{steps_in, sent_in, sends_for, clears_at, Spared, NotCleared, most_others}
use Rattle.faults.specs.Runs.{DueNext, Fair, SentWithin}
use Rattle.faults.specs.declared.Fault.{Fault}
use Rattle.faults.specs.declared.Sender.{Sender}
use Rattle.faults.proofs.Counting.{count_all, count_image, count_set, count_drop, count_two}
use Rattle.faults.proofs.Passing.{active_true, active_says, due_says, ripe, ripe_says}
use Rattle.faults.proofs.Passing.{ripe_of_due, due_of_ripe, ripe_later, sent_unripe, added_unripe, none_unripe}
use Rattle.faults.proofs.Passing.{ripe_suc}
use Rattle.faults.proofs.Chosen.{chosen_at, chosen_nowhere}
use Rattle.faults.proofs.Moves.{Move, add_refused, added_at_lem, clear_refused, cleared_at, step_refused, rested}
use Rattle.faults.proofs.Moves.{sent_at, asked, move, inside, fault_passed, length_passed, neither}

-- a fault that is ripe is active
pub ripe_active : (j : ℕ) (f : Fault) → ripe j f ≡ true → is_active f ≡ true
ripe_active zero f r = (both_true (is_active f) _ r).0
ripe_active (suc k) f r = active_true f (due_says f (ripe_says k f r).0).0

-- Enough places: at most 32 - j have been due for j steps.
abbrev pub Few : ℕ → List Fault → Type 0
Few j fs = count (ripe j) fs + j ≤ fault_places

pub few_zero : (fs : List Fault) → length fs ≡ fault_places → Few 0 fs
few_zero fs n = omega (arith, n, count_all (ripe 0) fs)

-- a place replaced by one that is not ripe
pub few_set : (j : ℕ) (fs : List Fault) (i : ℕ) (f : Fault) → length fs ≡ fault_places → ((k : ℕ)
    → ripe (suc k) f ≡ false)
    → Few j fs → Few j (set fs i f)
few_set zero fs i f n u h = few_zero (set fs i f) (length-set fs i f ∙ n)
few_set (suc k) fs i f n u h = omega (arith, h, count_set (ripe (suc k)) fs i f (u k))

-- a step that sends the fault in place q, which has been due for j steps
pub few_sent : (j q : ℕ) (fs : List Fault) → q < length fs → is_due (passed (get_or fs q no_fault)) ≡ true
    → j ≤ (passed (get_or fs q no_fault)).age → get_or (map passed fs) q no_fault ≡ passed (get_or fs q no_fault)
    → Few j fs → Few (suc j) (set (map passed fs) q (sent (passed (get_or fs q no_fault))))
few_sent j q fs l d a e h =
    let x = sent (passed (get_or fs q no_fault)) in
    let n : q < length (map passed fs) = omega (arith, l, length_passed fs) in
    let t = active_true (passed (get_or fs q no_fault)) (due_says (passed (get_or fs q no_fault)) d).0 in
    let r : ripe (suc j) (get_or (map passed fs) q no_fault) ≡ true =
    ap (λ (f : Fault). ripe (suc j) f) e ∙ ripe_suc j (passed (get_or fs q no_fault)) d a in
    let c = count_drop (ripe (suc j)) (map passed fs) q x no_fault n (sent_unripe j (passed (get_or fs q no_fault)) t) r in
    let i = count_image (ripe j) (ripe (suc j)) passed (λ f. ripe_later j f) fs in
    omega (arith, c, i, h)

-- ---- A fault that waits.

-- how it stands after j others were sent
record Standing (p j : ℕ) (s : Sender) : Type 0 where
  pub places : length s.faults ≡ fault_places
  pub waits : ripe j (fault_at p s) ≡ true
  pub few : Few j s.faults
  pub below : j ≤ oldest

abbrev Goes : ℕ → List Happened → Type 0
Goes j hs = (steps_in hs ≡ sent_in hs) × (sent_in hs + j ≤ most_others)

-- another place replaced by one that is not ripe
put_aside : (p j at : ℕ) (s : Sender) (f : Fault) → (at ≡ p → ⊥) → ((k : ℕ) → ripe (suc k) f ≡ false) → Standing p j s
    → Standing p j (replacing s at f)
put_aside p j at s f n u w =
    record {
      places = length-set s.faults at f ∙ w.places;
      waits =
          ap (λ (g : Fault). ripe j g) (get_or-set_other s.faults at p f no_fault (λ e. n (sym e))) ∙ w.waits;
      few = few_set j s.faults at f w.places u w.few;
      below = w.below;
    }

-- an empty place is not the one that waits
not_empty : (p j at : ℕ) (s : Sender) → first is_empty s.faults ≡ Some at → Standing p j s → at ≡ p → ⊥
not_empty p j at s e w z =
    let t = found_at at is_empty s.faults no_fault e in
    let a = active_says (fault_at p s) (ripe_active j (fault_at p s) w.waits) in
    let y : is_empty (fault_at p s) ≡ true = ap (λ (i : ℕ). is_empty (get_or s.faults i no_fault)) (sym z) ∙ t.passes in
    a (eqb-true (fault_at p s).period 0 y)

-- while it waits it is due at every step
falls : (p j : ℕ) (s : Sender) → Standing p j s
    → (p < length (map passed s.faults)) × (is_due (get_or (map passed s.faults) p no_fault) ≡ true)
    × (j ≤ (passed (fault_at p s)).age)
falls p j s w =
    let t = due_of_ripe j (fault_at p s) w.waits w.below in
    let l = inside s.faults p (ripe_active j (fault_at p s) w.waits) in
    (omega (arith, l, length_passed s.faults), ap is_due (fault_passed p s) ∙ t.0, t.1)

-- a step for another
passed_over : (p j q : ℕ) (s : Sender) → (q ≡ p → ⊥) → chosen (map passed s.faults) ≡ Some q → Standing p j s
    → Standing p (suc j) (replacing (passed_all s) q (sent (fault_at q (passed_all s))))
passed_over p j q s n e w =
    let c = chosen_at (map passed s.faults) q e in
    let f = falls p j s w in
    let g = fault_at p s in
    let eq = fault_passed q s in
    let ep = fault_passed p s in
    let dq : is_due (passed (fault_at q s)) ≡ true = ap is_due (sym eq) ∙ c.due in
    let most : (passed g).age ≤ (passed (fault_at q s)).age =
    omega (arith, c.most p f.0 f.1, ap (λ (x : Fault). x.age) ep, ap (λ (x : Fault). x.age) eq) in
    let aq : j ≤ (passed (fault_at q s)).age = omega (arith, most, f.2) in
    let rq = ripe_of_due j (fault_at q s) dq aq in
    let lq : q < length s.faults = omega (arith, c.below, length_passed s.faults) in
    let lp : p < length s.faults = omega (arith, f.0, length_passed s.faults) in
    let two = count_two (ripe j) s.faults q p no_fault lq lp n rq w.waits in
    let b : suc j ≤ oldest = omega (arith, two, w.few) in
    let dp : is_due (passed g) ≡ true = ap is_due (sym ep) ∙ f.1 in
    let x = sent (fault_at q (passed_all s)) in
    record {
      places = length-set (map passed s.faults) q x ∙ length_passed s.faults ∙ w.places;
      waits =
          ap (λ (y : Fault). ripe (suc j) y) (get_or-set_other (map passed s.faults) q p x no_fault (λ z. n (sym z))
          ∙ ep)
          ∙ ripe_suc j (passed g) dp f.2;
      few =
          subst⁻¹ (λ (y : Fault). Few (suc j) (set (map passed s.faults) q (sent y))) eq
          (few_sent j q s.faults lq dq aq eq w.few);
      below = b;
    }

-- a call that is no step counts for nothing
no_step : (j a b : ℕ) → (a ≡ b) × (b + j ≤ most_others) → (0 + a ≡ 0 + b) × (0 + b + j ≤ most_others)
no_step j a b g = (omega (arith, g.0), omega (arith, g.1))

-- a call more
turn : (p j : ℕ) (s m : Sender) (h : Happened) (hs : List Happened) → Move s h m → Standing p j s → Spared p (h ∷ hs)
    → ((i : ℕ) → Standing p i m → Spared p hs → Goes i hs) → Goes j (h ∷ hs)
turn p j s _ _ hs (add_refused _ bytes period n) w a ih = no_step j (steps_in hs) (sent_in hs) (ih j w a)
turn p j s _ _ hs (added_at_lem _ bytes period at e k) w a ih =
    no_step j (steps_in hs) (sent_in hs)
    (ih j (put_aside p j at s (added bytes period) (not_empty p j at s e w) (λ i. added_unripe i bytes period) w) a)
turn p j s _ _ hs (clear_refused _ place n) w a ih = no_step j (steps_in hs) (sent_in hs) (ih j w a)
turn p j s _ _ hs (cleared_at _ at e) w a ih =
    let t = neither (at =? p) _ a in
    no_step j (steps_in hs) (sent_in hs)
    (ih j (put_aside p j at s no_fault (eqb-false at p t.0) (λ i. none_unripe (suc i)) w) t.1)
turn p j s _ _ hs (step_refused _ c n) w a ih = no_step j (steps_in hs) (sent_in hs) (ih j w a)
turn p j s _ _ hs (rested _ c e) w a ih =
    let f = falls p j s w in
    true_false (sym f.1 ∙ chosen_nowhere (map passed s.faults) e p f.0)
turn p j s _ _ hs (sent_at _ c at address e g) w a ih =
    let t = neither ((at =? p) or false) _ a in
    let u = neither (at =? p) false t.0 in
    let r = ih (suc j) (passed_over p j at s (eqb-false at p u.0) e w) t.1 in
    (omega (arith, r.0), omega (arith, r.1))
turn p j s _ _ hs (asked _ id bytes c told) w a ih = no_step j (steps_in hs) (sent_in hs) (ih j w a)

goes : (p j : ℕ) (s t : Sender) (hs : List Happened) → Ran s hs t → Standing p j s → Spared p hs → Goes j hs
goes p j s t _ (no_call _) w a = (refl, omega (arith, w.below))
goes p j s t _ (a_call _ m _ h hs l r) w a =
    turn p j s m h hs (move s m h l) w a (λ i v b. goes p i m t hs r v b)

-- a fault that is due from the next step on
at_first : (p : ℕ) (s : Sender) → DueNext p s → Standing p 0 s
at_first p s d =
    record {
      places = d.places;
      waits = ripe_of_due 0 (fault_at p s) d.due (omega arith);
      few = few_zero s.faults d.places;
      below = omega arith;
    }

pub fair : Fair
fair p s t hs d r a =
    let g = goes p 0 s t hs r (at_first p s d) a in
    record { every_step_sends = g.0; at_most = omega (arith, g.1) }

-- neither sent nor cleared
spared : (p : ℕ) (hs : List Happened) → NotCleared p hs → any (sends_for p) hs ≡ false → Spared p hs
spared p [] a b = refl
spared p (h ∷ hs) a b =
    let x = neither (clears_at p h) _ a in
    let y = neither (sends_for p h) _ b in
    rw (x.0, y.0) (spared p hs x.1 y.1)

pub sent_within : SentWithin
sent_within p s t hs d r a n =
    by_test (any (sends_for p) hs)
    (λ e. e)
    (λ e.
    let w = fair p s t hs d r (spared p hs a e) in
    absurd (omega (arith, n, w.every_step_sends, w.at_most)))
