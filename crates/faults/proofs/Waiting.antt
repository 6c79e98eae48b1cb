-- One place over a run of calls: what stays of an active fault, how its time passes, and an empty place. With these the
-- laws over calls alone. Assumes nothing.
use Rattle.std.specs.Prelude.{Some}
use Rattle.std.specs.Prelude.{if◌then◌else◌}
use mathlib.Core.Path.{◌≡◌, refl, sym, ap, ◌∙◌}
use mathlib.Core.Bool.{Bool, true, false}
use mathlib.Core.List.{List, map}
use Prim.Native.Nat.{ℕ, zero, suc, ◌+◌, ◌*◌, ◌-◌, ◌%◌, ◌≤◌, ◌<◌}
use native.Mathlib.Omega.{arith}
use borrow.Author.Tests.{eqb-true, eqb-false, leb-true, ltb-true, ltb-false, ne_eqb}
use lib.ListN.{length, get_or, set, length-set}
use lib.Seq.{get_or-set_other, get_or-set_same}
use Rattle.words.specs.Words.{given◌then◌, ◌<?◌, ◌=?◌, ◌≤?◌, ◌or◌, gives}
use Rattle.words.specs.Lists.{any, first}
use Rattle.frame.specs.Standard.{Frame}
use Rattle.words.proofs.Words.{by_test, both_true}
use Rattle.words.proofs.Lists.{found_at}
use Rattle.claim.specs.declared.Claim.{Claim}
use Rattle.faults.specs.Fault.{step_time, is_allowed, no_fault, is_empty, is_due, passed, added, sent}
use Rattle.command.specs.Handed.{address_held}
use Rattle.faults.specs.Sender.{fault_places, standing, fault_at, replacing, passed_all, chosen, sends, dm_rv_frame}
use Rattle.faults.specs.Promises.{Start}
use Rattle.faults.specs.Runs.{Happened, adds, clears, steps, Leads, Ran, no_call, a_call, is_step}
use Rattle.faults.specs.Runs.{steps_in, sends_for, clears_at, adds_at, Spared, NotCleared, DueNext, Active}
use Rattle.faults.specs.Runs.{FairAdded, FairAgain, SentIsOwn, NeverEarly, NeverCleared}
use Rattle.faults.specs.declared.Fault.{Fault}
use Rattle.faults.specs.declared.Sender.{Sender}
use Rattle.faults.proofs.Passing.{due_says, passed_bytes, passed_period, passed_until}
use Rattle.faults.proofs.Passing.{ripe_zero, due_of_ripe, ripe_of_due, ripe_zero_says}
use Rattle.faults.proofs.Chosen.{chosen_at}
use Rattle.faults.proofs.Moves.{Move, add_refused, added_at_lem, clear_refused, cleared_at, step_refused, rested}
use Rattle.faults.proofs.Moves.{sent_at, asked, move, inside, outside, active_at, fault_passed, length_passed}
use Rattle.faults.proofs.Moves.{neither}
use Rattle.faults.proofs.Fair.{fair}

-- a period that is allowed is at least 100, in steps of 50
pub allowed_says : (period : ℕ) → is_allowed period ≡ true → (100 ≤ period) × (period % step_time ≡ 0)
unfolding is_allowed
allowed_says period e =
    let t = both_true (100 ≤? period) _ e in
    let u = both_true (period ≤? 1000) _ t.1 in
    (leb-true 100 period t.0, eqb-true (period % step_time) 0 u.1)

-- the number of places stays

pub length_move : (s m : Sender) (h : Happened) → Move s h m → length m.faults ≡ length s.faults
length_move s _ _ (add_refused _ bytes period n) = refl
length_move s _ _ (added_at_lem _ bytes period at e k) = length-set s.faults at (added bytes period)
length_move s _ _ (clear_refused _ place n) = refl
length_move s _ _ (cleared_at _ at e) = length-set s.faults at no_fault
length_move s _ _ (step_refused _ c n) = refl
length_move s _ _ (rested _ c e) = length_passed s.faults
length_move s _ _ (sent_at _ c at address e g) =
    length-set (map passed s.faults) at (sent (fault_at at (passed_all s))) ∙ length_passed s.faults
length_move s _ _ (asked _ id bytes c told) = refl

pub length_run : (s t : Sender) (hs : List Happened) → Ran s hs t → length t.faults ≡ length s.faults
length_run s t _ (no_call _) = refl
length_run s t _ (a_call _ m _ h hs l r) = length_run m t hs r ∙ length_move s m h (move s m h l)

pub length_start : (bytes : List ℕ) (start : Sender) → Start bytes start → length start.faults ≡ fault_places
length_start bytes start k = ap (λ (s : Sender). length s.faults) k.state

-- an empty place that a new fault takes
pub record Entered (p period : ℕ) (bytes : List ℕ) (s a : Sender) : Type 0 where
  pub below : p < length s.faults
  pub empty : is_empty (fault_at p s) ≡ true
  pub allowed : is_allowed period ≡ true
  pub is : a ≡ replacing s p (added bytes period)
  pub there : fault_at p a ≡ added bytes period

entered_by : (p period : ℕ) (bytes : List ℕ) (s a : Sender) → Move s (adds bytes period (gives p)) a
    → Entered p period bytes s a
entered_by p period bytes s _ (added_at_lem _ _ _ _ e k) =
    let t = found_at p is_empty s.faults no_fault e in
    record {
      below = t.below;
      empty = t.passes;
      allowed = k;
      is = refl;
      there = get_or-set_same s.faults p (added bytes period) no_fault t.below;
    }

pub entered : (p period : ℕ) (bytes : List ℕ) (s a : Sender) → Leads s (adds bytes period (gives p)) a
    → Entered p period bytes s a
entered p period bytes s a l = entered_by p period bytes s a (move s a (adds bytes period (gives p)) l)

-- a new fault is due from the next step on
due_added : (p period : ℕ) (bytes : List ℕ) (s a : Sender) → length s.faults ≡ fault_places
    → Entered p period bytes s a → DueNext p a
due_added p period bytes s a n t =
    let l = allowed_says period t.allowed in
    let k = ripe_zero (added bytes period) (λ (z : period ≡ 0). absurd (omega (arith, l.0))) (omega arith) in
    let d = due_of_ripe 0 (added bytes period) k (omega arith) in
    record {
      places = ap (λ (x : Sender). length x.faults) t.is ∙ length-set s.faults p (added bytes period) ∙ n;
      due = ap (λ (f : Fault). is_due (passed f)) t.there ∙ d.0;
    }

pub fair_added : FairAdded
fair_added p period bytes no_fault_bytes start before a t earlier hs k r l q e =
    let n = length_run start before earlier r ∙ length_start no_fault_bytes start k in
    fair p a t hs (due_added p period bytes before a n (entered p period bytes before a l)) q e

-- ---- Bytes and period of an active fault.

pub record Holds (period : ℕ) (bytes : List ℕ) (f : Fault) : Type 0 where
  pub own_bytes : f.bytes ≡ bytes
  pub own_period : f.period ≡ period

-- a fault in another place than the one that is replaced
other_place : (period : ℕ) (bytes : List ℕ) (p at : ℕ) (s : Sender) (f : Fault) → (at ≡ p → ⊥)
    → Holds period bytes (fault_at p s) → Holds period bytes (fault_at p (replacing s at f))
other_place period bytes p at s f n o =
    let e = get_or-set_other s.faults at p f no_fault (λ z. n (sym z)) in
    record {
      own_bytes = ap (λ (g : Fault). g.bytes) e ∙ o.own_bytes;
      own_period = ap (λ (g : Fault). g.period) e ∙ o.own_period;
    }

-- after 50 ms
holds_passed : (period : ℕ) (bytes : List ℕ) (p : ℕ) (s : Sender) → Holds period bytes (fault_at p s)
    → Holds period bytes (fault_at p (passed_all s))
holds_passed period bytes p s o =
    let e = fault_passed p s in
    record {
      own_bytes = ap (λ (g : Fault). g.bytes) e ∙ passed_bytes (fault_at p s) ∙ o.own_bytes;
      own_period = ap (λ (g : Fault). g.period) e ∙ passed_period (fault_at p s) ∙ o.own_period;
    }

-- an active place is not the empty one that a new fault takes
pub taken_other : (p at : ℕ) (s : Sender) → first is_empty s.faults ≡ Some at → ((fault_at p s).period ≡ 0 → ⊥)
    → at ≡ p → ⊥
taken_other p at s e n z =
    let t = found_at at is_empty s.faults no_fault e in
    let y : is_empty (fault_at p s) ≡ true = ap (λ (i : ℕ). is_empty (get_or s.faults i no_fault)) (sym z) ∙ t.passes in
    n (eqb-true (fault_at p s).period 0 y)

-- sent or not, it holds the same
holds_sent : (period : ℕ) (bytes : List ℕ) (p at : ℕ) (s : Sender) → at < length s.faults
    → Holds period bytes (fault_at p s) → Holds period bytes (fault_at p (replacing s at (sent (fault_at at s))))
holds_sent period bytes p at s l o =
    by_test (at =? p)
    (λ e.
    let z = eqb-true at p e in
    let y : fault_at p (replacing s at (sent (fault_at at s))) ≡ sent (fault_at p s) =
    ap (λ (i : ℕ). get_or (set s.faults i (sent (fault_at i s))) p no_fault) z
    ∙ get_or-set_same s.faults p (sent (fault_at p s)) no_fault (rw z at l) in
    record {
      own_bytes = ap (λ (g : Fault). g.bytes) y ∙ o.own_bytes;
      own_period = ap (λ (g : Fault). g.period) y ∙ o.own_period;
    })
    (λ e. other_place period bytes p at s (sent (fault_at at s)) (eqb-false at p e) o)

holds_move : (p period : ℕ) (bytes : List ℕ) (s m : Sender) (h : Happened) → (period ≡ 0 → ⊥) → Move s h m
    → clears_at p h ≡ false → Holds period bytes (fault_at p s) → Holds period bytes (fault_at p m)
holds_move p period bytes s _ _ n (add_refused _ b q i) a o = o
holds_move p period bytes s _ _ n (added_at_lem _ b q at e k) a o =
    other_place period bytes p at s (added b q) (taken_other p at s e (λ z. n (sym o.own_period ∙ z))) o
holds_move p period bytes s _ _ n (clear_refused _ place i) a o = o
holds_move p period bytes s _ _ n (cleared_at _ at e) a o = other_place period bytes p at s no_fault (eqb-false at p a) o
holds_move p period bytes s _ _ n (step_refused _ c i) a o = o
holds_move p period bytes s _ _ n (rested _ c e) a o = holds_passed period bytes p s o
holds_move p period bytes s _ _ n (sent_at _ c at address e g) a o =
    holds_sent period bytes p at (passed_all s) (chosen_at (map passed s.faults) at e).below
    (holds_passed period bytes p s o)
holds_move p period bytes s _ _ n (asked _ id b c told) a o = o

holds_run : (p period : ℕ) (bytes : List ℕ) (s t : Sender) (hs : List Happened) → (period ≡ 0 → ⊥) → Ran s hs t
    → NotCleared p hs → Holds period bytes (fault_at p s) → Holds period bytes (fault_at p t)
holds_run p period bytes s t _ n (no_call _) a o = o
holds_run p period bytes s t _ n (a_call _ m _ h hs l r) a o =
    let x = neither (clears_at p h) _ a in
    holds_run p period bytes m t hs n r x.1 (holds_move p period bytes s m h n (move s m h l) x.0 o)

-- what an active fault is
pub record Is (p period : ℕ) (bytes : List ℕ) (now : Sender) : Type 0 where
  pub places : length now.faults ≡ fault_places
  pub long : 100 ≤ period
  pub holds : Holds period bytes (fault_at p now)

pub is_active_lem : (p period : ℕ) (bytes : List ℕ) (now : Sender) → Active p period bytes now → Is p period bytes now
is_active_lem p period bytes now a =
    let t = entered p period bytes a.before a.after a.added in
    let l = allowed_says period t.allowed in
    let n = length_run a.start a.before a.earlier a.ran
    ∙ length_start a.no_fault a.start a.started in
    let o : Holds period bytes (fault_at p a.after) =
    record {
      own_bytes = ap (λ (f : Fault). f.bytes) t.there;
      own_period = ap (λ (f : Fault). f.period) t.there;
    } in
    record {
      places =
          length_run a.after now a.since a.ran_on
          ∙ ap (λ (x : Sender). length x.faults) t.is
          ∙ length-set a.before.faults p (added bytes period)
          ∙ n;
      long = l.0;
      holds =
          holds_run p period bytes a.after now a.since (λ (z : period ≡ 0). absurd (omega (arith, l.0)))
          a.ran_on a.kept o;
    }

-- ---- A step that sent it.

pub record Sends (p : ℕ) (c : Claim) (frame : Frame) (b d : Sender) : Type 0 where
  pub address : ℕ
  pub held : (given standing c then λ stand. address_held stand) ≡ gives address
  pub is : frame ≡ dm_rv_frame address (fault_at p (passed_all b)).bytes
  pub chose : chosen (map passed b.faults) ≡ Some p
  pub left : d ≡ replacing (passed_all b) p (sent (fault_at p (passed_all b)))

sends_by : (p : ℕ) (c : Claim) (frame : Frame) (b d : Sender) → Move b (steps c (gives (sends p frame))) d
    → Sends p c frame b d
sends_by p c _ b _
    (sent_at _ _ _ address e g) = record { address = address; held = g; is = refl; chose = e; left = refl }

pub sent_step : (p : ℕ) (c : Claim) (frame : Frame) (b d : Sender) → Leads b (steps c (gives (sends p frame))) d
    → Sends p c frame b d
sent_step p c frame b d l = sends_by p c frame b d (move b d (steps c (gives (sends p frame))) l)

pub sent_is_own : SentIsOwn
sent_is_own p period bytes c frame b d a l =
    let t = sent_step p c frame b d l in
    let o = holds_passed period bytes p b (is_active_lem p period bytes b a).holds in
    record {
      address = t.address;
      held = t.held;
      is = t.is ∙ ap (λ (x : List ℕ). dm_rv_frame t.address x) o.own_bytes;
    }

-- where it stands then
left_at : (p : ℕ) (c : Claim) (frame : Frame) (b d : Sender) → Sends p c frame b d
    → fault_at p d ≡ sent (fault_at p (passed_all b))
left_at p c frame b d t =
    ap (fault_at p) t.left
    ∙ get_or-set_same (map passed b.faults) p (sent (fault_at p (passed_all b))) no_fault
    (chosen_at (map passed b.faults) p t.chose).below

-- ---- Time passes for a place by itself.

abbrev passes : ℕ → Fault → Fault
passes zero f = f
passes (suc n) f = passes n (passed f)

passes_period : (n : ℕ) (f : Fault) → (passes n f).period ≡ f.period
passes_period zero f = refl
passes_period (suc n) f = passes_period n (passed f) ∙ passed_period f

passes_until : (n : ℕ) (f : Fault) → (f.period ≡ 0 → ⊥) → (passes n f).until_due ≡ f.until_due - step_time * n
passes_until zero f k = omega arith
passes_until (suc n) f k =
    let i = passes_until n (passed f) (λ z. k (sym (passed_period f) ∙ z)) in
    omega (arith, i, passed_until f k)

-- a call that neither sends nor clears the fault
alone_move : (p : ℕ) (s m : Sender) (h : Happened) → Move s h m → (sends_for p h or clears_at p h) ≡ false
    → ((fault_at p s).period ≡ 0 → ⊥)
    → fault_at p m ≡ passes (if is_step h then 1 else 0) (fault_at p s)
alone_move p s _ _ (add_refused _ bytes period n) a k = refl
alone_move p s _ _ (added_at_lem _ bytes period at e j) a k =
    get_or-set_other s.faults at p (added bytes period) no_fault (λ z. taken_other p at s e k (sym z))
alone_move p s _ _ (clear_refused _ place n) a k = refl
alone_move p s _ _ (cleared_at _ at e) a k = get_or-set_other s.faults at p no_fault no_fault (λ z. eqb-false at p a
    (sym z))
alone_move p s _ _ (step_refused _ c n) a k = refl
alone_move p s _ _ (rested _ c e) a k = fault_passed p s
alone_move p s _ _ (sent_at _ c at address e g) a k =
    let u = neither (at =? p) false a in
    get_or-set_other (map passed s.faults) at p (sent (fault_at at (passed_all s))) no_fault
    (λ z. eqb-false at p u.0 (sym z))
    ∙ fault_passed p s
alone_move p s _ _ (asked _ id bytes c told) a k = refl

passes_more : (b : Bool) (n : ℕ) (f g : Fault) → g ≡ passes (if b then 1 else 0) f
    → passes n g ≡ passes ((if b then 1 else 0) + n) f
passes_more true n f g e = let z : suc n ≡ 1 + n = omega arith in ap (passes n) e ∙ ap (λ (i : ℕ). passes i f) z
passes_more false n f g e = let z : n ≡ 0 + n = omega arith in ap (passes n) e ∙ ap (λ (i : ℕ). passes i f) z

alone_active : (b : Bool) (f g : Fault) → g ≡ passes (if b then 1 else 0) f → (f.period ≡ 0 → ⊥) → g.period ≡ 0 → ⊥
alone_active b f g e k z = k (sym (passes_period (if b then 1 else 0) f) ∙ ap (λ (x : Fault). x.period) (sym e) ∙ z)

pub alone_run : (p : ℕ) (s t : Sender) (hs : List Happened) → Ran s hs t → Spared p hs → ((fault_at p s).period ≡ 0 → ⊥)
    → fault_at p t ≡ passes (steps_in hs) (fault_at p s)
alone_run p s t _ (no_call _) a k = refl
alone_run p s t _ (a_call _ m _ h hs l r) a k =
    let x = neither (sends_for p h or clears_at p h) _ a in
    let e = alone_move p s m h (move s m h l) x.0 k in
    alone_run p m t hs r x.1 (alone_active (is_step h) (fault_at p s) (fault_at p m) e k)
    ∙ passes_more (is_step h) (steps_in hs) (fault_at p s) (fault_at p m) e

-- how it stands after it was sent and so many steps were made
pub record Later (p period n : ℕ) (e : Sender) : Type 0 where
  pub active : (fault_at p e).period ≡ 0 → ⊥
  pub until : (fault_at p e).until_due ≡ period - step_time * n

later : (p period : ℕ) (bytes : List ℕ) (c : Claim) (frame : Frame) (b d e : Sender) (wait : List Happened)
    → Is p period bytes b
    → Sends p c frame b d → Ran d wait e → Spared p wait → Later p period (steps_in wait) e
later p period bytes c frame b d e wait i t r a =
    let o = holds_passed period bytes p b i.holds in
    let y = left_at p c frame b d t in
    let f = sent (fault_at p (passed_all b)) in
    let k : f.period ≡ 0 → ⊥ = λ z. absurd (omega (arith, i.long, sym o.own_period ∙ z)) in
    let kd : (fault_at p d).period ≡ 0 → ⊥ = λ z. k (sym (ap (λ (x : Fault). x.period) y) ∙ z) in
    let w = alone_run p d e wait r a kd ∙ ap (passes (steps_in wait)) y in
    record {
      active = λ z. k (sym (passes_period (steps_in wait) f) ∙ sym (ap (λ (x : Fault). x.period) w) ∙ z);
      until =
          ap (λ (x : Fault). x.until_due) w
          ∙ passes_until (steps_in wait) f k
          ∙ ap (λ (u : ℕ). u - step_time * steps_in wait) o.own_period;
    }

pub fair_again : FairAgain
fair_again p period bytes c frame b d e t wait hs a l r q h v w =
    let i = is_active_lem p period bytes b a in
    let s = sent_step p c frame b d l in
    let z = later p period bytes c frame b d e wait i s r q in
    let n = length_run d e wait r
    ∙ length_move b d (steps c (gives (sends p frame))) (move b d (steps c (gives (sends p frame))) l) ∙ i.places in
    let k = ripe_zero (fault_at p e) z.active (omega (arith, z.until, h)) in
    fair p e t hs (record { places = n; due = (due_of_ripe 0 (fault_at p e) k (omega arith)).0 }) v w

pub never_early : NeverEarly
never_early p period bytes c c' frame frame' b d e t wait a l r q l' =
    let i = is_active_lem p period bytes b a in
    let z = later p period bytes c frame b d e wait i (sent_step p c frame b d l) r q in
    let s = sent_step p c' frame' e t l' in
    let x = chosen_at (map passed e.faults) p s.chose in
    let y = ripe_of_due 0 (fault_at p e) (ap is_due (sym (fault_passed p e)) ∙ x.due) (omega arith) in
    omega (arith, ripe_zero_says (fault_at p e) y, z.until)

-- ---- An empty place.

abbrev Empty : ℕ → Sender → Type 0
Empty p s = (fault_at p s).period ≡ 0

empty_other : (p at : ℕ) (s : Sender) (f : Fault) → (at ≡ p → ⊥) → Empty p s → Empty p (replacing s at f)
empty_other p at s f n z = ap (λ (g : Fault). g.period) (get_or-set_other s.faults at p f no_fault (λ e. n
    (sym e))) ∙ z

empty_passed : (p : ℕ) (s : Sender) → Empty p s → Empty p (passed_all s)
empty_passed p s z = ap (λ (g : Fault). g.period) (fault_passed p s) ∙ passed_period (fault_at p s) ∙ z

-- it is not sent
empty_unsent : (p at : ℕ) (s : Sender) → Empty p s → chosen (map passed s.faults) ≡ Some at → at ≡ p → ⊥
empty_unsent p at s z e y =
    let d = (chosen_at (map passed s.faults) at e).due in
    let n = (due_says (fault_at at (passed_all s)) d).0 in
    n (ap (λ (i : ℕ). (fault_at i (passed_all s)).period) y ∙ empty_passed p s z)

-- and stays empty until a fault is added there
empty_move : (p : ℕ) (s m : Sender) (h : Happened) → Move s h m → adds_at p h ≡ false → Empty p s
    → Empty p m × (sends_for p h ≡ false)
empty_move p s _ _ (add_refused _ bytes period n) a z = (z, refl)
empty_move p s _ _ (added_at_lem _ bytes period at e k) a z = (
  empty_other p at s (added bytes period)
      (eqb-false at p a) z,
  refl,
)
empty_move p s _ _ (clear_refused _ place n) a z = (z, refl)
empty_move p s _ _ (cleared_at _ at e) a z = (
  by_test (at =? p)
      (λ y.
      let k = eqb-true at p y in
      by_test (p <? length s.faults)
      (λ l.
      ap (λ (i : ℕ). (get_or (set s.faults i no_fault) p no_fault).period) k
      ∙ ap (λ (g : Fault). g.period) (get_or-set_same s.faults p no_fault no_fault (ltb-true p (length s.faults) l)))
      (λ l. ap (λ (g : Fault). g.period) (outside (set s.faults at no_fault) p
      (omega (arith, length-set s.faults at no_fault, ltb-false p (length s.faults) l)))))
      (λ y. empty_other p at s no_fault (eqb-false at p y) z),
  refl,
)
empty_move p s _ _ (step_refused _ c n) a z = (z, refl)
empty_move p s _ _ (rested _ c e) a z = (empty_passed p s z, refl)
empty_move p s _ _ (sent_at _ c at address e g) a z =
    let n = empty_unsent p at s z e in
    (empty_other p at (passed_all s) (sent (fault_at at (passed_all s))) n (empty_passed p s z), ne_eqb at p n)
empty_move p s _ _ (asked _ id bytes c told) a z = (z, refl)

empty_run : (p : ℕ) (s t : Sender) (hs : List Happened) → Ran s hs t → any (adds_at p) hs ≡ false → Empty p s
    → any (sends_for p) hs ≡ false
empty_run p s t _ (no_call _) a z = refl
empty_run p s t _ (a_call _ m _ h hs l r) a z =
    let x = neither (adds_at p h) _ a in
    let y = empty_move p s m h (move s m h l) x.0 z in
    rw y.1 (empty_run p m t hs r x.1 y.0)

emptied_by : (p q : ℕ) (s a : Sender) → Move s (clears p (gives q)) a → Empty p a
emptied_by p _ s _ (cleared_at _ _ e) =
    let l = inside s.faults p (active_at p s e) in
    ap (λ (g : Fault). g.period) (get_or-set_same s.faults p no_fault no_fault l)

pub never_cleared : NeverCleared
never_cleared p s a t hs l r k = empty_run p a t hs r k (emptied_by p p s a (move s a (clears p (gives p)) l))
