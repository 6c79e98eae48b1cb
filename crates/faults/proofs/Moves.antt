-- What a call of a run makes of the state, in the eight ways that the definitions have; and what the places of a state
-- are afterwards. Assumes nothing.
use Rattle.std.specs.Prelude.{Option, Some, None}
use Rattle.std.specs.Prelude.{if◌then◌else◌}
use mathlib.Core.Path.{◌≡◌, refl, sym, ap, ◌∙◌, subst}
use mathlib.Core.Bool.{Bool, true, false, not}
use mathlib.Core.List.{List, [], ◌∷◌, map}
use Prim.Native.Nat.{ℕ, zero, suc, ◌≤◌, ◌<◌}
use native.Mathlib.Nat.{le_of_suc-le-suc, not-suc-le-zero}
use native.Mathlib.Omega.{arith}
use lib.ListN.{length, get_or}
use Rattle.words.specs.Words.{given◌then◌, ◌or◌, ◌<?◌, Told, refused, gives}
use Rattle.words.specs.Lists.{first}
use Rattle.words.proofs.Words.{both_true, true_false, refused_gives, gives_same, past_refusal, before_refusal}
use Rattle.claim.specs.Claim.{Stand}
use Rattle.claim.specs.declared.Claim.{Claim}
use Rattle.command.specs.Handed.{address_held}
use Rattle.faults.specs.Fault.{is_allowed, no_fault, is_empty, is_active, passed, added, sent}
use Rattle.faults.specs.Sender.{fault_places, keeps_rules, standing, fault_at, replacing, added_at, added_for, added_of}
use Rattle.faults.specs.Sender.{after_add, is_active_at, cleared_of, after_clear, chosen, passed_all, Outcome}
use Rattle.faults.specs.Sender.{nothing_due, sends, dm_rv_frame, outcome_for, held_step, stepped_of, after_step}
use Rattle.faults.specs.Requests as Requests
use Rattle.faults.specs.Runs.{Happened, adds, clears, steps, requests, Leads}
use Rattle.faults.specs.declared.Fault.{Fault}
use Rattle.faults.specs.declared.Sender.{Sender}
use Rattle.faults.proofs.Passing.{passed_none}

-- a step that is made, from the address that is held
pub record Made (c : Claim) (s : Sender) (outcome : Outcome) : Type 0 where
  pub address : ℕ
  pub held : (given standing c then λ stand. address_held stand) ≡ gives address
  pub is : outcome ≡ held_step address s

pub data Move : Sender → Happened → Sender → Type 0 where
  add_refused : (s : Sender) (bytes : List ℕ) (period n : ℕ) → Move s (adds bytes period (refused n)) s
  added_at_lem : (s : Sender) (bytes : List ℕ) (period at : ℕ) → first is_empty s.faults ≡ Some at → is_allowed period ≡ true
      → Move s (adds bytes period (gives at)) (replacing s at (added bytes period))
  clear_refused : (s : Sender) (place n : ℕ) → Move s (clears place (refused n)) s
  cleared_at : (s : Sender) (at : ℕ) → is_active_at at s ≡ true → Move s (clears at (gives at)) (replacing s at no_fault)
  step_refused : (s : Sender) (c : Claim) (n : ℕ) → Move s (steps c (refused n)) s
  rested : (s : Sender) (c : Claim) → chosen (map passed s.faults) ≡ None
      → Move s (steps c (gives nothing_due)) (passed_all s)
  sent_at : (s : Sender) (c : Claim) (at address : ℕ) → chosen (map passed s.faults) ≡ Some at
      → (given standing c then λ stand. address_held stand) ≡ gives address
      → Move s (steps c (gives (sends at (dm_rv_frame address (fault_at at (passed_all s)).bytes))))
      (replacing (passed_all s) at (sent (fault_at at (passed_all s))))
  asked : (s : Sender) (id : ℕ) (bytes : List ℕ) (c : Claim) (told : Told Requests.Reply)
      → Move s (requests id bytes c told) s

-- a fault added

given_at : (period at : ℕ) (found : Option ℕ) → added_for period found ≡ gives at
    → (found ≡ Some at) × (is_allowed period ≡ true)
unfolding added_at
given_at period at (Some i) e =
    let t = before_refusal (is_allowed period) 21 (gives i) e in
    (ap Some (gives_same t.1), t.0)
given_at period at None e = refused_gives e

pub was_added : (s : Sender) (period at : ℕ) → added_of period s ≡ gives at
    → (first is_empty s.faults ≡ Some at) × (is_allowed period ≡ true)
unfolding added_of
was_added s period at e =
    given_at period at (first is_empty s.faults)
    (past_refusal (not (keeps_rules s)) 2 (added_for period (first is_empty s.faults)) e).1

move_add : (s m : Sender) (bytes : List ℕ) (period : ℕ) (told : Told ℕ) → told ≡ added_of period s
    → m ≡ after_add told bytes period s → Move s (adds bytes period told) m
move_add s m bytes period (refused n) e k = rw k (add_refused s bytes period n)
move_add s m bytes period (gives at) e k =
    let t = was_added s period at (sym e) in
    rw k (added_at_lem s bytes period at t.0 t.1)

-- a fault cleared

was_cleared : (s : Sender) (place at : ℕ) → cleared_of place s ≡ gives at → (is_active_at place s ≡ true) × (place ≡ at)
unfolding cleared_of
was_cleared s place at e =
    let t = (past_refusal (not (keeps_rules s)) 2 (if is_active_at place s then gives place else refused 22) e).1 in
    let u = before_refusal (is_active_at place s) 22 (gives place) t in
    (u.0, gives_same u.1)

move_clear : (s m : Sender) (place : ℕ) (told : Told ℕ) → told ≡ cleared_of place s → m ≡ after_clear told s
    → Move s (clears place told) m
move_clear s m place (refused n) e k = rw k (clear_refused s place n)
move_clear s m place (gives at) e k =
    let t = was_cleared s place at (sym e) in
    let a = rw t.1 at t.0 in
    rw (k, t.1) (cleared_at s at a)

-- a step

held_made : (c : Claim) (s : Sender) (told : Told ℕ) (outcome : Outcome)
    → (given standing c then λ stand. address_held stand) ≡ told
    → (given told then λ address. gives (held_step address s)) ≡ gives outcome → Made c s outcome
held_made c s (refused n) outcome h e = refused_gives e
held_made c s (gives address) outcome h e = record { address = address; held = h; is = sym (gives_same e) }

given_twice : (told : Told Stand) (s : Sender)
    → (given told then λ stand. given address_held stand then λ address. gives (held_step address s))
    ≡ (given (given told then λ stand. address_held stand) then λ address. gives (held_step address s))
given_twice (refused n) s = refl
given_twice (gives stand) s = refl

pub made : (c : Claim) (s : Sender) (outcome : Outcome) → stepped_of c s ≡ gives outcome → Made c s outcome
unfolding stepped_of
made c s outcome e =
    let t = (past_refusal (not (keeps_rules s)) 2
    (given standing c then λ stand. given address_held stand then λ address. gives (held_step address s)) e).1 in
    held_made c s (given standing c then λ stand. address_held stand) outcome refl (sym (given_twice (standing c) s) ∙ t)

pub data Step (s : Sender) (c : Claim) (address : ℕ) : Outcome → Type 0 where
  none : chosen (map passed s.faults) ≡ None → Step s c address nothing_due
  one : (at : ℕ) → chosen (map passed s.faults) ≡ Some at
      → Step s c address (sends at (dm_rv_frame address (fault_at at (passed_all s)).bytes))

step_of : (s : Sender) (c : Claim) (address : ℕ) (found : Option ℕ) → chosen (map passed s.faults) ≡ found
    → Step s c address (outcome_for address found (passed_all s))
step_of s c address (Some at) e = one at e
step_of s c address None e = none e

pub held_step_lem : (s : Sender) (c : Claim) (address : ℕ) → Step s c address (held_step address s)
unfolding held_step
held_step_lem s c address = step_of s c address (chosen (map passed s.faults)) refl

move_made : (s m : Sender) (c : Claim) (address : ℕ) (outcome : Outcome)
    → (given standing c then λ stand. address_held stand) ≡ gives address → Step s c address outcome
    → m ≡ after_step (gives outcome) s → Move s (steps c (gives outcome)) m
move_made s m c address _ h (none e) k = rw k (rested s c e)
move_made s m c address _ h (one at e) k = rw k (sent_at s c at address e h)

move_step : (s m : Sender) (c : Claim) (told : Told Outcome) → told ≡ stepped_of c s → m ≡ after_step told s
    → Move s (steps c told) m
move_step s m c (refused n) e k = rw k (step_refused s c n)
move_step s m c (gives outcome) e k =
    let t = made c s outcome (sym e) in
    move_made s m c t.address outcome t.held
    (subst (λ (o : Outcome). Step s c t.address o) (sym t.is) (held_step_lem s c t.address)) k

-- every call
pub move : (s m : Sender) (h : Happened) → Leads s h m → Move s h m
move s m (adds bytes period told) l =
    let e = l.2 ∙ l.1.answer in
    move_add s m bytes period told e (l.1.state ∙ ap (λ (a : Told ℕ). after_add a bytes period s) (sym e))
move s m (clears place told) l =
    let e = l.2 ∙ l.1.answer in
    move_clear s m place told e (l.1.state ∙ ap (λ (a : Told ℕ). after_clear a s) (sym e))
move s m (steps c told) l =
    let e = l.3 ∙ l.2.answer in
    move_step s m c told e (l.2.state ∙ ap (λ (a : Told Outcome). after_step a s) (sym e))
move s m (requests id bytes c told) l = rw l.2.state (asked s id bytes c told)

-- places

-- a place with a fault is one of the places
pub inside : (fs : List Fault) (p : ℕ) → is_active (get_or fs p no_fault) ≡ true → p < length fs
inside [] p e = true_false (sym e)
inside (f ∷ fs) zero e = omega arith
inside (f ∷ fs) (suc p) e = omega (arith, inside fs p e)

-- past the end stands an empty place
pub outside : (fs : List Fault) (p : ℕ) → length fs ≤ p → get_or fs p no_fault ≡ no_fault
outside [] p h = refl
outside (f ∷ fs) zero h = absurd (not-suc-le-zero h)
outside (f ∷ fs) (suc p) h = outside fs p (le_of_suc-le-suc h)

pub active_at : (p : ℕ) (s : Sender) → is_active_at p s ≡ true → is_active (fault_at p s) ≡ true
unfolding is_active_at
active_at p s e = (both_true (p <? fault_places) (is_active (fault_at p s)) e).1

get_d_image : (g : Fault → Fault) (fs : List Fault) (p : ℕ) → g no_fault ≡ no_fault
    → get_or (map g fs) p no_fault ≡ g (get_or fs p no_fault)
get_d_image g [] p e = sym e
get_d_image g (f ∷ fs) zero e = refl
get_d_image g (f ∷ fs) (suc p) e = get_d_image g fs p e

pub fault_passed : (p : ℕ) (s : Sender) → fault_at p (passed_all s) ≡ passed (fault_at p s)
fault_passed p s = get_d_image passed s.faults p passed_none

pub length_passed : (fs : List Fault) → length (map passed fs) ≡ length fs
length_passed [] = refl
length_passed (f ∷ fs) = ap suc (length_passed fs)

pub neither : (a b : Bool) → a or b ≡ false → (a ≡ false) × (b ≡ false)
neither true b e = true_false e
neither false b e = (refl, e)
