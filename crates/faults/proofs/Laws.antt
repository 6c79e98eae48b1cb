-- The statements of specs/Laws.antt on answers, refusals, states and steps, proved.
-- Assumes nothing.
use Rattle.std.specs.Prelude.{Option, Some, None, Ok, Err}
use Rattle.std.specs.Prelude.{if◌then◌else◌}
use mathlib.Core.Path.{◌≡◌, refl, sym, ap, ◌∙◌}
use mathlib.Core.Bool.{Bool, true, false}
use mathlib.Core.List.{List, map}
use Prim.Native.Nat.{ℕ, zero, suc, ◌-◌, ◌≤◌}
use native.Mathlib.Omega.{arith}
use borrow.Author.Tests.{ne_eqb, le-leb, leb-true}
use lib.ListN.{get_or, replicate}
use lib.Seq.{get_or-set_other}
use Rattle.words.specs.Words.{◌=?◌, ◌≤?◌, ◌or◌, Told, refused, gives}
use Rattle.words.specs.Lists.{every, first}
use Rattle.frame.specs.Bytes.{number_of}
use Rattle.frame.specs.Standard.{Frame}
use Rattle.frame.specs.declared.BadFrame.TheVariants.{IdentifierTooLarge, NotEightBytes, ReservedBitSet}
use Rattle.frame.specs.declared.BadFrame.TheVariants.{SourceNotAllowed}
use Rattle.words.proofs.Words.{by_test, both_true, told_same}
use Rattle.frame.proofs.Laws as frame_laws
use Rattle.words.proofs.Lists.{found_at, every_map, every_set, every_at}
use Rattle.claim.specs.Claim.{keeps_rules as claim_keeps_rules, stand_of, holds_list}
use Rattle.claim.specs.Promises.{sound_of}
use Rattle.claim.specs.declared.Claim.{Claim}
use Rattle.command.specs.Handed.{address_held}
use Rattle.command.proofs.Laws as host_laws
use Rattle.faults.specs.Fault.{step_time, is_allowed, no_fault, is_zero, is_empty, place_keeps_rules, passed}
use Rattle.faults.specs.Fault.{added, sent}
use Rattle.faults.specs.Sender.{keeps_rules, standing, fault_at, replacing, added_at, added_for, added_of}
use Rattle.faults.specs.Sender.{cleared_of, passed_all, Outcome}
use Rattle.faults.specs.Sender.{nothing_due, sends, stepped_of}
use Rattle.faults.specs.Requests as Requests
use Rattle.faults.specs.Promises.{told_clearing, told_stepping, told_requesting}
use Rattle.faults.specs.Runs.{Happened, no_call, a_call}
use Rattle.faults.specs.Laws as the
use Rattle.faults.specs.declared.Fault.{Fault}
use Rattle.faults.specs.Promises.{Clearing, Stepping, Requesting, number_of_not_added, number_of_not_heard}
use Rattle.faults.specs.declared.NotAdded.{NotAdded}
use Rattle.faults.specs.declared.NotCleared.{NotCleared}
use Rattle.faults.specs.declared.NotStepped.{NotStepped}
use Rattle.faults.specs.declared.NotHeard.{NotHeard}
use Rattle.faults.specs.declared.Response.{Response}
use Rattle.faults.specs.declared.Sender.{Sender}
use Rattle.faults.proofs.Passing.{Phase, vacant, ready, coming, phase, due_says}
use Rattle.faults.proofs.Chosen.{chosen_at}
use Rattle.faults.proofs.Moves.{Move, add_refused, added_at_lem, clear_refused, cleared_at, step_refused, rested}
use Rattle.faults.proofs.Moves.{sent_at, asked, move, was_added, fault_passed}
use Rattle.faults.proofs.Waiting.{allowed_says}

-- an answer is read back from what it tells

not_added_back : ℕ → NotAdded
not_added_back n =
    if n =? 2 then NotAdded.BrokenState else
    if n =? 20 then NotAdded.NoPlace else
    NotAdded.PeriodNotAllowed

not_added_back_lem : (w : NotAdded) → not_added_back (number_of_not_added w) ≡ w
unfolding not_added_back
not_added_back_lem NotAdded.BrokenState = refl
not_added_back_lem NotAdded.NoPlace = refl
not_added_back_lem NotAdded.PeriodNotAllowed = refl

not_added_same : (v w : NotAdded) → number_of_not_added v ≡ number_of_not_added w → v ≡ w
not_added_same v w e = sym (not_added_back_lem v) ∙ ap not_added_back e ∙ not_added_back_lem w

pub told_adding_same : the.ToldAddingSame
told_adding_same = told_same number_of_not_added not_added_same

clearing_back : Told ℕ → Clearing
clearing_back (gives place) = Ok tt
clearing_back (refused n) = Err (if n =? 2 then NotCleared.BrokenState else NotCleared.NoSuchFault)

clearing_back_lem : (r : Clearing) (p : ℕ) → clearing_back (told_clearing r p) ≡ r
unfolding clearing_back
clearing_back_lem (Ok nothing) p = refl
clearing_back_lem (Err NotCleared.BrokenState) p = refl
clearing_back_lem (Err NotCleared.NoSuchFault) p = refl

pub told_clearing_same : the.ToldClearingSame
told_clearing_same r s p q e = sym (clearing_back_lem r p) ∙ ap clearing_back e ∙ clearing_back_lem s q

stepping_back : Told Outcome → Stepping
stepping_back (gives nothing_due) = Ok None
stepping_back (gives (sends place frame)) = Ok (Some place)
stepping_back (refused n) =
    Err (
    if n =? 2 then NotStepped.BrokenState else
    if n =? 16 then NotStepped.ListMalformed else
    NotStepped.NoAddressHeld
    )

stepping_back_lem : (r : Stepping) (f : Frame) → stepping_back (told_stepping r f) ≡ r
unfolding stepping_back
stepping_back_lem (Ok (Some place)) f = refl
stepping_back_lem (Ok None) f = refl
stepping_back_lem (Err NotStepped.BrokenState) f = refl
stepping_back_lem (Err NotStepped.ListMalformed) f = refl
stepping_back_lem (Err NotStepped.NoAddressHeld) f = refl

pub told_stepping_same : the.ToldSteppingSame
told_stepping_same r s f g e = sym (stepping_back_lem r f) ∙ ap stepping_back e ∙ stepping_back_lem s g

not_heard_back : ℕ → NotHeard
not_heard_back n =
    if n =? 2 then NotHeard.BrokenState else
    if n =? 16 then NotHeard.ListMalformed else
    if n =? 17 then NotHeard.DgnTooLarge else
    if n =? 18 then NotHeard.NoAddressHeld else
    NotHeard.BadFrame (frame_laws.bad_back n)

not_heard_back_lem : (w : NotHeard) → not_heard_back (number_of_not_heard w) ≡ w
unfolding not_heard_back
not_heard_back_lem NotHeard.BrokenState = refl
not_heard_back_lem (NotHeard.BadFrame IdentifierTooLarge) = ap NotHeard.BadFrame (frame_laws.bad_back_lem IdentifierTooLarge)
not_heard_back_lem (NotHeard.BadFrame NotEightBytes) = ap NotHeard.BadFrame (frame_laws.bad_back_lem NotEightBytes)
not_heard_back_lem (NotHeard.BadFrame ReservedBitSet) = ap NotHeard.BadFrame (frame_laws.bad_back_lem ReservedBitSet)
not_heard_back_lem (NotHeard.BadFrame SourceNotAllowed) = ap NotHeard.BadFrame (frame_laws.bad_back_lem SourceNotAllowed)
not_heard_back_lem NotHeard.ListMalformed = refl
not_heard_back_lem NotHeard.DgnTooLarge = refl
not_heard_back_lem NotHeard.NoAddressHeld = refl

requesting_back : Told Requests.Reply → Requesting
requesting_back (gives Requests.nothing_to_do) = Ok Response.NothingToDo
requesting_back (gives (Requests.sends frame)) = Ok Response.Send
requesting_back (refused n) = Err (not_heard_back n)

requesting_back_lem : (r : Requesting) (f : Frame) → requesting_back (told_requesting r f) ≡ r
unfolding requesting_back
requesting_back_lem (Ok Response.NothingToDo) f = refl
requesting_back_lem (Ok Response.Send) f = refl
requesting_back_lem (Err why) f = ap Err (not_heard_back_lem why)

pub told_requesting_same : the.ToldRequestingSame
told_requesting_same r s f g e = sym (requesting_back_lem r f) ∙ ap requesting_back e ∙ requesting_back_lem s g

-- no second answer

pub start_only : the.StartOnly
start_only bytes r s p q = p.state ∙ sym q.state

pub add_only : the.AddOnly
add_only bytes period state r s p q =
    let a = told_adding_same r.answer s.answer (p.answer ∙ sym q.answer) in
    let t = p.state ∙ sym q.state in
    λ i. record { sender = t i; answer = a i }

pub clear_only : the.ClearOnly
clear_only place state r s p q =
    let a = told_clearing_same r.answer s.answer place place (p.answer ∙ sym q.answer) in
    let t = p.state ∙ sym q.state in
    λ i. record { sender = t i; answer = a i }

pub step_only : the.StepOnly
step_only c state r s p q =
    let a = told_stepping_same r.answer s.answer _ _ (p.answer ∙ sym q.answer) in
    let t = p.state ∙ sym q.state in
    let d = p.sent_id ∙ sym q.sent_id in
    let b = p.sent_bytes ∙ sym q.sent_bytes in
    λ i. record { sender = t i; answer = a i; id = d i; bytes = b i }

pub request_only : the.RequestOnly
request_only id bytes c state r s p q =
    let a = told_requesting_same r.answer s.answer _ _ (p.answer ∙ sym q.answer) in
    let t = p.state ∙ sym q.state in
    let d = p.sent_id ∙ sym q.sent_id in
    let b = p.sent_bytes ∙ sym q.sent_bytes in
    λ i. record { sender = t i; answer = a i; id = d i; bytes = b i }

pub reply_only : the.ReplyOnly
reply_only id bytes h c state r s p q =
    let f = request_only id bytes c state r.faults s.faults p.faults q.faults in
    let a = host_laws.told_requesting_same r.host.answer s.host.answer _ _ _ _
    (p.host.answer ∙ sym q.host.answer) in
    let x = p.host.positions ∙ sym q.host.positions in
    let d = p.host.sent_id ∙ sym q.host.sent_id in
    let b = p.host.sent_bytes ∙ sym q.host.sent_bytes in
    λ i. record { faults = f i; host = record { answer = a i; positions = x i; id = d i; bytes = b i } }

pub not_added_refusal_only : the.NotAddedRefusalOnly
not_added_refusal_only why r s p q = p.number ∙ sym q.number

pub not_cleared_refusal_only : the.NotClearedRefusalOnly
not_cleared_refusal_only why r s p q = p.number ∙ sym q.number

pub not_stepped_refusal_only : the.NotSteppedRefusalOnly
not_stepped_refusal_only why r s p q = p.number ∙ sym q.number

pub not_heard_refusal_only : the.NotHeardRefusalOnly
not_heard_refusal_only why r s p q = p.number ∙ sym q.number

pub adding_refusal_only : the.AddingRefusalOnly
adding_refusal_only answer r s p q = p.number ∙ sym q.number

pub adding_refusal_told : the.AddingRefusalTold
adding_refusal_told (Ok value) = record { number = refl }
adding_refusal_told (Err why) = record { number = refl }

pub clearing_refusal_only : the.ClearingRefusalOnly
clearing_refusal_only answer r s p q = p.number ∙ sym q.number

pub clearing_refusal_told : the.ClearingRefusalTold
clearing_refusal_told (Ok value) = record { number = refl }
clearing_refusal_told (Err why) = record { number = refl }

pub stepping_refusal_only : the.SteppingRefusalOnly
stepping_refusal_only answer r s p q = p.number ∙ sym q.number

pub stepping_refusal_told : the.SteppingRefusalTold
stepping_refusal_told (Ok (Some place)) = record { number = refl }
stepping_refusal_told (Ok None) = record { number = refl }
stepping_refusal_told (Err why) = record { number = refl }

pub requesting_refusal_only : the.RequestingRefusalOnly
requesting_refusal_only answer r s p q = p.number ∙ sym q.number

pub requesting_refusal_told : the.RequestingRefusalTold
requesting_refusal_told (Ok Response.NothingToDo) = record { number = refl }
requesting_refusal_told (Ok Response.Send) = record { number = refl }
requesting_refusal_told (Err why) = record { number = refl }

-- a refusal keeps, and a request keeps whatever it answers

pub add_refused_keeps : the.AddRefusedKeeps
add_refused_keeps bytes period s r n p e =
    let t : added_of period s ≡ refused n = sym p.answer ∙ e in
    p.state ∙ rw t

pub clear_refused_keeps : the.ClearRefusedKeeps
clear_refused_keeps place s r n p e =
    let t : cleared_of place s ≡ refused n = sym p.answer ∙ e in
    p.state ∙ rw t

pub step_refused_keeps : the.StepRefusedKeeps
step_refused_keeps c s r n p t = (p.state ∙ rw t, (p.sent_id ∙ rw t, p.sent_bytes ∙ rw t))

pub request_refused_keeps : the.RequestRefusedKeeps
request_refused_keeps id bytes c s r n p t = (p.sent_id ∙ rw t, p.sent_bytes ∙ rw t)

pub request_keeps : the.RequestKeeps
request_keeps id bytes c s r p = p.state

pub reply_keeps : the.ReplyKeeps
reply_keeps id bytes h c s r p = p.faults.state

-- the lowest number wins

some_empty : (period : ℕ) (found : Option ℕ) → (found ≡ None → ⊥) → is_allowed period ≡ false
    → added_for period found ≡ refused 21
unfolding added_at
some_empty period None n e = absurd (n refl)
some_empty period (Some at) n e = rw e

pub add_lowest : the.AddLowest
unfolding added_of
add_lowest period s =
    record {
      two = λ k. rw k;
      twenty = λ k e. rw (k, e);
      twenty_one = λ k n e. rw k (some_empty period (first is_empty s.faults) n e);
    }

pub clear_lowest : the.ClearLowest
unfolding cleared_of
clear_lowest place s =
    record {
      two = λ k. rw k;
      twenty_two = λ k e. rw (k, e);
      cleared = λ k e. rw (k, e);
    }

-- where a sound claim stands
pub standing_sound : (c : Claim) → claim_keeps_rules c ≡ true → holds_list c ≡ true → standing c ≡ gives (stand_of c)
unfolding standing sound_of
standing_sound c k l = rw (k, l)

pub standing_broken : (c : Claim) → claim_keeps_rules c ≡ false → standing c ≡ refused 2
unfolding standing sound_of
standing_broken c k = rw k

pub standing_ill : (c : Claim) → claim_keeps_rules c ≡ true → holds_list c ≡ false → standing c ≡ refused 16
unfolding standing sound_of
standing_ill c k l = rw (k, l)

pub step_lowest : the.StepLowest
unfolding stepped_of address_held
step_lowest c s =
    record {
      two = λ k. rw k;
      two_of_claim = λ k. by_test (keeps_rules s) (λ e. rw (e, standing_broken c k)) (λ e. rw e);
      sixteen = λ e k l. rw (e, standing_ill c k l);
      eighteen = λ e k h. let t = both_true (claim_keeps_rules c) (holds_list c) k in rw (
        e,
        standing_sound c t.0
            t.1,
        h,
      );
      made = λ address e k h.
          let t = both_true (claim_keeps_rules c) (holds_list c) k in
          rw (e, standing_sound c t.0 t.1, h);
    }

-- states that keep their rules

rules_none : place_keeps_rules no_fault ≡ true
unfolding place_keeps_rules is_zero number_of
rules_none = refl

rules_added : (bytes : List ℕ) (period : ℕ) → is_allowed period ≡ true → place_keeps_rules (added bytes period) ≡ true
unfolding place_keeps_rules
rules_added bytes period a =
    let l = allowed_says period a in
    rw (
      ne_eqb period 0 (λ (z : period ≡ 0). absurd (omega (arith, l.0))),
      a,
      le-leb step_time period (omega
          (arith, l.0)),
    )

-- an active place that keeps its rules
record Ruled (f : Fault) : Type 0 where
  pub allowed : is_allowed f.period ≡ true
  pub within : f.until_due ≤ f.period
  pub ageless : ((f.until_due =? 0) or (f.age =? 0)) ≡ true

ruled : (f : Fault) → (f.period ≡ 0 → ⊥) → place_keeps_rules f ≡ true → Ruled f
unfolding place_keeps_rules
ruled f n e =
    let x = rw (ne_eqb f.period 0 n) at e in
    let t = both_true (is_allowed f.period) _ x in
    let u = both_true (f.until_due ≤? f.period) _ t.1 in
    record { allowed = t.0; within = leb-true f.until_due f.period u.0; ageless = u.1 }

rules_of : (f : Fault) → (f.period ≡ 0 → ⊥) → Ruled f → place_keeps_rules f ≡ true
unfolding place_keeps_rules
rules_of f n k = rw (ne_eqb f.period 0 n, k.allowed, le-leb f.until_due f.period k.within) k.ageless

either_right : (a : Bool) → (a or true) ≡ true
either_right true = refl
either_right false = refl

rules_phase : (f : Fault) → Phase f → place_keeps_rules f ≡ true → place_keeps_rules (passed f) ≡ true
rules_phase f (vacant z e) k = ap place_keeps_rules e ∙ k
rules_phase f (ready n z e) k =
    let t = ruled f n k in
    ap place_keeps_rules e ∙ rules_of _ n (record { allowed = t.allowed; within = omega arith; ageless = refl })
rules_phase f (coming n p e) k =
    let t = ruled f n k in
    ap place_keeps_rules e
    ∙ rules_of _ n (record {
      allowed = t.allowed;
      within = omega (arith, t.within);
      ageless = either_right (f.until_due - step_time =? 0);
    })

rules_passed : (f : Fault) → place_keeps_rules f ≡ true → place_keeps_rules (passed f) ≡ true
rules_passed f k = rules_phase f (phase f) k

rules_sent : (f : Fault) → (f.period ≡ 0 → ⊥) → place_keeps_rules f ≡ true → place_keeps_rules (sent f) ≡ true
rules_sent f n k =
    let t = ruled f n k in
    rules_of (sent f) n (record { allowed = t.allowed; within = omega arith; ageless = either_right (f.period =? 0) })

sound_move : (s m : Sender) (h : Happened) → Move s h m → keeps_rules s ≡ true → keeps_rules m ≡ true
unfolding keeps_rules
sound_move s _ _ (add_refused _ bytes period n) k = k
sound_move s _ _ (added_at_lem _ bytes period at e a) k =
    every_set place_keeps_rules s.faults at (added bytes period) k (rules_added bytes period a)
sound_move s _ _ (clear_refused _ place n) k = k
sound_move s _ _ (cleared_at _ at e) k = every_set place_keeps_rules s.faults at no_fault k rules_none
sound_move s _ _ (step_refused _ c n) k = k
sound_move s _ _ (rested _ c e) k = every_map place_keeps_rules passed rules_passed s.faults k
sound_move s _ _ (sent_at _ c at address e g) k =
    let ms = map passed s.faults in
    let o = chosen_at ms at e in
    let a = every_map place_keeps_rules passed rules_passed s.faults k in
    let f = get_or ms at no_fault in
    every_set place_keeps_rules ms at (sent f) a
    (rules_sent f (due_says f o.due).0 (every_at place_keeps_rules ms at no_fault o.below a))
sound_move s _ _ (asked _ id bytes c told) k = k

pub run_sound : the.RunSound
run_sound s t _ k (no_call _) = k
run_sound s t _ k (a_call _ m _ h hs l r) = run_sound m t hs (sound_move s m h (move s m h l) k) r

every_none : (n : ℕ) → every place_keeps_rules (replicate n no_fault) ≡ true
every_none zero = refl
every_none (suc n) = rw (rules_none, every_none n)

pub start_sound : the.StartSound
unfolding keeps_rules
start_sound bytes s p = ap (λ (t : Sender). every place_keeps_rules t.faults) p.state ∙ every_none 32

-- the place of a new fault
pub added_lowest : the.AddedLowest
added_lowest period s at e =
    let t = found_at at is_empty s.faults no_fault (was_added s period at e).0 in
    record { below = t.below; empty = t.passes; lowest = t.lowest }

-- one DM_RV a step
pub one_a_step : the.OneAStep
one_a_step c s r p = (
  λ t.
      let e : r.sender ≡ passed_all s = p.state ∙ rw t in
      (λ q. ap (fault_at q) e ∙ fault_passed q s, (p.sent_id ∙ rw t, p.sent_bytes ∙ rw t)),
  λ at frame t.
      let x = sent (fault_at at (passed_all s)) in
      let e : r.sender ≡ replacing (passed_all s) at x = p.state ∙ rw t in
      let a : r.id ≡ frame.id = p.sent_id ∙ rw t in
      let b : r.bytes ≡ frame.bytes = p.sent_bytes ∙ rw t in (
        λ q n.
            ap (fault_at q) e ∙ get_or-set_other (map passed s.faults) at q x no_fault (λ z. n (sym z))
            ∙ fault_passed q s,
        λ i. record { id = a i; bytes = b i },
      ),
)
