-- There is a run of whatever calls are made; and one in which a due fault waits for 31 others.
-- Assumes nothing.
use Rattle.std.specs.Prelude.{Option, Some, None, Ok, Err}
use mathlib.Core.Path.{◌≡◌, refl, sym, ◌∙◌}
use mathlib.Core.List.{List, [], ◌∷◌}
use Prim.Native.Nat.{ℕ}
use lib.ListN.{replicate}
use Rattle.words.specs.Words.{given◌then◌, Told, gives}
use Rattle.words.specs.Lists.{first}
use Rattle.frame.specs.Bytes.{number_of}
use Rattle.words.proofs.Words.{by_test}
use Rattle.claim.specs.Candidates.{is_well_formed, padded}
use Rattle.claim.specs.Claim.{keeps_rules as claim_keeps_rules, Stand, held, claiming, silent, stand_of, holds_list}
use Rattle.claim.specs.Promises.{sound_of}
use Rattle.claim.specs.declared.Claim.{Claim}
use Rattle.command.specs.Handed.{address_held}
use Rattle.faults.specs.Fault.{is_allowed, is_zero, is_empty, place_keeps_rules, passed}
use Rattle.faults.specs.Sender.{keeps_rules, standing, begun, added_at, added_for, added_of, is_active_at}
use Rattle.faults.specs.Sender.{cleared_of, longer, longest_due, chosen, Outcome, nothing_due, sends, held_step}
use Rattle.faults.specs.Sender.{stepped_of}
use Rattle.faults.specs.Promises.{told_adding, told_clearing, told_stepping, sent_in}
use Rattle.faults.specs.Runs.{Leads, no_call, a_call, Call, adding, clearing, stepping}
use Rattle.faults.specs.Runs.{happens, leaves, played, played_to, EveryRunRuns, Sharp}
use Rattle.faults.specs.Laws.{holding}
use Rattle.faults.specs.Promises.{Adding, Clearing, Stepping}
use Rattle.faults.specs.declared.NotAdded.{NotAdded}
use Rattle.faults.specs.declared.NotCleared.{NotCleared}
use Rattle.faults.specs.declared.NotStepped.{NotStepped}
use Rattle.faults.specs.declared.Sender.{Sender}

-- every answer of the definitions has a name in the code

add_found : (period : ℕ) (found : Option ℕ) → (answer : Adding) × (told_adding answer ≡ added_for period found)
unfolding added_at
add_found period None = (Err NotAdded.NoPlace, refl)
add_found period (Some at) =
    by_test (is_allowed period)
    (λ e. (Ok at, sym (rw e)))
    (λ e. (Err NotAdded.PeriodNotAllowed, sym (rw e)))

add_answer : (period : ℕ) (s : Sender) → (answer : Adding) × (told_adding answer ≡ added_of period s)
unfolding added_of
add_answer period s =
    by_test (keeps_rules s)
    (λ e. let t = add_found period (first is_empty s.faults) in (t.0, t.1 ∙ sym (rw e)))
    (λ e. (Err NotAdded.BrokenState, sym (rw e)))

clear_answer : (place : ℕ) (s : Sender) → (answer : Clearing) × (told_clearing answer place ≡ cleared_of place s)
unfolding cleared_of
clear_answer place s =
    by_test (keeps_rules s)
    (λ e. by_test (is_active_at place s)
    (λ k. (Ok tt, sym (rw (e, k))))
    (λ k. (Err NotCleared.NoSuchFault, sym (rw (e, k)))))
    (λ e. (Err NotCleared.BrokenState, sym (rw e)))

-- an answer with its frame
record Answered (told : Told Outcome) : Type 0 where
  pub answer : Stepping
  pub is : told_stepping answer (sent_in told) ≡ told

of_outcome : (outcome : Outcome) → Answered (gives outcome)
of_outcome nothing_due = record { answer = Ok None; is = refl }
of_outcome (sends at frame) = record { answer = Ok (Some at); is = refl }

at_stand : (stand : Stand) (s : Sender) → Answered (given address_held stand then λ address. gives (held_step address s))
unfolding address_held
at_stand (held address) s = of_outcome (held_step address s)
at_stand (claiming address) s = record { answer = Err NotStepped.NoAddressHeld; is = refl }
at_stand silent s = record { answer = Err NotStepped.NoAddressHeld; is = refl }

step_answer : (c : Claim) (s : Sender) → Answered (stepped_of c s)
unfolding stepped_of standing sound_of
step_answer c s =
    by_test (keeps_rules s)
    (λ e. by_test (claim_keeps_rules c)
    (λ k. by_test (holds_list c)
    (λ l. rw (e, k, l) (at_stand (stand_of c) s))
    (λ l. rw (e, k, l) (record { answer = Err NotStepped.ListMalformed; is = refl })))
    (λ k. rw (e, k) (record { answer = Err NotStepped.BrokenState; is = refl })))
    (λ e. rw e (record { answer = Err NotStepped.BrokenState; is = refl }))

one_call : (s : Sender) (call : Call) → Leads s (happens s call) (leaves s call)
one_call s (adding bytes period) =
    let t = add_answer period s in
    (t.0, record { answer = t.1; state = refl }, sym t.1)
one_call s (clearing place) =
    let t = clear_answer place s in
    (t.0, record { answer = t.1; state = refl }, sym t.1)
one_call s (stepping c) =
    let t = step_answer c s in (
      t.answer,
      sent_in
          (stepped_of c s),
      record { answer = t.is; state = refl; sent_id = refl; sent_bytes = refl },
      sym t.is,
    )

pub every_run_runs : EveryRunRuns
every_run_runs s [] = no_call s
every_run_runs s (call ∷ calls) =
    a_call s (leaves s call) (played_to (leaves s call) calls) (happens s call) (played (leaves s call) calls)
    (one_call s call) (every_run_runs (leaves s call) calls)

-- ---- 31 is reached: 32 faults are added, and 31 steps made.

abbrev zeros : List ℕ
zeros = replicate 8 0

abbrev thirty_one_adds : List Call
thirty_one_adds = replicate 31 (adding zeros 1000)

abbrev thirty_one_steps : List Call
thirty_one_steps = replicate 31 (stepping holding)

abbrev most : Sender
most = played_to (begun zeros) thirty_one_adds

abbrev full : Sender
full = leaves most (adding zeros 1000)

last_place : added_of 1000 most ≡ gives 31
unfolding keeps_rules added_of added_at is_allowed is_zero place_keeps_rules number_of
last_place = refl

pub sharp : Sharp
unfolding keeps_rules added_of added_at is_allowed is_zero place_keeps_rules number_of passed longer longest_due chosen held_step stepped_of standing sound_of claim_keeps_rules holds_list is_well_formed padded stand_of address_held
sharp =
    record {
      start = begun zeros;
      before = most;
      after = full;
      end = played_to full thirty_one_steps;
      earlier = played (begun zeros) thirty_one_adds;
      bytes = zeros;
      period = 1000;
      p = 31;
      hs = played full thirty_one_steps;
      started = record { state = refl };
      ran = every_run_runs (begun zeros) thirty_one_adds;
      added = one_call most (adding zeros 1000);
      ran_on = every_run_runs full thirty_one_steps;
      spared = refl;
      reached = refl;
    }
