-- The places of a sender, the fault that is sent at a step, and the frame of a DM_RV (RULES 14.5 to 14.14).
use Rattle.std.specs.Prelude.{Option, Some, None}
use Rattle.std.specs.Prelude.{Bool, not, List, [], ◌∷◌, map, ℕ, get_or, set, replicate, if◌then◌else◌}
use Rattle.words.specs.Words.{given◌then◌, ◌<?◌, ◌=?◌, ◌and◌, Told, refused, gives}
use Rattle.words.specs.Lists.{every, first}
use Rattle.frame.specs.Identifier.{identifier_of}
use Rattle.frame.specs.Standard.{Frame}
use Rattle.claim.specs.Claim.{Stand, stand_of}
use Rattle.claim.specs.Promises.{sound_of}
use Rattle.claim.specs.declared.Claim.{Claim}
use Rattle.command.specs.Handed.{address_held}
use Rattle.faults.specs.Rows.{dm_rv}
use Rattle.faults.specs.Fault.{is_allowed, no_fault, is_empty, is_active, is_due, place_keeps_rules, passed, added, sent}
use Rattle.faults.specs.declared.Fault.{Fault}
use Rattle.faults.specs.declared.Sender.{Sender}

-- DM_RV has priority 6
abbrev pub dm_rv_priority : ℕ
dm_rv_priority = 6

unfoldable pub dm_rv_id : ℕ → ℕ
dm_rv_id address = identifier_of dm_rv_priority dm_rv address

-- the DM_RV with these bytes, from this address
abbrev pub dm_rv_frame : ℕ → List ℕ → Frame
dm_rv_frame address bytes = record { id = dm_rv_id address; bytes = bytes }

-- a sender has 32 places
abbrev pub fault_places : ℕ
fault_places = 32

-- a state that breaks its rules is refused with 2
unfoldable pub keeps_rules : Sender → Bool
keeps_rules s = every place_keeps_rules s.faults

-- where our claim stands: 2, then 16
unfoldable pub standing : Claim → Told Stand
standing c = given sound_of c then λ _. gives (stand_of c)

-- at the start no fault is active
abbrev pub begun : List ℕ → Sender
begun no_fault_bytes = record { faults = replicate fault_places no_fault; no_fault = no_fault_bytes }

-- the fault in a place
abbrev pub fault_at : ℕ → Sender → Fault
fault_at at s = get_or s.faults at no_fault

-- one place replaced
abbrev pub replacing : Sender → ℕ → Fault → Sender
replacing s at f = record { faults = set s.faults at f; no_fault = s.no_fault }

-- ---- A fault added, and one cleared.

-- 2; 20 where no place is empty; 21 where the period is not allowed
unfoldable pub added_at : ℕ → ℕ → Told ℕ
added_at at period = if is_allowed period then gives at else refused 21

abbrev pub added_for : ℕ → Option ℕ → Told ℕ
added_for period (Some at) = added_at at period
added_for period None = refused 20

unfoldable pub added_of : ℕ → Sender → Told ℕ
added_of period s = if not (keeps_rules s) then refused 2 else added_for period (first is_empty s.faults)

abbrev pub after_add : Told ℕ → List ℕ → ℕ → Sender → Sender
after_add (refused n) bytes period s = s
after_add (gives at) bytes period s = replacing s at (added bytes period)

-- whether there is such a place, and a fault is active in it
unfoldable pub is_active_at : ℕ → Sender → Bool
is_active_at at s = (at <? fault_places) and is_active (fault_at at s)

-- 2; 22 where there is no such fault
unfoldable pub cleared_of : ℕ → Sender → Told ℕ
cleared_of at s =
    if not (keeps_rules s) then refused 2 else
    if is_active_at at s then gives at else
    refused 22

abbrev pub after_clear : Told ℕ → Sender → Sender
after_clear (refused n) s = s
after_clear (gives at) s = replacing s at no_fault

-- ---- A step.

-- the greater of an age and a fault's, if it is due
unfoldable pub longer : Fault → ℕ → ℕ
longer f age = if is_due f and (age <? f.age) then f.age else age

-- the age of the fault that has been due longest; 0 where none is due
unfoldable pub longest_due : List Fault → ℕ
longest_due [] = 0
longest_due (f ∷ fs) = longer f (longest_due fs)

-- it is chosen, and of several the one in the lowest place
abbrev pub is_chosen : ℕ → Fault → Bool
is_chosen age f = is_due f and (f.age =? age)

unfoldable pub chosen : List Fault → Option ℕ
chosen fs = first (is_chosen (longest_due fs)) fs

-- 50 ms pass for every place
abbrev pub passed_all : Sender → Sender
passed_all s = record { faults = map passed s.faults; no_fault = s.no_fault }

-- what a step comes to: nothing, or the DM_RV of a place
pub data Outcome : Type 0 where
  nothing_due : Outcome
  sends : ℕ → Frame → Outcome

abbrev pub outcome_for : ℕ → Option ℕ → Sender → Outcome
outcome_for address None later = nothing_due
outcome_for address (Some at) later = sends at (dm_rv_frame address (fault_at at later).bytes)

-- a step while we hold this address
unfoldable pub held_step : ℕ → Sender → Outcome
held_step address s = outcome_for address (chosen (passed_all s).faults) (passed_all s)

-- 2, then 16, then 18
unfoldable pub stepped_of : Claim → Sender → Told Outcome
stepped_of c s =
    if not (keeps_rules s) then refused 2 else
    given standing c then λ stand.
    given address_held stand then λ address.
    gives (held_step address s)

-- a step that is refused is none: no time passes
abbrev pub after_step : Told Outcome → Sender → Sender
after_step (refused n) s = s
after_step (gives nothing_due) s = passed_all s
after_step (gives (sends at frame)) s = replacing (passed_all s) at (sent (fault_at at (passed_all s)))
