-- Runs of calls on one sender (RULES 14.20 to 14.25 and 13.6): each call is told by its promise, and gets the state
-- that the one before it left. What is said of a run goes by the calls and what they were told, not by the state.
use Rattle.std.specs.Prelude.{◌≡◌, Bool, true, false, List, [], ◌∷◌, ℕ, ◌+◌, ◌*◌, ◌/◌, ◌≤◌, ◌<◌, length, if◌then◌else◌}
use Rattle.words.specs.Words.{given◌then◌, ◌=?◌, ◌or◌, Told, refused, gives}
use Rattle.words.specs.Lists.{any, count}
use Rattle.frame.specs.Standard.{Frame}
use Rattle.claim.specs.declared.Claim.{Claim}
use Rattle.command.specs.Handed.{address_held}
use Rattle.faults.specs.Fault.{step_time, is_due, passed}
use Rattle.faults.specs.Sender.{fault_places, fault_at, dm_rv_frame, standing, Outcome, nothing_due, sends}
use Rattle.faults.specs.Sender.{added_of, after_add, cleared_of, after_clear, stepped_of, after_step}
use Rattle.faults.specs.Requests as Requests
use Rattle.faults.specs.Promises.{Start, Add, Clear, Step, Request, told_adding, told_clearing, told_stepping}
use Rattle.faults.specs.Promises.{told_requesting}
use Rattle.faults.specs.Promises.{Adding, Clearing, Stepping, Requesting}
use Rattle.faults.specs.declared.Sender.{Sender}

-- A call, and what it was told.
pub data Happened : Type 0 where
  adds : List ℕ → ℕ → Told ℕ → Happened  -- bytes and period; the place
  clears : ℕ → Told ℕ → Happened  -- the place
  steps : Claim → Told Outcome → Happened
  requests : ℕ → List ℕ → Claim → Told Requests.Reply → Happened

-- A call leads from one state to another.
abbrev pub Leads : Sender → Happened → Sender → Type 0
Leads s (adds bytes period told) t =
    (answer : Adding) × Add bytes period s (record { sender = t; answer = answer }) × (told ≡ told_adding answer)
Leads s (clears place told) t =
    (answer : Clearing) × Clear place s (record { sender = t; answer = answer }) × (told ≡ told_clearing answer place)
Leads s (steps c told) t =
    (answer : Stepping) × (frame : Frame)
    × Step c s (record { sender = t; answer = answer; id = frame.id; bytes = frame.bytes })
    × (told ≡ told_stepping answer frame)
Leads s (requests id bytes c told) t =
    (answer : Requesting) × (frame : Frame)
    × Request id bytes c s (record { sender = t; answer = answer; id = frame.id; bytes = frame.bytes })
    × (told ≡ told_requesting answer frame)

pub data Ran : Sender → List Happened → Sender → Type 0 where
  no_call : (s : Sender) → Ran s [] s
  a_call : (s m t : Sender) (h : Happened) (hs : List Happened) → Leads s h m → Ran m hs t → Ran s (h ∷ hs) t

-- Whatever calls are made, there is a run of them: what is said of runs is not said of nothing. (A request leaves the
-- state as it is, and can stand anywhere.)
pub data Call : Type 0 where
  adding : List ℕ → ℕ → Call
  clearing : ℕ → Call
  stepping : Claim → Call

-- what a call is told, and the state that it leaves

abbrev pub happens : Sender → Call → Happened
happens s (adding bytes period) = adds bytes period (added_of period s)
happens s (clearing place) = clears place (cleared_of place s)
happens s (stepping c) = steps c (stepped_of c s)

abbrev pub leaves : Sender → Call → Sender
leaves s (adding bytes period) = after_add (added_of period s) bytes period s
leaves s (clearing place) = after_clear (cleared_of place s) s
leaves s (stepping c) = after_step (stepped_of c s) s

abbrev pub played : Sender → List Call → List Happened
played s [] = []
played s (call ∷ calls) = happens s call ∷ played (leaves s call) calls

abbrev pub played_to : Sender → List Call → Sender
played_to s [] = s
played_to s (call ∷ calls) = played_to (leaves s call) calls

abbrev pub EveryRunRuns : Type 0
EveryRunRuns = (s : Sender) (calls : List Call) → Ran s (played s calls) (played_to s calls)

-- ---- What happened in a run.

-- a step that was made: a refused one is none
abbrev pub is_step : Happened → Bool
is_step (adds bytes period told) = false
is_step (clears place told) = false
is_step (steps c (refused n)) = false
is_step (steps c (gives outcome)) = true
is_step (requests id bytes c told) = false

abbrev pub steps_in : List Happened → ℕ
steps_in hs = count is_step hs

-- a DM_RV sent by a step; the answers to requests are none of these
abbrev pub is_sent : Happened → Bool
is_sent (adds bytes period told) = false
is_sent (clears place told) = false
is_sent (steps c (refused n)) = false
is_sent (steps c (gives nothing_due)) = false
is_sent (steps c (gives (sends at frame))) = true
is_sent (requests id bytes c told) = false

abbrev pub sent_in : List Happened → ℕ
sent_in hs = count is_sent hs

-- the DM_RV of a place sent, its fault cleared, a fault added there
abbrev pub sends_for : ℕ → Happened → Bool
sends_for p (adds bytes period told) = false
sends_for p (clears place told) = false
sends_for p (steps c (refused n)) = false
sends_for p (steps c (gives nothing_due)) = false
sends_for p (steps c (gives (sends at frame))) = at =? p
sends_for p (requests id bytes c told) = false

abbrev pub clears_at : ℕ → Happened → Bool
clears_at p (adds bytes period told) = false
clears_at p (clears place (refused n)) = false
clears_at p (clears place (gives at)) = at =? p
clears_at p (steps c told) = false
clears_at p (requests id bytes c told) = false

abbrev pub adds_at : ℕ → Happened → Bool
adds_at p (adds bytes period (refused n)) = false
adds_at p (adds bytes period (gives at)) = at =? p
adds_at p (clears place told) = false
adds_at p (steps c told) = false
adds_at p (requests id bytes c told) = false

-- a run in which the fault of a place is neither sent nor cleared
abbrev pub Spared : ℕ → List Happened → Type 0
Spared p hs = any (λ h. sends_for p h or clears_at p h) hs ≡ false

abbrev pub NotCleared : ℕ → List Happened → Type 0
NotCleared p hs = any (clears_at p) hs ≡ false

-- ---- Fairness.

-- the greatest number of DM_RVs for others that a due fault waits for
abbrev pub most_others : ℕ
most_others = 31

-- every step that is made sends, and no more are made than there are other places
pub record Waits (hs : List Happened) : Type 0 where
  pub every_step_sends : steps_in hs ≡ sent_in hs
  pub at_most : sent_in hs ≤ most_others

-- From any state, kept by its rules or not: a fault that is due from the next step on.
pub record DueNext (p : ℕ) (s : Sender) : Type 0 where
  pub places : length s.faults ≡ fault_places
  pub due : is_due (passed (fault_at p s)) ≡ true

abbrev pub Fair : Type 0
Fair = (p : ℕ) (s t : Sender) (hs : List Happened) → DueNext p s → Ran s hs t → Spared p hs → Waits hs

-- So it is sent in one of the next 32 steps that are made, if it is not cleared.
abbrev pub SentWithin : Type 0
SentWithin =
    (p : ℕ) (s t : Sender) (hs : List Happened) → DueNext p s → Ran s hs t → NotCleared p hs → most_others < steps_in hs
    → any (sends_for p) hs ≡ true

-- By the calls alone: after it was added a fault is due from the next step on.
abbrev pub FairAdded : Type 0
FairAdded =
    (p period : ℕ) (bytes no_fault : List ℕ) (start before a t : Sender) (earlier hs : List Happened)
    → Start no_fault start → Ran start earlier before → Leads before (adds bytes period (gives p)) a
    → Ran a hs t → Spared p hs → Waits hs

-- a fault in place p with these bytes and this period: added in a run from a start, and not cleared since
pub record Active (p period : ℕ) (bytes : List ℕ) (now : Sender) : Type 0 where
  pub no_fault : List ℕ
  pub start : Sender
  pub before : Sender
  pub after : Sender
  pub earlier : List Happened
  pub since : List Happened
  pub started : Start no_fault start
  pub ran : Ran start earlier before
  pub added : Leads before (adds bytes period (gives p)) after
  pub ran_on : Ran after since now
  pub kept : NotCleared p since

-- After a step that sent it, it is due from the step that comes a period later.
abbrev pub FairAgain : Type 0
FairAgain =
    (p period : ℕ) (bytes : List ℕ) (c : Claim) (frame : Frame) (b d e t : Sender) (wait hs : List Happened)
    → Active p period bytes b → Leads b (steps c (gives (sends p frame))) d
    → Ran d wait e → Spared p wait → period ≤ step_time * (steps_in wait + 1)
    → Ran e hs t → Spared p hs → Waits hs

-- 31 is reached: there is a run from a start in which a fault is due and not cleared, and 31 others are sent before it.
pub record Sharp : Type 0 where
  pub start : Sender
  pub before : Sender
  pub after : Sender
  pub end : Sender
  pub earlier : List Happened
  pub bytes : List ℕ
  pub period : ℕ
  pub p : ℕ
  pub hs : List Happened
  pub started : Start bytes start
  pub ran : Ran start earlier before
  pub added : Leads before (adds bytes period (gives p)) after
  pub ran_on : Ran after hs end
  pub spared : Spared p hs
  pub reached : sent_in hs ≡ most_others

-- ---- What is sent, and when.

-- A DM_RV has the bytes that were added, and the address that is held.
pub record Own (bytes : List ℕ) (c : Claim) (frame : Frame) : Type 0 where
  pub address : ℕ
  pub held : (given standing c then λ stand. address_held stand) ≡ gives address
  pub is : frame ≡ dm_rv_frame address bytes

abbrev pub SentIsOwn : Type 0
SentIsOwn =
    (p period : ℕ) (bytes : List ℕ) (c : Claim) (frame : Frame) (b d : Sender)
    → Active p period bytes b → Leads b (steps c (gives (sends p frame))) d → Own bytes c frame

-- It is not sent again before its period is over.
abbrev pub NeverEarly : Type 0
NeverEarly =
    (p period : ℕ) (bytes : List ℕ) (c c' : Claim) (frame frame' : Frame) (b d e t : Sender) (wait : List Happened)
    → Active p period bytes b → Leads b (steps c (gives (sends p frame))) d
    → Ran d wait e → Spared p wait → Leads e (steps c' (gives (sends p frame'))) t
    → period ≤ step_time * (steps_in wait + 1)

-- A cleared fault is never sent: nor is anything from its place until a fault is added there.
abbrev pub NeverCleared : Type 0
NeverCleared =
    (p : ℕ) (s a t : Sender) (hs : List Happened) → Leads s (clears p (gives p)) a → Ran a hs t
    → any (adds_at p) hs ≡ false → any (sends_for p) hs ≡ false

-- ---- The fault that has been due longest, by the calls alone.

-- What the calls of a run tell of a place: no fault is active there; or one is, with its period, and it is due from the
-- step with this number on, the steps that were made being counted from 1.
pub data Duty : Type 0 where
  idle : Duty
  due_from : ℕ → ℕ → Duty

-- sent by step n, it is due a period later
abbrev pub again : ℕ → Duty → Duty
again n idle = idle
again n (due_from period d) = due_from period (n + period / step_time)

-- the steps made so far, and what is told of one place
pub record Known : Type 0 where
  pub clock : ℕ
  pub duty : Duty

abbrev pub nothing_known : Known
nothing_known = record { clock = 0; duty = idle }

abbrev pub learns : ℕ → Happened → Known → Known
learns p (adds bytes period (refused n)) k = k
learns p (adds bytes period (gives at)) k =
    record { clock = k.clock; duty = if at =? p then due_from period (k.clock + 1) else k.duty }
learns p (clears place (refused n)) k = k
learns p (clears place (gives at)) k = record { clock = k.clock; duty = if at =? p then idle else k.duty }
learns p (steps c (refused n)) k = k
learns p (steps c (gives nothing_due)) k = record { clock = k.clock + 1; duty = k.duty }
learns p (steps c (gives (sends at frame))) k =
    record { clock = k.clock + 1; duty = if at =? p then again (k.clock + 1) k.duty else k.duty }
learns p (requests id bytes c told) k = k

abbrev pub known_after : ℕ → Known → List Happened → Known
known_after p k [] = k
known_after p k (h ∷ hs) = known_after p (learns p h k) hs

abbrev pub known : ℕ → List Happened → Known
known p hs = known_after p nothing_known hs

-- at the next step the fault of place p is due, none has been due longer, and of those due as long it has the lowest
-- place
pub record Longest (hs : List Happened) (p : ℕ) : Type 0 where
  pub period : ℕ
  pub from : ℕ
  pub is : (known p hs).duty ≡ due_from period from
  pub due : from ≤ (known p hs).clock + 1
  pub longest : (q period' from' : ℕ) → (known q hs).duty ≡ due_from period' from'
      → (from ≤ from') × (from ≡ from' → p ≤ q)

-- at the next step none is due
abbrev pub NoneDue : List Happened → Type 0
NoneDue hs = (q period from : ℕ) → (known q hs).duty ≡ due_from period from → (known q hs).clock + 1 < from

abbrev pub Rightly : List Happened → Outcome → Type 0
Rightly hs nothing_due = NoneDue hs
Rightly hs (sends p frame) = Longest hs p

-- In every run from a start, each step that is made sends the one who has been due longest, of several the one in the
-- lowest place, and nothing only where none is due: though the state counts a fault's age only up to 31.
abbrev pub LongestDue : Type 0
LongestDue =
    (no_fault : List ℕ) (start s t : Sender) (hs : List Happened) (c : Claim) (outcome : Outcome)
    → Start no_fault start → Ran start hs s → Leads s (steps c (gives outcome)) t → Rightly hs outcome
