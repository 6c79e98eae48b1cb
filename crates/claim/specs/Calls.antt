-- A run of the calls of RULES 8, told by nothing but their promises: each call is handed the state that the one before
-- it gave back.
use Rattle.std.specs.Prelude.{List, [], ◌∷◌, ◌++◌, ℕ, ◌+◌, length, if◌then◌else◌}
use Rattle.words.specs.Words.{◌=?◌, Told, refused, gives}
use Rattle.frame.specs.Bytes.{number_of}
use Rattle.frame.specs.Frame.{checked_of}
use Rattle.frame.specs.Standard.{claim_dgn, no_frame}
use Rattle.frame.specs.declared.Parts.{Parts}
use Rattle.claim.specs.Claim.{Outcome}
use Rattle.claim.specs.History.{Event, heard, paused, loss_of, repeat_of}
use Rattle.claim.specs.Promises.{Hearing}
use Rattle.claim.specs.Promises.{Hear, told_hearing, Pause}
use Rattle.claim.specs.declared.Claim.{Claim}
use Rattle.claim.specs.declared.Heard.{Heard}
use Rattle.claim.specs.declared.Paused.{Paused}

pub data Call : Type 0 where
  hears : ℕ → List ℕ → Call
  pauses : ℕ → Call

pub data Ran : Claim → List Call → Claim → Type 0 where
  no_call : (c : Claim) → Ran c [] c
  a_hear : (c : Claim) (id : ℕ) (bytes : List ℕ) (r : Heard) (calls : List Call) (d : Claim)
      → Hear id bytes c r → Ran r.claim calls d → Ran c (hears id bytes ∷ calls) d
  a_pause : (c : Claim) (ms : ℕ) (r : Paused) (calls : List Call) (d : Claim)
      → Pause ms c r → Ran r.claim calls d → Ran c (pauses ms ∷ calls) d

-- what a run was told of the frames that it heard, in their order
abbrev pub answers_in : {c d : Claim} {calls : List Call} → Ran c calls d → List Hearing
answers_in (no_call c) = []
answers_in (a_hear c id bytes r calls d promise ran) = r.answer ∷ answers_in ran
answers_in (a_pause c ms r calls d promise ran) = answers_in ran

-- how many of such answers tell that a contest is lost, and how many that our claim is to be repeated

abbrev pub loss_told : Told Outcome → ℕ
loss_told (refused n) = 0
loss_told (gives outcome) = loss_of outcome

abbrev pub losses_told : List Hearing → ℕ
losses_told [] = 0
losses_told (answer ∷ answers) = loss_told (told_hearing answer) + losses_told answers

abbrev pub repeat_told : Told Outcome → ℕ
repeat_told (refused n) = 0
repeat_told (gives outcome) = repeat_of outcome

abbrev pub repeats_told : List Hearing → ℕ
repeats_told [] = 0
repeats_told (answer ∷ answers) = repeat_told (told_hearing answer) + repeats_told answers

-- how many frames a run gave its caller to send
abbrev pub frames_sent : {c d : Claim} {calls : List Call} → Ran c calls d → ℕ
frames_sent (no_call c) = 0
frames_sent (a_hear c id bytes r calls d promise ran) = (if r.id =? no_frame.id then 0 else 1) + frames_sent ran
frames_sent (a_pause c ms r calls d promise ran) = frames_sent ran

-- what calls are to the machine: a frame that is a claim is heard, any other frame is nothing, a refused one too
unfoldable pub claim_in : Told Parts → List ℕ → List Event
claim_in (refused n) bytes = []
claim_in (gives parts) bytes = if parts.dgn =? claim_dgn then heard parts.source (number_of bytes) ∷ [] else []

unfoldable pub events_of : Call → List Event
events_of (hears id bytes) = claim_in (checked_of id (length bytes)) bytes
events_of (pauses ms) = paused ms ∷ []

abbrev pub events_in : List Call → List Event
events_in [] = []
events_in (call ∷ calls) = events_of call ++ events_in calls
