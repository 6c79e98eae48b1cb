-- What each public call of this crate promises (RULES 8.16 and 13.7): one proposition over all that it answers. The
-- answers are read as numbers and values (RULES 2.10).
use Rattle.std.specs.Prelude.{◌≡◌, Bool, false, not, List, ℕ, length, replicate, Result, Ok, Err, if◌then◌else◌}
use Rattle.words.specs.Words.{◌=?◌, ◌and◌, Told, refused, gives, number_in, given◌then◌, Done, done}
use Rattle.frame.specs.Bytes.{number_of}
use Rattle.frame.specs.Frame.{checked_of}
use Rattle.frame.specs.Standard.{claim_dgn, Frame, no_frame}
use Rattle.frame.specs.Promises.{refusal_of}
use Rattle.frame.specs.declared.Parts.{Parts}
use Rattle.claim.specs.Candidates.{longest_list, is_well_formed}
use Rattle.claim.specs.Claim.{keeps_rules, holds_list, claim_frame, Stand, held, claiming, silent, stand_of, begun}
use Rattle.claim.specs.Claim.{Outcome, nothing_to_do, own_name, repeated, moved, fell_silent, outcome_of, after}
use Rattle.claim.specs.Claim.{is_sent, pause}
use Rattle.claim.specs.declared.Claim.{Claim}
use Rattle.claim.specs.declared.NotStarted.{NotStarted}
use Rattle.claim.specs.declared.Started.{Started}
use Rattle.claim.specs.declared.Reaction.{Reaction}
use Rattle.claim.specs.declared.NotHeard.{NotHeard}
use Rattle.claim.specs.declared.Heard.{Heard}
use Rattle.claim.specs.declared.BadState.{BadState}
use Rattle.claim.specs.declared.Paused.{Paused}
use Rattle.claim.specs.declared.Place.{Place}
use Rattle.claim.specs.declared.ClaimFrame.{ClaimFrame}

-- beside an answer: the frame of our claim where it is to be sent, and no frame where nothing is
abbrev pub frame_if : Bool → Claim → Frame
frame_if sent c = if sent then claim_frame c else no_frame

-- Claim::start

-- the all-zero state, beside a refused start
abbrev pub blank : Claim
blank =
    record {
      name = 0;
      list = replicate longest_list 0;
      candidates = 0;
      position = 0;
      wait = 0;
      silent = false;
      losses = 0;
    }

abbrev pub Starting : Type 0
Starting = Result Unit NotStarted

abbrev pub number_of_not_started : NotStarted → ℕ
number_of_not_started NotStarted.ListMalformed = 16

abbrev pub told_starting : Starting → Told Done
told_starting (Ok u) = gives done
told_starting (Err why) = refused (number_of_not_started why)

unfoldable pub started_of : List ℕ → Told Done
started_of list = if is_well_formed list then gives done else refused 16

pub record Start (name : ℕ) (list : List ℕ) (r : Started) : Type 0 where
  pub answer : told_starting r.answer ≡ started_of list
  pub state : r.claim ≡ (if is_well_formed list then begun name list else blank)
  pub sent_id : r.id ≡ (frame_if (is_well_formed list) (begun name list)).id
  pub sent_bytes : r.bytes ≡ (frame_if (is_well_formed list) (begun name list)).bytes

pub record NotStartedRefusal (why : NotStarted) (r : ℕ) : Type 0 where
  pub number : r ≡ number_of_not_started why

pub record StartingRefusal (answer : Starting) (r : ℕ) : Type 0 where
  pub number : r ≡ number_in (told_starting answer)

-- Claim::hear

abbrev pub Hearing : Type 0
Hearing = Result Reaction NotHeard

abbrev pub number_of_not_heard : NotHeard → ℕ
number_of_not_heard NotHeard.BrokenState = 2
number_of_not_heard (NotHeard.BadFrame why) = refusal_of why
number_of_not_heard NotHeard.ListMalformed = 16

abbrev pub outcome_in : Reaction → Outcome
outcome_in Reaction.NothingToDo = nothing_to_do
outcome_in Reaction.OwnName = own_name
outcome_in Reaction.SendClaimAgain = repeated
outcome_in Reaction.SendNextClaim = moved
outcome_in Reaction.SendCannotClaim = fell_silent

abbrev pub told_hearing : Hearing → Told Outcome
told_hearing (Ok reaction) = gives (outcome_in reaction)
told_hearing (Err why) = refused (number_of_not_heard why)

-- what a sound frame leads to: any DGN but EEFFh is nothing to do
unfoldable pub meets_frame : Parts → List ℕ → Claim → Outcome
meets_frame parts bytes c = if parts.dgn =? claim_dgn then outcome_of parts.source (number_of bytes) c else nothing_to_do

-- 2, then 3 to 6 of the frame, then 16
unfoldable pub heard_of : ℕ → List ℕ → Claim → Told Outcome
heard_of id bytes c =
    if not (keeps_rules c) then refused 2 else
    given checked_of id (length bytes) then λ parts.
    if not (holds_list c) then refused 16 else
    gives (meets_frame parts bytes c)

-- the state after an answer, whether our claim is sent, and the frame: a refusal keeps the state and sends nothing
abbrev pub after_told : Told Outcome → Claim → Claim
after_told (refused n) c = c
after_told (gives outcome) c = after outcome c

abbrev pub is_sent_told : Told Outcome → Bool
is_sent_told (refused n) = false
is_sent_told (gives outcome) = is_sent outcome

abbrev pub frame_sent : Told Outcome → Claim → Frame
frame_sent told c = frame_if (is_sent_told told) (after_told told c)

pub record Hear (id : ℕ) (bytes : List ℕ) (c : Claim) (r : Heard) : Type 0 where
  pub answer : told_hearing r.answer ≡ heard_of id bytes c
  pub state : r.claim ≡ after_told (heard_of id bytes c) c
  pub sent_id : r.id ≡ (frame_sent (heard_of id bytes c) c).id
  pub sent_bytes : r.bytes ≡ (frame_sent (heard_of id bytes c) c).bytes

pub record NotHeardRefusal (why : NotHeard) (r : ℕ) : Type 0 where
  pub number : r ≡ number_of_not_heard why

pub record HearingRefusal (answer : Hearing) (r : ℕ) : Type 0 where
  pub number : r ≡ number_in (told_hearing answer)

-- a state handed in with no frame: 2, then 16

abbrev pub is_sound : Claim → Bool
is_sound c = keeps_rules c and holds_list c

unfoldable pub sound_of : Claim → Told Done
sound_of c =
    if not (keeps_rules c) then refused 2 else
    if not (holds_list c) then refused 16 else
    gives done

abbrev pub number_of_bad_state : BadState → ℕ
number_of_bad_state BadState.BrokenState = 2
number_of_bad_state BadState.ListMalformed = 16

-- Claim::pause

abbrev pub Pausing : Type 0
Pausing = Result Unit BadState

abbrev pub told_pausing : Pausing → Told Done
told_pausing (Ok u) = gives done
told_pausing (Err why) = refused (number_of_bad_state why)

pub record Pause (ms : ℕ) (c : Claim) (r : Paused) : Type 0 where
  pub answer : told_pausing r.answer ≡ sound_of c
  pub state : r.claim ≡ (if is_sound c then pause ms c else c)

pub record BadStateRefusal (why : BadState) (r : ℕ) : Type 0 where
  pub number : r ≡ number_of_bad_state why

pub record PausingRefusal (answer : Pausing) (r : ℕ) : Type 0 where
  pub number : r ≡ number_in (told_pausing answer)

-- Claim::stands

abbrev pub Standing : Type 0
Standing = Result Place BadState

abbrev pub stands_at : Place → Stand
stands_at (Place.Held a) = held a
stands_at (Place.Claiming a) = claiming a
stands_at Place.Silent = silent

abbrev pub told_standing : Standing → Told Stand
told_standing (Ok place) = gives (stands_at place)
told_standing (Err why) = refused (number_of_bad_state why)

pub record Stands (c : Claim) (r : Standing) : Type 0 where
  pub answer : told_standing r ≡ (given sound_of c then λ _. gives (stand_of c))

pub record StandingRefusal (answer : Standing) (r : ℕ) : Type 0 where
  pub number : r ≡ number_in (told_standing answer)

-- Claim::our_claim

abbrev pub Sending : Type 0
Sending = Result Unit BadState

abbrev pub told_sending : Sending → Told Done
told_sending (Ok u) = gives done
told_sending (Err why) = refused (number_of_bad_state why)

pub record OurClaim (c : Claim) (r : ClaimFrame) : Type 0 where
  pub answer : told_sending r.answer ≡ sound_of c
  pub sent_id : r.id ≡ (frame_if (is_sound c) c).id
  pub sent_bytes : r.bytes ≡ (frame_if (is_sound c) c).bytes

pub record SendingRefusal (answer : Sending) (r : ℕ) : Type 0 where
  pub number : r ≡ number_in (told_sending answer)

-- Claim::keeps_rules and Claim::holds_list

pub record KeepsRules (c : Claim) (r : Bool) : Type 0 where
  pub answer : r ≡ keeps_rules c

pub record HoldsList (c : Claim) (r : Bool) : Type 0 where
  pub answer : r ≡ holds_list c
