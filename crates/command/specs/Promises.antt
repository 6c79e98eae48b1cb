-- What each public call of this crate promises (RULES 10 and 13.7): one proposition over all that it answers. The
-- answers are read as numbers and values (RULES 2.10).
use Rattle.std.specs.Prelude.{◌≡◌, List, [], ℕ, Result, Ok, Err, if◌then◌else◌}
use Rattle.words.specs.Words.{Told, refused, gives, number_in, Done, done}
use Rattle.frame.specs.Standard.{Frame, no_frame}
use Rattle.frame.specs.Promises.{refusal_of}
use Rattle.claim.specs.declared.Claim.{Claim}
use Rattle.claim.specs.declared.NotHeard.{NotHeard}
use Rattle.command.specs.Hosted.{is_well_formed, begun, empty}
use Rattle.command.specs.Positions.{filled, listed}
use Rattle.command.specs.Commands as Commands
use Rattle.command.specs.Commands.{Outcome, picks, routed_of}
use Rattle.command.specs.Acknowledgment.{acknowledged_of}
use Rattle.command.specs.Requests as Requests
use Rattle.command.specs.Requests.{Reply, claims, supported, nak, unsupported, requested_of}
use Rattle.command.specs.declared.Edition.{Edition}
use Rattle.command.specs.declared.Entry.{Entry}
use Rattle.command.specs.declared.Host.{Host}
use Rattle.command.specs.declared.NotStarted.{NotStarted}
use Rattle.command.specs.declared.Started.{Started}
use Rattle.command.specs.declared.Choice.{Choice}
use Rattle.command.specs.declared.NotRouted.{NotRouted}
use Rattle.command.specs.declared.Routed.{Routed}
use Rattle.command.specs.declared.Response.{Response}
use Rattle.command.specs.declared.NotAnswered.{NotAnswered}
use Rattle.command.specs.declared.Requested.{Requested}
use Rattle.command.specs.declared.Acknowledgment.{Acknowledgment}
use Rattle.command.specs.declared.NotAcknowledged.{NotAcknowledged}
use Rattle.command.specs.declared.Acknowledged.{Acknowledged}

-- Host::start

abbrev pub Starting : Type 0
Starting = Result Unit NotStarted

abbrev pub number_of_not_started : NotStarted → ℕ
number_of_not_started NotStarted.ListMalformed = 16

abbrev pub told_starting : Starting → Told Done
told_starting (Ok u) = gives done
told_starting (Err why) = refused (number_of_not_started why)

unfoldable pub started_of : Host → Told Done
started_of h = if is_well_formed h then gives done else refused 16

pub record StartedBy (h : Host) (r : Started) : Type 0 where
  pub answer : told_starting r.answer ≡ started_of h
  pub state : r.host ≡ (if is_well_formed h then begun h else empty h.edition)

abbrev pub Start : List Entry → ℕ → Edition → Started → Type 0
Start entries count edition r = StartedBy (record { entries = entries; count = count; edition = edition }) r

pub record NotStartedRefusal (why : NotStarted) (r : ℕ) : Type 0 where
  pub number : r ≡ number_of_not_started why

pub record StartingRefusal (answer : Starting) (r : ℕ) : Type 0 where
  pub number : r ≡ number_in (told_starting answer)

-- Host::route: an answer, and the positions that stand beside it

abbrev pub Routing : Type 0
Routing = Result Choice NotRouted

abbrev pub number_of_not_routed : NotRouted → ℕ
number_of_not_routed NotRouted.BrokenState = 2
number_of_not_routed (NotRouted.BadFrame why) = refusal_of why
number_of_not_routed NotRouted.ListMalformed = 16
number_of_not_routed NotRouted.NoAddressHeld = 18

-- what is refused as it is handed in
abbrev pub not_routed_for : NotHeard → NotRouted
not_routed_for NotHeard.BrokenState = NotRouted.BrokenState
not_routed_for (NotHeard.BadFrame why) = NotRouted.BadFrame why
not_routed_for NotHeard.ListMalformed = NotRouted.ListMalformed

abbrev pub outcome_in : Choice → List ℕ → Outcome
outcome_in Choice.NothingToDo ps = Commands.nothing_to_do
outcome_in Choice.Picked ps = picks ps

abbrev pub told_routing : Routing → List ℕ → Told Outcome
told_routing (Ok choice) ps = gives (outcome_in choice ps)
told_routing (Err why) ps = refused (number_of_not_routed why)

-- the positions that are told; none where none are
abbrev pub picked_in : Told Outcome → List ℕ
picked_in (refused n) = []
picked_in (gives Commands.nothing_to_do) = []
picked_in (gives (picks ps)) = ps

pub record RoutedBy (told : Told Outcome) (r : Routed) : Type 0 where
  pub answer : told_routing r.answer (listed r.positions) ≡ told
  pub positions : r.positions ≡ filled (picked_in told)

abbrev pub Route : ℕ → List ℕ → Host → Claim → Routed → Type 0
Route id bytes h c r = RoutedBy (routed_of id bytes h c) r

pub record NotRoutedRefusal (why : NotRouted) (r : ℕ) : Type 0 where
  pub number : r ≡ number_of_not_routed why

-- the number is the same whatever positions stand beside the answer
pub record RoutingRefusal (answer : Routing) (r : ℕ) : Type 0 where
  pub number : r ≡ number_in (told_routing answer [])

-- Host::request: an answer, the positions and the frame that stand beside it

abbrev pub Requesting : Type 0
Requesting = Result Response NotAnswered

abbrev pub number_of_not_answered : NotAnswered → ℕ
number_of_not_answered NotAnswered.BrokenState = 2
number_of_not_answered (NotAnswered.BadFrame why) = refusal_of why
number_of_not_answered NotAnswered.ListMalformed = 16
number_of_not_answered NotAnswered.DgnTooLarge = 17
number_of_not_answered NotAnswered.NoAddressHeld = 18

abbrev pub not_answered_for : NotHeard → NotAnswered
not_answered_for NotHeard.BrokenState = NotAnswered.BrokenState
not_answered_for (NotHeard.BadFrame why) = NotAnswered.BadFrame why
not_answered_for NotHeard.ListMalformed = NotAnswered.ListMalformed

abbrev pub reply_in : Response → List ℕ → Frame → Reply
reply_in Response.NothingToDo ps frame = Requests.nothing_to_do
reply_in Response.SendClaim ps frame = claims frame
reply_in Response.Supported ps frame = supported ps
reply_in Response.SendNak ps frame = nak frame
reply_in Response.Unsupported ps frame = unsupported

abbrev pub told_requesting : Requesting → List ℕ → Frame → Told Reply
told_requesting (Ok response) ps frame = gives (reply_in response ps frame)
told_requesting (Err why) ps frame = refused (number_of_not_answered why)

-- the positions that are told, and the frame; none where none are
abbrev pub supported_in : Told Reply → List ℕ
supported_in (refused n) = []
supported_in (gives Requests.nothing_to_do) = []
supported_in (gives (claims frame)) = []
supported_in (gives (supported ps)) = ps
supported_in (gives (nak frame)) = []
supported_in (gives unsupported) = []

abbrev pub sent_in : Told Reply → Frame
sent_in (refused n) = no_frame
sent_in (gives Requests.nothing_to_do) = no_frame
sent_in (gives (claims frame)) = frame
sent_in (gives (supported ps)) = no_frame
sent_in (gives (nak frame)) = frame
sent_in (gives unsupported) = no_frame

pub record RequestedBy (told : Told Reply) (r : Requested) : Type 0 where
  pub answer : told_requesting r.answer (listed r.positions) (record { id = r.id; bytes = r.bytes }) ≡ told
  pub positions : r.positions ≡ filled (supported_in told)
  pub sent_id : r.id ≡ (sent_in told).id
  pub sent_bytes : r.bytes ≡ (sent_in told).bytes

abbrev pub Request : ℕ → List ℕ → Host → Claim → Requested → Type 0
Request id bytes h c r = RequestedBy (requested_of id bytes h c) r

pub record NotAnsweredRefusal (why : NotAnswered) (r : ℕ) : Type 0 where
  pub number : r ≡ number_of_not_answered why

-- the number is the same whatever positions and frame stand beside the answer
pub record RequestingRefusal (answer : Requesting) (r : ℕ) : Type 0 where
  pub number : r ≡ number_in (told_requesting answer [] no_frame)

-- acknowledge: an answer, and the frame that stands beside it

abbrev pub Acknowledging : Type 0
Acknowledging = Result Unit NotAcknowledged

abbrev pub number_of_not_acknowledged : NotAcknowledged → ℕ
number_of_not_acknowledged NotAcknowledged.BrokenState = 2
number_of_not_acknowledged NotAcknowledged.RequesterNotAllowed = 6
number_of_not_acknowledged NotAcknowledged.ListMalformed = 16
number_of_not_acknowledged NotAcknowledged.DgnTooLarge = 17
number_of_not_acknowledged NotAcknowledged.NoAddressHeld = 18

abbrev pub told_acknowledging : Acknowledging → Frame → Told Frame
told_acknowledging (Ok u) frame = gives frame
told_acknowledging (Err why) frame = refused (number_of_not_acknowledged why)

abbrev pub formed_in : Told Frame → Frame
formed_in (refused n) = no_frame
formed_in (gives frame) = frame

pub record AcknowledgedBy (told : Told Frame) (r : Acknowledged) : Type 0 where
  pub answer : told_acknowledging r.answer (record { id = r.id; bytes = r.bytes }) ≡ told
  pub sent_id : r.id ≡ (formed_in told).id
  pub sent_bytes : r.bytes ≡ (formed_in told).bytes

abbrev pub Acknowledge : Claim → Acknowledgment → Acknowledged → Type 0
Acknowledge c a r = AcknowledgedBy (acknowledged_of c a) r

pub record NotAcknowledgedRefusal (why : NotAcknowledged) (r : ℕ) : Type 0 where
  pub number : r ≡ number_of_not_acknowledged why

-- the number is the same whatever frame stands beside the answer
pub record AcknowledgingRefusal (answer : Acknowledging) (r : ℕ) : Type 0 where
  pub number : r ≡ number_in (told_acknowledging answer no_frame)
