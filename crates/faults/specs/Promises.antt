-- What each public call of this crate promises (RULES 14 and 13.7): one proposition over all that it answers. The
-- answers are read as numbers and values (RULES 2.10).
use Rattle.std.specs.Prelude.{◌≡◌, List, ℕ, Option, Some, None, Result, Ok, Err}
use Rattle.words.specs.Words.{Told, refused, gives, number_in, told}
use Rattle.frame.specs.Standard.{Frame, no_frame}
use Rattle.frame.specs.Promises.{refusal_of}
use Rattle.catalogue.specs.Table.{row_in}
use Rattle.catalogue.specs.Promises.{Looked, Reading, Writing, told_looked, told_reading, told_writing}
use Rattle.catalogue.specs.Promises.{done_if, bytes_after, number_of_not_read}
use Rattle.catalogue.specs.declared.NotRead.{NotRead}
use Rattle.catalogue.specs.declared.Value.{Value}
use Rattle.claim.specs.declared.Claim.{Claim}
use Rattle.command.specs.Requests as Host
use Rattle.command.specs.Promises as HostPromises
use Rattle.command.specs.declared.Host as Hosts
use Rattle.faults.specs.Rows.{rows, packed, read_of, written_of}
use Rattle.faults.specs.ServicePoint.{service_point_of, with_service_point_of}
use Rattle.faults.specs.Sender as Sender
use Rattle.faults.specs.Sender.{begun, added_of, after_add, cleared_of, after_clear, Outcome, nothing_due, stepped_of}
use Rattle.faults.specs.Sender.{after_step}
use Rattle.faults.specs.Requests as Requests
use Rattle.faults.specs.Requests.{nothing_to_do, requested_of}
use Rattle.faults.specs.declared.Sender as Senders
use Rattle.faults.specs.declared.NotAdded.{NotAdded}
use Rattle.faults.specs.declared.NotCleared.{NotCleared}
use Rattle.faults.specs.declared.NotStepped.{NotStepped}
use Rattle.faults.specs.declared.NotHeard.{NotHeard}
use Rattle.faults.specs.declared.Response.{Response}
use Rattle.faults.specs.declared.Added.{Added}
use Rattle.faults.specs.declared.Cleared.{Cleared}
use Rattle.faults.specs.declared.Stepped.{Stepped}
use Rattle.faults.specs.declared.Requested.{Requested}
use Rattle.faults.specs.declared.Replied.{Replied}

-- packed_rows, row_at, read and write: the rows of DM_RV, by the catalogue's rules

pub record PackedRows (r : List ℕ) : Type 0 where
  pub answer : r ≡ packed

pub record RowAt (n : ℕ) (r : Looked) : Type 0 where
  pub answer : told_looked r ≡ row_in rows n

pub record ReadField (n id : ℕ) (bytes : List ℕ) (r : Reading) : Type 0 where
  pub answer : told_reading r ≡ read_of n id bytes

pub record WriteField (n id : ℕ) (bytes : List ℕ) (value : Value) (r : Writing) (after : List ℕ) : Type 0 where
  pub answer : told_writing r ≡ done_if (written_of n id bytes value)
  pub data_bytes : after ≡ bytes_after (written_of n id bytes value) bytes

-- read_service_point and write_service_point

abbrev pub ServicePoint : Type 0
ServicePoint = Result ℕ NotRead

abbrev pub told_service_point : ServicePoint → Told ℕ
told_service_point r = told number_of_not_read r

pub record ReadServicePoint (id : ℕ) (bytes : List ℕ) (r : ServicePoint) : Type 0 where
  pub answer : told_service_point r ≡ service_point_of id bytes

pub record ServicePointRefusal (answer : ServicePoint) (r : ℕ) : Type 0 where
  pub number : r ≡ number_in (told_service_point answer)

pub record WriteServicePoint (id : ℕ) (bytes : List ℕ) (number : ℕ) (r : Writing) (after : List ℕ) : Type 0 where
  pub answer : told_writing r ≡ done_if (with_service_point_of id bytes number)
  pub data_bytes : after ≡ bytes_after (with_service_point_of id bytes number) bytes

-- Sender::start

pub record Start (no_fault_bytes : List ℕ) (r : Senders.Sender) : Type 0 where
  pub state : r ≡ begun no_fault_bytes

-- Sender::add

abbrev pub Adding : Type 0
Adding = Result ℕ NotAdded

abbrev pub number_of_not_added : NotAdded → ℕ
number_of_not_added NotAdded.BrokenState = 2
number_of_not_added NotAdded.NoPlace = 20
number_of_not_added NotAdded.PeriodNotAllowed = 21

abbrev pub told_adding : Adding → Told ℕ
told_adding r = told number_of_not_added r

pub record AddedBy (told : Told ℕ) (bytes : List ℕ) (period : ℕ) (s : Senders.Sender) (r : Added) : Type 0 where
  pub answer : told_adding r.answer ≡ told
  pub state : r.sender ≡ after_add told bytes period s

abbrev pub Add : List ℕ → ℕ → Senders.Sender → Added → Type 0
Add bytes period s r = AddedBy (added_of period s) bytes period s r

pub record NotAddedRefusal (why : NotAdded) (r : ℕ) : Type 0 where
  pub number : r ≡ number_of_not_added why

pub record AddingRefusal (answer : Adding) (r : ℕ) : Type 0 where
  pub number : r ≡ number_in (told_adding answer)

-- Sender::clear: the answer `Ok` is for the place that was named

abbrev pub Clearing : Type 0
Clearing = Result Unit NotCleared

abbrev pub number_of_not_cleared : NotCleared → ℕ
number_of_not_cleared NotCleared.BrokenState = 2
number_of_not_cleared NotCleared.NoSuchFault = 22

abbrev pub told_clearing : Clearing → ℕ → Told ℕ
told_clearing (Ok nothing) place = gives place
told_clearing (Err why) place = refused (number_of_not_cleared why)

pub record Clear (place : ℕ) (s : Senders.Sender) (r : Cleared) : Type 0 where
  pub answer : told_clearing r.answer place ≡ cleared_of place s
  pub state : r.sender ≡ after_clear (cleared_of place s) s

pub record NotClearedRefusal (why : NotCleared) (r : ℕ) : Type 0 where
  pub number : r ≡ number_of_not_cleared why

-- the number is the same whatever place is named
pub record ClearingRefusal (answer : Clearing) (r : ℕ) : Type 0 where
  pub number : r ≡ number_in (told_clearing answer 0)

-- Sender::step: an answer, and the frame that stands beside it

abbrev pub Stepping : Type 0
Stepping = Result (Option ℕ) NotStepped

abbrev pub number_of_not_stepped : NotStepped → ℕ
number_of_not_stepped NotStepped.BrokenState = 2
number_of_not_stepped NotStepped.ListMalformed = 16
number_of_not_stepped NotStepped.NoAddressHeld = 18

abbrev pub told_stepping : Stepping → Frame → Told Outcome
told_stepping (Ok (Some place)) frame = gives (Sender.sends place frame)
told_stepping (Ok None) frame = gives nothing_due
told_stepping (Err why) frame = refused (number_of_not_stepped why)

-- the frame that is told; no frame where there is none
abbrev pub sent_in : Told Outcome → Frame
sent_in (refused n) = no_frame
sent_in (gives nothing_due) = no_frame
sent_in (gives (Sender.sends place frame)) = frame

pub record SteppedBy (told : Told Outcome) (s : Senders.Sender) (r : Stepped) : Type 0 where
  pub answer : told_stepping r.answer (record { id = r.id; bytes = r.bytes }) ≡ told
  pub state : r.sender ≡ after_step told s
  pub sent_id : r.id ≡ (sent_in told).id
  pub sent_bytes : r.bytes ≡ (sent_in told).bytes

abbrev pub Step : Claim → Senders.Sender → Stepped → Type 0
Step c s r = SteppedBy (stepped_of c s) s r

pub record NotSteppedRefusal (why : NotStepped) (r : ℕ) : Type 0 where
  pub number : r ≡ number_of_not_stepped why

-- the number is the same whatever frame stands beside the answer
pub record SteppingRefusal (answer : Stepping) (r : ℕ) : Type 0 where
  pub number : r ≡ number_in (told_stepping answer no_frame)

-- Sender::request: an answer, the state as it was, and the frame that stands beside it

abbrev pub Requesting : Type 0
Requesting = Result Response NotHeard

abbrev pub number_of_not_heard : NotHeard → ℕ
number_of_not_heard NotHeard.BrokenState = 2
number_of_not_heard (NotHeard.BadFrame why) = refusal_of why
number_of_not_heard NotHeard.ListMalformed = 16
number_of_not_heard NotHeard.DgnTooLarge = 17
number_of_not_heard NotHeard.NoAddressHeld = 18

abbrev pub told_requesting : Requesting → Frame → Told Requests.Reply
told_requesting (Ok Response.NothingToDo) frame = gives nothing_to_do
told_requesting (Ok Response.Send) frame = gives (Requests.sends frame)
told_requesting (Err why) frame = refused (number_of_not_heard why)

abbrev pub replied_in : Told Requests.Reply → Frame
replied_in (refused n) = no_frame
replied_in (gives nothing_to_do) = no_frame
replied_in (gives (Requests.sends frame)) = frame

pub record RequestedBy (told : Told Requests.Reply) (s : Senders.Sender) (r : Requested) : Type 0 where
  pub answer : told_requesting r.answer (record { id = r.id; bytes = r.bytes }) ≡ told
  pub state : r.sender ≡ s
  pub sent_id : r.id ≡ (replied_in told).id
  pub sent_bytes : r.bytes ≡ (replied_in told).bytes

abbrev pub Request : ℕ → List ℕ → Claim → Senders.Sender → Requested → Type 0
Request id bytes c s r = RequestedBy (requested_of id bytes c s) s r

pub record NotHeardRefusal (why : NotHeard) (r : ℕ) : Type 0 where
  pub number : r ≡ number_of_not_heard why

-- the number is the same whatever frame stands beside the answer
pub record RequestingRefusal (answer : Requesting) (r : ℕ) : Type 0 where
  pub number : r ≡ number_in (told_requesting answer no_frame)

-- Sender::reply: the sender's request, and the host's where the sender has nothing to do

abbrev pub host_told : Told Requests.Reply → Told Host.Reply → Told Host.Reply
host_told (refused n) hosted = gives Host.nothing_to_do
host_told (gives nothing_to_do) hosted = hosted
host_told (gives (Requests.sends frame)) hosted = gives Host.nothing_to_do

pub record Reply (id : ℕ) (bytes : List ℕ) (h : Hosts.Host) (c : Claim) (s : Senders.Sender) (r : Replied)
    : Type 0 where
  pub faults : Request id bytes c s r.faults
  pub host :
      HostPromises.RequestedBy (host_told (requested_of id bytes c s) (Host.requested_of id bytes h c)) r.host
