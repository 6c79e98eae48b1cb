-- The laws of this crate's calls (RULES 14), each a named statement: what their answers say, and the sender.
-- proofs/Laws.antt, RequestLaws.antt and FieldLaws.antt have a proof of each, under the same name written small. Other
-- laws on fields stand in FieldLaws.antt, those over runs of calls in Runs.antt.
use Rattle.std.specs.Prelude.{None}
use Rattle.std.specs.Prelude.{◌≡◌, true, false, List, [], ◌∷◌, ℕ, ◌≤◌, ◌<◌, ◌%◌, ◌^◌, length}
use Rattle.words.specs.Words.{refused, gives}
use Rattle.words.specs.Lists.{first}
use Rattle.frame.specs.Identifier.{identifiers, catalogue_form, destination_of, greatest_dgn}
use Rattle.frame.specs.Frame.{checked_of, frame_bytes}
use Rattle.frame.specs.Standard.{Frame, no_frame, greatest_address, everyone, request_dgn, dgn_at}
use Rattle.frame.specs.declared.Parts.{Parts}
use Rattle.catalogue.specs.declared.Value.{Value}
use Rattle.claim.specs.Claim as Claims
use Rattle.claim.specs.Claim.{holds_list, held, stand_of}
use Rattle.claim.specs.Promises.{is_sound}
use Rattle.claim.specs.declared.Claim.{Claim}
use Rattle.command.specs.Handed.{address_held}
use Rattle.command.specs.Hosted as Hosted
use Rattle.command.specs.Acknowledgment.{acknowledgment_frame}
use Rattle.command.specs.Requests as Hosting
use Rattle.command.specs.Promises as HostPromises
use Rattle.command.specs.Positions.{listed}
use Rattle.command.specs.declared.Host as Hosts
use Rattle.command.specs.declared.Acknowledgment.{Acknowledgment}
use Rattle.command.specs.declared.Edition.TheVariants.{One}
use Rattle.faults.specs.Rows.{dm_rv}
use Rattle.faults.specs.Fault.{is_allowed, is_empty, is_active, passed}
use Rattle.faults.specs.Sender.{dm_rv_priority, dm_rv_id, dm_rv_frame, keeps_rules, fault_at, begun, added_of}
use Rattle.faults.specs.Sender.{after_add, is_active_at, cleared_of, nothing_due, sends, held_step, stepped_of}
use Rattle.faults.specs.Requests as Requests
use Rattle.faults.specs.Requests.{meant_by, none_active, reply_bytes, requested_of}
use Rattle.catalogue.specs.Promises.{Looked, Reading, Writing}
use Rattle.faults.specs.Promises.{ServicePoint, Adding, Clearing, Stepping, Requesting}
use Rattle.faults.specs.Promises.{NotAddedRefusal, NotClearedRefusal, NotSteppedRefusal, NotHeardRefusal}
use Rattle.faults.specs.declared.NotAdded.{NotAdded}
use Rattle.faults.specs.declared.NotCleared.{NotCleared}
use Rattle.faults.specs.declared.NotStepped.{NotStepped}
use Rattle.faults.specs.declared.NotHeard.{NotHeard}
use Rattle.faults.specs.Promises.{told_service_point, PackedRows, RowAt, ReadField, WriteField, ReadServicePoint}
use Rattle.faults.specs.Promises.{WriteServicePoint, ServicePointRefusal}
use Rattle.faults.specs.Promises.{told_adding, told_clearing, told_stepping, told_requesting, Start, Add, Clear, Step}
use Rattle.faults.specs.Promises.{Request, Reply, AddingRefusal, ClearingRefusal, SteppingRefusal}
use Rattle.faults.specs.Promises.{RequestingRefusal}
use Rattle.faults.specs.Runs.{Happened, Ran}
use Rattle.faults.specs.declared.Sender.{Sender}
use Rattle.faults.specs.declared.Added.{Added}
use Rattle.faults.specs.declared.Cleared.{Cleared}
use Rattle.faults.specs.declared.Stepped.{Stepped}
use Rattle.faults.specs.declared.Requested.{Requested}
use Rattle.faults.specs.declared.Replied.{Replied}
use Rattle.faults.specs.Promises.{number_of_not_added}
use Rattle.words.specs.Words.{number_of_answer}
use Rattle.faults.specs.Promises.{number_of_not_cleared}
use Rattle.faults.specs.Promises.{number_of_not_stepped}
use Rattle.faults.specs.Promises.{number_of_not_heard}
use Rattle.catalogue.specs.Promises.{number_of_not_read}

-- An answer read as number and values loses nothing (RULES 2.10).

abbrev pub ToldServicePointSame : Type 0
ToldServicePointSame = (r s : ServicePoint) → told_service_point r ≡ told_service_point s → r ≡ s

abbrev pub ToldAddingSame : Type 0
ToldAddingSame = (r s : Adding) → told_adding r ≡ told_adding s → r ≡ s

abbrev pub ToldClearingSame : Type 0
ToldClearingSame = (r s : Clearing) (p q : ℕ) → told_clearing r p ≡ told_clearing s q → r ≡ s

abbrev pub ToldSteppingSame : Type 0
ToldSteppingSame = (r s : Stepping) (f g : Frame) → told_stepping r f ≡ told_stepping s g → r ≡ s

abbrev pub ToldRequestingSame : Type 0
ToldRequestingSame = (r s : Requesting) (f g : Frame) → told_requesting r f ≡ told_requesting s g → r ≡ s

-- No second answer, state or frame, and no second lent bytes, keep a promise.

abbrev pub PackedRowsOnly : Type 0
PackedRowsOnly = (r s : List ℕ) → PackedRows r → PackedRows s → r ≡ s

abbrev pub RowAtOnly : Type 0
RowAtOnly = (n : ℕ) (r s : Looked) → RowAt n r → RowAt n s → r ≡ s

abbrev pub ReadOnly : Type 0
ReadOnly = (n id : ℕ) (bytes : List ℕ) (r s : Reading) → ReadField n id bytes r → ReadField n id bytes s → r ≡ s

abbrev pub WriteOnly : Type 0
WriteOnly =
    (n id : ℕ) (bytes : List ℕ) (value : Value) (r s : Writing) (after after' : List ℕ)
    → WriteField n id bytes value r after → WriteField n id bytes value s after' → (r ≡ s) × (after ≡ after')

abbrev pub ReadServicePointOnly : Type 0
ReadServicePointOnly =
    (id : ℕ) (bytes : List ℕ) (r s : ServicePoint) → ReadServicePoint id bytes r → ReadServicePoint id bytes s → r ≡ s

abbrev pub WriteServicePointOnly : Type 0
WriteServicePointOnly =
    (id : ℕ) (bytes : List ℕ) (number : ℕ) (r s : Writing) (after after' : List ℕ)
    → WriteServicePoint id bytes number r after → WriteServicePoint id bytes number s after'
    → (r ≡ s) × (after ≡ after')

abbrev pub ServicePointRefusalOnly : Type 0
ServicePointRefusalOnly =
    (answer : ServicePoint) (r s : ℕ) → ServicePointRefusal answer r → ServicePointRefusal answer s → r ≡ s

abbrev pub ServicePointRefusalTold : Type 0
ServicePointRefusalTold = (answer : ServicePoint) → ServicePointRefusal answer (number_of_answer number_of_not_read answer)

abbrev pub StartOnly : Type 0
StartOnly = (bytes : List ℕ) (r s : Sender) → Start bytes r → Start bytes s → r ≡ s

abbrev pub AddOnly : Type 0
AddOnly =
    (bytes : List ℕ) (period : ℕ) (state : Sender) (r s : Added) → Add bytes period state r → Add bytes period state s
    → r ≡ s

abbrev pub ClearOnly : Type 0
ClearOnly = (place : ℕ) (state : Sender) (r s : Cleared) → Clear place state r → Clear place state s → r ≡ s

abbrev pub StepOnly : Type 0
StepOnly = (c : Claim) (state : Sender) (r s : Stepped) → Step c state r → Step c state s → r ≡ s

abbrev pub RequestOnly : Type 0
RequestOnly =
    (id : ℕ) (bytes : List ℕ) (c : Claim) (state : Sender) (r s : Requested) → Request id bytes c state r
    → Request id bytes c state s
    → r ≡ s

abbrev pub ReplyOnly : Type 0
ReplyOnly =
    (id : ℕ) (bytes : List ℕ) (h : Hosts.Host) (c : Claim) (state : Sender) (r s : Replied) → Reply id bytes h c state r
    → Reply id bytes h c state s
    → r ≡ s

abbrev pub NotAddedRefusalOnly : Type 0
NotAddedRefusalOnly = (why : NotAdded) (r s : ℕ) → NotAddedRefusal why r → NotAddedRefusal why s → r ≡ s

abbrev pub NotClearedRefusalOnly : Type 0
NotClearedRefusalOnly = (why : NotCleared) (r s : ℕ) → NotClearedRefusal why r → NotClearedRefusal why s → r ≡ s

abbrev pub NotSteppedRefusalOnly : Type 0
NotSteppedRefusalOnly = (why : NotStepped) (r s : ℕ) → NotSteppedRefusal why r → NotSteppedRefusal why s → r ≡ s

abbrev pub NotHeardRefusalOnly : Type 0
NotHeardRefusalOnly = (why : NotHeard) (r s : ℕ) → NotHeardRefusal why r → NotHeardRefusal why s → r ≡ s

abbrev pub AddingRefusalOnly : Type 0
AddingRefusalOnly = (answer : Adding) (r s : ℕ) → AddingRefusal answer r → AddingRefusal answer s → r ≡ s

abbrev pub AddingRefusalTold : Type 0
AddingRefusalTold = (answer : Adding) → AddingRefusal answer (number_of_answer number_of_not_added answer)

abbrev pub ClearingRefusalOnly : Type 0
ClearingRefusalOnly = (answer : Clearing) (r s : ℕ) → ClearingRefusal answer r → ClearingRefusal answer s → r ≡ s

abbrev pub ClearingRefusalTold : Type 0
ClearingRefusalTold = (answer : Clearing) → ClearingRefusal answer (number_of_answer number_of_not_cleared answer)

abbrev pub SteppingRefusalOnly : Type 0
SteppingRefusalOnly = (answer : Stepping) (r s : ℕ) → SteppingRefusal answer r → SteppingRefusal answer s → r ≡ s

abbrev pub SteppingRefusalTold : Type 0
SteppingRefusalTold = (answer : Stepping) → SteppingRefusal answer (number_of_answer number_of_not_stepped answer)

abbrev pub RequestingRefusalOnly : Type 0
RequestingRefusalOnly =
    (answer : Requesting) (r s : ℕ) → RequestingRefusal answer r → RequestingRefusal answer s → r ≡ s

abbrev pub RequestingRefusalTold : Type 0
RequestingRefusalTold = (answer : Requesting) → RequestingRefusal answer (number_of_answer number_of_not_heard answer)

-- A refusal gives nothing (RULES 2.4 and 2.6): the state stays, so a refused step is none, and no frame stands beside.

abbrev pub NoFrame : ℕ → List ℕ → Type 0
NoFrame id bytes = (id ≡ no_frame.id) × (bytes ≡ no_frame.bytes)

abbrev pub AddRefusedKeeps : Type 0
AddRefusedKeeps =
    (bytes : List ℕ) (period : ℕ) (s : Sender) (r : Added) (n : ℕ) → Add bytes period s r
    → told_adding r.answer ≡ refused n
    → r.sender ≡ s

abbrev pub ClearRefusedKeeps : Type 0
ClearRefusedKeeps =
    (place : ℕ) (s : Sender) (r : Cleared) (n : ℕ) → Clear place s r → told_clearing r.answer place ≡ refused n
    → r.sender ≡ s

abbrev pub StepRefusedKeeps : Type 0
StepRefusedKeeps =
    (c : Claim) (s : Sender) (r : Stepped) (n : ℕ) → Step c s r → stepped_of c s ≡ refused n
    → (r.sender ≡ s) × NoFrame r.id r.bytes

abbrev pub RequestRefusedKeeps : Type 0
RequestRefusedKeeps =
    (id : ℕ) (bytes : List ℕ) (c : Claim) (s : Sender) (r : Requested) (n : ℕ) → Request id bytes c s r
    → requested_of id bytes c s ≡ refused n
    → NoFrame r.id r.bytes

-- A request changes nothing, whatever is answered: so it moves no due time.
abbrev pub RequestKeeps : Type 0
RequestKeeps =
    (id : ℕ) (bytes : List ℕ) (c : Claim) (s : Sender) (r : Requested) → Request id bytes c s r → r.sender ≡ s

abbrev pub ReplyKeeps : Type 0
ReplyKeeps =
    (id : ℕ) (bytes : List ℕ) (h : Hosts.Host) (c : Claim) (s : Sender) (r : Replied) → Reply id bytes h c s r
    → r.faults.sender ≡ s

-- The lowest number wins: each is given where it applies and no lower one does.

pub record AddLowestWins (period : ℕ) (s : Sender) : Type 0 where
  pub two : keeps_rules s ≡ false → added_of period s ≡ refused 2
  pub twenty : keeps_rules s ≡ true → first is_empty s.faults ≡ None → added_of period s ≡ refused 20
  pub twenty_one : keeps_rules s ≡ true → (first is_empty s.faults ≡ None → ⊥) → is_allowed period ≡ false
      → added_of period s ≡ refused 21

pub record ClearLowestWins (place : ℕ) (s : Sender) : Type 0 where
  pub two : keeps_rules s ≡ false → cleared_of place s ≡ refused 2
  pub twenty_two : keeps_rules s ≡ true → is_active_at place s ≡ false → cleared_of place s ≡ refused 22
  pub cleared : keeps_rules s ≡ true → is_active_at place s ≡ true → cleared_of place s ≡ gives place

pub record StepLowestWins (c : Claim) (s : Sender) : Type 0 where
  pub two : keeps_rules s ≡ false → stepped_of c s ≡ refused 2
  pub two_of_claim : Claims.keeps_rules c ≡ false → stepped_of c s ≡ refused 2
  pub sixteen : keeps_rules s ≡ true → Claims.keeps_rules c ≡ true → holds_list c ≡ false → stepped_of c s ≡ refused 16
  pub eighteen : keeps_rules s ≡ true → is_sound c ≡ true → address_held (stand_of c) ≡ refused 18
      → stepped_of c s ≡ refused 18
  pub made : (address : ℕ) → keeps_rules s ≡ true → is_sound c ≡ true → stand_of c ≡ held address
      → stepped_of c s ≡ gives (held_step address s)

pub record RequestLowestWins (id : ℕ) (bytes : List ℕ) (c : Claim) (s : Sender) : Type 0 where
  pub two : keeps_rules s ≡ false → requested_of id bytes c s ≡ refused 2
  pub two_of_claim : Claims.keeps_rules c ≡ false → requested_of id bytes c s ≡ refused 2
  pub three_to_six : (n : ℕ) → keeps_rules s ≡ true → Claims.keeps_rules c ≡ true
      → checked_of id (length bytes) ≡ refused n
      → requested_of id bytes c s ≡ refused n
  pub sixteen : (p : Parts) → keeps_rules s ≡ true → Claims.keeps_rules c ≡ true → checked_of id (length bytes) ≡ gives p
      → holds_list c ≡ false
      → requested_of id bytes c s ≡ refused 16
  pub seventeen : (p : Parts) → keeps_rules s ≡ true → is_sound c ≡ true → checked_of id (length bytes) ≡ gives p
      → catalogue_form p.dgn ≡ request_dgn → greatest_dgn < dgn_at 0 bytes
      → requested_of id bytes c s ≡ refused 17
  pub eighteen : (p : Parts) → keeps_rules s ≡ true → is_sound c ≡ true → checked_of id (length bytes) ≡ gives p
      → catalogue_form p.dgn ≡ request_dgn → dgn_at 0 bytes ≡ dm_rv → destination_of p.dgn ≡ everyone
      → address_held (stand_of c) ≡ refused 18
      → requested_of id bytes c s ≡ refused 18

abbrev pub AddLowest : Type 0
AddLowest = (period : ℕ) (s : Sender) → AddLowestWins period s

abbrev pub ClearLowest : Type 0
ClearLowest = (place : ℕ) (s : Sender) → ClearLowestWins place s

abbrev pub StepLowest : Type 0
StepLowest = (c : Claim) (s : Sender) → StepLowestWins c s

abbrev pub RequestLowest : Type 0
RequestLowest = (id : ℕ) (bytes : List ℕ) (c : Claim) (s : Sender) → RequestLowestWins id bytes c s

-- A state that keeps its rules leads to one that keeps them: after every run from a start.
abbrev pub RunSound : Type 0
RunSound = (s t : Sender) (hs : List Happened) → keeps_rules s ≡ true → Ran s hs t → keeps_rules t ≡ true

abbrev pub StartSound : Type 0
StartSound = (bytes : List ℕ) (s : Sender) → Start bytes s → keeps_rules s ≡ true

-- A new fault takes the lowest empty place.
pub record LowestEmpty (s : Sender) (at : ℕ) : Type 0 where
  pub below : at < length s.faults
  pub empty : is_empty (fault_at at s) ≡ true
  pub lowest : (i : ℕ) → i < at → is_empty (fault_at i s) ≡ false

abbrev pub AddedLowest : Type 0
AddedLowest = (period : ℕ) (s : Sender) (at : ℕ) → added_of period s ≡ gives at → LowestEmpty s at

-- At most one DM_RV a step: a step that sends none, and one that sends that of a place, leave every other place as
-- 50 ms alone make it.
abbrev pub OneAStep : Type 0
OneAStep =
    (c : Claim) (s : Sender) (r : Stepped)
    → Step c s r
    → (stepped_of c s ≡ gives nothing_due
    → ((q : ℕ) → fault_at q r.sender ≡ passed (fault_at q s)) × NoFrame r.id r.bytes)
    × ((at : ℕ) (frame : Frame) → stepped_of c s ≡ gives (sends at frame)
    → ((q : ℕ) → (at ≡ q → ⊥) → fault_at q r.sender ≡ passed (fault_at q s))
    × (record { id = r.id; bytes = r.bytes } ≡ frame))

-- A request is answered with the lowest active place, or, where none is active, with the bytes of the start, FFh in 2
-- to 5.
pub record AnswersWith (s : Sender) : Type 0 where
  pub lowest : (at : ℕ) → at < length s.faults → is_active (fault_at at s) ≡ true
      → ((i : ℕ) → i < at → is_active (fault_at i s) ≡ false)
      → reply_bytes s ≡ (fault_at at s).bytes
  pub none : ((i : ℕ) → i < length s.faults → is_active (fault_at i s) ≡ false)
      → reply_bytes s ≡ none_active s.no_fault

abbrev pub LowestAnswers : Type 0
LowestAnswers = (s : Sender) → AnswersWith s

-- The priority of a frame that is heard makes no difference (RULES 3.3), and bytes past the requested DGN make none.
abbrev pub PriorityIgnored : Type 0
PriorityIgnored =
    (id id' : ℕ) (bytes : List ℕ) (c : Claim) (s : Sender) → id < identifiers → id' < identifiers
    → id % 2 ^ 26 ≡ id' % 2 ^ 26
    → requested_of id bytes c s ≡ requested_of id' bytes c s

abbrev pub OnlyDgnRead : Type 0
OnlyDgnRead =
    (dgn : ℕ) (bytes bytes' : List ℕ) → dgn_at 0 bytes ≡ dgn_at 0 bytes' → meant_by dgn bytes ≡ meant_by dgn bytes'

-- What is sent is a sound frame, DM_RV with priority 6 from the address that is held.
abbrev pub DmRvIsSound : Type 0
DmRvIsSound =
    (address : ℕ) → address ≤ greatest_address
    → checked_of (dm_rv_id address) frame_bytes
    ≡ gives (record { priority = dm_rv_priority; dgn = dm_rv; source = address })

-- From 54h its identifier is that of example 1 of RULES 13.11.
abbrev pub DmRvExample : Type 0
DmRvExample = dm_rv_id 0x54 ≡ 0x19FECA54

-- Examples: a claim that holds 54h, the DM_RV of no fault, and that of a fault.

abbrev pub holding : Claim
holding = Claims.waited Claims.held_after (Claims.begun 1 (0x54 ∷ []))

-- 44h asks for DM_RV
abbrev pub asking : List ℕ
asking = 0xCA ∷ 0xFE ∷ 0x01 ∷ 0xFF ∷ 0xFF ∷ 0xFF ∷ 0xFF ∷ 0xFF ∷ []

abbrev pub to_asker : Acknowledgment
to_asker = record { code = 1; instance = 0xFF; requester = 0x44; dgn = dm_rv }

abbrev pub standby : List ℕ
standby = 0x01 ∷ 0x4A ∷ 0 ∷ 0 ∷ 0 ∷ 0 ∷ 0xFF ∷ 0xFF ∷ []

abbrev pub open_circuit : List ℕ
open_circuit = 0x11 ∷ 0x4A ∷ 0x01 ∷ 0x03 ∷ 0xC5 ∷ 0xFF ∷ 0xFF ∷ 0xFF ∷ []

-- A fault with a service point number of 81Eh, an open circuit, is added at 54h: the next step sends it.
abbrev pub StepExample : Type 0
StepExample =
    stepped_of holding (after_add (added_of 100 (begun standby)) open_circuit 100 (begun standby))
    ≡ gives (sends 0 (record { id = 0x19FECA54; bytes = open_circuit }))

-- ---- Host and sender together.

-- A node that hands its frames to `reply` never refuses a request for DM_RV on the bus.
abbrev pub ReplyNoNak : Type 0
ReplyNoNak =
    (id : ℕ) (bytes : List ℕ) (h : Hosts.Host) (c : Claim) (s : Sender) (r : Replied) (frame : Frame)
    → Reply id bytes h c s r → dgn_at 0 bytes ≡ dm_rv
    → HostPromises.told_requesting r.host.answer (listed r.host.positions)
    (record { id = r.host.id; bytes = r.host.bytes })
    ≡ gives (Hosting.nak frame)
    → ⊥

-- Where it is no request for DM_RV, the host answers as it does alone.
abbrev pub ReplyElseHost : Type 0
ReplyElseHost =
    (id : ℕ) (bytes : List ℕ) (h : Hosts.Host) (c : Claim) (s : Sender) (r : Replied) → Reply id bytes h c s r
    → requested_of id bytes c s ≡ gives Requests.nothing_to_do
    → HostPromises.Request id bytes h c r.host

-- The host alone would refuse it: a host of nothing at 54h is asked by 44h for DM_RV, and sends a NAK; a sender with no
-- active fault sends its DM_RV.

pub record HostAlone : Type 0 where
  pub refuses : Hosting.requested_of 0x18EA5444 asking (Hosted.empty One) holding
      ≡ gives (Hosting.nak (acknowledgment_frame 0x54 to_asker))
  pub sender_answers : requested_of 0x18EA5444 asking holding (begun standby)
      ≡ gives (Requests.sends (dm_rv_frame 0x54 (0x01 ∷ 0x4A ∷ 0xFF ∷ 0xFF ∷ 0xFF ∷ 0xFF ∷ 0xFF ∷ 0xFF ∷ [])))
