-- The laws of this crate (RULES 10), each a named statement. proofs/Laws.antt, proofs/PositionLaws.antt,
-- proofs/ReplyLaws.antt and proofs/Unheld.antt have a proof of each, under the same name written small.
use Rattle.std.specs.Prelude.{◌≡◌, Bool, true, false, List, [], ◌∷◌, ◌⊎◌, ◌↔◌, ℕ, ◌+◌, ◌≤◌, ◌<◌, ◌%◌, ◌^◌, length, take, get_or, Ok, Err}
use Rattle.words.specs.Words.{refused, gives, number_in, number_of_answer, done}
use Rattle.words.specs.Lists.{any}
use Rattle.frame.specs.Identifier.{identifiers, greatest_dgn, dgn_of, source_of, parts_of, is_addressed, destination_of}
use Rattle.frame.specs.Identifier.{catalogue_form}
use Rattle.frame.specs.Frame.{checked_of}
use Rattle.frame.specs.Standard.{Frame, acknowledgment_dgn, address_claimed, everyone, greatest_address, request_dgn}
use Rattle.frame.specs.Promises.{destined}
use Rattle.frame.specs.declared.Parts.{Parts}
use Rattle.frame.specs.declared.Destination.TheVariants.{One}
use Rattle.claim.specs.Claim.{keeps_rules, holds_list, claim_source, held, claiming, silent, stand_of}
use Rattle.claim.specs.Promises.{is_sound}
use Rattle.claim.specs.Laws.{NoFrame, OurFrameOf}
use Rattle.claim.specs.declared.Claim.{Claim}
use Rattle.command.specs.Hosted.{most_entries, blank_entry, is_hosted_dgn, hosted, is_well_formed, empty}
use Rattle.command.specs.Positions.{positions_where, filled, listed}
use Rattle.command.specs.Handed.{handed_in, address_held}
use Rattle.command.specs.Commands as Commands
use Rattle.command.specs.Commands.{has_command, is_meant, picks, routed_of}
use Rattle.command.specs.Acknowledgment.{acknowledgment_priority, acknowledged_of}
use Rattle.command.specs.Requests as Requests
use Rattle.command.specs.Requests.{requested_dgn, Asked, asked_of, supports, supported, nak, unsupported, reply_of}
use Rattle.command.specs.Requests.{requested_of}
use Rattle.command.specs.Promises.{NotStartedRefusal, NotRoutedRefusal, NotAnsweredRefusal, NotAcknowledgedRefusal}
use Rattle.command.specs.Promises.{Starting, Routing, Requesting, Acknowledging}
use Rattle.command.specs.Promises.{number_of_not_started, number_of_not_routed, number_of_not_answered}
use Rattle.command.specs.Promises.{number_of_not_acknowledged}
use Rattle.command.specs.Promises.{Start, Route, Request, Acknowledge, StartingRefusal, RoutingRefusal}
use Rattle.command.specs.Promises.{RequestingRefusal, AcknowledgingRefusal, told_starting, told_routing}
use Rattle.command.specs.Promises.{told_requesting, told_acknowledging}
use Rattle.command.specs.declared.Edition.{Edition}
use Rattle.command.specs.declared.Entry.{Entry}
use Rattle.command.specs.declared.Host.{Host}
use Rattle.command.specs.declared.Started.{Started}
use Rattle.command.specs.declared.Routed.{Routed}
use Rattle.command.specs.declared.Response.TheVariants.{SendClaim, SendNak}
use Rattle.command.specs.declared.NotAnswered.TheVariants.{NoAddressHeld}
use Rattle.command.specs.declared.Requested.{Requested}
use Rattle.command.specs.declared.Acknowledgment.{Acknowledgment}
use Rattle.command.specs.declared.Acknowledged.{Acknowledged}
use Rattle.command.specs.declared.NotStarted.{NotStarted}
use Rattle.command.specs.declared.NotRouted.{NotRouted}
use Rattle.command.specs.declared.NotAnswered.{NotAnswered}
use Rattle.command.specs.declared.NotAcknowledged.{NotAcknowledged}

-- An answer read as number and values loses nothing (RULES 2.10).

abbrev pub ToldStartingSame : Type 0
ToldStartingSame = (r s : Starting) → told_starting r ≡ told_starting s → r ≡ s

abbrev pub ToldRoutingSame : Type 0
ToldRoutingSame = (r s : Routing) (ps qs : List ℕ) → told_routing r ps ≡ told_routing s qs → r ≡ s

abbrev pub ToldRequestingSame : Type 0
ToldRequestingSame =
    (r s : Requesting) (ps qs : List ℕ) (f g : Frame) → told_requesting r ps f ≡ told_requesting s qs g → r ≡ s

abbrev pub ToldAcknowledgingSame : Type 0
ToldAcknowledgingSame = (r s : Acknowledging) (f g : Frame) → told_acknowledging r f ≡ told_acknowledging s g → r ≡ s

-- No second answer, host, positions or frame keeps a promise.

abbrev pub StartOnly : Type 0
StartOnly =
    (entries : List Entry) (count : ℕ) (edition : Edition) (r s : Started) → Start entries count edition r
    → Start entries count edition s → r ≡ s

abbrev pub RouteOnly : Type 0
RouteOnly =
    (id : ℕ) (bytes : List ℕ) (h : Host) (c : Claim) (r s : Routed) → Route id bytes h c r → Route id bytes h c s
    → r ≡ s

abbrev pub RequestOnly : Type 0
RequestOnly =
    (id : ℕ) (bytes : List ℕ) (h : Host) (c : Claim) (r s : Requested) → Request id bytes h c r → Request id bytes h c s
    → r ≡ s

abbrev pub AcknowledgeOnly : Type 0
AcknowledgeOnly =
    (c : Claim) (a : Acknowledgment) (r s : Acknowledged) → Acknowledge c a r → Acknowledge c a s → r ≡ s

abbrev pub NotStartedRefusalOnly : Type 0
NotStartedRefusalOnly = (why : NotStarted) (r s : ℕ) → NotStartedRefusal why r → NotStartedRefusal why s → r ≡ s

abbrev pub StartingRefusalOnly : Type 0
StartingRefusalOnly = (answer : Starting) (r s : ℕ) → StartingRefusal answer r → StartingRefusal answer s → r ≡ s

abbrev pub NotRoutedRefusalOnly : Type 0
NotRoutedRefusalOnly = (why : NotRouted) (r s : ℕ) → NotRoutedRefusal why r → NotRoutedRefusal why s → r ≡ s

abbrev pub RoutingRefusalOnly : Type 0
RoutingRefusalOnly = (answer : Routing) (r s : ℕ) → RoutingRefusal answer r → RoutingRefusal answer s → r ≡ s

abbrev pub NotAnsweredRefusalOnly : Type 0
NotAnsweredRefusalOnly = (why : NotAnswered) (r s : ℕ) → NotAnsweredRefusal why r → NotAnsweredRefusal why s → r ≡ s

abbrev pub RequestingRefusalOnly : Type 0
RequestingRefusalOnly =
    (answer : Requesting) (r s : ℕ) → RequestingRefusal answer r → RequestingRefusal answer s → r ≡ s

abbrev pub NotAcknowledgedRefusalOnly : Type 0
NotAcknowledgedRefusalOnly = (why : NotAcknowledged) (r s : ℕ) → NotAcknowledgedRefusal why r → NotAcknowledgedRefusal why s → r ≡ s

abbrev pub AcknowledgingRefusalOnly : Type 0
AcknowledgingRefusalOnly =
    (answer : Acknowledging) (r s : ℕ) → AcknowledgingRefusal answer r → AcknowledgingRefusal answer s → r ≡ s

-- The number that an answer gives for its refusal is the one that is told of it, and 0 where there is none.

abbrev pub StartingRefusalTold : Type 0
StartingRefusalTold = (answer : Starting) → StartingRefusal answer (number_of_answer number_of_not_started answer)

abbrev pub RoutingRefusalTold : Type 0
RoutingRefusalTold = (answer : Routing) → RoutingRefusal answer (number_of_answer number_of_not_routed answer)

abbrev pub RequestingRefusalTold : Type 0
RequestingRefusalTold =
    (answer : Requesting) → RequestingRefusal answer (number_of_answer number_of_not_answered answer)

abbrev pub AcknowledgingRefusalTold : Type 0
AcknowledgingRefusalTold =
    (answer : Acknowledging) → AcknowledgingRefusal answer (number_of_answer number_of_not_acknowledged answer)

-- The number of a refusal is the answer's alone: it is the same whatever positions and frame stand beside.

abbrev pub RoutingRefusalAny : Type 0
RoutingRefusalAny =
    (answer : Routing) (r : ℕ) (ps : List ℕ) → RoutingRefusal answer r → r ≡ number_in (told_routing answer ps)

abbrev pub RequestingRefusalAny : Type 0
RequestingRefusalAny =
    (answer : Requesting) (r : ℕ) (ps : List ℕ) (frame : Frame) → RequestingRefusal answer r
    → r ≡ number_in (told_requesting answer ps frame)

abbrev pub AcknowledgingRefusalAny : Type 0
AcknowledgingRefusalAny =
    (answer : Acknowledging) (r : ℕ) (frame : Frame) → AcknowledgingRefusal answer r
    → r ≡ number_in (told_acknowledging answer frame)

-- A refusal gives nothing (RULES 2.4 and 2.6): no positions and no frame stand beside it. Host and claim are handed
-- in by value, and stay.

abbrev pub StartRefusedKeeps : Type 0
StartRefusedKeeps =
    (entries : List Entry) (count : ℕ) (edition : Edition) (r : Started) (n : ℕ) → Start entries count edition r
    → told_starting r.answer ≡ refused n → r.host ≡ empty edition

abbrev pub RouteRefusedKeeps : Type 0
RouteRefusedKeeps =
    (id : ℕ) (bytes : List ℕ) (h : Host) (c : Claim) (r : Routed) (n : ℕ) → Route id bytes h c r
    → told_routing r.answer (listed r.positions) ≡ refused n → r.positions ≡ filled []

abbrev pub RequestRefusedKeeps : Type 0
RequestRefusedKeeps =
    (id : ℕ) (bytes : List ℕ) (h : Host) (c : Claim) (r : Requested) (n : ℕ) → Request id bytes h c r
    → told_requesting r.answer (listed r.positions) (record { id = r.id; bytes = r.bytes }) ≡ refused n
    → (r.positions ≡ filled []) × NoFrame r.id r.bytes

abbrev pub AcknowledgeRefusedKeeps : Type 0
AcknowledgeRefusedKeeps =
    (c : Claim) (a : Acknowledgment) (r : Acknowledged) (n : ℕ) → Acknowledge c a r
    → told_acknowledging r.answer (record { id = r.id; bytes = r.bytes }) ≡ refused n → NoFrame r.id r.bytes

-- The lowest number wins: what is handed in is refused with 2, then 3 to 6, then 16, before anything is asked of the
-- frame.
pub record LowestWins (id : ℕ) (bytes : List ℕ) (h : Host) (c : Claim) : Type 0 where
  pub two : keeps_rules c ≡ false → handed_in id bytes h c ≡ refused 2
  pub three_to_six : (n : ℕ) → keeps_rules c ≡ true → checked_of id (length bytes) ≡ refused n
      → handed_in id bytes h c ≡ refused n
  pub sixteen_claim : (p : Parts) → keeps_rules c ≡ true → checked_of id (length bytes) ≡ gives p → holds_list c ≡ false
      → handed_in id bytes h c ≡ refused 16
  pub sixteen_host : (p : Parts) → keeps_rules c ≡ true → checked_of id (length bytes) ≡ gives p → is_well_formed h ≡ false
      → handed_in id bytes h c ≡ refused 16
  pub fine : (p : Parts) → is_sound c ≡ true → checked_of id (length bytes) ≡ gives p → is_well_formed h ≡ true
      → handed_in id bytes h c ≡ gives p
  pub passed_on : (n : ℕ) → handed_in id bytes h c ≡ refused n
      → (routed_of id bytes h c ≡ refused n) × (requested_of id bytes h c ≡ refused n)

-- An acknowledgment: 2, then 6, 16, 17, 18.
pub record AcknowledgeLowestWins (c : Claim) (a : Acknowledgment) : Type 0 where
  pub two : keeps_rules c ≡ false → acknowledged_of c a ≡ refused 2
  pub six : keeps_rules c ≡ true → greatest_address < a.requester → acknowledged_of c a ≡ refused 6
  pub sixteen : keeps_rules c ≡ true → a.requester ≤ greatest_address → holds_list c ≡ false
      → acknowledged_of c a ≡ refused 16
  pub seventeen : is_sound c ≡ true → a.requester ≤ greatest_address → greatest_dgn < a.dgn
      → acknowledged_of c a ≡ refused 17
  pub eighteen : is_sound c ≡ true → a.requester ≤ greatest_address → a.dgn ≤ greatest_dgn
      → address_held (stand_of c) ≡ refused 18
      → acknowledged_of c a ≡ refused 18

-- The priority of a frame that is heard makes no difference (RULES 3.3).
abbrev pub PriorityIgnored : Type 0
PriorityIgnored =
    (id id' : ℕ) (bytes : List ℕ) (h : Host) (c : Claim) → id < identifiers → id' < identifiers
    → id % 2 ^ 26 ≡ id' % 2 ^ 26
    → (routed_of id bytes h c ≡ routed_of id' bytes h c) × (requested_of id bytes h c ≡ requested_of id' bytes h c)

-- A started host has just the entries and the edition that were given, and no call refuses it; and what an array holds
-- past its count changes no answer.

abbrev pub StartHosts : Type 0
StartHosts =
    (entries : List Entry) (count : ℕ) (edition : Edition) (r : Started) → Start entries count edition r
    → told_starting r.answer ≡ gives done → length entries ≡ most_entries
    → (hosted r.host ≡ take count entries) × (r.host.edition ≡ edition) × (is_well_formed r.host ≡ true)

abbrev pub PastCountIgnored : Type 0
PastCountIgnored =
    (id : ℕ) (bytes : List ℕ) (h h' : Host) (c : Claim) → h.edition ≡ h'.edition → h.count ≡ h'.count
    → hosted h ≡ hosted h'
    → (routed_of id bytes h c ≡ routed_of id bytes h' c) × (requested_of id bytes h c ≡ requested_of id bytes h' c)

-- An addressed DGN of the list has 00h for its destination.
abbrev pub HostedDgnLow : Type 0
HostedDgnLow = (dgn : ℕ) → is_hosted_dgn dgn ≡ true → is_addressed dgn ≡ true → destination_of dgn ≡ 0

-- Positions are exactly those of the entries that pass, and they rise.

abbrev pub StandsIn : ℕ → List ℕ → Type 0
StandsIn k ps = (j : ℕ) × (j < length ps) × (get_or ps j 0 ≡ k)

abbrev pub entry_at : List Entry → ℕ → Entry
entry_at es k = get_or es k blank_entry

abbrev pub PositionsExact : Type 0
PositionsExact =
    (passes : Entry → Bool) (es : List Entry) (k : ℕ)
    → StandsIn k (positions_where passes es) ↔ ((k < length es) × (passes (entry_at es k) ≡ true))

abbrev pub PositionsRise : Type 0
PositionsRise =
    (passes : Entry → Bool) (es : List Entry) (i j : ℕ) → i < j → j < length (positions_where passes es)
    → get_or (positions_where passes es) i 0 < get_or (positions_where passes es) j 0

-- They are read as they were handed out.
abbrev pub ListedFilled : Type 0
ListedFilled = (ps : List ℕ) → listed (filled ps) ≡ ps

-- A command by instance: an instance picks the entry of its DGN with that instance, of which a well formed list has one
-- at most; zero picks the marked entries of its DGN.

abbrev pub InstancePicks : Type 0
InstancePicks =
    (dgn instance : ℕ) (es : List Entry) (k : ℕ) → (instance ≡ 0 → ⊥)
    → StandsIn k (positions_where (is_meant dgn instance) es)
    ↔ ((k < length es) × ((entry_at es k).command ≡ dgn) × ((entry_at es k).instance ≡ instance))

abbrev pub InstancePicksOne : Type 0
InstancePicksOne =
    (dgn instance : ℕ) (h : Host) → is_well_formed h ≡ true → (instance ≡ 0 → ⊥)
    → length (positions_where (is_meant dgn instance) (hosted h)) ≤ 1

abbrev pub ZeroPicksMarked : Type 0
ZeroPicksMarked =
    (dgn : ℕ) (es : List Entry) (k : ℕ)
    → StandsIn k (positions_where (is_meant dgn 0) es)
    ↔ ((k < length es) × ((entry_at es k).command ≡ dgn) × ((entry_at es k).zero_is_all ≡ true))

-- A slide's instance 0 picks nothing: where no entry of the DGN is marked, a command with byte 0 of zero hands out no
-- position.
abbrev pub SlideIgnoresZero : Type 0
SlideIgnoresZero =
    (id : ℕ) (bytes : List ℕ) (h : Host) (c : Claim) (r : Routed) → Route id bytes h c r → get_or bytes 0 0 ≡ 0
    → ((k : ℕ) → k < length (hosted h) → (entry_at (hosted h) k).command ≡ catalogue_form (dgn_of id)
    → (entry_at (hosted h) k).zero_is_all ≡ false)
    → r.positions ≡ filled []

-- RULES 10.5, 10.9 and 10.10: a frame that is no command of the list is nothing to do; while no address is held each
-- command of the list is 18; while one is held, a command that is addressed to somebody else is nothing to do.

abbrev pub NotHosted : Type 0
NotHosted =
    (id : ℕ) (bytes : List ℕ) (h : Host) (c : Claim) (p : Parts) → handed_in id bytes h c ≡ gives p
    → any (has_command (catalogue_form p.dgn)) (hosted h) ≡ false → routed_of id bytes h c ≡ gives Commands.nothing_to_do

abbrev pub UnheldCommand : Type 0
UnheldCommand =
    (id : ℕ) (bytes : List ℕ) (h : Host) (c : Claim) (p : Parts) → handed_in id bytes h c ≡ gives p
    → any (has_command (catalogue_form p.dgn)) (hosted h) ≡ true → address_held (stand_of c) ≡ refused 18
    → routed_of id bytes h c ≡ refused 18

abbrev pub CommandElsewhere : Type 0
CommandElsewhere =
    (id : ℕ) (bytes : List ℕ) (h : Host) (c : Claim) (p : Parts) (to address : ℕ) → handed_in id bytes h c ≡ gives p
    → stand_of c ≡ held address
    → destined p.dgn ≡ One to → (to ≡ address → ⊥) → routed_of id bytes h c ≡ gives Commands.nothing_to_do

-- A request: another DGN than EAxxh is nothing to do, 1EAxxh too; 17 comes before another destination; bytes 4 to 7
-- change nothing.

abbrev pub OtherDgn : Type 0
OtherDgn =
    (id : ℕ) (bytes : List ℕ) (h : Host) (c : Claim) (p : Parts) → handed_in id bytes h c ≡ gives p
    → (catalogue_form p.dgn ≡ request_dgn → ⊥)
    → requested_of id bytes h c ≡ gives Requests.nothing_to_do

abbrev pub RequestTooLarge : Type 0
RequestTooLarge =
    (id : ℕ) (bytes : List ℕ) (h : Host) (c : Claim) (p : Parts) → handed_in id bytes h c ≡ gives p
    → catalogue_form p.dgn ≡ request_dgn
    → greatest_dgn < requested_dgn bytes → requested_of id bytes h c ≡ refused 17

abbrev pub LaterBytesIgnored : Type 0
LaterBytesIgnored =
    (id : ℕ) (bytes bytes' : List ℕ) (h : Host) (c : Claim) → length bytes ≡ length bytes'
    → take 4 bytes ≡ take 4 bytes'
    → requested_of id bytes h c ≡ requested_of id bytes' h c

-- The address that we are claiming is ours for EE00h alone; when silent, none is (RULES 10.15).

abbrev pub ClaimingForClaimOnly : Type 0
ClaimingForClaimOnly =
    (asked : Asked) (address : ℕ) (es : List Entry) (c : Claim) → stand_of c ≡ claiming address
    → (asked.destination ≡ everyone → ⊥) → (asked.dgn ≡ address_claimed → ⊥)
    → reply_of asked es c ≡ gives Requests.nothing_to_do

abbrev pub SilentOnlyGlobal : Type 0
SilentOnlyGlobal =
    (asked : Asked) (es : List Entry) (c : Claim) → stand_of c ≡ silent → (asked.destination ≡ everyone → ⊥)
    → reply_of asked es c ≡ gives Requests.nothing_to_do

-- EE00h, and who holds no address (RULES 10.14 to 10.17): a request for EE00h that is ours, to everyone or to the
-- address that we hold or claim, is answered by the frame of our claim, which is the silent frame when we are silent;
-- any other that is ours is refused with 18, and while no address is held those to everyone are ours. Each exactly when.

-- a request for a DGN of 17 bits to this destination, with nothing handed in that is refused
pub record AsksFor (id : ℕ) (bytes : List ℕ) (h : Host) (c : Claim) (destination dgn : ℕ) : Type 0 where
  pub parts : Parts
  pub handed : handed_in id bytes h c ≡ gives parts
  pub request : catalogue_form parts.dgn ≡ request_dgn
  pub to : destination_of parts.dgn ≡ destination
  pub asked : requested_dgn bytes ≡ dgn
  pub fits : dgn ≤ greatest_dgn

abbrev pub HoldsOrClaims : Claim → ℕ → Type 0
HoldsOrClaims c address = (stand_of c ≡ held address) ⊎ (stand_of c ≡ claiming address)

abbrev pub ClaimExactly : Type 0
ClaimExactly =
    (id : ℕ) (bytes : List ℕ) (h : Host) (c : Claim) (r : Requested) → Request id bytes h c r
    → (r.answer ≡ Ok SendClaim)
    ↔ ((destination : ℕ) × AsksFor id bytes h c destination address_claimed
    × ((destination ≡ everyone) ⊎ HoldsOrClaims c destination))

abbrev pub ClaimGiven : Type 0
ClaimGiven =
    (id : ℕ) (bytes : List ℕ) (h : Host) (c : Claim) (r : Requested) → Request id bytes h c r
    → r.answer ≡ Ok SendClaim → OurFrameOf c r.id r.bytes

abbrev pub UnheldExactly : Type 0
UnheldExactly =
    (id : ℕ) (bytes : List ℕ) (h : Host) (c : Claim) (r : Requested) → Request id bytes h c r
    → (r.answer ≡ Err NoAddressHeld)
    ↔ ((dgn : ℕ) × AsksFor id bytes h c everyone dgn × (dgn ≡ address_claimed → ⊥)
    × ((address : ℕ) → stand_of c ≡ held address → ⊥))

-- Positions and NAKs are given from a held address only, and a NAK to one node only, which asked for what no entry
-- supports: it is directed to our address, and comes from one.

abbrev pub PickedHeld : Type 0
PickedHeld =
    (id : ℕ) (bytes : List ℕ) (h : Host) (c : Claim) (ps : List ℕ) → routed_of id bytes h c ≡ gives (picks ps)
    → (address : ℕ) × (stand_of c ≡ held address)

abbrev pub SupportedHeld : Type 0
SupportedHeld =
    (id : ℕ) (bytes : List ℕ) (h : Host) (c : Claim) (ps : List ℕ) → requested_of id bytes h c ≡ gives (supported ps)
    → (address : ℕ) × (stand_of c ≡ held address)
    × (ps ≡ positions_where (supports (asked_of h.edition (parts_of id) bytes)) (hosted h))

pub record NakSound (id : ℕ) (bytes : List ℕ) (h : Host) (c : Claim) (frame : Frame) : Type 0 where
  pub address : ℕ
  pub holds : stand_of c ≡ held address
  pub directed : destination_of (dgn_of id) ≡ address
  pub requester : source_of id ≤ greatest_address
  pub unsupported : any (supports (asked_of h.edition (parts_of id) bytes)) (hosted h) ≡ false
  pub parts : checked_of frame.id (length frame.bytes)
      ≡ gives (record { priority = acknowledgment_priority; dgn = acknowledgment_dgn + source_of id; source = address })

abbrev pub NakIsSound : Type 0
NakIsSound =
    (id : ℕ) (bytes : List ℕ) (h : Host) (c : Claim) (frame : Frame) → requested_of id bytes h c ≡ gives (nak frame)
    → NakSound id bytes h c frame

-- Every frame of an answer is from the address that we hold, or, for EE00h, from the one that we claim or from 254.

abbrev pub RequestSendsOurs : Type 0
RequestSendsOurs =
    (id : ℕ) (bytes : List ℕ) (h : Host) (c : Claim) (r : Requested) → Request id bytes h c r
    → (r.answer ≡ Ok SendNak → (address : ℕ) × (stand_of c ≡ held address) × (source_of r.id ≡ address))
    × (r.answer ≡ Ok SendClaim → (requested_dgn bytes ≡ address_claimed) × (source_of r.id ≡ claim_source c))
    × ((r.answer ≡ Ok SendNak → ⊥) → (r.answer ≡ Ok SendClaim → ⊥) → NoFrame r.id r.bytes)

abbrev pub AcknowledgeSendsOurs : Type 0
AcknowledgeSendsOurs =
    (c : Claim) (a : Acknowledgment) (r : Acknowledged) → Acknowledge c a r → r.answer ≡ Ok tt
    → (address : ℕ) × (stand_of c ≡ held address)
    × (checked_of r.id (length r.bytes)
    ≡ gives (record { priority = acknowledgment_priority; dgn = acknowledgment_dgn + a.requester; source = address }))

-- Example 11 of RULES 13.11: we hold 9Ch, and answer 44h with code 3 on SLIDE_COMMAND (1FFE7h), instance 2.
abbrev pub ExampleEleven : Type 0
ExampleEleven =
    (c : Claim) → is_sound c ≡ true → stand_of c ≡ held 0x9C
    → acknowledged_of c (record { code = 3; instance = 2; requester = 0x44; dgn = 0x1FFE7 })
    ≡ gives (record { id = 0x18E8449C; bytes = 0x03 ∷ 0x02 ∷ 0xFF ∷ 0xFF ∷ 0x44 ∷ 0xE7 ∷ 0xFF ∷ 0x01 ∷ [] })
