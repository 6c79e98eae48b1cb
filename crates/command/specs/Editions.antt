-- The two editions of requests (RULES 10.27 to 10.34; 001, 3.2.4.3 and 3.2.4.4 as it proposes them), over runs of two
-- calls: a node is started in an edition, and the host that the start gave hears a request. proofs/Editions.antt has a
-- proof of each law, under the same name written small.
use Rattle.std.specs.Prelude.{◌≡◌, Bool, true, not, List, [], ◌∷◌, ◌++◌, ◌⊎◌, ◌↔◌, ℕ, ◌+◌, ◌≤◌, ◌<◌, length, take, get_or, replicate, Ok, if◌then◌else◌}
use Rattle.words.specs.Words.{◌<?◌, ◌=?◌, Told, refused, gives, given◌then◌}
use Rattle.words.specs.Lists.{any}
use Rattle.frame.specs.Identifier.{greatest_dgn, dgn_of, source_of, parts_of, destination_of, catalogue_form}
use Rattle.frame.specs.Frame.{checked_of}
use Rattle.frame.specs.Standard.{address_claimed, dgn_bytes, everyone, no_address, request_dgn}
use Rattle.frame.specs.declared.Parts.{Parts}
use Rattle.claim.specs.Claim.{held, stand_of, claim_frame}
use Rattle.claim.specs.Promises.{is_sound}
use Rattle.claim.specs.Laws.{NoFrame}
use Rattle.claim.specs.declared.Claim.{Claim}
use Rattle.command.specs.Hosted.{most_entries, blank_entry, hosted}
use Rattle.command.specs.Positions.{positions_where, filled, listed}
use Rattle.command.specs.Handed.{handed_in, address_held}
use Rattle.command.specs.Acknowledgment.{acknowledgment_frame}
use Rattle.command.specs.Requests.{requested_dgn, all_instances, instance_asked, asked_of, is_ours, requested_of}
use Rattle.command.specs.Requests.{Reply, nothing_to_do, claims, supported, nak, unsupported}
use Rattle.command.specs.Promises.{Start, Route, Request, RequestedBy}
use Rattle.command.specs.Laws.{StandsIn, entry_at}
use Rattle.command.specs.declared.Acknowledgment.{Acknowledgment}
use Rattle.command.specs.declared.Edition.{Edition}
use Rattle.command.specs.declared.Edition.TheVariants.{One, Two}
use Rattle.command.specs.declared.Entry.{Entry}
use Rattle.command.specs.declared.Host.{Host}
use Rattle.command.specs.declared.Started.{Started}
use Rattle.command.specs.declared.Routed.{Routed}
use Rattle.command.specs.declared.Requested.{Requested}
use Rattle.command.specs.declared.Response.TheVariants.{Supported, SendNak, Unsupported}

-- A run: what the two calls are handed, and what they answer.
pub record Run : Type 0 where
  pub entries : List Entry
  pub count : ℕ
  pub edition : Edition
  pub started : Started
  pub claim : Claim
  pub id : ℕ
  pub bytes : List ℕ
  pub answered : Requested

-- Both calls keep their promises, and the start is not refused.
pub record Ran (run : Run) : Type 0 where
  pub array : length run.entries ≡ most_entries
  pub start : Start run.entries run.count run.edition run.started
  pub hosts : run.started.answer ≡ Ok tt
  pub request : Request run.id run.bytes run.started.host run.claim run.answered

-- What is asked: by whom, of whom, for which DGN; and byte 3.

abbrev pub requester : Run → ℕ
requester run = source_of run.id

abbrev pub destination : Run → ℕ
destination run = destination_of (dgn_of run.id)

abbrev pub dgn_asked : Run → ℕ
dgn_asked run = requested_dgn run.bytes

abbrev pub byte_three : Run → ℕ
byte_three run = get_or run.bytes 3 0

-- The node holds an address and hears a request for a status: a sound frame EAxxh to that address or to everyone, for a
-- DGN of 17 bits that is not EE00h.
pub record Hears (run : Run) (address : ℕ) : Type 0 where
  pub claim : is_sound run.claim ≡ true
  pub holds : stand_of run.claim ≡ held address
  pub frame : checked_of run.id (length run.bytes) ≡ gives (parts_of run.id)
  pub request : catalogue_form (dgn_of run.id) ≡ request_dgn
  pub dgn : dgn_asked run ≤ greatest_dgn
  pub status : dgn_asked run ≡ address_claimed → ⊥
  pub ours : (destination run ≡ address) ⊎ (destination run ≡ everyone)

-- The hosted entry at position k supports the DGN that is asked for; it does so as this instance; and it supports the
-- request, as its edition reads it.

abbrev pub SupportsDgn : Run → ℕ → Type 0
SupportsDgn run k = (k < run.count) × ((entry_at run.entries k).status ≡ dgn_asked run)

abbrev pub SupportsAs : ℕ → Run → ℕ → Type 0
SupportsAs instance run k = SupportsDgn run k × ((entry_at run.entries k).instance ≡ instance)

abbrev pub Supports : Run → ℕ → Type 0
Supports run k =
    SupportsDgn run k
    × ((instance_asked run.edition run.bytes ≡ all_instances)
    ⊎ ((entry_at run.entries k).instance ≡ instance_asked run.edition run.bytes))

-- The answer is positions, lowest first: exactly these entries are to send their status. There is no NAK.
pub record Reports (run : Run) (who : ℕ → Type 0) : Type 0 where
  pub answer : run.answered.answer ≡ Ok Supported
  pub exactly : (k : ℕ) → StandsIn k (listed run.answered.positions) ↔ who k
  pub rise : (i j : ℕ) → i < j → j < length (listed run.answered.positions)
      → get_or (listed run.answered.positions) i 0 < get_or (listed run.answered.positions) j 0
  pub no_nak : NoFrame run.answered.id run.answered.bytes

-- The answer is a NAK from this address to the requester alone, with this instance in byte 1, and no positions.
pub record SendsNak (run : Run) (address instance : ℕ) : Type 0 where
  pub answer : run.answered.answer ≡ Ok SendNak
  pub identifier : checked_of run.answered.id (length run.answered.bytes)
      ≡ gives (record { priority = 6; dgn = 0xE800 + requester run; source = address })
  pub data_bytes : run.answered.bytes ≡ 1 ∷ instance ∷ 0xFF ∷ 0xFF ∷ requester run ∷ dgn_bytes (dgn_asked run)
  pub no_positions : run.answered.positions ≡ filled []

-- What the editions share, with `instance_asked` for what they do not: positions, NAKs, and answers with nothing to
-- send, each exactly when.

abbrev pub ReportsExactly : Type 0
ReportsExactly =
    (run : Run) → Ran run
    → (run.answered.answer ≡ Ok Supported) ↔ ((address : ℕ) × Hears run address × ((k : ℕ) × Supports run k))

abbrev pub PositionsExactly : Type 0
PositionsExactly = (run : Run) → Ran run → run.answered.answer ≡ Ok Supported → Reports run (Supports run)

abbrev pub NakExactly : Type 0
NakExactly =
    (run : Run) → Ran run
    → (run.answered.answer ≡ Ok SendNak)
    ↔ ((address : ℕ) × Hears run address × ((k : ℕ) → Supports run k → ⊥) × (destination run ≡ address)
    × (requester run ≡ no_address → ⊥))

abbrev pub NakNames : Type 0
NakNames =
    (run : Run) (address : ℕ) → Ran run → Hears run address → run.answered.answer ≡ Ok SendNak
    → SendsNak run address (instance_asked run.edition run.bytes)

abbrev pub QuietExactly : Type 0
QuietExactly =
    (run : Run) → Ran run
    → (run.answered.answer ≡ Ok Unsupported)
    ↔ ((address : ℕ) × Hears run address × ((k : ℕ) → Supports run k → ⊥)
    × ((destination run ≡ everyone) ⊎ (requester run ≡ no_address)))

-- 001, 3.2.4.4, first circumstance. A request to everyone gets no NAK; nor does a requester that has no address.

abbrev pub GlobalNoNak : Type 0
GlobalNoNak = (run : Run) → Ran run → destination run ≡ everyone → run.answered.answer ≡ Ok SendNak → ⊥

abbrev pub NobodyNoNak : Type 0
NobodyNoNak = (run : Run) → Ran run → requester run ≡ no_address → run.answered.answer ≡ Ok SendNak → ⊥

-- Edition two, a request for all instances: if an entry supports the DGN, whatever its instance is, each that does is
-- to answer, and there is no NAK; a request to us alone gets the NAK if none of them does, and only then.

abbrev pub AllReport : Type 0
AllReport =
    (run : Run) (address k : ℕ) → Ran run → run.edition ≡ Two → Hears run address → byte_three run ≡ 0xFF
    → SupportsDgn run k → Reports run (SupportsDgn run)

abbrev pub AllNak : Type 0
AllNak =
    (run : Run) (address : ℕ) → Ran run → run.edition ≡ Two → Hears run address → byte_three run ≡ 0xFF
    → destination run ≡ address → (requester run ≡ no_address → ⊥) → ((k : ℕ) → SupportsDgn run k → ⊥)
    → SendsNak run address 0xFF

abbrev pub AllNakOnly : Type 0
AllNakOnly =
    (run : Run) → Ran run → run.edition ≡ Two → byte_three run ≡ 0xFF → run.answered.answer ≡ Ok SendNak
    → (k : ℕ) → SupportsDgn run k → ⊥

-- Edition two, a request for one instance, the third circumstance: its entries answer; if it has none that supports the
-- DGN, a request to us alone gets a NAK that names it, whatever other instances support.

abbrev pub OneReports : Type 0
OneReports =
    (run : Run) (address instance k : ℕ) → Ran run → run.edition ≡ Two → Hears run address → byte_three run ≡ instance
    → (instance ≡ 0xFF → ⊥) → SupportsAs instance run k → Reports run (SupportsAs instance run)

abbrev pub OneNak : Type 0
OneNak =
    (run : Run) (address instance : ℕ) → Ran run → run.edition ≡ Two → Hears run address → byte_three run ≡ instance
    → (instance ≡ 0xFF → ⊥) → destination run ≡ address → (requester run ≡ no_address → ⊥)
    → ((k : ℕ) → SupportsAs instance run k → ⊥)
    → SendsNak run address instance

abbrev pub OneNakOnly : Type 0
OneNakOnly =
    (run : Run) (instance : ℕ) → Ran run → run.edition ≡ Two → byte_three run ≡ instance
    → run.answered.answer ≡ Ok SendNak
    → (k : ℕ) → SupportsAs instance run k → ⊥

-- Edition two: nobody has the instances 0 and 251 to 254.
abbrev pub NobodysInstance : Type 0
NobodysInstance =
    (run : Run) (address instance : ℕ) → Ran run → run.edition ≡ Two → Hears run address → byte_three run ≡ instance
    → (instance ≡ 0) ⊎ ((250 < instance) × (instance < 255)) → destination run ≡ address
    → (requester run ≡ no_address → ⊥)
    → SendsNak run address instance

-- Between the editions. Hosts of the same entries answer a request for all instances alike, whatever their editions
-- are, and a request for EE00h whatever byte 3 is too; commands know no edition.

abbrev pub EditionsAgree : Type 0
EditionsAgree =
    (id : ℕ) (bytes : List ℕ) (h h' : Host) (c : Claim) (r r' : Requested) → Request id bytes h c r
    → Request id bytes h' c r' → h.count ≡ h'.count → hosted h ≡ hosted h' → get_or bytes 3 0 ≡ 0xFF → r ≡ r'

abbrev pub ClaimForAnyInstance : Type 0
ClaimForAnyInstance =
    (id : ℕ) (bytes bytes' : List ℕ) (h h' : Host) (c : Claim) (r r' : Requested) → Request id bytes h c r
    → Request id bytes' h' c r' → h.count ≡ h'.count → hosted h ≡ hosted h' → length bytes ≡ length bytes'
    → take 3 bytes ≡ take 3 bytes' → requested_dgn bytes ≡ address_claimed → r ≡ r'

abbrev pub CommandsHaveNoEdition : Type 0
CommandsHaveNoEdition =
    (id : ℕ) (bytes : List ℕ) (h h' : Host) (c : Claim) (r r' : Routed) → Route id bytes h c r → Route id bytes h' c r'
    → h.count ≡ h'.count → hosted h ≡ hosted h' → r ≡ r'

-- Edition one is what the rules were before there were two: byte 3 changes nothing, and a call keeps the former
-- promise, which was over the definition that follows.

abbrev pub OneIgnoresByteThree : Type 0
OneIgnoresByteThree =
    (id : ℕ) (bytes bytes' : List ℕ) (h : Host) (c : Claim) (r r' : Requested) → Request id bytes h c r
    → Request id bytes' h c r' → h.edition ≡ One → length bytes ≡ length bytes' → take 3 bytes ≡ take 3 bytes' → r ≡ r'

abbrev pub has_status : ℕ → Entry → Bool
has_status dgn e = e.status =? dgn

unfoldable pub former_status : Parts → List ℕ → List Entry → ℕ → Reply
former_status parts bytes es address =
    let asks_for : Entry → Bool = has_status (requested_dgn bytes) in
    let reply : Acknowledgment =
    record { code = 1; instance = 0xFF; requester = parts.source; dgn = requested_dgn bytes } in
    if any asks_for es then supported (positions_where asks_for es) else
    if destination_of parts.dgn =? everyone then unsupported else
    if parts.source =? no_address then unsupported else
    nak (acknowledgment_frame address reply)

unfoldable pub formerly : ℕ → List ℕ → Host → Claim → Told Reply
formerly id bytes h c =
    given handed_in id bytes h c then λ parts.
    if not (catalogue_form parts.dgn =? request_dgn) then gives nothing_to_do else
    if greatest_dgn <? requested_dgn bytes then refused 17 else
    if not (is_ours (asked_of One parts bytes) (stand_of c)) then gives nothing_to_do else
    if requested_dgn bytes =? address_claimed then gives (claims (claim_frame c)) else
    given address_held (stand_of c) then λ address.
    gives (former_status parts bytes (hosted h) address)

abbrev pub OneAsBefore : Type 0
OneAsBefore =
    (id : ℕ) (bytes : List ℕ) (h : Host) (c : Claim) (r : Requested) → Request id bytes h c r → h.edition ≡ One
    → RequestedBy (formerly id bytes h c) r

-- 001's own example. A node holds 9Ch and manages three air conditioners, of which the second is no heat pump. It is
-- asked by 44h for HEAT_PUMP_STATUS (1FF9Bh): of instance 2, of instance 1, and of all.

abbrev pub air_conditioner : ℕ → Entry
air_conditioner n = record { command = 0x1FFE0; status = 0x1FFE1; instance = n; zero_is_all = true }

abbrev pub heat_pump : ℕ → Entry
heat_pump n = record { command = 0x1FF9A; status = 0x1FF9B; instance = n; zero_is_all = true }

abbrev pub coach : Edition → Host
coach edition =
    record {
      entries = (air_conditioner 1 ∷ air_conditioner 2 ∷ air_conditioner 3 ∷ heat_pump 1 ∷ heat_pump 3 ∷ [])
          ++ replicate 11 blank_entry;
      count = 5;
      edition = edition;
    }

abbrev pub asked_of_heat_pump : ℕ → List ℕ
asked_of_heat_pump instance = 0x9B ∷ 0xFF ∷ 0x01 ∷ instance ∷ 0xFF ∷ 0xFF ∷ 0xFF ∷ 0xFF ∷ []

pub record HeatPumps (c : Claim) : Type 0 where
  pub second : requested_of 0x18EA9C44 (asked_of_heat_pump 2) (coach Two) c
      ≡ gives (nak (record { id = 0x18E8449C; bytes = 0x01 ∷ 0x02 ∷ 0xFF ∷ 0xFF ∷ 0x44 ∷ 0x9B ∷ 0xFF ∷ 0x01 ∷ [] }))
  pub first : requested_of 0x18EA9C44 (asked_of_heat_pump 1) (coach Two) c ≡ gives (supported (3 ∷ []))
  pub all : requested_of 0x18EA9C44 (asked_of_heat_pump 0xFF) (coach Two) c ≡ gives (supported (3 ∷ 4 ∷ []))
  pub edition_one : requested_of 0x18EA9C44 (asked_of_heat_pump 2) (coach One) c ≡ gives (supported (3 ∷ 4 ∷ []))

abbrev pub HeatPumpExample : Type 0
HeatPumpExample = (c : Claim) → is_sound c ≡ true → stand_of c ≡ held 0x9C → HeatPumps c
