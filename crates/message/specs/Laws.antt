-- The laws of this crate (RULES 4 and 5), each a named statement. proofs/Laws.antt has a proof of each, under the same
-- name written small. The larger theorems, that a busy bus reads like a quiet one and that what is split is joined,
-- stand in the crate `demands`.
use Rattle.std.specs.Prelude.{Some, Ok, Err}
use Rattle.std.specs.Prelude.{◌≡◌, true, false, List, ◌≢◌, ◌⊎◌, ℕ, ◌+◌, ◌-◌, ◌*◌, ◌≤◌, ◌<◌, length, get_or, set}
use Rattle.words.specs.Words.{refused, gives}
use Rattle.words.specs.Lists.{first}
use Rattle.frame.specs.Identifier.{greatest_dgn}
use Rattle.frame.specs.Frame.{checked_of}
use Rattle.places.specs.Places.{place_count}
use Rattle.message.specs.LongMessage.{shortest, longest, packet_bytes, packets_of, needed, PacketFrom, packet}
use Rattle.message.specs.LongMessage.{meaning_of}
use Rattle.message.specs.Receiver.{room, free_place, is_open_by, keeps_rules, heard}
use Rattle.message.specs.Splitter.{announcement_bytes, packet_bytes_of}
use Rattle.message.specs.Promises.{Answer, Pausing, Announcing, Splitting, told_answer, told_pausing}
use Rattle.message.specs.Promises.{announcing_number, splitting_number, New, Hear, Pause}
use Rattle.message.specs.Promises.{Message, Announcement, Packet, AnswerRefusal, PausingRefusal}
use Rattle.message.specs.Promises.{NotHeardRefusal, BadStateRefusal, UnsplittableRefusal, AnnouncingRefusal}
use Rattle.message.specs.Promises.{NotSplitRefusal, SplittingRefusal}
use Rattle.message.specs.declared.Place.{Place}
use Rattle.message.specs.declared.Receiver.{Receiver}
use Rattle.message.specs.declared.NotHeard.{NotHeard}
use Rattle.message.specs.declared.NotHeard.TheVariants.{UnexpectedPacket}
use Rattle.message.specs.declared.Heard.{Heard}
use Rattle.message.specs.declared.BadState.{BadState}
use Rattle.message.specs.declared.Paused.{Paused}
use Rattle.message.specs.declared.Unsplittable.{Unsplittable}
use Rattle.message.specs.declared.Announced.{Announced}
use Rattle.message.specs.declared.NotSplit.{NotSplit}
use Rattle.message.specs.declared.Split.{Split}
use Rattle.message.specs.Promises.{number_of_not_heard}
use Rattle.words.specs.Words.{number_of_answer}
use Rattle.message.specs.Promises.{number_of_bad_state}
use Rattle.message.specs.Promises.{refusal_why}
use Rattle.message.specs.Promises.{number_of_not_split}

-- An answer read as number and values loses nothing (RULES 2.10).

abbrev pub ToldAnswerSame : Type 0
ToldAnswerSame = (r s : Answer) → told_answer r ≡ told_answer s → r ≡ s

abbrev pub ToldPausingSame : Type 0
ToldPausingSame = (r s : Pausing) → told_pausing r ≡ told_pausing s → r ≡ s

abbrev pub AnnouncingNumberSame : Type 0
AnnouncingNumberSame = (r s : Announcing) → announcing_number r ≡ announcing_number s → r ≡ s

abbrev pub SplittingNumberSame : Type 0
SplittingNumberSame = (r s : Splitting) → splitting_number r ≡ splitting_number s → r ≡ s

-- No second answer, state and storage keep a promise.

abbrev pub NewOnly : Type 0
NewOnly = (r s : Receiver) → New r → New s → r ≡ s

abbrev pub HearOnly : Type 0
HearOnly =
    (id : ℕ) (bytes : List ℕ) (places : List Place) (storage : List ℕ) (r s : Heard) (exit exit' : List ℕ)
    → Hear id bytes places storage r exit → Hear id bytes places storage s exit' → (r ≡ s) × (exit ≡ exit')

abbrev pub PauseOnly : Type 0
PauseOnly = (ms : ℕ) (places : List Place) (r s : Paused) → Pause ms places r → Pause ms places s → r ≡ s

abbrev pub MessageOnly : Type 0
MessageOnly =
    (storage : List ℕ) (answer : Answer) (r s : List ℕ) → Message storage answer r → Message storage answer s → r ≡ s

abbrev pub AnnouncementOnly : Type 0
AnnouncementOnly =
    (message : List ℕ) (dgn : ℕ) (r s : Announced) → Announcement message dgn r → Announcement message dgn s → r ≡ s

abbrev pub PacketOnly : Type 0
PacketOnly =
    (message : List ℕ) (dgn number : ℕ) (r s : Split)
    → Packet message dgn number r → Packet message dgn number s → r ≡ s

abbrev pub NotHeardRefusalOnly : Type 0
NotHeardRefusalOnly = (why : NotHeard) (r s : ℕ) → NotHeardRefusal why r → NotHeardRefusal why s → r ≡ s

abbrev pub AnswerRefusalOnly : Type 0
AnswerRefusalOnly = (answer : Answer) (r s : ℕ) → AnswerRefusal answer r → AnswerRefusal answer s → r ≡ s

abbrev pub AnswerRefusalTold : Type 0
AnswerRefusalTold = (answer : Answer) → AnswerRefusal answer (number_of_answer number_of_not_heard answer)

abbrev pub BadStateRefusalOnly : Type 0
BadStateRefusalOnly = (why : BadState) (r s : ℕ) → BadStateRefusal why r → BadStateRefusal why s → r ≡ s

abbrev pub PausingRefusalOnly : Type 0
PausingRefusalOnly = (answer : Pausing) (r s : ℕ) → PausingRefusal answer r → PausingRefusal answer s → r ≡ s

abbrev pub PausingRefusalTold : Type 0
PausingRefusalTold = (answer : Pausing) → PausingRefusal answer (number_of_answer number_of_bad_state answer)

abbrev pub UnsplittableRefusalOnly : Type 0
UnsplittableRefusalOnly = (why : Unsplittable) (r s : ℕ) → UnsplittableRefusal why r → UnsplittableRefusal why s → r ≡ s

abbrev pub UnsplittableRefusalTold : Type 0
UnsplittableRefusalTold = (why : Unsplittable) → UnsplittableRefusal why (refusal_why why)

abbrev pub AnnouncingRefusalOnly : Type 0
AnnouncingRefusalOnly =
    (answer : Announcing) (r s : ℕ) → AnnouncingRefusal answer r → AnnouncingRefusal answer s → r ≡ s

abbrev pub AnnouncingRefusalTold : Type 0
AnnouncingRefusalTold = (answer : Announcing) → AnnouncingRefusal answer (number_of_answer refusal_why answer)

abbrev pub NotSplitRefusalOnly : Type 0
NotSplitRefusalOnly = (why : NotSplit) (r s : ℕ) → NotSplitRefusal why r → NotSplitRefusal why s → r ≡ s

abbrev pub SplittingRefusalOnly : Type 0
SplittingRefusalOnly = (answer : Splitting) (r s : ℕ) → SplittingRefusal answer r → SplittingRefusal answer s → r ≡ s

abbrev pub SplittingRefusalTold : Type 0
SplittingRefusalTold = (answer : Splitting) → SplittingRefusal answer (number_of_answer number_of_not_split answer)

-- A refusal keeps state and storage; 10 closes the sender's place, and keeps every other place and all bytes.

abbrev pub RefusedKeeps : Type 0
RefusedKeeps =
    (id : ℕ) (bytes : List ℕ) (places : List Place) (storage : List ℕ) (r : Heard) (exit : List ℕ) (n : ℕ)
    → Hear id bytes places storage r exit → told_answer r.answer ≡ refused n → n ≢ 10
    → (r.receiver.places ≡ places) × (exit ≡ storage)

pub record ClosedAt (places : List Place) (storage : List ℕ) (after : List Place) (exit : List ℕ) (sender i : ℕ)
    : Type 0 where
  pub held : first (is_open_by sender) places ≡ Some i
  pub closed : after ≡ set places i free_place
  pub kept : exit ≡ storage

abbrev pub TenCloses : Type 0
TenCloses =
    (id : ℕ) (bytes : List ℕ) (places : List Place) (storage : List ℕ) (r : Heard) (exit : List ℕ)
    → Hear id bytes places storage r exit → r.answer ≡ Err UnexpectedPacket
    → (p : PacketFrom) × (i : ℕ) × (meaning_of id bytes ≡ gives (packet p))
    × (p.number ≢ (get_or places i free_place).expected)
    × ClosedAt places storage r.receiver.places exit p.sender i

abbrev pub PauseRefusedKeeps : Type 0
PauseRefusedKeeps =
    (ms : ℕ) (places : List Place) (r : Paused) (n : ℕ)
    → Pause ms places r → told_pausing r.answer ≡ refused n → r.receiver.places ≡ places

-- The lowest number wins: the storage, then the state, then what the frame alone earns, then a malformed announcement;
-- 8, 9 and 10 come after.
pub record LowestWins (id : ℕ) (bytes : List ℕ) (places : List Place) (storage : List ℕ) : Type 0 where
  pub storage_first : length storage < room → (heard id bytes places storage).answer ≡ refused 1
  pub state_next : room ≤ length storage → keeps_rules places ≡ false → (heard id bytes places storage).answer ≡ refused 2
  pub frame_next :
      (n : ℕ) → room ≤ length storage → keeps_rules places ≡ true → checked_of id (length bytes) ≡ refused n
      → (heard id bytes places storage).answer ≡ refused n
  pub announcement_next :
      (n : ℕ) → room ≤ length storage → keeps_rules places ≡ true → meaning_of id bytes ≡ refused n
      → (heard id bytes places storage).answer ≡ refused n

-- A stored packet writes its own bytes and no others: byte k of the storage is the expected packet's own where it is
-- among the bytes that place i, holding p, still needs from it.

pub record ItsOwn (p : Place) (i k : ℕ) : Type 0 where
  pub from : longest * i + packet_bytes * (p.expected - 1) ≤ k
  pub below : k < longest * i + packet_bytes * (p.expected - 1) + needed p.length p.expected

-- The expected packet's own bytes are what is written there: byte k is the packet's byte after its number and after
-- those that went before.
abbrev pub WritesThePacket : Type 0
WritesThePacket =
    (id : ℕ) (bytes : List ℕ) (places : List Place) (storage : List ℕ) (r : Heard) (exit : List ℕ) (sender i k : ℕ)
    → length places ≡ place_count → room ≤ length storage → keeps_rules places ≡ true
    → Hear id bytes places storage r exit
    → meaning_of id bytes ≡ gives (packet (record { sender = sender; number = (get_or places i free_place).expected }))
    → first (is_open_by sender) places ≡ Some i
    → ItsOwn (get_or places i free_place) i k
    → get_or exit k 0
    ≡ get_or bytes (1 + (k - (longest * i + packet_bytes * ((get_or places i free_place).expected - 1)))) 0

-- Any other byte stays as it was, whatever the frame.
abbrev pub WritesItsOwn : Type 0
WritesItsOwn =
    (id : ℕ) (bytes : List ℕ) (places : List Place) (storage : List ℕ) (r : Heard) (exit : List ℕ) (k : ℕ)
    → length places ≡ place_count → Hear id bytes places storage r exit
    → ((p : PacketFrom) (i : ℕ) → meaning_of id bytes ≡ gives (packet p) → first (is_open_by p.sender) places ≡ Some i
    → ItsOwn (get_or places i free_place) i k → ⊥)
    → get_or exit k 0 ≡ get_or storage k 0

-- Its own bytes lie within the message's length: none beyond it is ever written.
abbrev pub NotBeyond : Type 0
NotBeyond =
    (p : Place) (i k : ℕ) → 1 ≤ p.expected → p.expected ≤ packets_of p.length → ItsOwn p i k
    → k < longest * i + p.length

-- What the announcement of a message answers: 12 for a DGN above 1FFFFh, else 13 for a length outside 9 to 1,785, and
-- otherwise the bytes.
pub record AnnouncementAnswers (message : List ℕ) (dgn : ℕ) (r : Announced) : Type 0 where
  pub twelve : greatest_dgn < dgn → announcing_number r.answer ≡ 12
  pub thirteen :
      dgn ≤ greatest_dgn → (length message < shortest) ⊎ (longest < length message) → announcing_number r.answer ≡ 13
  pub given : dgn ≤ greatest_dgn → shortest ≤ length message → length message ≤ longest
      → (r.answer ≡ Ok tt) × (r.bytes ≡ announcement_bytes (length message) dgn)

abbrev pub SplitterAnnounces : Type 0
SplitterAnnounces =
    (message : List ℕ) (dgn : ℕ) (r : Announced) → Announcement message dgn r → AnnouncementAnswers message dgn r

-- What packet `number` of a message answers: 12 and 13 as above, else 15 for a number that the message has no packet
-- of, and otherwise the bytes.
pub record PacketAnswers (message : List ℕ) (dgn number : ℕ) (r : Split) : Type 0 where
  pub twelve : greatest_dgn < dgn → splitting_number r.answer ≡ 12
  pub thirteen :
      dgn ≤ greatest_dgn → (length message < shortest) ⊎ (longest < length message) → splitting_number r.answer ≡ 13
  pub fifteen : dgn ≤ greatest_dgn → shortest ≤ length message → length message ≤ longest
      → (number ≡ 0) ⊎ (packets_of (length message) < number) → splitting_number r.answer ≡ 15
  pub given : dgn ≤ greatest_dgn → shortest ≤ length message → length message ≤ longest
      → 1 ≤ number → number ≤ packets_of (length message)
      → (r.answer ≡ Ok tt) × (r.bytes ≡ packet_bytes_of message number)

abbrev pub SplitterSplits : Type 0
SplitterSplits =
    (message : List ℕ) (dgn number : ℕ) (r : Split) → Packet message dgn number r → PacketAnswers message dgn number r
