-- The laws of this crate (RULES 12), each a named statement. proofs/Laws.antt has a proof of each, under the same name
-- written small. The larger theorems, that a busy bus reads like a quiet one and that what is split is joined, stand in
-- the crate `demands`.
use Rattle.std.specs.Prelude.{Ok, Err, Some}
use Rattle.std.specs.Prelude.{◌≡◌, true, false, List, ◌≢◌, ◌⊎◌, ℕ, ◌+◌, ◌-◌, ◌*◌, ◌≤◌, ◌<◌, length, get_or, replicate}
use Rattle.words.specs.Words.{refused, gives, bits}
use Rattle.words.specs.Lists.{first}
use Rattle.frame.specs.Identifier.{greatest_dgn}
use Rattle.frame.specs.Frame.{checked_of, frame_bytes}
use Rattle.frame.specs.Standard.{announcement_dgn, packet_dgn}
use Rattle.frame.specs.declared.Parts.{Parts}
use Rattle.places.specs.Places.{place_count}
use Rattle.places.specs.Telling.{nothing_to_do}
use Rattle.frame.specs.Bytes.{byte_at}
use Rattle.fast.specs.FastPacket.{frame_number_of, sequence_of, first_byte_of, greatest_sequence, first_bytes}
use Rattle.fast.specs.FastPacket.{later_bytes, longest, offset_of, last_frame, needed_first, needed, pair_of}
use Rattle.fast.specs.FastPacket.{NewMessage, LaterFrame, begins, continues, meaning_of}
use Rattle.fast.specs.Names.{most_named, may_be_named, is_named}
use Rattle.fast.specs.Receiver.{room, free_place, is_open_by, names_of, keeps_rules, placing, place_for}
use Rattle.fast.specs.Splitter.{frame_bytes_of}
use Rattle.fast.specs.Promises.{starting_number, naming_none, told_answer, told_pausing, splitting_number, Start, Hear}
use Rattle.fast.specs.Promises.{Pause, Message, FrameOf, StartingRefusal, AnswerRefusal, PausingRefusal}
use Rattle.fast.specs.Promises.{SplittingRefusal, BadListRefusal, NotHeardRefusal, BadStateRefusal, NotSplitRefusal}
use Rattle.fast.specs.Promises.{Starting, Answer, Pausing, Splitting}
use Rattle.fast.specs.declared.Place.{Place}
use Rattle.fast.specs.declared.Receiver.{Receiver}
use Rattle.fast.specs.declared.BadList.{BadList}
use Rattle.fast.specs.declared.Started.{Started}
use Rattle.fast.specs.declared.NotHeard.{NotHeard}
use Rattle.fast.specs.declared.NotHeard.TheVariants.{UnexpectedFrame}
use Rattle.fast.specs.declared.Heard.{Heard}
use Rattle.fast.specs.declared.BadState.{BadState}
use Rattle.fast.specs.declared.Paused.{Paused}
use Rattle.fast.specs.declared.NotSplit.{NotSplit}
use Rattle.fast.specs.declared.Split.{Split}
use Rattle.fast.specs.Promises.{number_of_bad_list}
use Rattle.words.specs.Words.{number_of_answer}
use Rattle.fast.specs.Promises.{number_of_not_heard}
use Rattle.fast.specs.Promises.{number_of_bad_state}
use Rattle.fast.specs.Promises.{number_of_not_split}

-- An answer read as number and values loses nothing (RULES 2.10).

abbrev pub StartingNumberSame : Type 0
StartingNumberSame = (r s : Starting) → starting_number r ≡ starting_number s → r ≡ s

abbrev pub ToldAnswerSame : Type 0
ToldAnswerSame = (r s : Answer) → told_answer r ≡ told_answer s → r ≡ s

abbrev pub ToldPausingSame : Type 0
ToldPausingSame = (r s : Pausing) → told_pausing r ≡ told_pausing s → r ≡ s

abbrev pub SplittingNumberSame : Type 0
SplittingNumberSame = (r s : Splitting) → splitting_number r ≡ splitting_number s → r ≡ s

-- No second answer, state and storage keep a promise.

abbrev pub StartOnly : Type 0
StartOnly = (names : List ℕ) (r s : Started) → Start names r → Start names s → r ≡ s

abbrev pub HearOnly : Type 0
HearOnly =
    (id : ℕ) (bytes : List ℕ) (state : Receiver) (storage : List ℕ) (r s : Heard) (exit exit' : List ℕ)
    → Hear id bytes state storage r exit → Hear id bytes state storage s exit' → (r ≡ s) × (exit ≡ exit')

abbrev pub PauseOnly : Type 0
PauseOnly = (ms : ℕ) (state : Receiver) (r s : Paused) → Pause ms state r → Pause ms state s → r ≡ s

abbrev pub MessageOnly : Type 0
MessageOnly =
    (storage : List ℕ) (answer : Answer) (r s : List ℕ) → Message storage answer r → Message storage answer s → r ≡ s

abbrev pub FrameOfOnly : Type 0
FrameOfOnly =
    (message : List ℕ) (sequence number : ℕ) (r s : Split)
    → FrameOf message sequence number r → FrameOf message sequence number s → r ≡ s

abbrev pub BadListRefusalOnly : Type 0
BadListRefusalOnly = (why : BadList) (r s : ℕ) → BadListRefusal why r → BadListRefusal why s → r ≡ s

abbrev pub StartingRefusalOnly : Type 0
StartingRefusalOnly = (answer : Starting) (r s : ℕ) → StartingRefusal answer r → StartingRefusal answer s → r ≡ s

abbrev pub StartingRefusalTold : Type 0
StartingRefusalTold = (answer : Starting) → StartingRefusal answer (number_of_answer number_of_bad_list answer)

abbrev pub NotHeardRefusalOnly : Type 0
NotHeardRefusalOnly = (why : NotHeard) (r s : ℕ) → NotHeardRefusal why r → NotHeardRefusal why s → r ≡ s

abbrev pub AnswerRefusalOnly : Type 0
AnswerRefusalOnly = (answer : Answer) (r s : ℕ) → AnswerRefusal answer r → AnswerRefusal answer s → r ≡ s

abbrev pub AnswerRefusalTold : Type 0
AnswerRefusalTold = (answer : Answer) → AnswerRefusal answer (number_of_answer number_of_not_heard answer)

abbrev pub BadStateRefusalOnly : Type 0
BadStateRefusalOnly = (why : BadState) (r s : ℕ) → BadStateRefusal why r → BadStateRefusal why s → r ≡ s

abbrev pub PausingRefusalOnly : Type 0
PausingRefusalOnly = (answer : Pausing) (r s : ℕ) → PausingRefusal answer r → PausingRefusal answer s → r ≡ s

abbrev pub PausingRefusalTold : Type 0
PausingRefusalTold = (answer : Pausing) → PausingRefusal answer (number_of_answer number_of_bad_state answer)

abbrev pub NotSplitRefusalOnly : Type 0
NotSplitRefusalOnly = (why : NotSplit) (r s : ℕ) → NotSplitRefusal why r → NotSplitRefusal why s → r ≡ s

abbrev pub SplittingRefusalOnly : Type 0
SplittingRefusalOnly = (answer : Splitting) (r s : ℕ) → SplittingRefusal answer r → SplittingRefusal answer s → r ≡ s

abbrev pub SplittingRefusalTold : Type 0
SplittingRefusalTold = (answer : Splitting) → SplittingRefusal answer (number_of_answer number_of_not_split answer)

-- Two pairs of sender and DGN with one number are one pair.
abbrev pub PairSame : Type 0
PairSame =
    (sender dgn sender' dgn' : ℕ) → sender < 256 → sender' < 256 → pair_of sender dgn ≡ pair_of sender' dgn'
    → (sender ≡ sender') × (dgn ≡ dgn')

-- A first byte is read back to the sequence and the number that it was formed from.
abbrev pub FirstByteRead : Type 0
FirstByteRead =
    (sequence number : ℕ) → sequence ≤ greatest_sequence → number < 32
    → (sequence_of (first_byte_of sequence number) ≡ sequence) × (frame_number_of (first_byte_of sequence number) ≡ number)

-- The frames up to the last one have room for the message, and the frames before it have not.
abbrev pub FramesNeeded : Type 0
FramesNeeded =
    (size : ℕ) → (size ≤ first_bytes + later_bytes * last_frame size)
    × ((number : ℕ) → number < last_frame size → first_bytes + later_bytes * number < size)

-- Which DGNs may be named.
pub record MayBeNamedWhen (dgn : ℕ) : Type 0 where
  pub too_large : greatest_dgn < dgn → may_be_named dgn ≡ false
  pub announcement : dgn ≡ announcement_dgn → may_be_named dgn ≡ false
  pub packet : dgn ≡ packet_dgn → may_be_named dgn ≡ false
  pub request : bits 16 8 dgn ≡ 0xEA → may_be_named dgn ≡ false
  pub claim : bits 16 8 dgn ≡ 0xEE → may_be_named dgn ≡ false
  pub else : dgn ≤ greatest_dgn → dgn ≢ announcement_dgn → dgn ≢ packet_dgn → bits 16 8 dgn ≢ 0xEA → bits 16 8 dgn ≢ 0xEE
      → may_be_named dgn ≡ true

abbrev pub NamedWhen : Type 0
NamedWhen = (dgn : ℕ) → MayBeNamedWhen dgn

-- A start answers 16 for more than 16 DGNs, for one that may not be named, and for one that stands twice; and otherwise
-- names those of the list, in a state that keeps its rules.
pub record StartAnswers (names : List ℕ) (r : Started) : Type 0 where
  pub too_many : most_named < length names → starting_number r.answer ≡ 16
  pub not_allowed :
      (i : ℕ) → i < length names → may_be_named (get_or names i 0) ≡ false → starting_number r.answer ≡ 16
  pub twice :
      (i j : ℕ) → i < j → j < length names → get_or names i 0 ≡ get_or names j 0 → starting_number r.answer ≡ 16
  pub named : length names ≤ most_named → ((i : ℕ) → i < length names → may_be_named (get_or names i 0) ≡ true)
      → ((i j : ℕ) → i < j → j < length names → get_or names i 0 ≢ get_or names j 0)
      → (r.answer ≡ Ok tt) × (names_of r.receiver ≡ names) × (keeps_rules r.receiver ≡ true)

abbrev pub StartNames : Type 0
StartNames = (names : List ℕ) (r : Started) → Start names r → StartAnswers names r

-- A refused start names no DGN.
abbrev pub StartRefusedKeeps : Type 0
StartRefusedKeeps =
    (names : List ℕ) (r : Started) → Start names r → r.answer ≢ Ok tt → r.receiver ≡ naming_none

-- A refusal keeps state and storage; 10 closes the place of the frame's pair, and keeps every other place and all
-- bytes.

abbrev pub RefusedKeeps : Type 0
RefusedKeeps =
    (id : ℕ) (bytes : List ℕ) (state : Receiver) (storage : List ℕ) (r : Heard) (exit : List ℕ) (n : ℕ)
    → Hear id bytes state storage r exit → told_answer r.answer ≡ refused n → n ≢ 10
    → (r.receiver ≡ state) × (exit ≡ storage)

-- where a frame of this sequence and number is not the one that place i expects
abbrev pub OutOfTurn : Receiver → ℕ → ℕ → ℕ → Type 0
OutOfTurn state i sequence number =
    (sequence ≢ (get_or state.places i free_place).sequence) ⊎ (number ≢ (get_or state.places i free_place).expected)

pub record ClosedAt (state : Receiver) (storage : List ℕ) (after : Receiver) (exit : List ℕ) (pair i : ℕ) : Type 0 where
  pub held : first (is_open_by pair) state.places ≡ Some i
  pub closed : after ≡ placing state i free_place
  pub kept : exit ≡ storage

abbrev pub TenCloses : Type 0
TenCloses =
    (id : ℕ) (bytes : List ℕ) (state : Receiver) (storage : List ℕ) (r : Heard) (exit : List ℕ)
    → Hear id bytes state storage r exit → r.answer ≡ Err UnexpectedFrame
    → (f : LaterFrame) × (i : ℕ) × (meaning_of (names_of state) id bytes ≡ gives (continues f))
    × OutOfTurn state i f.sequence f.number
    × ClosedAt state storage r.receiver exit (pair_of f.sender f.dgn) i

abbrev pub PauseRefusedKeeps : Type 0
PauseRefusedKeeps =
    (ms : ℕ) (state : Receiver) (r : Paused) (n : ℕ)
    → Pause ms state r → told_pausing r.answer ≡ refused n → r.receiver ≡ state

-- The lowest number wins: the storage, then the state, then what the frame alone earns; a DGN that is not named is
-- nothing to do; then a malformed length. 8, 9 and 10 come after.
pub record Answered (id : ℕ) (bytes : List ℕ) (state : Receiver) (storage : List ℕ) (r : Heard) : Type 0 where
  pub storage_first : length storage < room → told_answer r.answer ≡ refused 1
  pub state_next : room ≤ length storage → keeps_rules state ≡ false → told_answer r.answer ≡ refused 2
  pub frame_next :
      (n : ℕ) → room ≤ length storage → keeps_rules state ≡ true → checked_of id (length bytes) ≡ refused n
      → told_answer r.answer ≡ refused n
  pub not_named :
      (p : Parts) → room ≤ length storage → keeps_rules state ≡ true → checked_of id (length bytes) ≡ gives p
      → is_named p.dgn (names_of state) ≡ false → told_answer r.answer ≡ gives nothing_to_do
  pub length_next :
      (p : Parts) → room ≤ length storage → keeps_rules state ≡ true → checked_of id (length bytes) ≡ gives p
      → is_named p.dgn (names_of state) ≡ true → frame_number_of (byte_at 0 bytes) ≡ 0
      → (byte_at 1 bytes ≡ 0) ⊎ (longest < byte_at 1 bytes) → told_answer r.answer ≡ refused 7

abbrev pub LowestWins : Type 0
LowestWins =
    (id : ℕ) (bytes : List ℕ) (state : Receiver) (storage : List ℕ) (r : Heard) (exit : List ℕ)
    → Hear id bytes state storage r exit → Answered id bytes state storage r

-- A frame writes its own bytes and no others: byte k of the storage is among `count` bytes from `from` on in place i's
-- stretch.
pub record ItsOwn (i from count k : ℕ) : Type 0 where
  pub above : longest * i + from ≤ k
  pub below : k < longest * i + from + count

-- Frame 0 writes its bytes after the length;
abbrev pub WritesFrameZero : Type 0
WritesFrameZero =
    (id : ℕ) (bytes : List ℕ) (state : Receiver) (storage : List ℕ) (r : Heard) (exit : List ℕ)
    (m : NewMessage) (i k : ℕ)
    → length state.places ≡ place_count → room ≤ length storage → keeps_rules state ≡ true
    → Hear id bytes state storage r exit
    → meaning_of (names_of state) id bytes ≡ gives (begins m)
    → place_for (pair_of m.sender m.dgn) state.places ≡ Some i
    → ItsOwn i 0 (needed_first m.size) k
    → get_or exit k 0 ≡ get_or bytes (2 + (k - (longest * i + 0))) 0

-- a later frame that is expected, its bytes after the first;
abbrev pub WritesTheFrame : Type 0
WritesTheFrame =
    (id : ℕ) (bytes : List ℕ) (state : Receiver) (storage : List ℕ) (r : Heard) (exit : List ℕ) (sender dgn i k : ℕ)
    (p : Place)
    → length state.places ≡ place_count → room ≤ length storage → keeps_rules state ≡ true
    → Hear id bytes state storage r exit
    → p ≡ get_or state.places i free_place
    → meaning_of (names_of state) id bytes
    ≡ gives (continues (record { sender = sender; dgn = dgn; sequence = p.sequence; number = p.expected }))
    → first (is_open_by (pair_of sender dgn)) state.places ≡ Some i
    → ItsOwn i (offset_of p.expected) (needed p.length p.expected) k
    → get_or exit k 0 ≡ get_or bytes (1 + (k - (longest * i + offset_of p.expected))) 0

-- and any other byte stays as it was, whatever the frame.
abbrev pub WritesItsOwn : Type 0
WritesItsOwn =
    (id : ℕ) (bytes : List ℕ) (state : Receiver) (storage : List ℕ) (r : Heard) (exit : List ℕ) (k : ℕ)
    → length state.places ≡ place_count → Hear id bytes state storage r exit
    → ((m : NewMessage) (i : ℕ) → meaning_of (names_of state) id bytes ≡ gives (begins m)
    → place_for (pair_of m.sender m.dgn) state.places ≡ Some i → ItsOwn i 0 (needed_first m.size) k → ⊥)
    → ((f : LaterFrame) (i : ℕ) → meaning_of (names_of state) id bytes ≡ gives (continues f)
    → first (is_open_by (pair_of f.sender f.dgn)) state.places ≡ Some i
    → ItsOwn i (offset_of f.number) (needed (get_or state.places i free_place).length f.number) k → ⊥)
    → get_or exit k 0 ≡ get_or storage k 0

-- Its own bytes lie within the message's length: none beyond it is ever written.
abbrev pub NotBeyond : Type 0
NotBeyond =
    (size number i k : ℕ) → 1 ≤ number → number ≤ last_frame size → ItsOwn i (offset_of number) (needed size number) k
    → k < longest * i + size

-- What frame `number` of a message answers: 12 for a sequence above 7, else 13 for a length outside 1 to 223, else 15
-- for a number past the last frame, and zeros beside each; otherwise the bytes.
pub record FrameAnswers (message : List ℕ) (sequence number : ℕ) (r : Split) : Type 0 where
  pub twelve : greatest_sequence < sequence → splitting_number r.answer ≡ 12
  pub thirteen :
      sequence ≤ greatest_sequence → (length message < 1) ⊎ (longest < length message) → splitting_number r.answer ≡ 13
  pub fifteen : sequence ≤ greatest_sequence → 1 ≤ length message → length message ≤ longest
      → last_frame (length message) < number → splitting_number r.answer ≡ 15
  pub zeros : r.answer ≢ Ok tt → r.bytes ≡ replicate frame_bytes 0
  pub given : sequence ≤ greatest_sequence → 1 ≤ length message → length message ≤ longest
      → number ≤ last_frame (length message)
      → (r.answer ≡ Ok tt) × (r.bytes ≡ frame_bytes_of message sequence number)

abbrev pub SplitterSplits : Type 0
SplitterSplits =
    (message : List ℕ) (sequence number : ℕ) (r : Split)
    → FrameOf message sequence number r → FrameAnswers message sequence number r
