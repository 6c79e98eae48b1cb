-- What each public call of this crate promises (RULES 5 and 13.7): one proposition over answer, state and every lent
-- byte. The answers are read as numbers and values (RULES 2.10).
use Rattle.std.specs.Prelude.{◌≡◌, List, [], ℕ, length, replicate, Result, Ok, Err, if◌then◌else◌}
use Rattle.words.specs.Words.{◌<?◌, Told, refused, gives, number_in, told, number_of_answer}
use Rattle.frame.specs.Promises.{refusal_of}
use Rattle.frame.specs.Standard.{bytes_in}
use Rattle.places.specs.Places.{place_count}
use Rattle.places.specs.Telling.{message_at, Outcome, nothing_to_do, opened, stored, finished}
use Rattle.message.specs.LongMessage.{longest}
use Rattle.message.specs.Receiver.{room, free_place}
use Rattle.message.specs.Receiver.{After, heard, paused_places, paused_answer}
use Rattle.message.specs.Splitter.{announcement_of, packet_of}
use Rattle.message.specs.declared.Place.{Place}
use Rattle.message.specs.declared.Receiver.{Receiver}
use Rattle.message.specs.declared.Event.{Event}
use Rattle.message.specs.declared.Event.TheVariants.{NothingToDo, Opened, Stored, Finished}
use Rattle.message.specs.declared.NotHeard.{NotHeard}
use Rattle.message.specs.declared.NotHeard.TheVariants.{StorageTooShort, BadFrame, MalformedAnnouncement}
use Rattle.message.specs.declared.NotHeard.TheVariants.{NoPlaceFree, NoOpenMessage, UnexpectedPacket}
use Rattle.message.specs.declared.Heard.{Heard}
use Rattle.message.specs.declared.BadState.{BadState}
use Rattle.message.specs.declared.Paused.{Paused}
use Rattle.message.specs.declared.Unsplittable.{Unsplittable}
use Rattle.message.specs.declared.Unsplittable.TheVariants.{NoCode, LengthNotSplit}
use Rattle.message.specs.declared.Announced.{Announced}
use Rattle.message.specs.declared.NotSplit.{NotSplit}
use Rattle.message.specs.declared.Split.{Split}

-- Receiver::new

pub record New (r : Receiver) : Type 0 where
  pub places : r.places ≡ replicate place_count free_place

-- Receiver::hear

abbrev pub Answer : Type 0
Answer = Result Event NotHeard

abbrev pub number_of_not_heard : NotHeard → ℕ
number_of_not_heard StorageTooShort = 1
number_of_not_heard NotHeard.BrokenState = 2
number_of_not_heard (BadFrame why) = refusal_of why
number_of_not_heard MalformedAnnouncement = 7
number_of_not_heard NoPlaceFree = 8
number_of_not_heard NoOpenMessage = 9
number_of_not_heard UnexpectedPacket = 10

abbrev pub outcome_of : Event → Outcome
outcome_of NothingToDo = nothing_to_do
outcome_of Opened = opened
outcome_of Stored = stored
outcome_of (Finished place sender dgn size) =
    finished (record { place = place; sender = sender; dgn = dgn; size = size })

abbrev pub told_answer : Answer → Told Outcome
told_answer (Ok event) = gives (outcome_of event)
told_answer (Err why) = refused (number_of_not_heard why)

-- state, storage and answer are those
pub record LeftBy (after : After) (r : Heard) (storage : List ℕ) : Type 0 where
  pub places : r.receiver.places ≡ after.places
  pub storage_bytes : storage ≡ after.storage
  pub answer : told_answer r.answer ≡ after.answer

pub record NotHeardRefusal (why : NotHeard) (r : ℕ) : Type 0 where
  pub number : r ≡ number_of_not_heard why

pub record AnswerRefusal (answer : Answer) (r : ℕ) : Type 0 where
  pub number : r ≡ number_in (told_answer answer)

abbrev pub Hear : ℕ → List ℕ → List Place → List ℕ → Heard → List ℕ → Type 0
Hear id bytes places storage r exit = LeftBy (heard id bytes places storage) r exit

-- Receiver::pause

abbrev pub Pausing : Type 0
Pausing = Result ℕ BadState

abbrev pub number_of_bad_state : BadState → ℕ
number_of_bad_state BadState.BrokenState = 2

abbrev pub told_pausing : Pausing → Told ℕ
told_pausing r = told number_of_bad_state r

pub record Pause (ms : ℕ) (state : List Place) (r : Paused) : Type 0 where
  pub places : r.receiver.places ≡ paused_places ms state
  pub answer : told_pausing r.answer ≡ paused_answer ms state

pub record BadStateRefusal (why : BadState) (r : ℕ) : Type 0 where
  pub number : r ≡ number_of_bad_state why

pub record PausingRefusal (answer : Pausing) (r : ℕ) : Type 0 where
  pub number : r ≡ number_in (told_pausing answer)

-- message: the finished message is that part of the storage, and empty where no message was finished, or no such answer
-- is ever given

abbrev pub message_in : List ℕ → Told Outcome → List ℕ
message_in storage told = message_at longest storage told

pub record Message (storage : List ℕ) (answer : Answer) (r : List ℕ) : Type 0 where
  pub bytes : r ≡ (if length storage <? room then [] else message_in storage (told_answer answer))

-- announcement

abbrev pub refusal_why : Unsplittable → ℕ
refusal_why NoCode = 12
refusal_why LengthNotSplit = 13

pub record UnsplittableRefusal (why : Unsplittable) (r : ℕ) : Type 0 where
  pub number : r ≡ refusal_why why

abbrev pub Announcing : Type 0
Announcing = Result (Unit {0}) Unsplittable

-- 0 where the bytes are given
abbrev pub announcing_number : Announcing → ℕ
announcing_number answer = number_of_answer refusal_why answer

pub record AnnouncingRefusal (answer : Announcing) (r : ℕ) : Type 0 where
  pub number : r ≡ announcing_number answer

pub record AnnouncedBy (told : Told (List ℕ)) (r : Announced) : Type 0 where
  pub number : announcing_number r.answer ≡ number_in told
  pub bytes : r.bytes ≡ bytes_in told

abbrev pub Announcement : List ℕ → ℕ → Announced → Type 0
Announcement message dgn r = AnnouncedBy (announcement_of message dgn) r

-- packet

abbrev pub Splitting : Type 0
Splitting = Result (Unit {0}) NotSplit

abbrev pub number_of_not_split : NotSplit → ℕ
number_of_not_split (NotSplit.Unsplittable why) = refusal_why why
number_of_not_split NotSplit.NoSuchPacket = 15

abbrev pub splitting_number : Splitting → ℕ
splitting_number answer = number_of_answer number_of_not_split answer

pub record NotSplitRefusal (why : NotSplit) (r : ℕ) : Type 0 where
  pub number : r ≡ number_of_not_split why

pub record SplittingRefusal (answer : Splitting) (r : ℕ) : Type 0 where
  pub number : r ≡ splitting_number answer

pub record SplitBy (told : Told (List ℕ)) (r : Split) : Type 0 where
  pub number : splitting_number r.answer ≡ number_in told
  pub bytes : r.bytes ≡ bytes_in told

abbrev pub Packet : List ℕ → ℕ → ℕ → Split → Type 0
Packet message dgn number r = SplitBy (packet_of message dgn number) r
