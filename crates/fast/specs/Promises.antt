-- What each public call of this crate promises (RULES 12 and 13.7): one proposition over answer, state and every lent
-- byte. The answers are read as numbers and values (RULES 2.10).
use Rattle.std.specs.Prelude.{◌≡◌, List, [], ℕ, length, replicate, Result, Ok, Err, if◌then◌else◌}
use Rattle.words.specs.Words.{◌<?◌, Told, refused, gives, number_in, told, number_of_answer}
use Rattle.words.specs.Lists.{filled_to}
use Rattle.frame.specs.Promises.{refusal_of}
use Rattle.frame.specs.Standard.{bytes_in}
use Rattle.places.specs.Places.{place_count}
use Rattle.places.specs.Telling.{message_at, Outcome, nothing_to_do, opened, stored, finished}
use Rattle.fast.specs.FastPacket.{longest}
use Rattle.fast.specs.Names.{most_named, is_well_formed}
use Rattle.fast.specs.Receiver.{room, free_place, After, heard}
use Rattle.fast.specs.Receiver.{paused_state, paused_answer}
use Rattle.fast.specs.Splitter.{frame_of}
use Rattle.fast.specs.declared.Receiver.{Receiver}
use Rattle.fast.specs.declared.BadList.{BadList}
use Rattle.fast.specs.declared.BadList.TheVariants.{ListMalformed}
use Rattle.fast.specs.declared.Started.{Started}
use Rattle.fast.specs.declared.Event.{Event}
use Rattle.fast.specs.declared.Event.TheVariants.{NothingToDo, Opened, Stored, Finished}
use Rattle.fast.specs.declared.NotHeard.{NotHeard}
use Rattle.fast.specs.declared.NotHeard.TheVariants.{StorageTooShort, BadFrame, MalformedLength, NoPlaceFree}
use Rattle.fast.specs.declared.NotHeard.TheVariants.{NoOpenMessage, UnexpectedFrame}
use Rattle.fast.specs.declared.Heard.{Heard}
use Rattle.fast.specs.declared.BadState.{BadState}
use Rattle.fast.specs.declared.Paused.{Paused}
use Rattle.fast.specs.declared.NotSplit.{NotSplit}
use Rattle.fast.specs.declared.NotSplit.TheVariants.{NoCode, LengthNotSplit, NoSuchFrame}
use Rattle.fast.specs.declared.Split.{Split}

-- Receiver::start

abbrev pub Starting : Type 0
Starting = Result (Unit {0}) BadList

abbrev pub number_of_bad_list : BadList → ℕ
number_of_bad_list ListMalformed = 16

-- 0 where the DGNs are named
abbrev pub starting_number : Starting → ℕ
starting_number answer = number_of_answer number_of_bad_list answer

pub record BadListRefusal (why : BadList) (r : ℕ) : Type 0 where
  pub number : r ≡ number_of_bad_list why

pub record StartingRefusal (answer : Starting) (r : ℕ) : Type 0 where
  pub number : r ≡ starting_number answer

-- a receiver with eight free places, for these DGNs: it keeps the list filled up with zeros
abbrev pub naming : List ℕ → Receiver
naming names =
    record { dgns = filled_to most_named 0 names; named = length names; places = replicate place_count free_place }

-- one that names none, beside a refused start
abbrev pub naming_none : Receiver
naming_none = record { dgns = replicate most_named 0; named = 0; places = replicate place_count free_place }

pub record Start (names : List ℕ) (r : Started) : Type 0 where
  pub answer : starting_number r.answer ≡ (if is_well_formed names then 0 else 16)
  pub state : r.receiver ≡ (if is_well_formed names then naming names else naming_none)

-- Receiver::hear

abbrev pub Answer : Type 0
Answer = Result Event NotHeard

abbrev pub number_of_not_heard : NotHeard → ℕ
number_of_not_heard StorageTooShort = 1
number_of_not_heard NotHeard.BrokenState = 2
number_of_not_heard (BadFrame why) = refusal_of why
number_of_not_heard MalformedLength = 7
number_of_not_heard NoPlaceFree = 8
number_of_not_heard NoOpenMessage = 9
number_of_not_heard UnexpectedFrame = 10

abbrev pub outcome_of : Event → Outcome
outcome_of NothingToDo = nothing_to_do
outcome_of Opened = opened
outcome_of Stored = stored
outcome_of (Finished place sender dgn size) =
    finished (record { place = place; sender = sender; dgn = dgn; size = size })

abbrev pub told_answer : Answer → Told Outcome
told_answer (Ok event) = gives (outcome_of event)
told_answer (Err why) = refused (number_of_not_heard why)

-- state, storage and answer are those
pub record LeftBy (after : After) (r : Heard) (storage : List ℕ) : Type 0 where
  pub state : r.receiver ≡ after.receiver
  pub storage_bytes : storage ≡ after.storage
  pub answer : told_answer r.answer ≡ after.answer

pub record NotHeardRefusal (why : NotHeard) (r : ℕ) : Type 0 where
  pub number : r ≡ number_of_not_heard why

pub record AnswerRefusal (answer : Answer) (r : ℕ) : Type 0 where
  pub number : r ≡ number_in (told_answer answer)

abbrev pub Hear : ℕ → List ℕ → Receiver → List ℕ → Heard → List ℕ → Type 0
Hear id bytes state storage r exit = LeftBy (heard id bytes state storage) r exit

-- Receiver::pause

abbrev pub Pausing : Type 0
Pausing = Result ℕ BadState

abbrev pub number_of_bad_state : BadState → ℕ
number_of_bad_state BadState.BrokenState = 2

abbrev pub told_pausing : Pausing → Told ℕ
told_pausing r = told number_of_bad_state r

pub record Pause (ms : ℕ) (state : Receiver) (r : Paused) : Type 0 where
  pub after : r.receiver ≡ paused_state ms state
  pub answer : told_pausing r.answer ≡ paused_answer ms state

pub record BadStateRefusal (why : BadState) (r : ℕ) : Type 0 where
  pub number : r ≡ number_of_bad_state why

pub record PausingRefusal (answer : Pausing) (r : ℕ) : Type 0 where
  pub number : r ≡ number_in (told_pausing answer)

-- message: the finished message is that part of the storage, and empty where no message was finished, or no such answer
-- is ever given

abbrev pub message_in : List ℕ → Told Outcome → List ℕ
message_in storage told = message_at longest storage told

pub record Message (storage : List ℕ) (answer : Answer) (r : List ℕ) : Type 0 where
  pub bytes : r ≡ (if length storage <? room then [] else message_in storage (told_answer answer))

-- frame_of

abbrev pub Splitting : Type 0
Splitting = Result (Unit {0}) NotSplit

abbrev pub number_of_not_split : NotSplit → ℕ
number_of_not_split NoCode = 12
number_of_not_split LengthNotSplit = 13
number_of_not_split NoSuchFrame = 15

-- 0 where the bytes are given
abbrev pub splitting_number : Splitting → ℕ
splitting_number answer = number_of_answer number_of_not_split answer

pub record NotSplitRefusal (why : NotSplit) (r : ℕ) : Type 0 where
  pub number : r ≡ number_of_not_split why

pub record SplittingRefusal (answer : Splitting) (r : ℕ) : Type 0 where
  pub number : r ≡ splitting_number answer

pub record SplitBy (told : Told (List ℕ)) (r : Split) : Type 0 where
  pub number : splitting_number r.answer ≡ number_in told
  pub bytes : r.bytes ≡ bytes_in told

abbrev pub FrameOf : List ℕ → ℕ → ℕ → Split → Type 0
FrameOf message sequence number r = SplitBy (frame_of message sequence number) r
