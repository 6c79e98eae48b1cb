-- Runs of calls (RULES 13.6): a receiver from `Receiver::start` with a list of DGNs, told by nothing but the promises
-- of its calls. Each `hear` and `pause` is handed the state that the call before it gave back, each `hear` the storage
-- as the one before it left it, and after each `hear` the message is read by `message`.
use Rattle.std.specs.Prelude.{◌≡◌, true, List, ℕ, ◌≤◌, length, Ok}
use Rattle.words.specs.Words.{Told}
use Rattle.frame.specs.Standard.{Frame}
use Rattle.places.specs.Places.{Place as Seat, Out, place_count}
use Rattle.places.specs.Layout.{view}
use Rattle.places.specs.Calls.{Calls, KeepsPlaces}
use Rattle.places.specs.Statements.{Pausing as Adding}
use Rattle.places.specs.Telling.{Tells, tells}
use Rattle.fast.specs.Names.{is_well_formed}
use Rattle.fast.specs.OnePair.{Open, fast_packets}
use Rattle.fast.specs.Receiver.{room, layout, names_of, keeps_rules}
use Rattle.fast.specs.Promises.{Answer, Pausing, told_answer, told_pausing, Start, Hear, Message, Pause}
use Rattle.fast.specs.declared.Receiver as Receivers

-- A receiver with the storage that it is lent.
pub record Held : Type 0 where
  pub receiver : Receivers.Receiver
  pub storage : List ℕ

-- at the start: these DGNs are named, and storage enough, with any contents
pub record Starts (names : List ℕ) (s : Held) : Type 0 where
  pub start : Start names (record { receiver = s.receiver; answer = Ok tt })
  pub enough : room ≤ length s.storage

-- a state that names these DGNs and keeps its rules, with storage enough
pub record Keeps (names : List ℕ) (s : Held) : Type 0 where
  pub named : names_of s.receiver ≡ names
  pub eight : length s.receiver.places ≡ place_count
  pub rules : keeps_rules s.receiver ≡ true
  pub enough : room ≤ length s.storage

-- `hear`, and `message` directly after it
pub record Hears (s : Held) (f : Frame) (told : Out (Told Tells)) (t : Held) : Type 0 where
  pub answer : Answer
  pub message : List ℕ
  pub hear :
      Hear f.id f.bytes s.receiver s.storage (record { receiver = t.receiver; answer = answer })
      t.storage
  pub read : Message t.storage answer message
  pub told_so : told ≡ tells message (told_answer answer)

-- `pause`, which is lent no storage
pub record Pauses (s : Held) (ms : ℕ) (told : Told ℕ) (t : Held) : Type 0 where
  pub answer : Pausing
  pub pause : Pause ms s.receiver (record { receiver = t.receiver; answer = answer })
  pub storage_kept : t.storage ≡ s.storage
  pub told_so : told ≡ told_pausing answer

-- the open messages, as the places and their stretches of the storage show them
abbrev pub open_in : Held → List (Seat Open)
open_in s = view layout s.receiver.places s.storage

abbrev pub fast_calls : (names : List ℕ) → Calls (fast_packets names)
fast_calls names =
    record { State = Held; Starts = Starts names; Kept = Keeps names; Hears = Hears; Pauses = Pauses; seen = open_in }

-- Every list of DGNs that a start takes has such a start, over any storage that is enough: what is said of runs is not
-- said of nothing.
abbrev pub EveryListStarts : Type 0
EveryListStarts =
    (names storage : List ℕ) → is_well_formed names ≡ true → room ≤ length storage
    → (r : Receivers.Receiver) × Starts names (record { receiver = r; storage = storage })

-- The calls keep to the places of fast packets, whatever DGNs are named, and the pauses of fast packets add up. With
-- these the crate `demands` has every statement of crates/places/specs/Calls.antt.

abbrev pub FastKeepsPlaces : Type 1
FastKeepsPlaces = (names : List ℕ) → KeepsPlaces (fast_calls names)

abbrev pub FastPausesAdd : Type 1
FastPausesAdd = (names : List ℕ) → Adding (fast_packets names)
