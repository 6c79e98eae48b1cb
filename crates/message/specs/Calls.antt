-- Runs of calls (RULES 13.6): a receiver from `Receiver::new`, told by nothing but the promises of its calls. Each
-- `hear` and `pause` is handed the state that the call before it gave back, each `hear` the storage as the one before
-- it left it, and after each `hear` the message is read by `message`.
use Rattle.std.specs.Prelude.{◌≡◌, true, List, ℕ, ◌≤◌, length}
use Rattle.words.specs.Words.{Told}
use Rattle.frame.specs.Standard.{Frame}
use Rattle.places.specs.Places.{Place as Seat, Out, place_count}
use Rattle.places.specs.Layout.{view}
use Rattle.places.specs.Calls.{Calls}
use Rattle.places.specs.Telling.{Tells, tells}
use Rattle.message.specs.OneSender.{Open, long_messages}
use Rattle.message.specs.Receiver.{room, layout, keeps_rules}
use Rattle.message.specs.Promises.{Answer, Pausing, told_answer, told_pausing, New, Hear, Message, Pause}
use Rattle.message.specs.declared.Receiver as Receivers

-- A receiver with the storage that it is lent.
pub record Held : Type 0 where
  pub receiver : Receivers.Receiver
  pub storage : List ℕ

-- at the start: a new receiver, and storage enough, with any contents
pub record Starts (s : Held) : Type 0 where
  pub new : New s.receiver
  pub enough : room ≤ length s.storage

-- a state that keeps its rules, with storage enough
pub record Keeps (s : Held) : Type 0 where
  pub eight : length s.receiver.places ≡ place_count
  pub rules : keeps_rules s.receiver.places ≡ true
  pub enough : room ≤ length s.storage

-- `hear`, and `message` directly after it
pub record Hears (s : Held) (f : Frame) (told : Out (Told Tells)) (t : Held) : Type 0 where
  pub answer : Answer
  pub message : List ℕ
  pub hear :
      Hear f.id f.bytes s.receiver.places s.storage (record { receiver = t.receiver; answer = answer })
      t.storage
  pub read : Message t.storage answer message
  pub told_so : told ≡ tells message (told_answer answer)

-- `pause`, which is lent no storage
pub record Pauses (s : Held) (ms : ℕ) (told : Told ℕ) (t : Held) : Type 0 where
  pub answer : Pausing
  pub pause : Pause ms s.receiver.places (record { receiver = t.receiver; answer = answer })
  pub storage_kept : t.storage ≡ s.storage
  pub told_so : told ≡ told_pausing answer

-- the open messages, as the places and their stretches of the storage show them
abbrev pub open_in : Held → List (Seat Open)
open_in s = view layout s.receiver.places s.storage

abbrev pub receiver_calls : Calls long_messages
receiver_calls = record { State = Held; Starts = Starts; Kept = Keeps; Hears = Hears; Pauses = Pauses; seen = open_in }
