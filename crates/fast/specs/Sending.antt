-- Sending a message as fast packets (RULES 13.2): the frames that `frame_of` answers, one after the other, told by its
-- promise alone. For every message of 1 to 223 bytes and every sequence number; pauses between two consecutive frames
-- of the message sum to at most 750 ms; and frames of that pair that are refused may come in between.
use Rattle.std.specs.Prelude.{◌≡◌, Bool, true, false, List, [], ◌∷◌, ◌++◌, ℕ, ◌+◌, ◌≤◌, ◌<◌, length}
use Rattle.std.proofs.Math.Option.{Option}
use Rattle.words.specs.Words.{Told, refused, gives}
use Rattle.frame.specs.Identifier.{identifier_of, lowest_priority}
use Rattle.frame.specs.Standard.{Frame, greatest_address}
use Rattle.places.specs.Format.{Event, frame, pause}
use Rattle.places.specs.OneKey.{solo}
use Rattle.places.specs.Telling.{Tells, finished}
use Rattle.fast.specs.FastPacket.{greatest_sequence, first_bytes, longest, last_frame, idle_limit, Meaning, other}
use Rattle.fast.specs.FastPacket.{begins, continues, meaning_of}
use Rattle.fast.specs.Names.{is_named, is_well_formed}
use Rattle.fast.specs.OnePair.{Open, fast_packets}
use Rattle.fast.specs.Promises.{FrameOf}
use Rattle.fast.specs.declared.Split.{Split}

-- a frame of the message, as its sender puts it on the bus
abbrev pub sent : ℕ → ℕ → ℕ → List ℕ → Frame
sent priority dgn sender bytes = record { id = identifier_of priority dgn sender; bytes = bytes }

-- a frame that is no part of a message
abbrev pub is_apart : Told Meaning → Bool
is_apart (refused n) = true
is_apart (gives other) = true
is_apart (gives (begins m)) = false
is_apart (gives (continues f)) = false

-- a message, a DGN that is named, a sender and a sequence number within the limits
pub record Sendable (names message : List ℕ) (dgn sender sequence : ℕ) : Type 0 where
  pub long : 1 ≤ length message
  pub short : length message ≤ longest
  pub about : is_named dgn names ≡ true
  pub from : sender ≤ greatest_address
  pub numbered : sequence ≤ greatest_sequence

module _ (names message : List ℕ) (dgn sender sequence : ℕ) where
  -- What a sender does that is to send frame `number` next, when `sum` ms have passed since the message's last frame:
  -- it pauses, sends something else, sends what `frame_of` answers for that number, and ends with the last one.
  pub data Sending : ℕ → ℕ → List (Event Frame) → Type 0 where
    pauses : {number sum : ℕ} {events : List (Event Frame)} (ms : ℕ) → sum + ms ≤ idle_limit
        → Sending number (sum + ms) events
        → Sending number sum (pause ms ∷ events)
    sends : {number sum : ℕ} {events : List (Event Frame)} (f : Frame)
        → is_apart (meaning_of names f.id f.bytes) ≡ true
        → Sending number sum events
        → Sending number sum (frame f ∷ events)
    next : {number sum : ℕ} {events : List (Event Frame)} (priority : ℕ) (r : Split) → priority ≤ lowest_priority
        → FrameOf message sequence number r → number < last_frame (length message)
        → Sending (number + 1) 0 events
        → Sending number sum (frame (sent priority dgn sender r.bytes) ∷ events)
    last : {number sum : ℕ} (priority : ℕ) (r : Split) → priority ≤ lowest_priority
        → FrameOf message sequence number r → number ≡ last_frame (length message)
        → Sending number sum (frame (sent priority dgn sender r.bytes) ∷ [])

  -- The whole message: its frame 0, which is all of a short one, and then the others.
  pub data Sent : List (Event Frame) → Type 0 where
    at_once : (priority : ℕ) (r : Split) → priority ≤ lowest_priority → FrameOf message sequence 0 r
        → length message ≤ first_bytes
        → Sent (frame (sent priority dgn sender r.bytes) ∷ [])
    in_frames : {events : List (Event Frame)} (priority : ℕ) (r : Split) → priority ≤ lowest_priority
        → FrameOf message sequence 0 r → first_bytes < length message
        → Sending 1 0 events
        → Sent (frame (sent priority dgn sender r.bytes) ∷ events)

-- By the single-pair rules: whatever was open, the last answer hands over the message.
abbrev pub JoinedByRules : Type 0
JoinedByRules =
    (names message : List ℕ) (dgn sender sequence : ℕ) (events : List (Event Frame)) → is_well_formed names ≡ true
    → Sendable names message dgn sender sequence → Sent names message dgn sender sequence events
    → (before : Option Open)
    → (answers : List (Told Tells))
    × (solo (fast_packets names) before events
    ≡ answers ++ (gives (finished (record { sender = sender; dgn = dgn; bytes = message })) ∷ []))
