-- The second demand, of long messages (RULES 13.2): what the splitter splits, the receiver joins to the same sender,
-- DGN and bytes. For every message of 9 to 1,785 bytes and every DGN up to 1FFFFh; pauses between two consecutive
-- frames of the message sum to at most 750 ms; and other frames of that sender may come in between, but data packets
-- and announcements.
use Rattle.std.specs.Prelude.{◌≡◌, Bool, true, false, List, [], ◌∷◌, ◌++◌, ℕ, ◌+◌, ◌≤◌, ◌<◌, length}
use Rattle.std.proofs.Math.Option.{Option}
use Rattle.words.specs.Words.{Told, refused, gives}
use Rattle.frame.specs.Identifier.{identifier_of, greatest_dgn, lowest_priority}
use Rattle.frame.specs.Standard.{Frame, announcement_dgn, packet_dgn, greatest_address}
use Rattle.places.specs.Format.{Event, frame, pause}
use Rattle.places.specs.OneKey.{solo}
use Rattle.places.specs.Places.{History, told_to, admitted, answered}
use Rattle.places.specs.Calls.{FromStart}
use Rattle.places.specs.Telling.{Tells, finished}
use Rattle.message.specs.LongMessage.{shortest, longest, packets_of, idle_limit, Meaning, other, announcement, packet}
use Rattle.message.specs.LongMessage.{meaning_of}
use Rattle.message.specs.OneSender.{Open, long_messages}
use Rattle.message.specs.Promises.{Announcement, Packet}
use Rattle.message.specs.Calls.{Held, receiver_calls}
use Rattle.message.specs.declared.Announced.{Announced}
use Rattle.message.specs.declared.Split.{Split}

-- a frame of the message, as its sender puts it on the bus
abbrev pub sent : ℕ → ℕ → ℕ → List ℕ → Frame
sent priority dgn sender bytes = record { id = identifier_of priority dgn sender; bytes = bytes }

-- a frame that is no part of a long message: neither a data packet nor a well-formed announcement
abbrev pub is_apart : Told Meaning → Bool
is_apart (refused n) = true
is_apart (gives other) = true
is_apart (gives (announcement m)) = false
is_apart (gives (packet p)) = false

-- What a sender does that is to send packet `number` next, when `sum` ms have passed since the message's last frame: it
-- pauses, sends something else, sends what `packet` answers for that number, and ends with the last one.
pub data Sending (message : List ℕ) (dgn sender : ℕ) : ℕ → ℕ → List (Event Frame) → Type 0 where
  pauses : {number sum : ℕ} {events : List (Event Frame)} (ms : ℕ) → sum + ms ≤ idle_limit
      → Sending message dgn sender number (sum + ms) events → Sending message dgn sender number sum (pause ms ∷ events)
  sends : {number sum : ℕ} {events : List (Event Frame)} (f : Frame) → is_apart (meaning_of f.id f.bytes) ≡ true
      → Sending message dgn sender number sum events → Sending message dgn sender number sum (frame f ∷ events)
  next : {number sum : ℕ} {events : List (Event Frame)} (priority : ℕ) (r : Split) → priority ≤ lowest_priority
      → Packet message dgn number r → number < packets_of (length message)
      → Sending message dgn sender (number + 1) 0 events
      → Sending message dgn sender number sum (frame (sent priority packet_dgn sender r.bytes) ∷ events)
  last : {number sum : ℕ} (priority : ℕ) (r : Split) → priority ≤ lowest_priority
      → Packet message dgn number r → number ≡ packets_of (length message)
      → Sending message dgn sender number sum (frame (sent priority packet_dgn sender r.bytes) ∷ [])

-- The whole message: what `announcement` answers, and then its packets.
pub data Sent (message : List ℕ) (dgn sender : ℕ) : List (Event Frame) → Type 0 where
  announces : {events : List (Event Frame)} (priority : ℕ) (r : Announced) → priority ≤ lowest_priority
      → Announcement message dgn r
      → Sending message dgn sender 1 0 events
      → Sent message dgn sender (frame (sent priority announcement_dgn sender r.bytes) ∷ events)

-- a message, a DGN and a sender within the limits of RULES 4 and 5
pub record Sendable (message : List ℕ) (dgn sender : ℕ) : Type 0 where
  pub long : shortest ≤ length message
  pub short : length message ≤ longest
  pub about : dgn ≤ greatest_dgn
  pub named : sender ≤ greatest_address

-- On any bus, in any run of calls: where the sender's own frames without those answered 8, and the pauses, end with
-- such a message, the last thing that it is told is that message.
abbrev pub SplitAndJoin : Type 0
SplitAndJoin =
    (message : List ℕ) (dgn sender : ℕ) (h : History long_messages) (s : Held) (earlier own : List (Event Frame))
    → Sendable message dgn sender → FromStart receiver_calls h s → admitted long_messages sender h ≡ earlier ++ own
    → Sent message dgn sender own
    → (answers : List (Told Tells))
    × (answered (told_to long_messages sender h)
    ≡ answers ++ (gives (finished (record { sender = sender; dgn = dgn; bytes = message })) ∷ []))

-- By the single-sender rules: whatever was open, the last answer hands over the message.
abbrev pub JoinedByRules : Type 0
JoinedByRules =
    (message : List ℕ) (dgn sender : ℕ) (events : List (Event Frame)) → Sendable message dgn sender
    → Sent message dgn sender events
    → (before : Option Open)
    → (answers : List (Told Tells))
    × (solo long_messages before events
    ≡ answers ++ (gives (finished (record { sender = sender; dgn = dgn; bytes = message })) ∷ []))
