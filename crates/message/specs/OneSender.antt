-- The single-sender rules (RULES 4.14): what an announcement, a data packet and a pause do to the one message that a
-- sender may have open. No places and no storage: an open message is what has been collected of it.
use Rattle.std.specs.Prelude.{List, [], ◌++◌, ℕ, ◌+◌, take, drop, if◌then◌else◌}
use Rattle.std.proofs.Math.Option.{Option, some, none}
use Rattle.words.specs.Words.{◌<?◌, ◌=?◌, Told, refused, gives}
use Rattle.frame.specs.Identifier.{source_of}
use Rattle.frame.specs.Standard.{Frame}
use Rattle.places.specs.Format.{Asks, fixed, opens, feeds, Fed, goes, ends, Format}
use Rattle.places.specs.Telling.{Whole, Tells, nothing_to_do, opened, stored, finished}
use Rattle.message.specs.LongMessage.{packets_of, idle_limit, needed, Meaning, other, announcement, packet}
use Rattle.message.specs.LongMessage.{meaning_of}

-- An open message.
pub record Open : Type 0 where
  pub sender : ℕ
  pub size : ℕ
  pub dgn : ℕ
  pub expected : ℕ
  pub idle : ℕ
  pub collected : List ℕ

pub record Part : Type 0 where
  pub number : ℕ
  pub seven : List ℕ

-- A valid announcement opens the message: packet 1 is expected, nothing is collected.
abbrev pub announced_by : ℕ → ℕ → ℕ → Open
announced_by sender size dgn = record { sender = sender; size = size; dgn = dgn; expected = 1; idle = 0; collected = [] }

-- Of a packet only the bytes are kept that the length still needs.
abbrev pub joined : Open → List ℕ → List ℕ
joined m seven = m.collected ++ take (needed m.size m.expected) seven

abbrev pub whole_of : Open → List ℕ → Whole
whole_of m bytes = record { sender = m.sender; dgn = m.dgn; bytes = bytes }

abbrev pub expecting_next : Open → List ℕ → Open
expecting_next m collected =
    record {
      sender = m.sender;
      size = m.size;
      dgn = m.dgn;
      expected = m.expected + 1;
      idle = 0;
      collected = collected;
    }

-- The expected packet is stored, and the last one hands the message over; any other number closes it.
abbrev pub fed_by : Open → Part → Fed Open (Told Tells)
fed_by m part =
    if part.number =? m.expected then
    if m.expected =? packets_of m.size
    then ends (gives (finished (whole_of m (joined m part.seven))))
    else goes (expecting_next m (joined m part.seven)) (gives stored)
    else ends (refused 10)

-- A pause adds to the idle time; above the limit the message closes.
abbrev pub waits : ℕ → Open → Option Open
waits ms m =
    if idle_limit <? m.idle + ms then none else
    some
    (record {
      sender = m.sender;
      size = m.size;
      dgn = m.dgn;
      expected = m.expected;
      idle = m.idle + ms;
      collected = m.collected;
    })

-- What a frame asks for; a packet where no message is open is 9.
abbrev pub asks_by : Told Meaning → List ℕ → Asks Open Part (Told Tells)
asks_by (refused n) bytes = fixed (refused n)
asks_by (gives other) bytes = fixed (gives nothing_to_do)
asks_by (gives (announcement m)) bytes = opens (announced_by m.sender m.size m.dgn) (gives opened)
asks_by (gives (packet p)) bytes = feeds (record { number = p.number; seven = drop 1 bytes }) (refused 9)

-- Long messages as a format: the key is the sender, and a frame is checked first, which is refusals 3 to 6.
abbrev pub long_messages : Format
long_messages = record {
  Session = Open;
  Data = Part;
  Answer = Told Tells;
  Frame = Frame;
  key = λ f. source_of f.id;
  asks = λ f. asks_by (meaning_of f.id f.bytes) f.bytes;
  feed = fed_by;
  wait = waits;
}
