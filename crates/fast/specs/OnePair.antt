-- The single-pair rules (RULES 12.22): what frame 0, a later frame and a pause do to the one message that a pair of
-- sender and DGN may have open. No places and no storage: an open message is what has been collected of it.
use Rattle.std.specs.Prelude.{List, ◌++◌, ℕ, ◌+◌, take, drop, if◌then◌else◌}
use Rattle.std.proofs.Math.Option.{Option, some, none}
use Rattle.words.specs.Words.{◌<?◌, ◌≤?◌, ◌=?◌, ◌and◌, Told, refused, gives}
use Rattle.frame.specs.Identifier.{source_of, dgn_of}
use Rattle.frame.specs.Standard.{Frame}
use Rattle.places.specs.Format.{Asks, fixed, opens, finishes, feeds, Fed, goes, ends, Format}
use Rattle.places.specs.Telling.{Whole, Tells, nothing_to_do, opened, stored, finished}
use Rattle.fast.specs.FastPacket.{first_bytes, last_frame, needed, idle_limit, pair_of, Meaning, other, begins}
use Rattle.fast.specs.FastPacket.{continues, meaning_of}

-- An open message.
pub record Open : Type 0 where
  pub sender : ℕ
  pub dgn : ℕ
  pub sequence : ℕ
  pub size : ℕ
  pub expected : ℕ
  pub idle : ℕ
  pub collected : List ℕ

pub record Part : Type 0 where
  pub sequence : ℕ
  pub number : ℕ
  pub seven : List ℕ

-- Frame 0 opens the message with its six bytes: frame 1 is expected.
abbrev pub begun_by : ℕ → ℕ → ℕ → ℕ → List ℕ → Open
begun_by sender dgn sequence size six =
    record { sender = sender; dgn = dgn; sequence = sequence; size = size; expected = 1; idle = 0; collected = six }

-- Of a later frame only the bytes are kept that the length still needs.
abbrev pub joined : Open → List ℕ → List ℕ
joined m seven = m.collected ++ take (needed m.size m.expected) seven

abbrev pub whole_of : Open → List ℕ → Whole
whole_of m bytes = record { sender = m.sender; dgn = m.dgn; bytes = bytes }

abbrev pub expecting_next : Open → List ℕ → Open
expecting_next m collected =
    record {
      sender = m.sender;
      dgn = m.dgn;
      sequence = m.sequence;
      size = m.size;
      expected = m.expected + 1;
      idle = 0;
      collected = collected;
    }

-- The expected frame of the same sequence is stored, and the last one hands the message over; any other number or
-- sequence closes it.
abbrev pub fed_by : Open → Part → Fed Open (Told Tells)
fed_by m part =
    if (part.sequence =? m.sequence) and (part.number =? m.expected) then
    if m.expected =? last_frame m.size
    then ends (gives (finished (whole_of m (joined m part.seven))))
    else goes (expecting_next m (joined m part.seven)) (gives stored)
    else ends (refused 10)

-- A pause adds to the idle time; above the limit the message closes.
abbrev pub waits : ℕ → Open → Option Open
waits ms m =
    if idle_limit <? m.idle + ms then none else
    some
    (record {
      sender = m.sender;
      dgn = m.dgn;
      sequence = m.sequence;
      size = m.size;
      expected = m.expected;
      idle = m.idle + ms;
      collected = m.collected;
    })

-- What a frame asks for: frame 0 finishes a message of six bytes or fewer at once; a later frame where no message is
-- open is 9.
abbrev pub asks_by : Told Meaning → List ℕ → Asks Open Part (Told Tells)
asks_by (refused n) bytes = fixed (refused n)
asks_by (gives other) bytes = fixed (gives nothing_to_do)
asks_by (gives (begins m)) bytes =
    if m.size ≤? first_bytes
    then
    finishes (gives (finished (record { sender = m.sender; dgn = m.dgn; bytes = take m.size (drop 2 bytes) })))
    else opens (begun_by m.sender m.dgn m.sequence m.size (take first_bytes (drop 2 bytes))) (gives opened)
asks_by (gives (continues f)) bytes =
    feeds (record { sequence = f.sequence; number = f.number; seven = drop 1 bytes }) (refused 9)

-- Fast packets as a format, for the DGNs that are named: the key is the pair, and a frame is checked first,
-- which is refusals 3 to 6.
abbrev pub fast_packets : List ℕ → Format
fast_packets names = record {
  Session = Open;
  Data = Part;
  Answer = Told Tells;
  Frame = Frame;
  key = λ f. pair_of (source_of f.id) (dgn_of f.id);
  asks = λ f. asks_by (meaning_of names f.id f.bytes) f.bytes;
  feed = fed_by;
  wait = waits;
}
