-- Fast packets on the bus (RULES 12.1 and 12.5 to 12.7; NMEA 2000's format, as 003 has it in 3.3): what a frame is, the
-- limits, and the pair of sender and DGN that a message belongs to.
use Rattle.std.specs.Prelude.{List, ℕ, ◌+◌, ◌-◌, ◌*◌, ◌/◌, min, length, if◌then◌else◌}
use Rattle.words.specs.Words.{◌≤?◌, ◌=?◌, ◌and◌, bits, Told, refused, gives, given◌then◌}
use Rattle.frame.specs.Frame.{checked_of}
use Rattle.frame.specs.Bytes.{byte_at}
use Rattle.fast.specs.Names.{is_named}

-- The first byte of a frame: the message's sequence number in the top three bits, the frame's number in the low five.

abbrev pub sequence_of : ℕ → ℕ
sequence_of byte = bits 7 5 byte

abbrev pub frame_number_of : ℕ → ℕ
frame_number_of byte = bits 4 0 byte

abbrev pub first_byte_of : ℕ → ℕ → ℕ
first_byte_of sequence number = 32 * sequence + number

abbrev pub greatest_sequence : ℕ
greatest_sequence = 7

-- Frame 0 has six bytes of the message, after its length in byte 1; every other frame has seven. So 31 of them and
-- frame 0 have 223.

abbrev pub first_bytes : ℕ
first_bytes = 6

abbrev pub later_bytes : ℕ
later_bytes = 7

abbrev pub longest : ℕ
longest = 223

-- where frame `number`, 1 or more, goes on in the message
abbrev pub offset_of : ℕ → ℕ
offset_of number = first_bytes + later_bytes * (number - 1)

-- the number of a message's last frame: a seventh of the length, rounded down, since frame 0 has one byte less
abbrev pub last_frame : ℕ → ℕ
last_frame size = size / 7

-- how many bytes of frame 0, and of a later frame, the message needs
abbrev pub needed_first : ℕ → ℕ
needed_first size = min first_bytes size

abbrev pub needed : ℕ → ℕ → ℕ
needed size number = min later_bytes (size - offset_of number)

-- a message whose frames pause for longer, in milliseconds, is closed
abbrev pub idle_limit : ℕ
idle_limit = 750

-- A message belongs to a pair of sender and DGN, kept as one number: an identifier's bits 24 to 0.
abbrev pub pair_of : ℕ → ℕ → ℕ
pair_of sender dgn = dgn * 256 + sender

-- What a frame means to the receiver: frame 0 of a message, a later frame by its number, or anything else.

pub record NewMessage : Type 0 where
  pub sender : ℕ
  pub dgn : ℕ
  pub sequence : ℕ
  pub size : ℕ

pub record LaterFrame : Type 0 where
  pub sender : ℕ
  pub dgn : ℕ
  pub sequence : ℕ
  pub number : ℕ

pub data Meaning : Type 0 where
  other : Meaning
  begins : NewMessage → Meaning
  continues : LaterFrame → Meaning

unfoldable pub begun : ℕ → ℕ → ℕ → ℕ → Told Meaning
begun sender dgn sequence size =
    if (1 ≤? size) and (size ≤? longest)
    then gives (begins (record { sender = sender; dgn = dgn; sequence = sequence; size = size }))
    else refused 7

-- a frame of a DGN that is named
unfoldable pub carried : ℕ → ℕ → List ℕ → Told Meaning
carried sender dgn bytes =
    if frame_number_of (byte_at 0 bytes) =? 0 then begun sender dgn (sequence_of (byte_at 0 bytes)) (byte_at 1 bytes) else
    gives
    (continues
    (record {
      sender = sender;
      dgn = dgn;
      sequence = sequence_of (byte_at 0 bytes);
      number = frame_number_of (byte_at 0 bytes);
    }))

-- a frame that has passed refusals 3 to 6
unfoldable pub meant : List ℕ → ℕ → ℕ → List ℕ → Told Meaning
meant names sender dgn bytes = if is_named dgn names then carried sender dgn bytes else gives other

unfoldable pub meaning_of : List ℕ → ℕ → List ℕ → Told Meaning
meaning_of names id bytes = given checked_of id (length bytes) then λ p. meant names p.source p.dgn bytes
