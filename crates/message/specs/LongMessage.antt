-- Long messages on the bus (RULES 4.1 to 4.7 and 4.11; J1939-21's broadcast transfer): what an announcement and a data
-- packet are, and the limits.
use Rattle.std.specs.Prelude.{List, ℕ, ◌+◌, ◌-◌, ◌*◌, ◌/◌, min, length, take, drop, if◌then◌else◌}
use Rattle.words.specs.Words.{◌≤?◌, ◌=?◌, ◌and◌, Told, refused, gives, given◌then◌}
use Rattle.frame.specs.Bytes.{number_of, byte_at}
use Rattle.frame.specs.Identifier.{greatest_dgn}
use Rattle.frame.specs.Frame.{checked_of}
use Rattle.frame.specs.Standard.{announcement_dgn, packet_dgn}

-- the lengths of a long message, in bytes
abbrev pub shortest : ℕ
shortest = 9

abbrev pub longest : ℕ
longest = 1785

-- how many bytes of the message a packet carries
abbrev pub packet_bytes : ℕ
packet_bytes = 7

-- the length divided by 7, rounded up
abbrev pub packets_of : ℕ → ℕ
packets_of size = (size + 6) / 7

-- a message whose frames pause for longer, in milliseconds, is closed
abbrev pub idle_limit : ℕ
idle_limit = 750

-- byte 0 of an announcement to all
abbrev pub to_all : ℕ
to_all = 32

-- the number in the bytes `from` to `to` of a frame, low byte first
unfoldable pub bytes_to : ℕ → ℕ → List ℕ → ℕ
bytes_to from to bytes = number_of (take (to + 1 - from) (drop from bytes))

-- What a frame means to the receiver: the announcement of a message, a packet by its number, or anything else.

pub record NewMessage : Type 0 where
  pub sender : ℕ
  pub size : ℕ
  pub dgn : ℕ

pub record PacketFrom : Type 0 where
  pub sender : ℕ
  pub number : ℕ

pub data Meaning : Type 0 where
  other : Meaning
  announcement : NewMessage → Meaning
  packet : PacketFrom → Meaning

unfoldable pub announced : ℕ → ℕ → ℕ → ℕ → Told Meaning
announced sender size count dgn =
    if (shortest ≤? size) and (size ≤? longest) and (count =? packets_of size) and (dgn ≤? greatest_dgn)
    then gives (announcement (record { sender = sender; size = size; dgn = dgn }))
    else refused 7

-- A frame that has passed refusals 3 to 6. ECxxh and EBxxh to one destination are other DGNs.
unfoldable pub meant : ℕ → ℕ → List ℕ → Told Meaning
meant sender dgn bytes =
    if dgn =? packet_dgn then gives (packet (record { sender = sender; number = byte_at 0 bytes })) else
    if dgn =? announcement_dgn then
    if byte_at 0 bytes =? to_all then announced sender (bytes_to 1 2 bytes) (byte_at 3 bytes) (bytes_to 5 7 bytes) else
    gives other
    else gives other

unfoldable pub meaning_of : ℕ → List ℕ → Told Meaning
meaning_of id bytes = given checked_of id (length bytes) then λ p. meant p.source p.dgn bytes

-- how many of a packet's bytes the message still needs
abbrev pub needed : ℕ → ℕ → ℕ
needed size number = min packet_bytes (size - packet_bytes * (number - 1))
