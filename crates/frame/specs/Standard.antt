-- What the standard fixes and every part of the library uses: addresses, the DGNs of its own messages, a frame as it is
-- sent, and a DGN as three bytes of one (RULES 3.7, 3.12 and 2.6; 000, 3.2 and 3.3; J1939-21; J1939-81).
use Rattle.std.specs.Prelude.{List, ℕ, take, drop, replicate}
use Rattle.words.specs.Words.{Told, refused, gives}
use Rattle.frame.specs.Bytes.{number_of, bytes_of}
use Rattle.frame.specs.Frame.{frame_bytes}

-- Addresses: a node has one up to 253; 254 is the source of a node that has none; 255 is everyone, and nobody's source.
abbrev pub greatest_address : ℕ
greatest_address = 253

abbrev pub no_address : ℕ
no_address = 254

abbrev pub everyone : ℕ
everyone = 255

-- The acknowledgment is E8xxh and the request EAxxh, xx the destination.
abbrev pub acknowledgment_dgn : ℕ
acknowledgment_dgn = 0xE800

abbrev pub request_dgn : ℕ
request_dgn = 0xEA00

-- A long message to all: its announcement and its data packets.
abbrev pub announcement_dgn : ℕ
announcement_dgn = 0xECFF

abbrev pub packet_dgn : ℕ
packet_dgn = 0xEBFF

-- An address claim to all; a request names the claim by EE00h.
abbrev pub claim_dgn : ℕ
claim_dgn = 0xEEFF

abbrev pub address_claimed : ℕ
address_claimed = 0xEE00

-- the byte that fills what is not used, and says that there is no instance
abbrev pub unused : ℕ
unused = 0xFF

-- A frame as it is sent or comes off the bus.
pub record Frame : Type 0 where
  pub id : ℕ
  pub bytes : List ℕ

-- Where nothing is to be sent: an identifier that no bus takes, since it has more than 29 bits, and zeros.
abbrev pub no_frame : Frame
no_frame = record { id = 0xFFFFFFFF; bytes = replicate frame_bytes 0 }

-- The eight bytes that a definition tells: zeros beside a refusal.
abbrev pub bytes_in : Told (List ℕ) → List ℕ
bytes_in (gives bytes) = bytes
bytes_in (refused n) = replicate frame_bytes 0

-- A DGN as three bytes, low byte first, and read from three bytes of a frame, from number `at` on.
abbrev pub dgn_bytes : ℕ → List ℕ
dgn_bytes dgn = bytes_of 3 dgn

unfoldable pub dgn_at : ℕ → List ℕ → ℕ
dgn_at at bytes = number_of (take 3 (drop at bytes))
