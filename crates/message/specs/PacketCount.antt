-- How many packets a message has (RULES 5.16 and 5.17, request #110). One that is split has no more than a byte can
-- number; so no refusal is needed for that. The splitter, which had one, answers what it answered then.
-- proofs/PacketCount.antt has a proof of each statement, under the same name written small.
use Rattle.std.specs.Prelude.{◌≡◌, List, ◌≢◌, ◌⊎◌, ℕ, ◌≤◌, ◌<◌, length, Ok, Err, if◌then◌else◌}
use Rattle.words.specs.Words.{◌<?◌, Told, refused, gives, given◌then◌, number_in}
use Rattle.frame.specs.Bytes.{byte_at}
use Rattle.frame.specs.Identifier.{greatest_dgn}
use Rattle.message.specs.LongMessage.{shortest, longest, packets_of}
use Rattle.message.specs.Splitter.{announcement_bytes, numbered}
use Rattle.message.specs.Promises.{announcing_number, splitting_number, AnnouncedBy, SplitBy, Announcement, Packet}
use Rattle.message.specs.declared.Announced.{Announced}
use Rattle.message.specs.declared.NotSplit.TheVariants.{NoSuchPacket}
use Rattle.message.specs.declared.Split.{Split}

-- as many as can be counted in byte 3 of an announcement, and numbered from 1 on in byte 0 of a packet
abbrev pub most_packets : ℕ
most_packets = 255

-- They hold every length up to the longest, and no other.
pub record Fits (size : ℕ) : Type 0 where
  pub holds : size ≤ longest → packets_of size ≤ most_packets
  pub no_other : packets_of size ≤ most_packets → size ≤ longest

abbrev pub FitsExactly : Type 0
FitsExactly = (size : ℕ) → Fits size

-- A message whose announcement is not refused for its DGN (12) or its length (13) is refused for nothing else. It has
-- at most 255 packets, and byte 3 says how many.
pub record CountedInByte (message : List ℕ) (r : Announced) : Type 0 where
  pub announced : r.answer ≡ Ok tt
  pub few : packets_of (length message) ≤ most_packets
  pub counted : byte_at 3 r.bytes ≡ packets_of (length message)

abbrev pub AnnouncementFits : Type 0
AnnouncementFits =
    (message : List ℕ) (dgn : ℕ) (r : Announced) → Announcement message dgn r
    → announcing_number r.answer ≢ 12 → announcing_number r.answer ≢ 13 → CountedInByte message r

-- The same of its packets: each has its number in byte 0, and any other number is refused with 15.
pub record NumberedInByte (message : List ℕ) (number : ℕ) (r : Split) : Type 0 where
  pub few : packets_of (length message) ≤ most_packets
  pub each : 1 ≤ number → number ≤ packets_of (length message)
      → (r.answer ≡ Ok tt) × (byte_at 0 r.bytes ≡ number)
  pub other : (number ≡ 0) ⊎ (packets_of (length message) < number) → r.answer ≡ Err NoSuchPacket

abbrev pub PacketFits : Type 0
PacketFits =
    (message : List ℕ) (dgn number : ℕ) (r : Split) → Packet message dgn number r
    → splitting_number r.answer ≢ 12 → splitting_number r.answer ≢ 13 → NumberedInByte message number r

-- A message of more packets is too long: both calls refuse it with 13, unless its DGN has earned 12.

abbrev pub TooManyToAnnounce : Type 0
TooManyToAnnounce =
    (message : List ℕ) (dgn : ℕ) (r : Announced) → Announcement message dgn r → dgn ≤ greatest_dgn
    → most_packets < packets_of (length message) → announcing_number r.answer ≡ 13

abbrev pub TooManyToSplit : Type 0
TooManyToSplit =
    (message : List ℕ) (dgn number : ℕ) (r : Split) → Packet message dgn number r → dgn ≤ greatest_dgn
    → most_packets < packets_of (length message) → splitting_number r.answer ≡ 13

-- The splitter as it was: after the length it judged the number of packets, and refused more than 255 with 14.

unfoldable pub former_splits : ℕ → ℕ → Told ℕ
former_splits size dgn =
    if greatest_dgn <? dgn then refused 12 else
    if size <? shortest then refused 13 else
    if longest <? size then refused 13 else
    if most_packets <? packets_of size then refused 14 else
    gives (packets_of size)

unfoldable pub former_announcement_of : List ℕ → ℕ → Told (List ℕ)
former_announcement_of message dgn =
    given former_splits (length message) dgn then λ count. gives (announcement_bytes (length message) dgn)

unfoldable pub former_packet_of : List ℕ → ℕ → ℕ → Told (List ℕ)
former_packet_of message dgn number =
    given former_splits (length message) dgn then λ count. numbered message number count

-- It said 14 of no message,
abbrev pub NeverFourteen : Type 0
NeverFourteen =
    (message : List ℕ) (dgn number : ℕ)
    → (number_in (former_announcement_of message dgn) ≢ 14) × (number_in (former_packet_of message dgn number) ≢ 14)

-- and whatever it said, number and bytes, both calls say now.

abbrev pub AnnouncementAsBefore : Type 0
AnnouncementAsBefore =
    (message : List ℕ) (dgn : ℕ) (r : Announced) → Announcement message dgn r
    → AnnouncedBy (former_announcement_of message dgn) r

abbrev pub PacketAsBefore : Type 0
PacketAsBefore =
    (message : List ℕ) (dgn number : ℕ) (r : Split) → Packet message dgn number r
    → SplitBy (former_packet_of message dgn number) r
