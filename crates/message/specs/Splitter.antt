-- The splitter: a message as an announcement and numbered data packets (RULES 5.14 and 5.15).
use Rattle.std.specs.Prelude.{List, ◌∷◌, ◌++◌, ℕ, ◌-◌, ◌*◌, length, take, drop, replicate, if◌then◌else◌}
use Rattle.words.specs.Words.{◌<?◌, ◌=?◌, ◌or◌, Told, refused, gives, given◌then◌}
use Rattle.frame.specs.Bytes.{bytes_of}
use Rattle.frame.specs.Identifier.{greatest_dgn}
use Rattle.frame.specs.Standard.{unused}
use Rattle.message.specs.LongMessage.{shortest, longest, packet_bytes, packets_of, to_all}

-- the number of packets of a message that can be split
unfoldable pub splits : ℕ → ℕ → Told ℕ
splits size dgn =
    if greatest_dgn <? dgn then refused 12 else
    if size <? shortest then refused 13 else
    if longest <? size then refused 13 else
    gives (packets_of size)

-- the announcement's eight bytes
unfoldable pub announcement_bytes : ℕ → ℕ → List ℕ
announcement_bytes size dgn = to_all ∷ (bytes_of 2 size ++ (packets_of size ∷ unused ∷ bytes_of 3 dgn))

-- packet `number`'s eight bytes: its number, and the message's next seven or what is left of it
unfoldable pub packet_bytes_of : List ℕ → ℕ → List ℕ
packet_bytes_of message number =
    number ∷ take packet_bytes (drop (packet_bytes * (number - 1)) message ++ replicate packet_bytes unused)

unfoldable pub announcement_of : List ℕ → ℕ → Told (List ℕ)
announcement_of message dgn =
    given splits (length message) dgn then λ count. gives (announcement_bytes (length message) dgn)

unfoldable pub numbered : List ℕ → ℕ → ℕ → Told (List ℕ)
numbered message number count =
    if (number =? 0) or (count <? number) then refused 15 else gives (packet_bytes_of message number)

unfoldable pub packet_of : List ℕ → ℕ → ℕ → Told (List ℕ)
packet_of message dgn number = given splits (length message) dgn then λ count. numbered message number count
