-- The splitter: a message as numbered frames of one sequence (RULES 12.20 and 12.21).
use Rattle.std.specs.Prelude.{List, ◌∷◌, ◌++◌, ℕ, length, take, drop, replicate, if◌then◌else◌}
use Rattle.words.specs.Words.{◌<?◌, ◌=?◌, Told, refused, gives}
use Rattle.frame.specs.Standard.{unused}
use Rattle.fast.specs.FastPacket.{first_byte_of, greatest_sequence, first_bytes, later_bytes, longest, offset_of}
use Rattle.fast.specs.FastPacket.{last_frame}

-- why a message of this size has no such frame; 0 where it has one
unfoldable pub refusal_in : ℕ → ℕ → ℕ → ℕ
refusal_in size sequence number =
    if greatest_sequence <? sequence then 12 else
    if size <? 1 then 13 else
    if longest <? size then 13 else
    if last_frame size <? number then 15 else
    0

-- frame 0's eight bytes: its first byte, the length, and the message's first six bytes or what there is of them
unfoldable pub first_bytes_of : List ℕ → ℕ → List ℕ
first_bytes_of message sequence =
    first_byte_of sequence 0 ∷ length message ∷ take first_bytes (message ++ replicate first_bytes unused)

-- any other frame's: its first byte, and the message's next seven or what is left of it
unfoldable pub later_bytes_of : List ℕ → ℕ → ℕ → List ℕ
later_bytes_of message sequence number =
    first_byte_of sequence number ∷ take later_bytes (drop (offset_of number) message ++ replicate later_bytes unused)

unfoldable pub frame_bytes_of : List ℕ → ℕ → ℕ → List ℕ
frame_bytes_of message sequence number =
    if number =? 0 then first_bytes_of message sequence else later_bytes_of message sequence number

unfoldable pub frame_of : List ℕ → ℕ → ℕ → Told (List ℕ)
frame_of message sequence number =
    if refusal_in (length message) sequence number =? 0
    then gives (frame_bytes_of message sequence number)
    else refused (refusal_in (length message) sequence number)
