-- The worked examples of RULES 13.11: one table, one statement. A line has the example's number, what the promise's own
-- definition gives, and what the example's result is, both as numbers: a refusal is its number alone, what is given
-- begins with 0.
use Rattle.std.specs.Prelude.{◌≡◌, List, [], ◌∷◌, ◌++◌, ℕ, ◌+◌, ℤ, pos, negsuc, replicate, if◌then◌else◌}
use Rattle.words.specs.Words.{◌=?◌, Told, refused, gives}
use Rattle.frame.specs.Identifier.{source_of, identifier_of}
use Rattle.frame.specs.Frame.{formed_of}
use Rattle.frame.specs.Standard.{Frame}
use Rattle.places.specs.Format.{Event, frame, pause}
use Rattle.places.specs.Places.{Out, full, said, place_count}
use Rattle.places.specs.Telling.{Tells, nothing_to_do, opened, stored, finished, tells}
use Rattle.message.specs.LongMessage.{Meaning, other, announcement, packet, meaning_of}
use Rattle.message.specs.Receiver.{room, free_place, heard, paused_places, paused_answer}
use Rattle.message.specs.Promises.{message_in}
use Rattle.message.specs.declared.Place.{Place}
use Rattle.message.specs.Splitter.{announcement_of}
use Rattle.catalogue.specs.Classes.{class_at, below_greatest}
use Rattle.catalogue.specs.Scale.{scaled_of}
use Rattle.catalogue.specs.declared.Unit.TheVariants.{Celsius, Ampere}
use Rattle.claim.specs.Claim.{held_after, begun, waited}
use Rattle.claim.specs.declared.Claim.{Claim}
use Rattle.command.specs.Acknowledgment.{acknowledged_of}
use Rattle.command.specs.declared.Acknowledgment.{Acknowledgment}

pub record Line : Type 0 where
  pub example : ℕ
  pub computed : List ℕ
  pub printed : List ℕ

abbrev pub line : ℕ → List ℕ → List ℕ → Line
line example computed printed = record { example = example; computed = computed; printed = printed }

-- answers as numbers

abbrev pub number : Told ℕ → List ℕ
number (refused n) = n ∷ []
number (gives n) = 0 ∷ n ∷ []

abbrev pub bytes : Told (List ℕ) → List ℕ
bytes (refused n) = n ∷ []
bytes (gives l) = 0 ∷ l

abbrev pub meaning : Told Meaning → List ℕ
meaning (refused n) = n ∷ []
meaning (gives other) = 0 ∷ []
meaning (gives (announcement m)) = 0 ∷ m.sender ∷ m.size ∷ m.dgn ∷ []
meaning (gives (packet p)) = 0 ∷ p.sender ∷ p.number ∷ []

-- nothing to do 0, opened 1, stored 2, a finished message its sender, DGN and bytes
abbrev pub answer : Out (Told Tells) → List ℕ
answer full = 8 ∷ []
answer (said (refused n)) = n ∷ []
answer (said (gives nothing_to_do)) = 0 ∷ 0 ∷ []
answer (said (gives opened)) = 0 ∷ 1 ∷ []
answer (said (gives stored)) = 0 ∷ 2 ∷ []
answer (said (gives (finished m))) = 0 ∷ m.sender ∷ m.dgn ∷ m.bytes

abbrev pub answers : List (Out (Told Tells)) → List ℕ
answers [] = []
answers (a ∷ rest) = answer a ++ answers rest

-- a whole number by its sign, 0 or 1 for below zero, and its size
abbrev pub signed : ℤ → List ℕ
signed (pos n) = 0 ∷ n ∷ []
signed (negsuc n) = 1 ∷ (n + 1) ∷ []

-- a frame to send: its identifier and its bytes
abbrev pub sent : Told Frame → List ℕ
sent (refused n) = n ∷ []
sent (gives f) = 0 ∷ f.id ∷ f.bytes

-- What a sender is told in a run, as the definition of the receiver gives it: from a new receiver, over storage of
-- zeros, handed on as each frame leaves it.

abbrev pub told_from : ℕ → List Place → List ℕ → List (Event Frame) → List (Out (Told Tells))
told_from sender places storage [] = []
told_from sender places storage (frame f ∷ events) =
    let after = heard f.id f.bytes places storage in
    let later = told_from sender after.places after.storage events in
    if source_of f.id =? sender
    then tells (message_in after.storage after.answer) after.answer ∷ later
    else later
told_from sender places storage (pause ms ∷ events) = told_from sender (paused_places ms places) storage events

abbrev pub storage_of_zeros : List ℕ
storage_of_zeros = replicate room 0

abbrev pub told_of : ℕ → List (Event Frame) → List (Out (Told Tells))
told_of sender events = told_from sender (replicate place_count free_place) storage_of_zeros events

-- the long message of samples/example.capture

-- eight places, the first open by 54h
abbrev pub one_open : List Place
one_open = record { sender = 0x54; length = 9; dgn = 0xFEEB; expected = 1; idle = 0 } ∷ replicate 7 free_place

abbrev pub announcement_by : ℕ → List ℕ → Event Frame
announcement_by sender l = frame (record { id = identifier_of 7 0xECFF sender; bytes = l })

abbrev pub nine_bytes : List ℕ
nine_bytes = 0x20 ∷ 0x09 ∷ 0x00 ∷ 0x02 ∷ 0xFF ∷ 0xEB ∷ 0xFE ∷ 0x00 ∷ []

abbrev pub announcement54 : Event Frame
announcement54 = frame (record { id = 0x1CECFF54; bytes = nine_bytes })

abbrev pub first54 : Event Frame
first54 = frame (record { id = 0x1CEBFF54; bytes = 0x01 ∷ 0x41 ∷ 0x43 ∷ 0x4D ∷ 0x45 ∷ 0x2A ∷ 0x58 ∷ 0x31 ∷ [] })

abbrev pub second54 : Event Frame
second54 = frame (record { id = 0x1CEBFF54; bytes = 0x02 ∷ 0x2A ∷ 0x39 ∷ 0xFF ∷ 0xFF ∷ 0xFF ∷ 0xFF ∷ 0xFF ∷ [] })

-- an announcement of so many bytes in so many packets, as 54h would send it
abbrev pub announced : ℕ → ℕ → ℕ → Told Meaning
announced low high packets = meaning_of 0x1CECFF54 (0x20 ∷ low ∷ high ∷ packets ∷ 0xFF ∷ 0xEB ∷ 0xFE ∷ 0x00 ∷ [])

abbrev pub eight_senders : List (Event Frame)
eight_senders =
    announcement_by 1 nine_bytes ∷ announcement_by 2 nine_bytes ∷ announcement_by 3 nine_bytes
    ∷ announcement_by 4 nine_bytes ∷ announcement_by 5 nine_bytes ∷ announcement_by 6 nine_bytes
    ∷ announcement_by 7 nine_bytes ∷ announcement_by 8 nine_bytes ∷ []

-- a node that holds 9Ch: it has claimed it and has waited
abbrev pub holding9_c : Claim
holding9_c = waited held_after (begun 1 (0x9C ∷ []))

-- its answer to 44h about a slide, SLIDE_COMMAND of instance 2, with code 3
abbrev pub slide_reply : Acknowledgment
slide_reply = record { code = 3; instance = 2; requester = 0x44; dgn = 0x1FFE7 }

-- The lines, each by a name.

-- (1) DM_RV, priority 6, source 54h
abbrev pub dm_rv : Line
dm_rv = line 1 (number (formed_of 6 0x1FECA 0x54)) (0 ∷ 0x19FECA54 ∷ [])

-- (2) lengths 8 and 9, announced and split

abbrev pub eight_announced : Line
eight_announced = line 2 (meaning (announced 8 0 2)) (7 ∷ [])

abbrev pub nine_announced : Line
nine_announced = line 2 (meaning (announced 9 0 2)) (0 ∷ 0x54 ∷ 9 ∷ 0xFEEB ∷ [])

abbrev pub eight_split : Line
eight_split = line 2 (bytes (announcement_of (replicate 8 0) 0xFEEB)) (13 ∷ [])

abbrev pub nine_split : Line
nine_split =
    line 2 (bytes (announcement_of (replicate 9 0) 0xFEEB)) (0 ∷ 0x20 ∷ 9 ∷ 0 ∷ 2 ∷ 0xFF ∷ 0xEB ∷ 0xFE ∷ 0 ∷ [])

-- (3) lengths 1,785 and 1,786, announced and split

abbrev pub longest_announced : Line
longest_announced = line 3 (meaning (announced 0xF9 0x06 255)) (0 ∷ 0x54 ∷ 1785 ∷ 0xFEEB ∷ [])

abbrev pub longer_announced : Line
longer_announced = line 3 (meaning (announced 0xFA 0x06 255)) (7 ∷ [])

abbrev pub longest_split : Line
longest_split =
    line 3 (bytes (announcement_of (replicate 1785 0) 0xFEEB))
    (0 ∷ 0x20 ∷ 0xF9 ∷ 0x06 ∷ 255 ∷ 0xFF ∷ 0xEB ∷ 0xFE ∷ 0 ∷ [])

abbrev pub longer_split : Line
longer_split = line 3 (bytes (announcement_of (replicate 1786 0) 0xFEEB)) (13 ∷ [])

-- (4) count 1 for 9 bytes
abbrev pub wrong_count : Line
wrong_count = line 4 (meaning (announced 9 0 1)) (7 ∷ [])

-- (5) idle 750 and 751: a pause closes none, or one

abbrev pub idle_kept : Line
idle_kept = line 5 (number (paused_answer 750 one_open)) (0 ∷ 0 ∷ [])

abbrev pub idle_closed : Line
idle_closed = line 5 (number (paused_answer 751 one_open)) (0 ∷ 1 ∷ [])

-- (6) a ninth sender
abbrev pub ninth_sender : Line
ninth_sender = line 6 (answers (told_of 9 (eight_senders ++ (announcement_by 9 nine_bytes ∷ [])))) (8 ∷ [])

-- (7) the long message
abbrev pub long_message : Line
long_message =
    line 7 (answers (told_of 0x54 (announcement54 ∷ pause 50 ∷ first54 ∷ pause 50 ∷ second54 ∷ [])))
    (0 ∷ 1 ∷ 0 ∷ 2 ∷ 0 ∷ 0x54 ∷ 0xFEEB ∷ 0x41 ∷ 0x43 ∷ 0x4D ∷ 0x45 ∷ 0x2A ∷ 0x58 ∷ 0x31 ∷ 0x2A ∷ 0x39 ∷ [])

-- (8) 8-bit 252 is a number, 253 reserved: how far below the greatest code the class stands, 3 for a number

abbrev pub last_number : Line
last_number = line 8 (below_greatest (class_at 8 252) ∷ []) (3 ∷ [])

abbrev pub first_reserved : Line
first_reserved = line 8 (below_greatest (class_at 8 253) ∷ []) (2 ∷ [])

-- (9) 16-bit amperes, 32000
abbrev pub zero_amperes : Line
zero_amperes = line 9 (signed (scaled_of Ampere 16 32000)) (0 ∷ 0 ∷ [])

-- (10) 8-bit °C, 0
abbrev pub lowest_celsius : Line
lowest_celsius = line 10 (signed (scaled_of Celsius 8 0)) (1 ∷ 1280 ∷ [])

-- (11) the acknowledgment of RULES 10.25
abbrev pub slide_acknowledged : Line
slide_acknowledged =
    line 11 (sent (acknowledged_of holding9_c slide_reply))
    (0 ∷ 0x18E8449C ∷ 0x03 ∷ 0x02 ∷ 0xFF ∷ 0xFF ∷ 0x44 ∷ 0xE7 ∷ 0xFF ∷ 0x01 ∷ [])

-- The one table. The crate `ledger` names its lines once more, so that one that is dropped here is missed there.
abbrev pub table : List Line
table =
    dm_rv ∷ eight_announced ∷ nine_announced ∷ eight_split ∷ nine_split ∷ longest_announced ∷ longer_announced ∷ longest_split
    ∷ longer_split ∷ wrong_count ∷ idle_kept ∷ idle_closed ∷ ninth_sender ∷ long_message ∷ last_number ∷ first_reserved
    ∷ zero_amperes ∷ lowest_celsius ∷ slide_acknowledged ∷ []

-- Each line is as printed.

infixr 5 ◌▸◌
pub data Agree : List Line → Type 0 where
  end : Agree []
  ◌▸◌ : {l : Line} {lines : List Line} → l.computed ≡ l.printed → Agree lines → Agree (l ∷ lines)

abbrev pub AllAsPrinted : Type 0
AllAsPrinted = Agree table
