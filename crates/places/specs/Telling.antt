-- What a receiver tells of a frame that is not refused, in every format whose messages have a sender and a DGN (RULES
-- 4.13, 5.9, 5.10 and 12.16): there is nothing to do, a message was opened, a part of it was stored, or it is finished.
use Rattle.std.specs.Prelude.{List, [], ℕ, ◌*◌, take, drop, if◌then◌else◌}
use Rattle.words.specs.Words.{◌<?◌, ◌≤?◌, ◌=?◌, ◌or◌, Told, refused, gives}
use Rattle.places.specs.Places.{Out, full, said, place_count}

-- M is what is said of a finished message
pub data Telling (M : Type 0) : Type 0 where
  nothing_to_do : Telling M
  opened : Telling M
  stored : Telling M
  finished : M → Telling M

-- a whole message
pub record Whole : Type 0 where
  pub sender : ℕ
  pub dgn : ℕ
  pub bytes : List ℕ

-- one that stands in a place's stretch of the storage
pub record WholeAt : Type 0 where
  pub place : ℕ
  pub sender : ℕ
  pub dgn : ℕ
  pub size : ℕ

-- what the rules of one key tell, and what a call tells
abbrev pub Tells : Type 0
Tells = Telling Whole

abbrev pub Outcome : Type 0
Outcome = Telling WholeAt

-- the message that a call tells of: that part of the storage, and empty where no message was finished, or no such
-- answer is ever given
abbrev pub part_at : ℕ → List ℕ → ℕ → ℕ → List ℕ
part_at stride storage place size =
    if (place_count ≤? place) or (stride <? size) then [] else take size (drop (stride * place) storage)

abbrev pub message_at : ℕ → List ℕ → Told Outcome → List ℕ
message_at stride storage (refused n) = []
message_at stride storage (gives nothing_to_do) = []
message_at stride storage (gives opened) = []
message_at stride storage (gives stored) = []
message_at stride storage (gives (finished m)) = part_at stride storage m.place m.size

-- A call's answer as the rules tell it, once the message is read: refusal 8 is `full`, any other refusal its number; of
-- a finished message the sender, the DGN, and the message that is read then.
abbrev pub tells : List ℕ → Told Outcome → Out (Told Tells)
tells message (refused n) = if n =? 8 then full else said (refused n)
tells message (gives nothing_to_do) = said (gives nothing_to_do)
tells message (gives opened) = said (gives opened)
tells message (gives stored) = said (gives stored)
tells message (gives (finished m)) =
    said (gives (finished (record { sender = m.sender; dgn = m.dgn; bytes = message })))
