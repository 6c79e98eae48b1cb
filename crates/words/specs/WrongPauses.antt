-- Pauses that do not add up, each refused by the statement of Pauses.antt itself, and one that does. What waits is the
-- smallest thing that can: one message, open with the milliseconds that it has been idle, or closed. Above 750 ms a
-- pause closes it, and answers 1; an idle time above 750 ms is refused with 2. proofs/WrongPauses.antt has the proofs.
use Rattle.std.specs.Prelude.{◌≡◌, Bool, true, ℕ, ◌+◌, ◌%◌, ◌^◌, min, if◌then◌else◌}
use Rattle.std.proofs.Math.Option.{Option, some, none}
use Rattle.words.specs.Words.{◌<?◌, ◌≤?◌, Told, refused, gives}
use Rattle.words.specs.Pauses.{PauseCall, AddUp}

-- what is open, and how long it has been idle
abbrev pub Waiting : Type 0
Waiting = Option ℕ

abbrev pub is_within : Waiting → Bool
is_within none = true
is_within (some idle) = idle ≤? 750

-- a call that leaves `next` and answers `number`
pub record Does (next : ℕ → Waiting → Waiting) (number : ℕ → Waiting → ℕ) (s : Waiting) (ms : ℕ) (told : Told ℕ)
    (t : Waiting) : Type 0 where
  pub told_so : told ≡ (if is_within s then gives (number ms s) else refused 2)
  pub left : t ≡ (if is_within s then next ms s else s)

abbrev pub call : (ℕ → Waiting → Waiting) → (ℕ → Waiting → ℕ) → PauseCall
call next number = record { State = Waiting; Keeps = λ s. is_within s ≡ true; Pauses = Does next number }

-- the message after its idle time has come to so much, and how many are closed then
abbrev pub idle_for : ℕ → Waiting
idle_for sum = if 750 <? sum then none else some sum

abbrev pub closed_at : ℕ → ℕ
closed_at sum = if 750 <? sum then 1 else 0

-- The right one: idle time adds up.

abbrev pub idles : ℕ → Waiting → Waiting
idles ms none = none
idles ms (some idle) = idle_for (idle + ms)

abbrev pub closed : ℕ → Waiting → ℕ
closed ms none = 0
closed ms (some idle) = closed_at (idle + ms)

abbrev pub IdleAddsUp : Type 0
IdleAddsUp = AddUp (call idles closed)

-- Each pause restarts the sum: whoever pauses often never closes anything.

abbrev pub restarts : ℕ → Waiting → Waiting
restarts ms none = none
restarts ms (some idle) = idle_for ms

abbrev pub closed_anew : ℕ → Waiting → ℕ
closed_anew ms none = 0
closed_anew ms (some idle) = closed_at ms

abbrev pub RestartsDoNot : Type 0
RestartsDoNot = AddUp (call restarts closed_anew) → ⊥

-- The idle time is capped and nothing is closed, but for a pause that is too long by itself: 400 and 400 ms leave the
-- message open that 800 ms close.

abbrev pub capped : ℕ → Waiting → Waiting
capped ms none = none
capped ms (some idle) = if 750 <? ms then none else some (min 750 (idle + ms))

abbrev pub CappedDoNot : Type 0
CappedDoNot = AddUp (call capped closed_anew) → ⊥

-- The sum wraps at 16 bits: a message that has been idle for 1 ms is open after a pause of 65,535 ms, and closed after
-- one of 760 ms and one of 64,775 ms.

abbrev pub wraps : ℕ → Waiting → Waiting
wraps ms none = none
wraps ms (some idle) = idle_for ((idle + ms) % 2 ^ 16)

abbrev pub closed_wrapped : ℕ → Waiting → ℕ
closed_wrapped ms none = 0
closed_wrapped ms (some idle) = closed_at ((idle + ms) % 2 ^ 16)

abbrev pub WrapsDoNot : Type 0
WrapsDoNot = AddUp (call wraps closed_wrapped) → ⊥

-- Places are counted in place of closed ones: a message that is open is told at each pause.

abbrev pub places_held : ℕ → Waiting → ℕ
places_held ms none = 0
places_held ms (some idle) = 1

abbrev pub PlacesDoNot : Type 0
PlacesDoNot = AddUp (call idles places_held) → ⊥
