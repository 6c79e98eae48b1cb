-- The history of a claim (RULES 8.5 to 8.11): what it heard and waited, and what each of that was to it.
use Rattle.std.specs.Prelude.{List, [], ◌∷◌, ℕ, ◌+◌}
use Rattle.claim.specs.Claim.{Outcome, nothing_to_do, own_name, repeated, moved, fell_silent, outcome_of, after, pause}
use Rattle.claim.specs.declared.Claim.{Claim}

-- what comes to a claim: a claim heard, with its source and NAME, or a pause in milliseconds
pub data Event : Type 0 where
  heard : ℕ → ℕ → Event
  paused : ℕ → Event

unfoldable pub step : Claim → Event → Claim
step c (heard source name) = after (outcome_of source name c) c
step c (paused ms) = pause ms c

abbrev pub run : Claim → List Event → Claim
run c [] = c
run c (e ∷ es) = run (step c e) es

-- an event as it went: every contest won, lost and equal, and every pause
pub data Mark : Type 0 where
  met : Outcome → Mark
  passed : ℕ → Mark

unfoldable pub mark_of : Claim → Event → Mark
mark_of c (heard source name) = met (outcome_of source name c)
mark_of c (paused ms) = passed ms

abbrev pub history : Claim → List Event → List Mark
history c [] = []
history c (e ∷ es) = mark_of c e ∷ history (step c e) es

-- the milliseconds waited since the last lost contest, or since the beginning, before which there were `ms`;
-- a contest won does not restart them
unfoldable pub waited_after : ℕ → Mark → ℕ
waited_after ms (met nothing_to_do) = ms
waited_after ms (met own_name) = ms
waited_after ms (met repeated) = ms
waited_after ms (met moved) = 0
waited_after ms (met fell_silent) = 0
waited_after ms (passed more) = ms + more

abbrev pub waited_since : ℕ → List Mark → ℕ
waited_since ms [] = ms
waited_since ms (m ∷ ms') = waited_since (waited_after ms m) ms'

-- a contest lost gives up one address, whether another is left or none; nothing else does
unfoldable pub loss_of : Outcome → ℕ
loss_of nothing_to_do = 0
loss_of own_name = 0
loss_of repeated = 0
loss_of moved = 1
loss_of fell_silent = 1

-- a contest won is one repeat of our claim
unfoldable pub repeat_of : Outcome → ℕ
repeat_of nothing_to_do = 0
repeat_of own_name = 0
repeat_of repeated = 1
repeat_of moved = 0
repeat_of fell_silent = 0

-- the contests lost in a history
abbrev pub losses_in : List Mark → ℕ
losses_in [] = 0
losses_in (met outcome ∷ marks) = loss_of outcome + losses_in marks
losses_in (passed ms ∷ marks) = losses_in marks
