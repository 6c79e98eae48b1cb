-- The machine of one key alone: no places, at most one open session (RULES 4.14 and 12.22).
use Rattle.std.specs.Prelude.{Bool, false, List, [], ◌∷◌, ℕ}
use Rattle.std.proofs.Math.Option.{Option, some, none}
use Rattle.places.specs.Format.{Asks, fixed, opens, finishes, feeds, Fed, goes, ends, Format, is_none}
use Rattle.places.specs.Format.{Event, frame, pause, Step, step}

module _ (𝓕 : Format) where
  abbrev pub fed_alone : Fed 𝓕.Session 𝓕.Answer → Step (Option 𝓕.Session) 𝓕.Answer
  fed_alone (goes s a) = step (some s) a
  fed_alone (ends a) = step none a

  -- a packet, where a session is open and where none is
  abbrev pub packet_alone : 𝓕.Data → 𝓕.Answer → Option 𝓕.Session → Step (Option 𝓕.Session) 𝓕.Answer
  packet_alone d a none = step none a
  packet_alone d a (some s) = fed_alone (𝓕.feed s d)

  -- an opening drops what was open
  abbrev pub asked_alone :
      Asks 𝓕.Session 𝓕.Data 𝓕.Answer → Option 𝓕.Session → Step (Option 𝓕.Session) 𝓕.Answer
  asked_alone (fixed a) m = step m a
  asked_alone (opens s a) m = step (some s) a
  asked_alone (finishes a) m = step none a
  asked_alone (feeds d a) m = packet_alone d a m

  abbrev pub hear_alone : 𝓕.Frame → Option 𝓕.Session → Step (Option 𝓕.Session) 𝓕.Answer
  hear_alone f m = asked_alone (𝓕.asks f) m

  abbrev pub pause_alone : ℕ → Option 𝓕.Session → Option 𝓕.Session
  pause_alone ms none = none
  pause_alone ms (some s) = 𝓕.wait ms s

  -- the pause closes it: a session is open, and the pause leaves none
  abbrev pub closes_alone : ℕ → Option 𝓕.Session → Bool
  closes_alone ms none = false
  closes_alone ms (some s) = is_none (𝓕.wait ms s)

  -- every answer of a run
  abbrev pub solo : Option 𝓕.Session → List (Event 𝓕.Frame) → List 𝓕.Answer
  solo m [] = []
  solo m (frame f ∷ es) = (hear_alone f m).answer ∷ solo (hear_alone f m).next es
  solo m (pause ms ∷ es) = solo (pause_alone ms m) es

  -- the session that a run leaves open
  abbrev pub open_after : Option 𝓕.Session → List (Event 𝓕.Frame) → Option 𝓕.Session
  open_after m [] = m
  open_after m (frame f ∷ es) = open_after (hear_alone f m).next es
  open_after m (pause ms ∷ es) = open_after (pause_alone ms m) es
