-- Places: each is free, or held by one key with its session (RULES 5.1 to 5.8 and 12.11).
use Rattle.std.specs.Prelude.{Bool, true, false, List, [], ◌∷◌, map, ℕ, replicate, if◌then◌else◌}
use Rattle.std.proofs.Math.Option.{Option, some, none}
use Rattle.words.specs.Words.{◌=?◌, Told, gives}
use Rattle.words.specs.Lists.{count, Distinct}
use Rattle.places.specs.Format.{Asks, fixed, opens, finishes, feeds, Fed, goes, ends, Format, is_none}
use Rattle.places.specs.Format.{Event, frame, pause, Step, step}

pub data Place (S : Type 0) : Type 0 where
  free : Place S
  held : ℕ → S → Place S

-- each format has eight places
abbrev pub place_count : ℕ
place_count = 8

-- `full`: an opening found no place
pub data Out (A : Type 0) : Type 0 where
  full : Out A
  said : A → Out A

-- What happened in a run, as it was told: a frame with its answer; a pause, in milliseconds, with how many sessions it
-- closed, or the refusal.
pub data Happened (F A : Type 0) : Type 0 where
  heard : F → Out A → Happened F A
  paused : ℕ → Told ℕ → Happened F A

-- the session of k, if it has a place
abbrev pub lookup : {S : Type 0} → ℕ → List (Place S) → Option S
lookup k [] = none
lookup k (free ∷ ps) = lookup k ps
lookup k (held j s ∷ ps) = if j =? k then some s else lookup k ps

abbrev pub keyed : {S : Type 0} → ℕ → Option S → Place S
keyed k none = free
keyed k (some s) = held k s

-- the place of k with another session of k, or freed
abbrev pub update : {S : Type 0} → ℕ → Option S → List (Place S) → List (Place S)
update k m [] = []
update k m (free ∷ ps) = free ∷ update k m ps
update k m (held j s ∷ ps) = if j =? k then keyed k m ∷ ps else held j s ∷ update k m ps

abbrev pub any_free : {S : Type 0} → List (Place S) → Bool
any_free [] = false
any_free (free ∷ ps) = true
any_free (held j s ∷ ps) = any_free ps

-- the lowest free place taken
abbrev pub take_lowest : {S : Type 0} → ℕ → S → List (Place S) → List (Place S)
take_lowest k s [] = []
take_lowest k s (free ∷ ps) = held k s ∷ ps
take_lowest k s (held j t ∷ ps) = held j t ∷ take_lowest k s ps

-- the keys that hold a place
abbrev pub keys_of : {S : Type 0} → List (Place S) → List ℕ
keys_of [] = []
keys_of (free ∷ ps) = keys_of ps
keys_of (held j s ∷ ps) = j ∷ keys_of ps

-- no key has two places
abbrev pub OnePlaceEach : {S : Type 0} → List (Place S) → Type 0
OnePlaceEach ps = Distinct (keys_of ps)

module _ (𝓕 : Format) where
  abbrev pub Places : Type 0
  Places = List (Place 𝓕.Session)

  -- an opening takes its key's place, or else the lowest free one
  abbrev pub hears_opening : ℕ → 𝓕.Session → 𝓕.Answer → Places → Option 𝓕.Session → Step Places (Out 𝓕.Answer)
  hears_opening k s a ps (some t) = step (update k (some s) ps) (said a)
  hears_opening k s a ps none = if any_free ps then step (take_lowest k s ps) (said a) else step ps full

  -- one that finishes at once needs a place too, and leaves it free
  abbrev pub hears_whole : ℕ → 𝓕.Answer → Places → Option 𝓕.Session → Step Places (Out 𝓕.Answer)
  hears_whole k a ps (some t) = step (update k none ps) (said a)
  hears_whole k a ps none = if any_free ps then step ps (said a) else step ps full

  -- a packet of a session does to the key's place what it does to the session
  abbrev pub after_packet : ℕ → Places → Fed 𝓕.Session 𝓕.Answer → Step Places (Out 𝓕.Answer)
  after_packet k ps (goes s a) = step (update k (some s) ps) (said a)
  after_packet k ps (ends a) = step (update k none ps) (said a)

  -- a packet, where the key has no session open and where it has
  abbrev pub hears_packet : ℕ → 𝓕.Data → 𝓕.Answer → Places → Option 𝓕.Session → Step Places (Out 𝓕.Answer)
  hears_packet k d a ps none = step ps (said a)
  hears_packet k d a ps (some s) = after_packet k ps (𝓕.feed s d)

  abbrev pub asked : ℕ → Asks 𝓕.Session 𝓕.Data 𝓕.Answer → Places → Step Places (Out 𝓕.Answer)
  asked k (fixed a) ps = step ps (said a)
  asked k (opens s a) ps = hears_opening k s a ps (lookup k ps)
  asked k (finishes a) ps = hears_whole k a ps (lookup k ps)
  asked k (feeds d a) ps = hears_packet k d a ps (lookup k ps)

  abbrev pub hear : 𝓕.Frame → Places → Step Places (Out 𝓕.Answer)
  hear f ps = asked (𝓕.key f) (𝓕.asks f) ps

  -- a pause, at one place and at all
  abbrev pub rest : ℕ → Place 𝓕.Session → Place 𝓕.Session
  rest ms free = free
  rest ms (held k s) = keyed k (𝓕.wait ms s)

  abbrev pub pass : ℕ → Places → Places
  pass ms ps = map (rest ms) ps

  -- the places that a pause frees, and how many
  abbrev pub closes : ℕ → Place 𝓕.Session → Bool
  closes ms free = false
  closes ms (held k s) = is_none (𝓕.wait ms s)

  abbrev pub closed_by : ℕ → Places → ℕ
  closed_by ms ps = count (closes ms) ps

  -- at the start: eight places, all free
  abbrev pub eight_free : Places
  eight_free = replicate place_count free

  -- the places after a run
  abbrev pub after : Places → List (Event 𝓕.Frame) → Places
  after ps [] = ps
  after ps (frame f ∷ es) = after (hear f ps).next es
  after ps (pause ms ∷ es) = after (pass ms ps) es

  -- a history: everything that happened in a run
  abbrev pub History : Type 0
  History = List (Happened 𝓕.Frame 𝓕.Answer)

  -- the history of a run
  abbrev pub run : Places → List (Event 𝓕.Frame) → History
  run ps [] = []
  run ps (frame f ∷ es) = heard f (hear f ps).answer ∷ run (hear f ps).next es
  run ps (pause ms ∷ es) = paused ms (gives (closed_by ms ps)) ∷ run (pass ms ps) es

  -- its frames and pauses alone
  abbrev pub events_of : History → List (Event 𝓕.Frame)
  events_of [] = []
  events_of (heard f o ∷ h) = frame f ∷ events_of h
  events_of (paused ms n ∷ h) = pause ms ∷ events_of h

  -- what k was told
  abbrev pub told_to : ℕ → History → List (Out 𝓕.Answer)
  told_to k [] = []
  told_to k (heard f o ∷ h) = if 𝓕.key f =? k then o ∷ told_to k h else told_to k h
  told_to k (paused ms n ∷ h) = told_to k h

  -- the events that a key sees: its own frames, and every pause
  abbrev pub only : ℕ → List (Event 𝓕.Frame) → List (Event 𝓕.Frame)
  only k [] = []
  only k (frame f ∷ es) = if 𝓕.key f =? k then frame f ∷ only k es else only k es
  only k (pause ms ∷ es) = pause ms ∷ only k es

  -- the same without its openings that found no place
  abbrev pub admitted : ℕ → History → List (Event 𝓕.Frame)
  admitted k [] = []
  admitted k (heard f full ∷ h) = admitted k h
  admitted k (heard f (said a) ∷ h) = if 𝓕.key f =? k then frame f ∷ admitted k h else admitted k h
  admitted k (paused ms n ∷ h) = pause ms ∷ admitted k h

-- no opening found all places held
abbrev pub NeverFull : {A : Type 0} → List (Out A) → Type 0
NeverFull [] = Unit {0}
NeverFull (full ∷ os) = ⊥
NeverFull (said a ∷ os) = NeverFull os

-- what was told, without the openings that found no place
abbrev pub answered : {A : Type 0} → List (Out A) → List A
answered [] = []
answered (full ∷ os) = answered os
answered (said a ∷ os) = a ∷ answered os
