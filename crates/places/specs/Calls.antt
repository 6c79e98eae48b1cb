-- Runs of calls (RULES 13.6): a receiver told by nothing but the promises of its calls, each handed the state and the
-- storage that the one before it left; and the statements of Statements.antt over such runs, so that they hold of the
-- calls and not only of a definition. A format's receiver is an instance: it copies no definition of runs.
-- proofs/Calls.antt has a proof of each for all calls that keep to their places.
use Rattle.std.specs.Prelude.{◌≡◌, true, List, [], ◌∷◌, ◌↔◌, ℕ, length}
use Rattle.std.proofs.Math.Option.{none}
use Rattle.words.specs.Words.{Told, gives}
use Rattle.places.specs.Format.{Format, Event}
use Rattle.places.specs.OneKey.{pause_alone, solo}
use Rattle.places.specs.Places.{Out, full, heard, paused, lookup, OnePlaceEach, place_count}
use Rattle.places.specs.Places.{Places, hear, pass, closed_by, eight_free, History, events_of, told_to}
use Rattle.places.specs.Places.{admitted, NeverFull, answered}
use Rattle.places.specs.Statements.{on_quiet_bus, open_by_rules, is_opening, closed_alone}
use Rattle.places.specs.Statements.{EightOthersOpen, ClosedByRules, EightOthers, Pausing, spacing}

-- The calls of a receiver of a format: the states in which it starts, those that keep their rules, and which answer and
-- which state after it the promise of a call allows.
pub record Calls (𝓕 : Format) : Type 1 where
  pub State : Type 0  -- the lent storage with it
  pub Starts : State → Type 0
  pub Kept : State → Type 0
  pub Hears : State → 𝓕.Frame → Out 𝓕.Answer → State → Type 0
  pub Pauses : State → ℕ → Told ℕ → State → Type 0
  pub seen : State → Places 𝓕  -- what it has open, as places

-- A run of calls from one state to another, and its history.
pub data Ran {𝓕 : Format} (𝓒 : Calls 𝓕) : 𝓒.State → History 𝓕 → 𝓒.State → Type 0 where
  no_call : (s : 𝓒.State) → Ran 𝓒 s [] s
  a_frame : (s t end : 𝓒.State) (f : 𝓕.Frame) (o : Out 𝓕.Answer) (h : History 𝓕)
      → 𝓒.Hears s f o t → Ran 𝓒 t h end → Ran 𝓒 s (heard f o ∷ h) end
  a_pause : (s t end : 𝓒.State) (ms : ℕ) (n : Told ℕ) (h : History 𝓕)
      → 𝓒.Pauses s ms n t → Ran 𝓒 t h end → Ran 𝓒 s (paused ms n ∷ h) end

module _ {𝓕 : Format} (𝓒 : Calls 𝓕) where
  -- A run from the start, with its history: what every statement below is about. What has happened before any call of a
  -- run is such a run.
  pub record FromStart (h : History 𝓕) (s : 𝓒.State) : Type 0 where
    pub first : 𝓒.State
    pub starts : 𝓒.Starts first
    pub ran : Ran 𝓒 first h s

  -- A busy bus reads like a quiet one: a key that never met "no place free" is told what the machine of that key alone
  -- tells on its own frames and all the pauses.
  abbrev pub BusyBus : Type 0
  BusyBus =
      (h : History 𝓕) (s : 𝓒.State) → FromStart h s → (k : ℕ) → NeverFull (told_to 𝓕 k h)
      → told_to 𝓕 k h ≡ on_quiet_bus 𝓕 k (events_of 𝓕 h)

  -- For every key, what is open is what the rules give on that key's frames without those that met "no place free", and
  -- all the pauses;
  abbrev pub OpenOnBus : Type 0
  OpenOnBus = (h : History 𝓕) (s : 𝓒.State) → FromStart h s → (k : ℕ) → lookup k (𝓒.seen s) ≡ open_by_rules 𝓕 k h

  -- and so is what is told.
  abbrev pub ToldOnBus : Type 0
  ToldOnBus =
      (h : History 𝓕) (s : 𝓒.State) → FromStart h s → (k : ℕ) → answered (told_to 𝓕 k h) ≡ solo 𝓕 none (admitted 𝓕 k h)

  -- After any run an opening meets "no place free" exactly when the rules have eight others open; and nothing else ever
  -- does.
  abbrev pub NoPlaceFree : Type 0
  NoPlaceFree =
      (h : History 𝓕) (s t : 𝓒.State) (f : 𝓕.Frame) (o : Out 𝓕.Answer) → FromStart h s → 𝓒.Hears s f o t
      → (o ≡ full) ↔ ((is_opening (𝓕.asks f) ≡ true) × EightOthersOpen 𝓕 (𝓕.key f) h)

  -- After any run a pause is never refused: it answers a number, and that is how many keys the rules close in it.
  abbrev pub PauseCount : Type 0
  PauseCount =
      (h : History 𝓕) (s t : 𝓒.State) (ms : ℕ) (told : Told ℕ) → FromStart h s → 𝓒.Pauses s ms told t
      → (n : ℕ) × (told ≡ gives n) × ClosedByRules 𝓕 ms n h

  -- Two runs with the same frames of k, without those that met "no place free", and equal sums of pauses between them
  -- tell k the same;
  abbrev pub SumsTold : Type 0
  SumsTold =
      (h h' : History 𝓕) (s s' : 𝓒.State) → FromStart h s → FromStart h' s' → (k : ℕ)
      → spacing (admitted 𝓕 k h) ≡ spacing (admitted 𝓕 k h') → answered (told_to 𝓕 k h) ≡ answered (told_to 𝓕 k h')

  -- where the format's pauses add up.
  abbrev pub SumsOnBus : Type 1
  SumsOnBus = Pausing 𝓕 → SumsTold

  -- A state that keeps its rules leads to one that keeps them, and the start keeps them.
  abbrev pub RulesKept : Type 0
  RulesKept = (h : History 𝓕) (s t : 𝓒.State) → 𝓒.Kept s → Ran 𝓒 s h t → 𝓒.Kept t

  abbrev pub StartKept : Type 0
  StartKept = (s : 𝓒.State) → 𝓒.Starts s → 𝓒.Kept s

  -- Whatever frames and pauses come, there is a run of calls with just these: what is said of runs is not said of
  -- nothing.
  abbrev pub EveryRunRuns : Type 0
  EveryRunRuns =
      (s : 𝓒.State) → 𝓒.Kept s → (events : List (Event 𝓕.Frame))
      → (h : History 𝓕) × (t : 𝓒.State) × Ran 𝓒 s h t × (events_of 𝓕 h ≡ events)

  -- At any state that keeps its rules, however it came about: full exactly when the eight places are held by eight
  -- others;
  abbrev pub FullAtAnyState : Type 0
  FullAtAnyState =
      (s t : 𝓒.State) (f : 𝓕.Frame) (o : Out 𝓕.Answer) → 𝓒.Kept s → 𝓒.Hears s f o t
      → (o ≡ full) ↔ ((is_opening (𝓕.asks f) ≡ true) × EightOthers (𝓕.key f) (𝓒.seen s))

  -- and a pause answers how many of the keys that hold a place their own machine closes, and leaves each key the
  -- session that its machine has after the pause.
  pub record PauseAt (s t : 𝓒.State) (ms : ℕ) (told : Told ℕ) : Type 0 where
    pub number : told ≡ gives (closed_alone 𝓕 ms (𝓒.seen s))
    pub sessions : (k : ℕ) → lookup k (𝓒.seen t) ≡ pause_alone 𝓕 ms (lookup k (𝓒.seen s))

  abbrev pub PauseAtAnyState : Type 0
  PauseAtAnyState = (s t : 𝓒.State) (ms : ℕ) (told : Told ℕ) → 𝓒.Kept s → 𝓒.Pauses s ms told t → PauseAt s t ms told

-- Calls that keep to their places: from a state that keeps its rules each answers what the places answer, and leaves
-- what they leave; and each has an answer. Whoever shows this of the calls of a format has all the statements above.
pub record KeepsPlaces {𝓕 : Format} (𝓒 : Calls 𝓕) : Type 1 where
  pub eight : (s : 𝓒.State) → 𝓒.Kept s → length (𝓒.seen s) ≡ place_count
  pub each : (s : 𝓒.State) → 𝓒.Kept s → OnePlaceEach (𝓒.seen s)
  pub starts_kept : (s : 𝓒.State) → 𝓒.Starts s → 𝓒.Kept s
  pub starts_free : (s : 𝓒.State) → 𝓒.Starts s → 𝓒.seen s ≡ eight_free 𝓕
  pub hears_kept : (s t : 𝓒.State) (f : 𝓕.Frame) (o : Out 𝓕.Answer) → 𝓒.Kept s → 𝓒.Hears s f o t → 𝓒.Kept t
  pub hears_seen :
      (s t : 𝓒.State) (f : 𝓕.Frame) (o : Out 𝓕.Answer) → 𝓒.Kept s → 𝓒.Hears s f o t
      → 𝓒.seen t ≡ (hear 𝓕 f (𝓒.seen s)).next
  pub hears_told :
      (s t : 𝓒.State) (f : 𝓕.Frame) (o : Out 𝓕.Answer) → 𝓒.Kept s → 𝓒.Hears s f o t
      → o ≡ (hear 𝓕 f (𝓒.seen s)).answer
  pub hears_some : (s : 𝓒.State) (f : 𝓕.Frame) → 𝓒.Kept s → (o : Out 𝓕.Answer) × (t : 𝓒.State) × 𝓒.Hears s f o t
  pub pauses_kept : (s t : 𝓒.State) (ms : ℕ) (n : Told ℕ) → 𝓒.Kept s → 𝓒.Pauses s ms n t → 𝓒.Kept t
  pub pauses_seen :
      (s t : 𝓒.State) (ms : ℕ) (n : Told ℕ) → 𝓒.Kept s → 𝓒.Pauses s ms n t → 𝓒.seen t ≡ pass 𝓕 ms (𝓒.seen s)
  pub pauses_told :
      (s t : 𝓒.State) (ms : ℕ) (n : Told ℕ) → 𝓒.Kept s → 𝓒.Pauses s ms n t → n ≡ gives (closed_by 𝓕 ms (𝓒.seen s))
  pub pauses_some : (s : 𝓒.State) (ms : ℕ) → 𝓒.Kept s → (n : Told ℕ) × (t : 𝓒.State) × 𝓒.Pauses s ms n t
