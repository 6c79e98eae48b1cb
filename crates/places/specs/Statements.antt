-- What holds of places, for every packet format, each a named statement (RULES 13.3 to 13.5, the third demand on the
-- receiver: no sender is disturbed by others). proofs/Steps.antt and Statements.antt have a proof of each, under the
-- same name written small.
use Rattle.std.specs.Prelude.{◌≡◌, Bool, true, false, List, [], ◌∷◌, map, ◌↔◌, ◌≢◌, ℕ, ◌+◌, length}
use Rattle.std.proofs.Math.Option.{Option, some, none}
use Rattle.places.specs.Format.{Asks, fixed, opens, finishes, feeds, goes, Format, Event, frame, pause, Step}
use Rattle.places.specs.OneKey.{hear_alone, pause_alone, closes_alone, solo, open_after}
use Rattle.words.specs.Lists.{count, Absent, Distinct}
use Rattle.places.specs.Places.{Place, free, held, Out, full, said, lookup, keys_of, OnePlaceEach, place_count}
use Rattle.places.specs.Places.{Places, hear, pass, closed_by, eight_free, after, History, run, told_to}
use Rattle.places.specs.Places.{only, admitted, NeverFull, answered}

-- One step of the places, against the machine of k alone: the same answer and session, unless full; then nothing
-- changes. No other key's session is touched, no key gets a second place, and there are as many places as before.
pub record StepAgrees {S A : Type 0} (k : ℕ) (ps : List (Place S)) (busy : Step (List (Place S)) (Out A))
    (quiet : Step (Option S) A) : Type 0 where
  pub answered : busy.answer ≢ full → busy.answer ≡ said quiet.answer
  pub session : busy.answer ≢ full → lookup k busy.next ≡ quiet.next
  pub full_keeps : busy.answer ≡ full → busy.next ≡ ps
  pub others : (j : ℕ) → j ≢ k → lookup j busy.next ≡ lookup j ps
  pub one_each : OnePlaceEach busy.next
  pub as_many : length busy.next ≡ length ps

abbrev pub OneStep : Format → Type 0
OneStep 𝓕 =
    (f : 𝓕.Frame) (ps : Places 𝓕) → OnePlaceEach ps
    → StepAgrees (𝓕.key f) ps (hear 𝓕 f ps) (hear_alone 𝓕 f (lookup (𝓕.key f) ps))

-- of the keys that hold a place, as many as the machine of that key alone closes in a pause
abbrev pub closed_alone : (𝓕 : Format) → ℕ → Places 𝓕 → ℕ
closed_alone 𝓕 ms ps = count (λ k. closes_alone 𝓕 ms (lookup k ps)) (keys_of ps)

-- One pause: each key's session is what the machine of that key alone has after it, and as many places are freed as
-- there are keys whose machine closes.
pub record PauseClosesAt (𝓕 : Format) (ms : ℕ) (ps : Places 𝓕) : Type 0 where
  pub session : (k : ℕ) → lookup k (pass 𝓕 ms ps) ≡ pause_alone 𝓕 ms (lookup k ps)
  pub closed : closed_by 𝓕 ms ps ≡ closed_alone 𝓕 ms ps

abbrev pub PauseCloses : Format → Type 0
PauseCloses 𝓕 = (ms : ℕ) (ps : Places 𝓕) → OnePlaceEach ps → PauseClosesAt 𝓕 ms ps

-- A run keeps the number of places, and that no key has two.
abbrev pub RunKeeps : Format → Type 0
RunKeeps 𝓕 =
    (ps : Places 𝓕) (events : List (Event 𝓕.Frame)) → OnePlaceEach ps
    → (length (after 𝓕 ps events) ≡ length ps) × OnePlaceEach (after 𝓕 ps events)

-- On a bus with others: the history of a run from eight free places.
abbrev pub on_busy_bus : (𝓕 : Format) → List (Event 𝓕.Frame) → History 𝓕
on_busy_bus 𝓕 events = run 𝓕 (eight_free 𝓕) events

-- On a bus of its own, with the same pauses: what k is told by the machine of one key.
abbrev pub on_quiet_bus : (𝓕 : Format) → ℕ → List (Event 𝓕.Frame) → List (Out 𝓕.Answer)
on_quiet_bus 𝓕 k events = map said (solo 𝓕 none (only 𝓕 k events))

-- What the machine of one key has open for k after a history, on k's frames without those that found no place, and all
-- the pauses. It knows of no places: what is open is what was heard on the bus.
abbrev pub open_by_rules : (𝓕 : Format) → ℕ → History 𝓕 → Option 𝓕.Session
open_by_rules 𝓕 k h = open_after 𝓕 none (admitted 𝓕 k h)

-- What is open is what the rules say, for every key, one that found no place too.
abbrev pub OpenAsRules : Format → Type 0
OpenAsRules 𝓕 =
    (k : ℕ) (events : List (Event 𝓕.Frame))
    → lookup k (after 𝓕 (eight_free 𝓕) events) ≡ open_by_rules 𝓕 k (on_busy_bus 𝓕 events)

-- So is what is told.
abbrev pub ToldAsRules : Format → Type 0
ToldAsRules 𝓕 =
    (k : ℕ) (events : List (Event 𝓕.Frame))
    → answered (told_to 𝓕 k (on_busy_bus 𝓕 events)) ≡ solo 𝓕 none (admitted 𝓕 k (on_busy_bus 𝓕 events))

-- The same from any places, from the session that k has there.
pub record AsRulesFrom (𝓕 : Format) (ps : Places 𝓕) (k : ℕ) (events : List (Event 𝓕.Frame)) : Type 0 where
  pub open_as_rules : lookup k (after 𝓕 ps events) ≡ open_after 𝓕 (lookup k ps) (admitted 𝓕 k (run 𝓕 ps events))
  pub told_as_rules : answered (told_to 𝓕 k (run 𝓕 ps events)) ≡ solo 𝓕 (lookup k ps) (admitted 𝓕 k (run 𝓕 ps events))

abbrev pub AsRulesFromAny : Format → Type 0
AsRulesFromAny 𝓕 =
    (ps : Places 𝓕) (k : ℕ) (events : List (Event 𝓕.Frame)) → OnePlaceEach ps → AsRulesFrom 𝓕 ps k events

-- A busy bus is as a quiet one, for a key none of whose openings found all places held.
abbrev pub BusyAsQuiet : Format → Type 0
BusyAsQuiet 𝓕 =
    (k : ℕ) (events : List (Event 𝓕.Frame))
    → NeverFull (told_to 𝓕 k (on_busy_bus 𝓕 events)) → told_to 𝓕 k (on_busy_bus 𝓕 events) ≡ on_quiet_bus 𝓕 k events

-- openings, with those that finish at once
abbrev pub is_opening : {S D A : Type 0} → Asks S D A → Bool
is_opening (fixed a) = false
is_opening (opens s a) = true
is_opening (finishes a) = true
is_opening (feeds d a) = false

-- Eight keys, all different and none of them k, and the rules have a session open for each.
pub record EightOthersOpen (𝓕 : Format) (k : ℕ) (h : History 𝓕) : Type 0 where
  pub others : List ℕ
  pub eight : length others ≡ place_count
  pub different : Distinct (k ∷ others)
  pub all_open : (j : ℕ) → open_by_rules 𝓕 j h ≡ none → Absent j others

-- A frame is answered `full` exactly when it is an opening and the rules have eight others open, at any time of a run.
abbrev pub FullExactlyWhen : Format → Type 0
FullExactlyWhen 𝓕 =
    (events : List (Event 𝓕.Frame)) (f : 𝓕.Frame)
    → ((hear 𝓕 f (after 𝓕 (eight_free 𝓕) events)).answer ≡ full)
    ↔ ((is_opening (𝓕.asks f) ≡ true) × EightOthersOpen 𝓕 (𝓕.key f) (on_busy_bus 𝓕 events))

-- whether the rules close k's session in a pause that follows a history
abbrev pub closes_by_rules : (𝓕 : Format) → ℕ → History 𝓕 → ℕ → Bool
closes_by_rules 𝓕 ms h k = closes_alone 𝓕 ms (open_by_rules 𝓕 k h)

-- The rules close n keys in a pause: of the keys that they have open, each taken once, they close n.
pub record ClosedByRules (𝓕 : Format) (ms n : ℕ) (h : History 𝓕) : Type 0 where
  pub keys : List ℕ
  pub different : Distinct keys
  pub exactly : (k : ℕ) → Absent k keys ↔ (open_by_rules 𝓕 k h ≡ none)
  pub number : n ≡ count (closes_by_rules 𝓕 ms h) keys

-- A pause frees as many places as the rules close keys in it, at any time of a run.
abbrev pub ClosesAsRules : Format → Type 0
ClosesAsRules 𝓕 =
    (ms : ℕ) (events : List (Event 𝓕.Frame))
    → ClosedByRules 𝓕 ms (closed_by 𝓕 ms (after 𝓕 (eight_free 𝓕) events)) (on_busy_bus 𝓕 events)

-- The same of full places at any places: all eight are held by eight keys, all different and none of them k.
pub record EightOthers {S : Type 0} (k : ℕ) (ps : List (Place S)) : Type 0 where
  pub places : length ps ≡ place_count
  pub holders : length (keys_of ps) ≡ place_count
  pub different : Distinct (k ∷ keys_of ps)

abbrev pub FullExactlyWhenAt : Format → Type 0
FullExactlyWhenAt 𝓕 =
    (ps : Places 𝓕) (f : 𝓕.Frame) → length ps ≡ place_count → OnePlaceEach ps
    → ((hear 𝓕 f ps).answer ≡ full) ↔ ((is_opening (𝓕.asks f) ≡ true) × EightOthers (𝓕.key f) ps)

-- What a format's pauses are to obey, for sessions that keep the format's rule: a pause of no time changes nothing, and
-- a pause after a pause is their sum.
pub record Pausing (𝓕 : Format) : Type 1 where
  pub Kept : 𝓕.Session → Type 0
  pub opens_kept : (f : 𝓕.Frame) (s : 𝓕.Session) (a : 𝓕.Answer) → 𝓕.asks f ≡ opens s a → Kept s
  pub feed_kept : (s t : 𝓕.Session) (d : 𝓕.Data) (a : 𝓕.Answer) → Kept s → 𝓕.feed s d ≡ goes t a → Kept t
  pub wait_kept : (s t : 𝓕.Session) (ms : ℕ) → Kept s → 𝓕.wait ms s ≡ some t → Kept t
  pub wait_zero : (s : 𝓕.Session) → Kept s → 𝓕.wait 0 s ≡ some s
  pub wait_more : (s : 𝓕.Session) (a b : ℕ) → Kept s → pause_alone 𝓕 b (𝓕.wait a s) ≡ 𝓕.wait (a + b) s

-- frames, each with the sum of the pauses since the one before it; `sum` has passed already
abbrev pub spaced : {F : Type 0} → ℕ → List (Event F) → List (ℕ × F)
spaced sum [] = []
spaced sum (frame f ∷ es) = (sum, f) ∷ spaced 0 es
spaced sum (pause ms ∷ es) = spaced (sum + ms) es

-- the same, with nothing said of the pauses before the first frame
abbrev pub spacing : {F : Type 0} → List (Event F) → List (ℕ × F)
spacing [] = []
spacing (frame f ∷ es) = (0, f) ∷ spaced 0 es
spacing (pause ms ∷ es) = spacing es

-- Where pauses obey this, two runs that have the same frames of k, without those that found no place, and equal sums of
-- pauses between them tell k the same, whatever else they have.
abbrev pub SumsOfPauses : Format → Type 1
SumsOfPauses 𝓕 =
    Pausing 𝓕 → (k : ℕ) (events events' : List (Event 𝓕.Frame))
    → spacing (admitted 𝓕 k (on_busy_bus 𝓕 events)) ≡ spacing (admitted 𝓕 k (on_busy_bus 𝓕 events'))
    → answered (told_to 𝓕 k (on_busy_bus 𝓕 events)) ≡ answered (told_to 𝓕 k (on_busy_bus 𝓕 events'))

-- every session in a place keeps the format's rule
abbrev pub AllKept : {S : Type 0} → (S → Type 0) → List (Place S) → Type 0
AllKept Kept [] = Unit {0}
AllKept Kept (free ∷ ps) = AllKept Kept ps
AllKept Kept (held k s ∷ ps) = Kept s × AllKept Kept ps

-- Pauses add up, and so do the numbers of places that they free; a pause of no time leaves all as it was (request
-- #108).
pub record PausesAddAt (𝓕 : Format) (a b : ℕ) (ps : Places 𝓕) : Type 0 where
  pub zero_keeps : pass 𝓕 0 ps ≡ ps
  pub zero_closes : closed_by 𝓕 0 ps ≡ 0
  pub sum : pass 𝓕 b (pass 𝓕 a ps) ≡ pass 𝓕 (a + b) ps
  pub closed : closed_by 𝓕 a ps + closed_by 𝓕 b (pass 𝓕 a ps) ≡ closed_by 𝓕 (a + b) ps

abbrev pub PausesAdd : (𝓕 : Format) → Pausing 𝓕 → Type 0
PausesAdd 𝓕 𝓟 = (a b : ℕ) (ps : Places 𝓕) → AllKept 𝓟.Kept ps → PausesAddAt 𝓕 a b ps
