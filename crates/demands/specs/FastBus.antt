-- The third demand, of fast packets (RULES 13.5): it holds of pairs as of senders, with frame 0 for the announcement,
-- and the single-pair rules (crates/fast/specs/OnePair.antt) for the single-sender ones. Each statement is one of
-- crates/places/specs/Calls.antt at the calls of the receiver of fast packets (crates/fast/specs/Calls.antt), whatever
-- DGNs are named: it speaks of every run of `Receiver::start` with these DGNs, `hear`, `pause` and `message`, so that
-- two runs that are compared are started with the same ones.
use Rattle.std.specs.Prelude.{List, ℕ}
use Rattle.places.specs.Calls as Calls
use Rattle.fast.specs.Calls.{fast_calls}

-- For a pair that never met "no place free", every answer, bytes included, is the one that the single-pair rules give
-- on that pair's frames and all the pauses.
abbrev pub BusyBus : Type 0
BusyBus = (names : List ℕ) → Calls.BusyBus (fast_calls names)

-- For every pair, what is open and what is told is what the single-pair rules give on that pair's frames without those
-- answered 8.

abbrev pub OpenOnBus : Type 0
OpenOnBus = (names : List ℕ) → Calls.OpenOnBus (fast_calls names)

abbrev pub ToldOnBus : Type 0
ToldOnBus = (names : List ℕ) → Calls.ToldOnBus (fast_calls names)

-- A frame is answered 8 exactly when it is a frame 0 with a length within the limits, of a message of six bytes or
-- fewer too, and those rules have eight other pairs open, all different.
abbrev pub NoPlaceFree : Type 0
NoPlaceFree = (names : List ℕ) → Calls.NoPlaceFree (fast_calls names)

-- A pause answers how many pairs' messages those rules close in it (RULES 12.12 and 12.17), and is never refused.
abbrev pub PauseCount : Type 0
PauseCount = (names : List ℕ) → Calls.PauseCount (fast_calls names)

-- Two runs with the same frames of a pair, and equal sums of pauses between them, tell it the same.
abbrev pub SumsOfPauses : Type 0
SumsOfPauses = (names : List ℕ) → Calls.SumsTold (fast_calls names)

-- A receiver that was started keeps its rules, a state that keeps them leads to one that keeps them, and there is a run
-- of calls with any frames and pauses.

abbrev pub StartKept : Type 0
StartKept = (names : List ℕ) → Calls.StartKept (fast_calls names)

abbrev pub RulesKept : Type 0
RulesKept = (names : List ℕ) → Calls.RulesKept (fast_calls names)

abbrev pub EveryRunRuns : Type 0
EveryRunRuns = (names : List ℕ) → Calls.EveryRunRuns (fast_calls names)

-- At any state that keeps its rules, one that was started or one that the caller made up: a frame is answered 8 exactly
-- when it is a frame 0 with a length within the limits and eight other pairs hold the places; and a pause answers how
-- many of the pairs that hold a place the single-pair rules close, and leaves each pair what those rules leave it.

abbrev pub NoPlaceFreeAt : Type 0
NoPlaceFreeAt = (names : List ℕ) → Calls.FullAtAnyState (fast_calls names)

abbrev pub PauseCountAt : Type 0
PauseCountAt = (names : List ℕ) → Calls.PauseAtAnyState (fast_calls names)
