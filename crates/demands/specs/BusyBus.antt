-- The third demand: a busy bus reads like a quiet one (RULES 13.3 and 13.4). Each statement is one of
-- crates/places/specs/Calls.antt at the calls of the receiver of long messages (crates/message/specs/Calls.antt): it
-- speaks of every run of `Receiver::new`, `hear`, `pause` and `message`, with the storage handed on as each call left
-- it.
use Rattle.places.specs.Calls as Calls
use Rattle.places.specs.Statements.{Pausing}
use Rattle.message.specs.OneSender.{long_messages}
use Rattle.message.specs.Calls.{receiver_calls}

-- Demand 3 in its words: for a sender that never met "no place free", every answer, bytes included, is the one that the
-- single-sender rules give on that sender's frames and all the pauses.
abbrev pub BusyBus : Type 0
BusyBus = Calls.BusyBus receiver_calls

-- For every sender, what is open and what is told is what the single-sender rules give on that sender's frames without
-- those answered 8.

abbrev pub OpenOnBus : Type 0
OpenOnBus = Calls.OpenOnBus receiver_calls

abbrev pub ToldOnBus : Type 0
ToldOnBus = Calls.ToldOnBus receiver_calls

-- A frame is answered 8 exactly when it is a valid announcement and those rules have eight other senders open, all
-- different.
abbrev pub NoPlaceFree : Type 0
NoPlaceFree = Calls.NoPlaceFree receiver_calls

-- A pause answers how many senders' messages those rules close in it (RULES 4.12 and 5.11), and is never refused.
abbrev pub PauseCount : Type 0
PauseCount = Calls.PauseCount receiver_calls

-- Two runs with the same frames of a sender, and equal sums of pauses between them, tell it the same: the pauses of
-- long messages add up.

abbrev pub PausesOfMessages : Type 1
PausesOfMessages = Pausing long_messages

abbrev pub SumsOfPauses : Type 0
SumsOfPauses = Calls.SumsTold receiver_calls

-- A new receiver keeps its rules, a state that keeps them leads to one that keeps them, and there is a run of calls
-- with any frames and pauses.

abbrev pub StartKept : Type 0
StartKept = Calls.StartKept receiver_calls

abbrev pub RulesKept : Type 0
RulesKept = Calls.RulesKept receiver_calls

abbrev pub EveryRunRuns : Type 0
EveryRunRuns = Calls.EveryRunRuns receiver_calls

-- At any state that keeps its rules, a new one or one that the caller made up: a frame is answered 8 exactly when it is
-- a valid announcement and eight other senders hold the places; and a pause answers how many of the senders that hold a
-- place the single-sender rules close, and leaves each sender what those rules leave it.

abbrev pub NoPlaceFreeAt : Type 0
NoPlaceFreeAt = Calls.FullAtAnyState receiver_calls

abbrev pub PauseCountAt : Type 0
PauseCountAt = Calls.PauseAtAnyState receiver_calls
