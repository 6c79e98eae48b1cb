-- The pauses of long messages add up (RULES 13.15): `Receiver::pause`, told by its promise alone (Calls.antt), is a
-- call as crates/words/specs/Pauses.antt has it, and answers how many messages it closed. It is lent no storage, and
-- asks for none; a state keeps its rules by its places. proofs/Pauses.antt has the proof.
use Rattle.std.specs.Prelude.{◌≡◌, true}
use Rattle.words.specs.Pauses.{PauseCall, AddUp}
use Rattle.message.specs.Receiver.{keeps_rules}
use Rattle.message.specs.Calls.{Held, Pauses}

abbrev pub pause_call : PauseCall
pause_call = record { State = Held; Keeps = λ s. keeps_rules s.receiver.places ≡ true; Pauses = Pauses }

abbrev pub PausesAddUp : Type 0
PausesAddUp = AddUp pause_call
