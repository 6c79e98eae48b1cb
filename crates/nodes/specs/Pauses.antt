-- The pauses of a node table add up (RULES 13.15): `pause`, told by its promise alone, is a call as
-- crates/words/specs/Pauses.antt has it, and answers how many challengers took their record. proofs/Pauses.antt has the
-- proof.
use Rattle.std.specs.Prelude.{◌≡◌, List, ℕ}
use Rattle.words.specs.Words.{Told}
use Rattle.words.specs.Pauses.{PauseCall, AddUp}
use Rattle.nodes.specs.Promises.{Pausing}
use Rattle.nodes.specs.Promises.{told_pausing, Pause}
use Rattle.nodes.specs.Runs.{Sound}
use Rattle.nodes.specs.declared.Node.{Node}

pub record Pauses (table : List Node) (ms : ℕ) (told : Told ℕ) (after : List Node) : Type 0 where
  pub answer : Pausing
  pub pause : Pause table ms answer after
  pub told_so : told ≡ told_pausing answer

abbrev pub pause_call : PauseCall
pause_call = record { State = List Node; Keeps = Sound; Pauses = Pauses }

abbrev pub PausesAddUp : Type 0
PausesAddUp = AddUp pause_call
