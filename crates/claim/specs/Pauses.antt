-- The pauses of a claim add up (RULES 13.15): `Claim::pause`, told by its promise alone, is a call as
-- crates/words/specs/Pauses.antt has it. The wait stops at 250 ms, and a claim closes nothing: what it counts is 0.
-- proofs/Pauses.antt has the proof.
use Rattle.std.specs.Prelude.{◌≡◌, true, ℕ}
use Rattle.words.specs.Words.{Told, refused, gives, Done}
use Rattle.words.specs.Pauses.{PauseCall, AddUp}
use Rattle.claim.specs.Promises.{Pausing}
use Rattle.claim.specs.Promises.{told_pausing, is_sound, Pause}
use Rattle.claim.specs.declared.Claim.{Claim}

-- an answer as a number
abbrev pub counted : Told Done → Told ℕ
counted (refused r) = refused r
counted (gives d) = gives 0

pub record Pauses (c : Claim) (ms : ℕ) (told : Told ℕ) (d : Claim) : Type 0 where
  pub answer : Pausing
  pub pause : Pause ms c (record { claim = d; answer = answer })
  pub told_so : told ≡ counted (told_pausing answer)

abbrev pub pause_call : PauseCall
pause_call = record { State = Claim; Keeps = λ c. is_sound c ≡ true; Pauses = Pauses }

abbrev pub PausesAddUp : Type 0
PausesAddUp = AddUp pause_call
