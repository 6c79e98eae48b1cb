-- `claim::Claim::pause` meets its contract. Assumes nothing.
use mathlib.Core.Path.{sym, ap, ◌∙◌}
use Rattle.words.specs.Words.{done}
use Rattle.claim.specs.Promises.{told_pausing}
use Rattle.claim.proofs.Calls.{sound_given, sound_refused}
use Rattle.claim.proofs.Claim.pause.Goals as goal

pub returns-in-Ok : goal.returns-in-Ok
returns-in-Ok c =
    let s = (sound_given _ done (sym c.sound-answer.ensures ∙ ap told_pausing c.in-Ok.is)).2 in
    record { answer = c.sound-answer.ensures; state = c.waited-claim.ensures ∙ sym (rw s) }

pub returns-in-Err : goal.returns-in-Err
returns-in-Err c =
    let s = sound_refused _ _ (sym c.sound-answer.ensures ∙ ap told_pausing c.in-Err.is) in
    record { answer = c.sound-answer.ensures; state = sym (rw s) }
