-- `claim::Claim::stands` meets its contract. Assumes nothing.
use mathlib.Core.Path.{sym, ap, ◌∙◌}
use Rattle.words.specs.Words.{done}
use Rattle.claim.specs.Promises.{told_pausing}
use Rattle.claim.proofs.Calls.{sound_given, in_array}
use Rattle.claim.proofs.Claim.stands.Goals as goal

pub stand-requires : goal.stand-requires
stand-requires c =
    let s = sound_given _ done (sym c.sound.ensures ∙ ap told_pausing c.in_ok-sound.was) in
    in_array _ s.0 s.1
