-- `claim::Claim::our_claim` meets its contract. Assumes nothing.
use mathlib.Core.Path.{sym, ap, ◌∙◌}
use Rattle.words.specs.Words.{done}
use Rattle.claim.specs.Claim.{claim_bytes}
use Rattle.claim.specs.Promises.{told_pausing}
use Rattle.claim.proofs.Calls.{sound_given, sound_refused, in_array}
use Rattle.claim.proofs.Claim.our_claim.Goals as goal

pub claim_id-requires : goal.claim_id-requires
claim_id-requires c =
    let s = sound_given _ done (sym c.sound.ensures ∙ ap told_pausing c.in-Ok.is) in
    in_array _ s.0 s.1

pub returns-in-Ok : goal.returns-in-Ok
unfolding claim_bytes
returns-in-Ok c =
    let e = sym c.sound.ensures ∙ ap told_pausing c.in-Ok.is in
    let s = (sound_given _ done e).2 in
    record {
      answer = sym e;
      sent_id = c.claim_id.ensures ∙ sym (rw s);
      sent_bytes = c.bytes_of.ensures.answer ∙ sym (rw s);
    }

pub returns-in-Err : goal.returns-in-Err
returns-in-Err c =
    let e = sym c.sound.ensures ∙ ap told_pausing c.in-Err.is in
    let s = sound_refused _ _ e in
    record { answer = sym e; sent_id = sym (rw s); sent_bytes = sym (rw s) }
