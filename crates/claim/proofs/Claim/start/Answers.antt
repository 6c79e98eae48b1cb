-- `claim::Claim::start` meets its contract. Assumes nothing.
use mathlib.Core.Path.{sym, ap, ◌∙◌}
use Rattle.claim.specs.Promises.{started_of}
use Rattle.claim.specs.Claim.{claim_id, claim_bytes}
use Rattle.claim.proofs.Calls.{begun_filled}
use Rattle.claim.proofs.Candidates.{well_formed}
use Rattle.claim.proofs.Claim.start.Goals as goal

pub returns-then-not-well_formed : goal.returns-then-not-well_formed
unfolding started_of
returns-then-not-well_formed c =
    let e = sym c.well_formed-2.ensures ∙ c.if-not-well_formed.true in
    record { answer = sym (rw e); state = c.blank.ensures ∙ sym (rw e); sent_id = sym (rw e); sent_bytes = sym (rw e) }

pub filled-requires : goal.filled-requires
filled-requires c = (well_formed _ (sym c.well_formed-2.ensures ∙ c.if-not-well_formed.false)).short

pub returns : goal.returns
unfolding started_of claim_bytes
returns c =
    let e = sym c.well_formed-2.ensures ∙ c.if-not-well_formed.false in
    let b = begun_filled c.args.name c.args.list.now _ c.filled.ensures in
    record { answer = sym (rw e); state = b ∙ sym (rw e); sent_id = c.claim_id.ensures ∙ ap claim_id b ∙ sym (rw e); sent_bytes = c.bytes_of.ensures.answer ∙ sym (rw e) }
