-- `command::requests::our_claim` meets its contract. Assumes nothing.
use mathlib.Core.Path.{◌∙◌}
use Rattle.claim.specs.Claim.{claim_frame}
use Rattle.command.proofs.Answers.{claims_requested}
use Rattle.command.proofs.requests.our_claim.Goals as goal

pub returns : goal.returns
returns c =
    let o = c.our_claim-ours.ensures in
    let s = c.requires in
    claims_requested _ (claim_frame c.args.claim) _ _ c.none.ensures (o.sent_id ∙ rw s) (o.sent_bytes ∙ rw s)
