-- What `claim` sends is a claim to `nodes`.
-- Assumes nothing.
use mathlib.Core.Path.{◌≡◌, refl, ◌∙◌}
use lib.ListN.{length}
use Rattle.words.specs.Words.{gives}
use Rattle.frame.specs.Frame.{checked_of}
use Rattle.frame.specs.Standard.{claim_dgn}
use Rattle.frame.specs.Bytes.{number_of}
use Rattle.claim.specs.Claim.{claim_priority, claim_source}
use Rattle.claim.proofs.Laws.{claim_is_ours}
use Rattle.nodes.proofs.Laws.{lowest_wins}
use Rattle.demands.specs.ClaimsHeard.{ClaimIsHeard}

pub claim_is_heard : ClaimIsHeard
claim_is_heard c id bytes table after r sound small ours enough rules heard =
    let f = claim_is_ours c sound small in
    let parts : checked_of id (length bytes) ≡ gives (record { priority = claim_priority; dgn = claim_dgn; source = claim_source c }) =
    rw (ours.0, ours.1) f.parts in
    let name : number_of bytes ≡ c.name = rw ours.1 f.name in
    let w = rw name at ((lowest_wins table id bytes).claim enough rules (record { priority = claim_priority; dgn = claim_dgn; source = claim_source c }) parts refl) in
    (heard.answer ∙ w.0, heard.table_after ∙ w.1)
