-- `claim::state::claim_id` meets its contract. Assumes nothing.
use mathlib.Core.Path.{ap, ◌∙◌}
use Prim.Native.Nat.{ℕ, ◌+◌}
use Rattle.claim.specs.Claim.{claim_id}
use Rattle.frame.specs.Identifier.{identifier_of}
use Rattle.claim.proofs.state.claim_id.Goals as goal

pub returns : goal.returns
unfolding claim_id identifier_of
returns c = ap (λ (s : ℕ). 0x18EEFF00 + s) (c.from.ensures ∙ c.claim_source.ensures)
