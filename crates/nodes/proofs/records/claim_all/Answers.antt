-- `nodes::records::claim_all` meets its contract. Assumes nothing.
use Rattle.nodes.specs.Table.{claimed_at, claimed_of}
use Rattle.nodes.proofs.records.claim_all.Goals as goal

pub returns : goal.returns
unfolding claimed_of
returns c = rw c.requires at (c.change.ensures (claimed_at c.args.claim) (λ a n l h. h.1))
