-- `nodes::records::pause_all` meets its contract. Assumes nothing.
use Rattle.nodes.specs.Table.{paused_at, paused_of}
use Rattle.nodes.proofs.records.pause_all.Goals as goal

pub returns : goal.returns
unfolding paused_of
returns c = rw c.requires at (c.change.ensures (λ address. paused_at c.args.ms) (λ a n l h. h.1))
