-- `nodes::records::holder` meets its contract. Assumes nothing.
use mathlib.Core.Path.{sym, ◌∙◌}
use Rattle.nodes.specs.Call.{holder_of}
use Rattle.nodes.proofs.Call.{holder_past, holder_at_lem}
use Rattle.nodes.proofs.records.holder.Goals as goal

pub returns-then-address-gt-GREATEST_ADDRESS : goal.returns-then-address-gt-GREATEST_ADDRESS
returns-then-address-gt-GREATEST_ADDRESS c = sym (holder_past _ _ c.if-address-gt-GREATEST_ADDRESS.true)

pub returns-then-n : goal.returns-then-n
unfolding holder_of
returns-then-n c = sym (holder_at_lem _ _ c.if-address-gt-GREATEST_ADDRESS.false ∙ rw (← c.from.ensures, c.if-n.true))

pub returns-else-n : goal.returns-else-n
unfolding holder_of
returns-else-n c = sym (holder_at_lem _ _ c.if-address-gt-GREATEST_ADDRESS.false ∙ rw (← c.from.ensures, c.if-n.false))
