-- `nodes::records::challenger` meets its contract. Assumes nothing.
use mathlib.Core.Path.{sym, ◌∙◌}
use Rattle.nodes.specs.Call.{rival_of}
use Rattle.nodes.proofs.Call.{rival_past, rival_at_lem}
use Rattle.nodes.proofs.records.challenger.Goals as goal

pub returns-then-address-gt-GREATEST_ADDRESS : goal.returns-then-address-gt-GREATEST_ADDRESS
returns-then-address-gt-GREATEST_ADDRESS c = sym (rival_past _ _ c.if-address-gt-GREATEST_ADDRESS.true)

pub returns-then-is_challenged : goal.returns-then-is_challenged
unfolding rival_of
returns-then-is_challenged c =
    sym (rival_at_lem _ _ c.if-address-gt-GREATEST_ADDRESS.false ∙ rw (← c.from.ensures, sym c.is_challenged.ensures ∙ c.if-is_challenged.true))

pub returns-else-is_challenged : goal.returns-else-is_challenged
unfolding rival_of
returns-else-is_challenged c =
    sym (rival_at_lem _ _ c.if-address-gt-GREATEST_ADDRESS.false ∙ rw (← c.from.ensures, sym c.is_challenged.ensures ∙ c.if-is_challenged.false))
