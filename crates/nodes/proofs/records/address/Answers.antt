-- `nodes::records::address` meets its contract. Assumes nothing.
use mathlib.Core.Path.{sym, ◌∙◌}
use native.Mathlib.Omega.{arith}
use Rattle.nodes.specs.Table.{absent, has_name}
use Rattle.words.proofs.Lists.{found_at}
use Rattle.nodes.proofs.records.address.Goals as goal

pub overflow_cast-result : goal.overflow_cast-result
overflow_cast-result c =
    let a = c.args in
    let f = found_at c.in-Some.address (has_name a.name) a.records.now absent (sym c.position.ensures ∙ c.in-Some.is) in
    omega (arith, f.below, c.requires)
