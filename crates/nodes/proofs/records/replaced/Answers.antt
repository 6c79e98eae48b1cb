-- `nodes::records::replaced` meets its contract. Assumes nothing.
use mathlib.Core.Path.{sym, ◌∙◌}
use native.Mathlib.Omega.{arith}
use Rattle.std.proofs.lemmas.List.Sums.{count_by-le-length}
use Rattle.nodes.specs.Table.{is_replaced}
use Rattle.nodes.proofs.Rules.{replaced_count}
use Rattle.nodes.proofs.records.replaced.Goals as goal

pub overflow_cast-result : goal.overflow_cast-result
overflow_cast-result c = omega (arith, count_by-le-length (is_replaced c.args.ms) c.args.records.now, c.count_replaced.ensures, c.requires)

pub returns : goal.returns
returns c = c.count_replaced.ensures ∙ sym (replaced_count c.args.ms c.args.records.now)
