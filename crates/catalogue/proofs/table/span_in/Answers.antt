-- `catalogue::table::span_in` meets its contract. Assumes nothing.
use mathlib.Core.Path.{◌≡◌, ap, ◌∙◌}
use Prim.Native.Nat.{ℕ, ◌+◌}
use native.Mathlib.Omega.{arith}
use Rattle.catalogue.specs.Packed.{table_rows, halved, table_span}
use Rattle.catalogue.proofs.Halving.{halved_rises}
use Rattle.catalogue.proofs.table.span_in.Goals as goal

facts : (c : goal.After-lower-end)
    → (c.lower-start.result ≡ halved (table_rows c.args.table.now) c.args.dgn)
    × (c.lower-end.result ≡ halved (table_rows c.args.table.now) (c.args.dgn + 1))
facts c =
    let a = c.args in
    let list = table_rows a.table.now in
    let e : c.from-key.result ≡ a.dgn = c.from-key.ensures in
    (c.lower-start.ensures ∙ ap (halved list) e, c.lower-end.ensures ∙ ap (λ (x : ℕ). halved list (x + 1)) e)

pub overflow_sub-result : goal.overflow_sub-result
overflow_sub-result c =
    let a = c.args in
    omega (arith, facts c, halved_rises (table_rows a.table.now) a.dgn)

pub returns : goal.returns
unfolding table_span
returns c = let f = facts c in rw (f.0, f.1)
