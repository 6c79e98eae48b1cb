-- `faults::row_at` meets its contract. Assumes nothing.
use mathlib.Core.Path.{ap, ◌∙◌}
use mathlib.Core.List.{List}
use Prim.Native.Nat.{ℕ}
use Rattle.catalogue.specs.Packed.{table_row}
use Rattle.faults.proofs.Table.{row_in_packed}
use Rattle.faults.proofs.row_at.Goals as goal

pub returns : goal.returns
returns c =
    let n = c.args.n in
    record {
      answer =
          c.row_in.ensures.answer
          ∙ ap (λ (t : List ℕ). table_row t n) c.packed_rows-table.ensures.answer ∙ row_in_packed n;
    }
