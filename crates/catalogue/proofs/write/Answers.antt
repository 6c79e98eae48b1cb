-- `catalogue::write` meets its contract. Assumes nothing.
use mathlib.Core.Path.{◌≡◌, sym, ap, ◌∙◌}
use Rattle.catalogue.specs.Catalogue.{written_of, written_row_of}
use Rattle.catalogue.specs.Promises.{done_if, bytes_after}
use Rattle.catalogue.specs.declared.Row.{Row}
use mathlib.Core.List.{List}
use Prim.Native.Nat.{ℕ}
use Rattle.words.specs.Words.{Told}
use Rattle.catalogue.proofs.Found.{written_at}
use Rattle.catalogue.proofs.write.Goals as goal

pub returns : goal.returns
returns c =
    let a = c.args in
    let bs = a.bytes.now in
    let n = c.nth in
    let w = c.write_row.ensures in
    let e : written_row_of n.result a.id bs a.value ≡ written_of a.n a.id bs a.value =
    ap (λ (r : Row). written_row_of r a.id bs a.value) n.ensures ∙ sym (written_at a.n a.id bs a.value) in
    record { answer = w.answer ∙ ap done_if e; data_bytes = w.data_bytes ∙ ap (λ (t : Told (List ℕ)). bytes_after t bs) e }
