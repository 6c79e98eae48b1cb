-- `faults::service_point::write` meets its contract. Assumes nothing.
use mathlib.Core.Path.{sym, ap}
use mathlib.Core.List.{List}
use Prim.Native.Nat.{ℕ}
use native.Mathlib.Omega.{arith}
use Rattle.words.specs.Words.{Told}
use Rattle.catalogue.specs.Promises.{done_if, bytes_after}
use Rattle.faults.proofs.Parts.{with_more}
use Rattle.faults.proofs.service_point.write.Goals as goal

pub returns-then-number-ge-NUMBERS : goal.returns-then-number-ge-NUMBERS
returns-then-number-ge-NUMBERS c =
    let bs = c.args.bytes.now in
    let e = with_more c.args.id bs c.args.number c.requires.number c.requires.is (omega arith) in
    record { answer = sym (ap done_if e); data_bytes = sym (ap (λ (t : Told (List ℕ)). bytes_after t bs) e) }
