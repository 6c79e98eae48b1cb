-- `mend::line::due` meets its contract. Assumes nothing.
use mathlib.Core.Path.{sym, ap, ◌∙◌}
use Prim.Native.Nat.{ℕ, ◌+◌}
use native.Mathlib.Omega.{arith}
use Rattle.words.specs.Words.{◌<?◌}
use Rattle.mend.specs.Places.{parts_at}
use Rattle.mend.proofs.Finding.{zeros_test, length_part, either_same, actions_same}
use Rattle.mend.proofs.line.due.Goals as goal

pub returns : goal.returns
unfolding parts_at
returns c =
    let a = c.args in
    let f = c.requires in
    let t = zeros_test _ c.leading_zeros-zeros.result c.leading_zeros-zeros.ensures.0 c.leading_zeros-zeros.ensures.1 in
    let l = length_part a.line.now (a.places.gap_to + 4) a.places.id_to f.id (omega (arith, f.bytes, f.within)) in
    actions_same (parts_at a.line.now a.places) (c.either.ensures ∙ either_same c.has_small-small_id.ensures c.has_small-small_data.ensures) t
    (ap (λ (n : ℕ). n <? 8) (sym l))
