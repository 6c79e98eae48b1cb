-- `mend::fields::capital_of` meets its contract. Assumes nothing.
use mathlib.Core.Path.{sym, ◌∙◌}
use native.Mathlib.Omega.{arith}
use Rattle.mend.specs.Mending.{capital}
use Rattle.mend.proofs.Finding.{small_least}
use Rattle.mend.proofs.fields.capital_of.Goals as goal

pub overflow_sub-result : goal.overflow_sub-result
overflow_sub-result c =
    let l = small_least c.args.code (sym c.is_small.ensures ∙ c.if-is_small.true) in
    omega arith

pub returns-then-is_small : goal.returns-then-is_small
unfolding capital
returns-then-is_small c = let b = c in rw (sym b.is_small.ensures ∙ c.if-is_small.true)

pub returns : goal.returns
unfolding capital
returns c = let b = c in rw (sym b.is_small.ensures ∙ c.if-is_small.false)
