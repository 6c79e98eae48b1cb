-- `fast::names::none_twice` meets its contract. Assumes nothing.
use Rattle.std.proofs.Common.{rules, ◌≡◌, sym, ◌∙◌, ◌∷◌}
use Rattle.words.specs.Words.{◌=?◌}
use Rattle.places.proofs.NoTwo.{passed}
use Rattle.fast.proofs.names.none_twice.Goals as goal

pub loop-dgn-preserved : goal.loop-dgn-preserved
loop-dgn-preserved c =
    let p = c.in-Some in
    let split : c.loop-dgn.rest.now ≡ p.dgn.now ∷ p.others.now = search rules in
    c.loop-dgn.invariant
    ∙ passed ◌=?◌ p.dgn.now p.others.now c.loop-dgn.rest.now split (sym c.is_named.ensures ∙ c.if-is_named.false)
