-- `places::seats::one_each` meets its contract. Assumes nothing.
use Rattle.std.proofs.Common.{rules, ◌≡◌, sym, ◌∙◌, ◌∷◌}
use Rattle.places.specs.Seats.{same_holder}
use Rattle.places.proofs.NoTwo.{passed}
use Rattle.places.proofs.seats.one_each.Goals as goal

pub loop-place-preserved : goal.loop-place-preserved
loop-place-preserved g c =
    let s = g.P.Seat in
    let p = c.in-Some in
    let split : c.loop-place.rest.now ≡ p.place.now ∷ p.others.now = search rules in
    c.loop-place.invariant
    ∙ passed (same_holder s.is_free s.key_of) p.place.now p.others.now c.loop-place.rest.now split
    (sym c.is_shared.ensures ∙ c.if-is_shared.false)
