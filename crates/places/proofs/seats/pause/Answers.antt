-- `places::seats::pause` meets its contract. Assumes nothing.
use Rattle.std.proofs.Common.{◌∙◌, ◌<◌, length, arith}
use Rattle.words.proofs.Lists.{image_turn, count_turn}
use Rattle.places.specs.Seats.{closes, idled}
use Rattle.places.proofs.seats.pause.Goals as goal
use Rattle.places.proofs.seats.pause.Goals.{then-closes, else-closes}

pub loop-place-preserved : goal.loop-place-preserved
loop-place-preserved g c =
    let l = c.loop-place in
    let a = c.args in
    let s = g.P.Seat in
    let ps = a.places.now in
    let p = c.place-item.result in
    let f = closes s.is_free s.idle_after a.limit a.ms in
    let t = idled s.is_free s.idle_after s.blank s.waited a.limit a.ms in
    let h : l.place-index < length ps = omega arith in (
      elim c.if-closes.branch [
        | then-closes w ↦ count_turn f t ps l.place-items l.place-index p c.closes.result l.closed c.if-closes.closed h l.invariant.2 l.invariant.0 c.closes.ensures (w.closed-is ∙ rw w.if-closes.true)
        | else-closes w ↦ count_turn f t ps l.place-items l.place-index p c.closes.result l.closed c.if-closes.closed h l.invariant.2 l.invariant.0 c.closes.ensures (w.closed-is ∙ rw w.if-closes.false (omega arith))
      ],
      elim c.if-closes.branch [ then-closes w ↦ omega arith | else-closes w ↦ omega arith ],
      image_turn t ps l.place-items l.place-index p c.idled.result h l.invariant.2 c.idled.ensures,
    )
