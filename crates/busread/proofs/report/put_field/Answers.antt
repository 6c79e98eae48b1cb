-- `busread::report::put_field` meets its contract. Assumes nothing.
use Rattle.busread.specs.Report.{field_text}
use Rattle.text.specs.Text.{text}
use Rattle.text.proofs.Pieces.{fits_wrote, behind}
use native.Mathlib.Omega.{arith}
use Rattle.busread.proofs.report.put_field.Goals as goal

pub put_place-place_end-requires : goal.put_place-place_end-requires
put_place-place_end-requires c =
    let w = fits_wrote c.put-head_end.ensures (omega arith) in
    omega (arith, w.next, w.room)

pub put_value-value_end-requires : goal.put_value-value_end-requires
put_value-value_end-requires c =
    let w = fits_wrote c.put-head_end.ensures (omega arith) in
    let p = c.put_place-place_end.ensures in
    omega (arith, w.next, w.room, p.1, p.0.room)

pub returns : goal.returns
unfolding field_text
returns c =
    let h = c.requires in
    let w₁ = fits_wrote c.put-head_end.ensures (omega (arith, h.0, h.1)) in
    let w₂ = c.put_place-place_end.ensures in
    let w₃ = c.put_value-value_end.ensures in
    let w₄ = fits_wrote {word = text "\n"} c.put.ensures
    (omega (arith, w₁.next, w₁.room, w₂.1, w₂.0.room, w₃.1, w₃.0.room)) in
    (behind (behind (behind w₁ w₂.0) w₃.0) w₄, omega (arith, w₁.next, w₂.1, w₃.1, w₄.next))
