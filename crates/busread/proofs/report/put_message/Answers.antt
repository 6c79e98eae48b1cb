-- `busread::report::put_message` meets its contract. Assumes nothing.
use Rattle.text.specs.Text.{text}
use Rattle.text.proofs.Pieces.{wrote_decimal, wrote_bytes, fits_wrote, behind}
use Rattle.busread.specs.Report.{message_text}
use native.Mathlib.Omega.{arith}
use Rattle.busread.proofs.report.put_message.Goals as goal

pub returns : goal.returns
unfolding message_text
returns c =
    let h = c.put_head-head_end.ensures in
    let w₂ = wrote_decimal (text " length=") _ c.put_decimal-length_end.ensures (omega arith)
    (omega (arith, h.1, h.0.room)) in
    let w₃ = wrote_bytes (text " bytes=") _ c.put_bytes-bytes_end.ensures
    (omega (arith, h.1, h.0.room, w₂.1, w₂.0.room)) in
    let w₄ = fits_wrote {word = text "\n"} c.put.ensures
    (omega (arith, h.1, h.0.room, w₂.1, w₂.0.room, w₃.1, w₃.0.room)) in
    (behind (behind (behind h.0 w₂.0) w₃.0) w₄, omega (arith, h.1, w₂.1, w₃.1, w₄.next))
