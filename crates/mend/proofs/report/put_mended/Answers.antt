-- `mend::report::put_mended` meets its contract. Assumes nothing.
use mathlib.Core.Path.{sym, ◌∙◌}
use native.Mathlib.Omega.{arith}
use Rattle.text.specs.Text.{text}
use Rattle.text.proofs.Pieces.{wrote_decimal, fits_wrote}
use Rattle.mend.proofs.Putting.{mended_put, not_mended}
use Rattle.mend.proofs.report.put_mended.Goals as goal

pub returns-then-not-any : goal.returns-then-not-any
returns-then-not-any c =
    not_mended c.args.number c.args.actions (sym c.any.ensures ∙ c.if-not-any.true) c.requires

pub put_actions-list_end-requires : goal.put_actions-list_end-requires
put_actions-list_end-requires c =
    let w₁ = wrote_decimal (text "line=") _ c.put_decimal-number_end.ensures (omega arith) (omega arith) in
    let w₂ = fits_wrote {word = text " action="} c.put-head_end.ensures (omega (arith, w₁.1, w₁.0.room)) in
    omega (arith, w₁.1, w₁.0.room, w₂.next, w₂.room)

pub returns : goal.returns
returns c =
    mended_put c.args.number c.args.actions (sym c.any.ensures ∙ c.if-not-any.false) c.put_decimal-number_end.ensures
    c.put-head_end.ensures c.put_actions-list_end.ensures c.put.ensures (omega arith) c.requires
