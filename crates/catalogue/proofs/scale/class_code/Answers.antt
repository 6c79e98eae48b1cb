-- `catalogue::scale::class_code` meets its contract. Assumes nothing.
use mathlib.Core.Path.{◌∙◌}
use lib.Pow.{pow_pos}
use Rattle.catalogue.proofs.Codes.{class_none, class_some}
use Rattle.catalogue.proofs.scale.class_code.Goals as goal

pub overflow_sub-greatest : goal.overflow_sub-greatest
overflow_sub-greatest c = rw c.power-greatest.ensures (pow_pos c.args.row.width)

pub returns-in_err-code : goal.returns-in_err-code
returns-in_err-code c =
    let a = c.args in
    rw c.from_residual.ensures (class_none a.row a.class _ _ c.power-greatest.ensures c.below_greatest.ensures c.in_err-code.ensures)

pub returns : goal.returns
returns c =
    let a = c.args in
    let k = c.in_ok-code.ensures in
    c.code_where.ensures ∙ class_some a.row a.class _ _ c.power-greatest.ensures c.below_greatest.ensures c.in_ok-code.code k.0 k.1
