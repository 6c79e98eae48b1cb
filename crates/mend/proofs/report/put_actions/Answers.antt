-- `mend::report::put_actions` meets its contract. Assumes nothing.
use native.Mathlib.Omega.{arith}
use Rattle.mend.proofs.Putting.{actions_put}
use Rattle.mend.proofs.report.put_actions.Goals as goal

pub returns : goal.returns
returns c =
    let a = c.args in (
      actions_put a.actions c.either-some.ensures c.either.ensures c.put_action-cr_end.ensures.0 c.put_action-case_end.ensures.0
          c.put_action-gap_end.ensures.0 c.put_action.ensures.0,
      omega (arith, c.put_action-cr_end.ensures.1, c.put_action-case_end.ensures.1, c.put_action-gap_end.ensures.1, c.put_action.ensures.1),
    )
