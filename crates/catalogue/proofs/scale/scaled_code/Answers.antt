-- `catalogue::scale::scaled_code` meets its contract. Assumes nothing.
use mathlib.Core.Path.{◌≡◌, ◌∙◌, ap}
use mir.Syntax.{w64}
use mir.ValLaws.{to_z-of_z}
use Rattle.catalogue.specs.Scale.{steps_of}
use Rattle.catalogue.specs.Codes.{stepped_code}
use Rattle.catalogue.specs.declared.scale.Steps.{Steps}
use Rattle.catalogue.proofs.Scales.{steps_small}
use Rattle.catalogue.proofs.Codes.{lifted_none, lifted_some}
use Rattle.catalogue.proofs.scale.scaled_code.Goals as goal

pub returns-in_err-lifted : goal.returns-in_err-lifted
returns-in_err-lifted c =
    let a = c.args in
    let e : c.steps_of-steps.result ≡ steps_of a.row.unit a.row.width = c.steps_of-steps.ensures in
    rw c.from_residual.ensures (lifted_none a.row a.value c.ranges.value
    (rw (e, to_z-of_z w64 a.value c.ranges.value) at c.in_err-lifted.ensures))

pub stepped_code-requires-clause-step_nonzero : goal.stepped_code-requires-clause-step_nonzero
stepped_code-requires-clause-step_nonzero c =
    let a = c.args in
    let e : c.steps_of-steps.result ≡ steps_of a.row.unit a.row.width = c.steps_of-steps.ensures in
    rw e (steps_small a.row.unit a.row.width).some

pub returns : goal.returns
returns c =
    let a = c.args in
    let e : c.steps_of-steps.result ≡ steps_of a.row.unit a.row.width = c.steps_of-steps.ensures in
    let k = rw (e, to_z-of_z w64 a.value c.ranges.value) at c.in_ok-lifted.ensures in
    c.stepped_code.ensures ∙ ap (λ (s : Steps). stepped_code a.row s.step c.in_ok-lifted.lifted) e
    ∙ lifted_some a.row a.value c.in_ok-lifted.lifted k.0 k.1
