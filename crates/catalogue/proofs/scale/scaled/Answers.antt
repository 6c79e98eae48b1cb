-- `catalogue::scale::scaled` meets its contract. Assumes nothing.
use mathlib.Core.Path.{◌≡◌, sym}
use native.Mathlib.Omega.{arith}
use mir.ValLaws.{to_z-of_z}
use mir.Syntax.{w64}
use Rattle.catalogue.specs.Scale.{steps_of, scaled_of}
use Rattle.catalogue.proofs.Scales.{product_below, steps_small, scaled_is, scaled_fits}
use Rattle.catalogue.proofs.scale.scaled.Goals as goal

pub overflow_mul-steps : goal.overflow_mul-steps
overflow_mul-steps c =
    let a = c.args in
    let s = steps_small a.unit a.width in
    let p = product_below (steps_of a.unit a.width).step a.code s.steps c.requires in
    rw c.steps_of-steps.ensures (omega arith)

pub minus-requires : goal.minus-requires
minus-requires c =
    let a = c.args in
    let s = steps_small a.unit a.width in
    let p = product_below (steps_of a.unit a.width).step a.code s.steps c.requires in
    rw c.steps_of-steps.ensures (p, omega arith)

pub returns : goal.returns
returns c =
    let a = c.args in
    let e : c.minus.result ≡ scaled_of a.unit a.width a.code = rw (c.minus.ensures, c.steps_of-steps.ensures) (sym (scaled_is a.unit a.width a.code)) in
    rw e (to_z-of_z w64 (scaled_of a.unit a.width a.code) (scaled_fits a.unit a.width a.code c.requires))
