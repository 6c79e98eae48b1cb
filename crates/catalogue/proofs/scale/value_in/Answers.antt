-- `catalogue::scale::value_in` meets its contract. Assumes nothing.
use mathlib.Core.Path.{◌≡◌, ap}
use mir.ValLaws.{to_z-of_z}
use mir.Syntax.{w64}
use Rattle.catalogue.specs.declared.Value.TheVariants.{Scaled}
use Rattle.catalogue.specs.Scale.{scaled_of, value_of}
use Rattle.catalogue.proofs.Scales.{scaled_fits}
use Rattle.catalogue.proofs.scale.value_in.Goals as goal

pub returns-in-Number : goal.returns-in-Number
unfolding value_of
returns-in-Number c =
    let a = c.args in
    let v = scaled_of a.row.unit a.row.width a.field.code in
    let e : c.scaled.result ≡ v = c.scaled.ensures in
    let f = scaled_fits a.row.unit a.row.width a.field.code c.requires in
    rw (e, c.in-Number.is) (ap Scaled (to_z-of_z w64 v f))
