-- `catalogue::fields::put` meets its contract. Assumes nothing.
use native.Mathlib.Omega.{arith}
use native.Mathlib.Nat.{lt_of_le_of_lt}
use Rattle.catalogue.specs.Field.{field_of, with_field}
use Rattle.catalogue.proofs.Bits.{old_le, new_below, with_below}
use Rattle.catalogue.proofs.fields.put.Goals as goal

pub overflow_mul-result : goal.overflow_mul-result
overflow_mul-result c =
    let a = c.args in
    rw (c.cut.ensures, c.power-place.ensures) (record { fits = lt_of_le_of_lt (old_le a.first a.width a.number) c.ranges.number.fits })

pub overflow_sub-result : goal.overflow_sub-result
overflow_sub-result c =
    let a = c.args in
    rw (c.cut.ensures, c.power-place.ensures) (old_le a.first a.width a.number)

pub overflow_mul-result-2 : goal.overflow_mul-result-2
overflow_mul-result-2 c =
    let a = c.args in
    rw c.power-place.ensures (record { fits = new_below a.first a.width a.code (omega arith) c.requires.code_bound })

pub overflow_add-result : goal.overflow_add-result
unfolding with_field field_of
overflow_add-result c =
    let a = c.args in
    rw (c.cut.ensures, c.power-place.ensures) (record { fits = with_below a.first a.width a.code a.number (omega arith) c.requires.code_bound c.ranges.number.fits })

pub returns : goal.returns
unfolding with_field field_of
returns c = rw (c.cut.ensures, c.power-place.ensures)
