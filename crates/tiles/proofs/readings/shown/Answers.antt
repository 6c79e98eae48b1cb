-- `tiles::readings::shown` meets its contract. Assumes nothing.
use mathlib.Core.Path.{ap, ◌∙◌}
use lib.IntN.{ℤ}
use mir.Syntax.{w64}
use mir.ValLaws.{to_z-of_z}
use Rattle.tiles.specs.Tile.{shown_number, shown}
use Rattle.tiles.proofs.Steps.{small_scaled, small_fits, small_word}
use Rattle.tiles.proofs.readings.shown.Goals as goal

pub shown_number-requires : goal.shown_number-requires
shown_number-requires c =
    small_word c.in-Scaled.v (small_scaled _ c.in-Scaled.v c.in-Scaled.is c.requires)

pub returns-in-Scaled : goal.returns-in-Scaled
unfolding shown
returns-in-Scaled c =
    let a = c.args in
    let s = small_fits c.in-Scaled.v (small_scaled _ c.in-Scaled.v c.in-Scaled.is c.requires) in
    rw c.in-Scaled.is (c.shown_number.ensures ∙ ap (λ (z : ℤ). shown_number a.unit z) (to_z-of_z w64 c.in-Scaled.v s))

pub returns-in-NoData : goal.returns-in-NoData
unfolding shown
returns-in-NoData c = rw c.in-NoData.is

pub returns-in-OutOfRange : goal.returns-in-OutOfRange
unfolding shown
returns-in-OutOfRange c = rw c.in-OutOfRange.is

pub returns-in-Reserved : goal.returns-in-Reserved
unfolding shown
returns-in-Reserved c = rw c.in-Reserved.is
