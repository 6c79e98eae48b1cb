-- `tiles::readings::shown_number` meets its contract. Assumes nothing.
use mathlib.Core.Path.{ap, ◌∙◌}
use lib.IntN.{ℤ}
use mir.Syntax.{w64}
use mir.ValLaws.{to_z-of_z}
use Rattle.tiles.specs.Exact.{nearest}
use Rattle.tiles.specs.Tile.{shown_number}
use Rattle.tiles.specs.declared.Reading.TheVariants.{Degrees, Percent, Hertz, Volts, Amperes}
use Rattle.tiles.proofs.readings.shown_number.Goals as goal

pub returns-in-Celsius : goal.returns-in-Celsius
unfolding shown_number
returns-in-Celsius c =
    rw c.in-Celsius.is
    (ap Degrees (c.thirty_seconds.ensures ∙ ap (λ (z : ℤ). nearest z 32)
    (to_z-of_z w64 c.args.v c.ranges.v)))

pub returns-in-Percent : goal.returns-in-Percent
unfolding shown_number
returns-in-Percent c =
    rw c.in-Percent.is
    (ap Percent (c.halves.ensures ∙ ap (λ (z : ℤ). nearest z 2)
    (to_z-of_z w64 c.args.v c.ranges.v)))

pub returns-in-Hertz : goal.returns-in-Hertz
unfolding shown_number
returns-in-Hertz c =
    rw c.in-Hertz.is
    (ap Hertz (c.hundred_twenty_eighths.ensures ∙ ap (λ (z : ℤ). nearest z 128)
    (to_z-of_z w64 c.args.v c.ranges.v)))

pub returns-in-Volt : goal.returns-in-Volt
unfolding shown_number
returns-in-Volt c = rw c.in-Volt.is
    (ap Volts (to_z-of_z w64 c.args.v c.ranges.v))

pub returns-in-Ampere : goal.returns-in-Ampere
unfolding shown_number
returns-in-Ampere c = rw c.in-Ampere.is
    (ap Amperes (to_z-of_z w64 c.args.v c.ranges.v))

pub returns-in-Other : goal.returns-in-Other
unfolding shown_number
returns-in-Other c = rw c.in-Other.is
