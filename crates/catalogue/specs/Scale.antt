-- Scaled values (RULES 7.5 and 7.6; 000, 5.3): signed whole numbers of a step. Percent in halves, °C in 1/32, volts and
-- amperes in 1/20, hertz in 1/128; other rows give the code.
use Rattle.std.specs.Prelude.{ℕ, ℤ, pos, ◌-ℤ◌, ◌*ℤ◌, if◌then◌else◌}
use Rattle.words.specs.Words.{◌=?◌, ◌or◌}
use Rattle.catalogue.specs.declared.Row.{Row}
use Rattle.catalogue.specs.declared.Unit.{Unit}
use Rattle.catalogue.specs.declared.Unit.TheVariants.{Other, Percent, Celsius, Volt, Ampere, Hertz}
use Rattle.catalogue.specs.declared.Class.{Class}
use Rattle.catalogue.specs.declared.Field.{Field}
use Rattle.catalogue.specs.declared.Value.{Value}
use Rattle.catalogue.specs.declared.scale.Steps.{Steps}

-- the scaled value of a number, by unit and width
unfoldable pub scaled_of : Unit → ℕ → ℕ → ℤ
scaled_of Celsius width code =
    if width =? 8 then pos 32 *ℤ (pos code -ℤ pos 40) else
    if width =? 16 then pos code -ℤ pos 8736 else
    pos code
scaled_of Ampere width code = if width =? 16 then pos code -ℤ pos 32000 else pos code
scaled_of Percent width code = pos code
scaled_of Volt width code = pos code
scaled_of Hertz width code = pos code
scaled_of Other width code = pos code

-- scaling applies to numbers; another class returns itself
abbrev pub value_as : Class → ℤ → Value
value_as Class.Number scaled = Value.Scaled scaled
value_as Class.NoData scaled = Value.NoData
value_as Class.OutOfRange scaled = Value.OutOfRange
value_as Class.Reserved scaled = Value.Reserved

unfoldable pub value_of : Row → Field → Value
value_of row field = value_as field.class (scaled_of row.unit row.width field.code)

-- how many of these steps make one of the unit, at the widths that have a scale: halves of a percent, 1/32 °C, 1/20 V
-- and A, 1/128 Hz; 0 at any other, where the scaled value is the code
unfoldable pub steps_in_one : Unit → ℕ → ℕ
steps_in_one Percent width = if width =? 8 then 2 else 0
steps_in_one Celsius width = if width =? 8 or width =? 16 then 32 else 0
steps_in_one Volt width = if width =? 16 then 20 else 0
steps_in_one Ampere width = if width =? 16 then 20 else 0
steps_in_one Hertz width = if width =? 16 then 128 else 0
steps_in_one Other width = 0

-- The same scales as a step and an offset: the scaled value is step times code, less the offset.

abbrev pub by_steps : ℕ → ℕ → Steps
by_steps step offset = record { step = step; offset = offset }

unfoldable pub celsius_steps : ℕ → Steps
celsius_steps width =
    if width =? 8 then by_steps 32 1280 else
    if width =? 16 then by_steps 1 8736 else
    by_steps 1 0

unfoldable pub ampere_steps : ℕ → Steps
ampere_steps width = if width =? 16 then by_steps 1 32000 else by_steps 1 0

unfoldable pub steps_of : Unit → ℕ → Steps
steps_of Celsius width = celsius_steps width
steps_of Ampere width = ampere_steps width
steps_of Percent width = by_steps 1 0
steps_of Volt width = by_steps 1 0
steps_of Hertz width = by_steps 1 0
steps_of Other width = by_steps 1 0
