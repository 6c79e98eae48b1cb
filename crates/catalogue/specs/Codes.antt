-- The code that is written for a value (RULES 7.9 and 7.10): for a class its own code, for a scaled value the number
-- that has this value; 12 where there is none.
use Rattle.std.specs.Prelude.{not, ℕ, ◌-◌, ◌/◌, ◌%◌, ◌^◌, ℤ, pos, negsuc, ◌+ℤ◌, if◌then◌else◌}
use Rattle.words.specs.Words.{given◌then◌, ◌<?◌, ◌≤?◌, ◌=?◌, Told, refused, gives}
use Rattle.catalogue.specs.Classes.{greatest_code, class_in, below_greatest, ◌is◌}
use Rattle.catalogue.specs.Scale.{steps_of}
use Rattle.catalogue.specs.declared.Row.{Row}
use Rattle.catalogue.specs.declared.Class.{Class}
use Rattle.catalogue.specs.declared.Value.{Value}
use Rattle.catalogue.specs.declared.Value.TheVariants.{Scaled, NoData, OutOfRange, Reserved}

-- a code is written for a class only where the row gives it that class
unfoldable pub code_where : Row → Class → ℕ → Told ℕ
code_where row class code = if class_in row code is class then gives code else refused 12

-- a class's code stands that far below the greatest
unfoldable pub class_code : Row → Class → Told ℕ
class_code row class =
    if greatest_code row.width <? below_greatest class then refused 12 else
    code_where row class (greatest_code row.width - below_greatest class)

-- a number from 0 up
abbrev pub from_zero : ℤ → Told ℕ
from_zero (pos n) = gives n
from_zero (negsuc n) = refused 12

-- whole steps are a code, if so many fit the field and are a number there
unfoldable pub stepped_code : Row → ℕ → ℕ → Told ℕ
stepped_code row step n =
    if not (n % step =? 0) then refused 12 else
    if 2 ^ row.width ≤? n / step then refused 12 else
    code_where row Class.Number (n / step)

-- a number's value is step times code, less the offset: so the offset is added, and the steps are counted
unfoldable pub scaled_code : Row → ℤ → Told ℕ
scaled_code row value =
    given from_zero (value +ℤ pos (steps_of row.unit row.width).offset) then λ n.
    stepped_code row (steps_of row.unit row.width).step n

unfoldable pub code_of : Row → Value → Told ℕ
code_of row (Scaled value) = scaled_code row value
code_of row NoData = class_code row Class.NoData
code_of row OutOfRange = class_code row Class.OutOfRange
code_of row Reserved = class_code row Class.Reserved
