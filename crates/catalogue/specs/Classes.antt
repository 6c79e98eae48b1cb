-- Classes of codes (RULES 7.1 to 7.4 and 7.13; 000, Table 3.2.3b), counted down: the greatest code is no-data, one less
-- is out-of-range, two less is reserved, where the width has them; all others are numbers. In a plain row every code is
-- a number. In a row of two states 10b is an error, out-of-range.
use Rattle.std.specs.Prelude.{Bool, ℕ, ◌-◌, ◌^◌, if◌then◌else◌}
use Rattle.words.specs.Words.{◌≤?◌, ◌=?◌, ◌and◌, ◌or◌}
use Rattle.catalogue.specs.declared.Row.{Row}
use Rattle.catalogue.specs.declared.Class.{Class}
use Rattle.catalogue.specs.declared.Class.TheVariants.{Number, NoData, OutOfRange, Reserved}

-- all ones
abbrev pub greatest_code : ℕ → ℕ
greatest_code width = 2 ^ width - 1

-- the widths that have no-data, and those that have all three classes
abbrev pub has_no_data : ℕ → Bool
has_no_data width = 2 ≤? width

abbrev pub has_three : ℕ → Bool
has_three width = width =? 8 or width =? 16 or width =? 32

-- the class by the width alone, counted down from the greatest code
unfoldable pub class_at : ℕ → ℕ → Class
class_at width code =
    if has_no_data width and code =? greatest_code width then NoData else
    if has_three width and code =? greatest_code width - 1 then OutOfRange else
    if has_three width and code =? greatest_code width - 2 then Reserved else
    Number

-- a row of two states: marked so, and of two bits
abbrev pub has_two_states : Row → Bool
has_two_states row = row.two_state and row.width =? 2

-- 10b, which is neither of the two states
abbrev pub error_code : ℕ
error_code = 2

-- whether a code is that error in its row
abbrev pub is_error : Row → ℕ → Bool
is_error row code = has_two_states row and code =? error_code

-- the class of a code in a row: the one place that reads a row's marks
unfoldable pub class_in : Row → ℕ → Class
class_in row code =
    if row.plain then Number else
    if is_error row code then OutOfRange else
    class_at row.width code

-- how far below the greatest code a class stands; numbers stand below the three
abbrev pub below_greatest : Class → ℕ
below_greatest NoData = 0
below_greatest OutOfRange = 1
below_greatest Reserved = 2
below_greatest Number = 3

infix 50 ◌is◌
abbrev pub ◌is◌ : Class → Class → Bool
a is b = below_greatest a =? below_greatest b
