-- The 29-bit identifier of a CAN frame, at J1939-21's bit positions (RULES 3.1, 3.4 and 3.5). 000's table 3.2b prints
-- the address rows eight bits too high; J1939-21 decides (RULES 1.6).
use Rattle.std.specs.Prelude.{Bool, ℕ, ◌+◌, ◌*◌, ◌-◌, ◌^◌, if◌then◌else◌}
use Rattle.words.specs.Words.{◌<?◌, bits}
use Rattle.frame.specs.declared.Parts.{Parts}

unfoldable pub priority_of : ℕ → ℕ
priority_of id = bits 28 26 id

unfoldable pub reserved_of : ℕ → ℕ
reserved_of id = bits 25 25 id

unfoldable pub dgn_of : ℕ → ℕ
dgn_of id = bits 24 8 id

unfoldable pub source_of : ℕ → ℕ
source_of id = bits 7 0 id

-- the parts that a reader uses; the reserved bit is 0 in every identifier that is taken apart
abbrev pub parts_of : ℕ → Parts
parts_of id = record { priority = priority_of id; dgn = dgn_of id; source = source_of id }

-- the identifier with these parts
unfoldable pub identifier_of : ℕ → ℕ → ℕ → ℕ
identifier_of priority dgn source = priority * 2 ^ 26 + dgn * 2 ^ 8 + source

-- identifiers have 29 bits, DGNs 17, priorities 3
abbrev pub identifiers : ℕ
identifiers = 2 ^ 29

abbrev pub greatest_dgn : ℕ
greatest_dgn = 0x1FFFF

abbrev pub lowest_priority : ℕ
lowest_priority = 7

-- a DGN is addressed if its bits 15 to 8 are less than F0h; its low byte is then the destination (RULES 3.4)
unfoldable pub is_addressed : ℕ → Bool
is_addressed dgn = bits 15 8 dgn <? 0xF0

unfoldable pub destination_of : ℕ → ℕ
destination_of dgn = bits 7 0 dgn

-- the DGN as catalogue and hosted list have it: an addressed one with 00h for its destination
unfoldable pub catalogue_form : ℕ → ℕ
catalogue_form dgn = if is_addressed dgn then dgn - destination_of dgn else dgn
