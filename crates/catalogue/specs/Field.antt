-- A field of a frame whose eight bytes are one number, low byte first, so that bit 8b + k of the number is bit k of
-- byte b (RULES 6.3; 000, 3.2.3).
use Rattle.std.specs.Prelude.{ℕ, ◌+◌, ◌*◌, ◌-◌, ◌/◌, ◌%◌, ◌^◌, ◌≤◌}

-- the code in the field
unfoldable pub field_of : ℕ → ℕ → ℕ → ℕ
field_of first width number = number / 2 ^ first % 2 ^ width

-- the number with another code in the field: the old one taken out, the new one put in
unfoldable pub with_field : ℕ → ℕ → ℕ → ℕ → ℕ
with_field first width code number = number - field_of first width number * 2 ^ first + code * 2 ^ first

-- the greatest width, and the bits of a frame
abbrev pub widest : ℕ
widest = 32

abbrev pub frame_bits : ℕ
frame_bits = 64

-- a field that a row may have
pub record InFrame (first width : ℕ) : Type 0 where
  pub some : 1 ≤ width
  pub most : width ≤ widest
  pub ends : first + width ≤ frame_bits
