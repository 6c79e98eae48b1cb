-- Text as the list of its bytes' ASCII codes: words as they stand; numbers as digits, the most significant first
-- (RULES 11.1 and 11.2: decimal without leading zeros, and hexadecimal in capitals); and bytes as two digits each.
use Rattle.std.specs.Prelude.{List, [], ◌∷◌, ◌++◌, ℕ, zero, suc, ◌+◌, ◌-◌, ◌/◌, ◌%◌, if◌then◌else◌}
use Prim.Native.Char.{code}
use Prim.Native.String.{String, [] as done, ◌∷◌ as ◌then◌}
use Rattle.words.specs.Words.{◌<?◌}

-- the codes of a word
abbrev pub text : String → List ℕ
text done = []
text (c then s) = code c ∷ text s

-- the codes of `0` and `A`

abbrev pub digit0 : ℕ
digit0 = 48

abbrev pub letter_a : ℕ
letter_a = 65

-- the code of a digit
unfoldable pub glyph : ℕ → ℕ
glyph d = if d <? 10 then digit0 + d else letter_a + (d - 10)

-- the last `count` digits of a number
unfoldable pub digits : ℕ → ℕ → ℕ → List ℕ
digits base zero n = []
digits base (suc count) n = digits base count (n / base) ++ (glyph (n % base) ∷ [])

-- How many decimal digits a number has: one below ten, and from ten on one more than its tenth. `most` bounds how often
-- a tenth is taken, and no number needs more tenths than it is large.

unfoldable pub width_within : ℕ → ℕ → ℕ
width_within zero n = 1
width_within (suc most) n = if n <? 10 then 1 else suc (width_within most (n / 10))

abbrev pub decimal_width : ℕ → ℕ
decimal_width n = width_within n n

-- a number in decimal, without leading zeros
unfoldable pub decimal : ℕ → List ℕ
decimal n = digits 10 (decimal_width n) n

-- the digits of a byte
abbrev pub byte_digits : ℕ
byte_digits = 2

-- two digits for each byte, in their order
unfoldable pub byte_pairs : List ℕ → List ℕ
byte_pairs [] = []
byte_pairs (b ∷ bs) = digits 16 byte_digits b ++ byte_pairs bs
