-- Digits read, the most significant first, in bases up to sixteen (RULES 11.1 and 11.2: decimal, and hexadecimal in
-- capitals). How a number is written is `digits` of the crate text.
use Rattle.std.specs.Prelude.{Bool, true, List, [], ◌∷◌, ℕ, ◌+◌, ◌*◌, ◌-◌, if◌then◌else◌}
use Rattle.words.specs.Words.{◌<?◌, ◌≤?◌, ◌and◌, Told, refused, gives}
use Rattle.text.specs.Text.{digit0, letter_a}

-- the codes of `9` and `F`

abbrev pub digit9 : ℕ
digit9 = 57

abbrev pub letter_f : ℕ
letter_f = 70

abbrev pub greatest_base : ℕ
greatest_base = 16

-- the digit that a code spells; 16, which is a digit in no base, where it spells none
unfoldable pub value_of : ℕ → ℕ
value_of code =
    if code <? digit0 then greatest_base else
    if code ≤? digit9 then code - digit0 else
    if code <? letter_a then greatest_base else
    if code ≤? letter_f then code - letter_a + 10 else
    greatest_base

unfoldable pub are_digits : ℕ → List ℕ → Bool
are_digits base [] = true
are_digits base (code ∷ codes) = (value_of code <? base) and are_digits base codes

-- the number that codes spell, read on from the number `n` that those before them spelled
unfoldable pub number_from : ℕ → ℕ → List ℕ → ℕ
number_from base n [] = n
number_from base n (code ∷ codes) = number_from base (n * base + value_of code) codes

abbrev pub number : ℕ → List ℕ → ℕ
number base codes = number_from base 0 codes

-- a number read; 19 where a code is no digit
unfoldable pub number_read : ℕ → List ℕ → Told ℕ
number_read base codes = if are_digits base codes then gives (number base codes) else refused 19
