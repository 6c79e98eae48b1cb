-- The laws of this crate, each a named statement. proofs/Laws.antt has a proof of each, under the same name written
-- small.
use Rattle.std.specs.Prelude.{◌≡◌, List, ℕ, ◌+◌, ◌-◌, ◌^◌, ◌≤◌, ◌<◌, length}
use Rattle.text.specs.Text.{decimal_width}
use Rattle.text.specs.Pieces.{Wrote}
use Rattle.text.specs.Promises.{Put, PutDecimal, PutHex, PutBytes, DecimalWidth}

-- No second answer keeps a promise, and no other bytes do.

abbrev pub PutOnly : Type 0
PutOnly =
    (before : List ℕ) (at : ℕ) (word : List ℕ) (r s : ℕ) (after after' : List ℕ)
    → Put before at word r after → Put before at word s after' → (r ≡ s) × (after ≡ after')

abbrev pub PutDecimalOnly : Type 0
PutDecimalOnly =
    (before : List ℕ) (at : ℕ) (key : List ℕ) (number r s : ℕ) (after after' : List ℕ)
    → PutDecimal before at key number r after → PutDecimal before at key number s after' → (r ≡ s) × (after ≡ after')

abbrev pub PutHexOnly : Type 0
PutHexOnly =
    (before : List ℕ) (at : ℕ) (key : List ℕ) (number count r s : ℕ) (after after' : List ℕ)
    → PutHex before at key number count r after → PutHex before at key number count s after'
    → (r ≡ s) × (after ≡ after')

abbrev pub PutBytesOnly : Type 0
PutBytesOnly =
    (before : List ℕ) (at : ℕ) (key bytes : List ℕ) (r s : ℕ) (after after' : List ℕ)
    → PutBytes before at key bytes r after → PutBytes before at key bytes s after' → (r ≡ s) × (after ≡ after')

abbrev pub DecimalWidthOnly : Type 0
DecimalWidthOnly = (number r s : ℕ) → DecimalWidth number r → DecimalWidth number s → r ≡ s

-- What fits is written whole, and of what does not fit nothing is.

abbrev pub FitsWrote : Type 0
FitsWrote =
    (before : List ℕ) (at : ℕ) (word : List ℕ) (r : ℕ) (after : List ℕ)
    → Put before at word r after → at + length word ≤ length before → Wrote before at word after r

abbrev pub NoRoomKeeps : Type 0
NoRoomKeeps =
    (before : List ℕ) (at : ℕ) (word : List ℕ) (r : ℕ) (after : List ℕ)
    → Put before at word r after → length before < at + length word → (r ≡ at) × (after ≡ before)

-- A number has the decimal digits that it needs and no leading zeros.
abbrev pub NoLeadingZeros : Type 0
NoLeadingZeros = (n : ℕ) → (n < 10 ^ decimal_width n) × (1 < decimal_width n → 10 ^ (decimal_width n - 1) ≤ n)

-- So a number below a power of ten has no more digits than that power has zeros.
abbrev pub WidthAtMost : Type 0
WidthAtMost = (n count : ℕ) → 0 < count → n < 10 ^ count → decimal_width n ≤ count
