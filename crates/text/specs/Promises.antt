-- What each public call of this crate promises (RULES 13.7): the answer, and every lent byte.
use Rattle.std.specs.Prelude.{◌≡◌, List, ◌++◌, ℕ}
use Rattle.text.specs.Text.{digits, decimal_width, decimal, byte_pairs}
use Rattle.text.specs.Pieces.{put_in, end_of}

-- put: a word
pub record Put (before : List ℕ) (at : ℕ) (word : List ℕ) (r : ℕ) (after : List ℕ) : Type 0 where
  pub bytes : after ≡ put_in before at word
  pub behind : r ≡ end_of before at word

-- put_decimal, put_hex and put_bytes: a key and its value, put as one word

abbrev pub PutDecimal : List ℕ → ℕ → List ℕ → ℕ → ℕ → List ℕ → Type 0
PutDecimal before at key number r after = Put before at (key ++ decimal number) r after

abbrev pub PutHex : List ℕ → ℕ → List ℕ → ℕ → ℕ → ℕ → List ℕ → Type 0
PutHex before at key number count r after = Put before at (key ++ digits 16 count number) r after

abbrev pub PutBytes : List ℕ → ℕ → List ℕ → List ℕ → ℕ → List ℕ → Type 0
PutBytes before at key bytes r after = Put before at (key ++ byte_pairs bytes) r after

-- decimal_width
pub record DecimalWidth (number r : ℕ) : Type 0 where
  pub width : r ≡ decimal_width number
