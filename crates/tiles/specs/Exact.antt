-- A number of steps as a single-precision number (RULES 18.3): the one nearest to v / k, and what it is to be v / k
-- exactly.
use Rattle.std.specs.Prelude.{true, false, ℕ, suc, ℤ, pos, negsuc, Float}
use Rattle.std.specs.Float.{binary32}
use Rattle.std.specs.Float.Ieee.{round}
use Rattle.std.specs.Float.Ieee.Exact.{HasValue}

-- the single-precision number nearest to v / k
unfoldable pub nearest : ℤ → ℕ → Float
nearest (pos n) k = round binary32 false n k
nearest (negsuc n) k = round binary32 true (suc n) k

-- x is v / k: no NaN and no infinity, of v's sign, and of that very size
abbrev pub IsExactly : Float → ℤ → ℕ → Type 0
IsExactly x (pos n) k = HasValue x false n k
IsExactly x (negsuc n) k = HasValue x true (suc n) k
