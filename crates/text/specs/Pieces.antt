-- A piece of text put into lent bytes at a place: the whole piece where it fits, and nothing of it where it does not.
use Rattle.std.specs.Prelude.{◌≡◌, Bool, List, ◌++◌, ℕ, ◌+◌, ◌≤◌, length, take, drop, if◌then◌else◌}
use Rattle.words.specs.Words.{◌≤?◌}

-- whether a piece fits behind a place
abbrev pub fits_in : List ℕ → ℕ → List ℕ → Bool
fits_in bytes at piece = at + length piece ≤? length bytes

-- the bytes with a piece in place of what stood there
abbrev pub placed : List ℕ → ℕ → List ℕ → List ℕ
placed bytes at piece = take at bytes ++ piece ++ drop (at + length piece) bytes

-- the bytes after a piece was put
unfoldable pub put_in : List ℕ → ℕ → List ℕ → List ℕ
put_in bytes at piece = if fits_in bytes at piece then placed bytes at piece else bytes

-- and the place behind what was put
unfoldable pub end_of : List ℕ → ℕ → List ℕ → ℕ
end_of bytes at piece = if fits_in bytes at piece then at + length piece else at

-- a text that was put: what stood before its place stays, the text stands behind it, and `end` is the place behind the
-- text
pub record Wrote (before : List ℕ) (at : ℕ) (words : List ℕ) (after : List ℕ) (end : ℕ) : Type 0 where
  pub next : end ≡ at + length words
  pub written : take end after ≡ take at before ++ words
  pub fits : end ≤ length after
  pub room : length after ≡ length before
