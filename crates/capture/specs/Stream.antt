-- A stream of bytes as lines (RULES 11.4, 11.6 and 11.8): a newline ends a line, and so does the end of the stream
-- where a line has begun; a line may have 80 bytes, its newline not counted; lines after the first 1,000,000 are not
-- read.
use Rattle.std.specs.Prelude.{List, [], ◌∷◌, ◌++◌, map, ℕ, length, take, if◌then◌else◌}
use Rattle.words.specs.Words.{◌<?◌, ◌=?◌, Told, refused}
use Rattle.capture.specs.Line.{Frame, line_read}

abbrev pub newline : ℕ
newline = 10

abbrev pub longest_line : ℕ
longest_line = 80

abbrev pub most_lines : ℕ
most_lines = 1000000

-- the lines of a stream, however long, where `begun` came before it without a newline
unfoldable pub lines_from : List ℕ → List ℕ → List (List ℕ)
lines_from begun [] = if length begun =? 0 then [] else begun ∷ []
lines_from begun (c ∷ stream) =
    if c =? newline then begun ∷ lines_from [] stream else
    lines_from (begun ++ (c ∷ [])) stream

-- a line as it is read: its bytes, or that it is too long
pub data Piece : Type 0 where
  whole : List ℕ → Piece
  too_long : Piece

unfoldable pub piece_of : List ℕ → Piece
piece_of line = if longest_line <? length line then too_long else whole line

-- the lines that are read of a stream
unfoldable pub lines_of : List ℕ → List Piece
lines_of stream = take most_lines (map piece_of (lines_from [] stream))

-- what a line says: one that is too long is malformed
unfoldable pub piece_read : Piece → Told Frame
piece_read (whole line) = line_read line
piece_read too_long = refused 19

-- the bytes before the first newline, or all where there is none
unfoldable pub line_in : List ℕ → List ℕ
line_in [] = []
line_in (c ∷ stream) = if c =? newline then [] else c ∷ line_in stream
