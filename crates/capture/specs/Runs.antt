-- A stream read in runs (RULES 11.7): a program takes lines of a block until the block is used up or it has printed
-- enough, goes on where it stopped, and in the end takes the line that the stream ends. Told by nothing but the
-- promises of the cutter's calls.
use Rattle.std.specs.Prelude.{◌≡◌, List, [], ◌∷◌, ◌++◌, ℕ}
use Rattle.capture.specs.Stream.{Piece, lines_of}
use Rattle.capture.specs.Cutter.{fresh, ending_of}
use Rattle.capture.specs.Promises.{Next}
use Rattle.capture.specs.Feeding.{joined, yield_of, brings, used, over, last_pieces, Place, between, inside}
use Rattle.capture.specs.declared.Cutter.{Cutter}
use Rattle.capture.specs.declared.Cut.{Cut}

-- how a run ends: inside its block, with the block used up, or with all lines read that are read
pub data Stop : Type 0 where
  goes_on : Stop
  block_used : Stop
  all_read : Stop

-- From a position in a block and a cutter: the pieces that a run takes, where it leaves both, and how it ends.
pub data Ran (block : List ℕ) (at : ℕ) (c : Cutter) : List Piece → ℕ → Cutter → Stop → Type 0 where
  begun : Ran block at c [] at c goes_on
  a_line : {pieces : List Piece} {at' : ℕ} {c' : Cutter} (r : Cut) (piece : Piece)
      → Ran block at c pieces at' c' goes_on → Next block at' c' r → yield_of block r ≡ brings piece
      → Ran block at c (pieces ++ (piece ∷ [])) r.read_to r.cutter goes_on
  all_used : {pieces : List Piece} {at' : ℕ} {c' : Cutter} (r : Cut)
      → Ran block at c pieces at' c' goes_on → Next block at' c' r → yield_of block r ≡ used
      → Ran block at c pieces r.read_to r.cutter block_used
  no_more_lines : {pieces : List Piece} {at' : ℕ} {c' : Cutter} (r : Cut)
      → Ran block at c pieces at' c' goes_on → Next block at' c' r → yield_of block r ≡ over
      → Ran block at c pieces r.read_to r.cutter all_read

-- What a program prints that says something of each line and something at the end: `say before pieces` is what it says
-- of pieces that come after those before them, `close all` what it says of all in the end.

-- the line that the stream ends, and the end
abbrev pub end_text : (List Piece → List Piece → List ℕ) → (List Piece → List ℕ) → Cutter → List Piece → List ℕ
end_text say close c before =
    say before (last_pieces c (ending_of c)) ++ close (before ++ last_pieces c (ending_of c))

-- from a cutter, the pieces that came before, the place of the reading and the blocks to come: the text
pub data Prints (say : List Piece → List Piece → List ℕ) (close : List Piece → List ℕ)
    : Cutter → List Piece → Place → List (List ℕ) → List ℕ → Type 0 where
  a_run : {c c' : Cutter} {before pieces : List Piece} {block rest : List ℕ} {at at' : ℕ} {blocks : List (List ℕ)}
      → Ran block at c pieces at' c' goes_on → Prints say close c' (before ++ pieces) (inside block at') blocks rest
      → Prints say close c before (inside block at) blocks (say before pieces ++ rest)
  a_block_used : {c c' : Cutter} {before pieces : List Piece} {block rest : List ℕ} {at at' : ℕ}
      {blocks : List (List ℕ)}
      → Ran block at c pieces at' c' block_used → Prints say close c' (before ++ pieces) between blocks rest
      → Prints say close c before (inside block at) blocks (say before pieces ++ rest)
  all_lines_read : {c c' : Cutter} {before pieces : List Piece} {block : List ℕ} {at at' : ℕ} {blocks : List (List ℕ)}
      → Ran block at c pieces at' c' all_read
      → Prints say close c before (inside block at) blocks
      (say before pieces ++ end_text say close c' (before ++ pieces))
  a_block : {c : Cutter} {before : List Piece} {block words : List ℕ} {blocks : List (List ℕ)}
      → Prints say close c before (inside block 0) blocks words
      → Prints say close c before between (block ∷ blocks) words
  the_end : {c : Cutter} {before : List Piece}
      → Prints say close c before between [] (end_text say close c before)

-- What is said of lines is said of each in its turn.
abbrev pub InTurn : (List Piece → List Piece → List ℕ) → Type 0
InTurn say =
    (before pieces more : List Piece) → say before (pieces ++ more) ≡ say before pieces ++ say (before ++ pieces) more

-- However a stream came in blocks, and wherever a run stopped, what is printed is what is said of the stream's lines.
abbrev pub RunsDoNotMatter : Type 0
RunsDoNotMatter =
    (say : List Piece → List Piece → List ℕ) (close : List Piece → List ℕ) → InTurn say
    → (blocks : List (List ℕ)) (words : List ℕ) → Prints say close fresh [] between blocks words
    → words ≡ say [] (lines_of (joined blocks)) ++ close (lines_of (joined blocks))
