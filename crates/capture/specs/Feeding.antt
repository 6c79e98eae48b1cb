-- A stream fed to the cutter block by block (RULES 11.7), told by nothing but the promises of its calls: each call is
-- handed the cutter and the position that the one before it gave back, and the next block is taken up at its start.
use Rattle.std.specs.Prelude.{◌≡◌, List, [], ◌∷◌, ◌++◌, ℕ, ◌-◌, take, drop}
use Rattle.capture.specs.Stream.{Piece, whole, too_long}
use Rattle.capture.specs.Promises.{Next, Last}
use Rattle.capture.specs.declared.Cutter.{Cutter}
use Rattle.capture.specs.declared.Cut.{Cut}
use Rattle.capture.specs.declared.Cutting.{Cutting}
use Rattle.capture.specs.declared.Ending.{Ending}

-- the stream that blocks make
abbrev pub joined : List (List ℕ) → List ℕ
joined [] = []
joined (block ∷ blocks) = block ++ joined blocks

-- what a call of `next` brings: a line, the end of the block, or the end of the reading
pub data Yield : Type 0 where
  brings : Piece → Yield
  used : Yield
  over : Yield

abbrev pub yield_in : List ℕ → Cutter → Cutting → Yield
yield_in block c (Cutting.Within from to) = brings (whole (take (to - from) (drop from block)))
yield_in block c (Cutting.Carried n) = brings (whole (take n c.carry))
yield_in block c Cutting.TooLong = brings too_long
yield_in block c Cutting.BlockUsed = used
yield_in block c Cutting.AllRead = over

abbrev pub yield_of : List ℕ → Cut → Yield
yield_of block r = yield_in block r.cutter r.answer

-- and what the end of the stream brings
abbrev pub last_pieces : Cutter → Ending → List Piece
last_pieces c (Ending.Carried n) = whole (take n c.carry) ∷ []
last_pieces c Ending.TooLong = too_long ∷ []
last_pieces c Ending.Nothing = []

-- where the reading stands: between two blocks, or inside one
pub data Place : Type 0 where
  between : Place
  inside : List ℕ → ℕ → Place

-- from a cutter, a place and the blocks to come, the pieces that the calls bring
pub data Fed : Cutter → Place → List (List ℕ) → List Piece → Type 0 where
  a_piece : (c : Cutter) (block : List ℕ) (at : ℕ) (blocks : List (List ℕ)) (r : Cut) (piece : Piece)
      (pieces : List Piece)
      → Next block at c r → yield_of block r ≡ brings piece → Fed r.cutter (inside block r.read_to) blocks pieces
      → Fed c (inside block at) blocks (piece ∷ pieces)
  a_block_used : (c : Cutter) (block : List ℕ) (at : ℕ) (blocks : List (List ℕ)) (r : Cut) (pieces : List Piece)
      → Next block at c r → yield_of block r ≡ used → Fed r.cutter between blocks pieces
      → Fed c (inside block at) blocks pieces
  all_lines_read : (c : Cutter) (block : List ℕ) (at : ℕ) (blocks : List (List ℕ)) (r : Cut)
      → Next block at c r → yield_of block r ≡ over
      → Fed c (inside block at) blocks []
  a_block : (c : Cutter) (block : List ℕ) (blocks : List (List ℕ)) (pieces : List Piece)
      → Fed c (inside block 0) blocks pieces
      → Fed c between (block ∷ blocks) pieces
  the_end : (c : Cutter) (e : Ending)
      → Last c e
      → Fed c between [] (last_pieces c e)
