-- The laws of this program (RULES 15), each a named statement. proofs/Laws.antt has a proof of each, under the same
-- name written small.
use Rattle.std.specs.Prelude.{◌≡◌, true, false, List, [], ◌∷◌, ◌++◌, map, ◌↔◌, ◌⊎◌, ℕ, ◌+◌, ◌≤◌, ◌<◌, length, take}
use Rattle.words.specs.Words.{◌≤?◌, ◌=?◌, refused}
use Rattle.words.specs.Lists.{any, every, Distinct}
use Rattle.text.specs.Text.{text}
use Rattle.frame.specs.Identifier.{source_of, dgn_of}
use Rattle.capture.specs.Stream.{Piece}
use Rattle.capture.specs.Feeding.{joined, Place, between, inside}
use Rattle.traffic.specs.Figures.{Seen, seen_of, pair_of, lines_in, pairs_in, is_pair, frames_of, gaps_of, time_of}
use Rattle.traffic.specs.Figures.{sum, least, greatest, once_each, most_pairs, named, other_in, refused_in}
use Rattle.traffic.specs.Report.{report}
use Rattle.traffic.specs.Counters.{table_size}
use Rattle.traffic.specs.Reader.{Starts, Runs, Finished}
use Rattle.traffic.specs.declared.reader.Reader.{Reader}
use Rattle.traffic.specs.declared.reader.Run.{Run}
use Rattle.traffic.specs.declared.reader.Going.TheVariants.{On, Used, Over}

-- What the program prints after its first line, told by nothing but what its runs (`reader::lines`) and its end
-- (`reader::finish`) promise: from a reader, its table, the place of the reading and the blocks to come, the text. Each
-- run goes on where the one before it stopped, and the next block is taken up at its start.
pub data Prints : Reader → List ℕ → Place → List (List ℕ) → List ℕ → Type 0 where
  a_run : {reader : Reader} {table table' block out rest : List ℕ} {read_to : ℕ} {blocks : List (List ℕ)} (r : Run)
      → Runs block read_to reader table r table' out → r.going ≡ On
      → Prints r.reader table' (inside block r.read_to) blocks rest
      → Prints reader table (inside block read_to) blocks (take r.written_to out ++ rest)
  a_block_used : {reader : Reader} {table table' block out rest : List ℕ} {read_to : ℕ}
      {blocks : List (List ℕ)} (r : Run)
      → Runs block read_to reader table r table' out → r.going ≡ Used → Prints r.reader table' between blocks rest
      → Prints reader table (inside block read_to) blocks (take r.written_to out ++ rest)
  all_lines_read : {reader : Reader} {table table' block out out₁ out₂ : List ℕ} {read_to n : ℕ}
      {blocks : List (List ℕ)} (r : Run)
      → Runs block read_to reader table r table' out → r.going ≡ Over → Finished r.reader table' out₁ n out₂
      → Prints reader table (inside block read_to) blocks (take r.written_to out ++ take n out₂)
  a_block : {reader : Reader} {table block words : List ℕ} {blocks : List (List ℕ)}
      → Prints reader table (inside block 0) blocks words
      → Prints reader table between (block ∷ blocks) words
  the_end : {reader : Reader} {table out out' : List ℕ} {n : ℕ}
      → Finished reader table out n out'
      → Prints reader table between [] (take n out')

-- However a capture came in blocks, and wherever the output was full, what is printed is the report of the capture.
abbrev pub ReportPrinted : Type 0
ReportPrinted =
    (reader : Reader) (table : List ℕ) (blocks : List (List ℕ)) (words : List ℕ)
    → Starts reader → length table ≡ table_size → Prints reader table between blocks words
    → text "format=1\n" ++ words ≡ report (joined blocks)

-- The frames of the pairs, those of the others and the refused lines add up to the lines, for any capture.
abbrev pub AddsUp : Type 0
AddsUp =
    (stream : List ℕ)
    → sum (map (λ pair. frames_of pair (lines_in stream)) (named (lines_in stream))) + other_in (lines_in stream)
    + refused_in (lines_in stream)
    ≡ length (lines_in stream)

-- A pair is a sender and a DGN: two identifiers have one pair exactly when they have one sender and one DGN; and what
-- is printed of a pair is that sender and that DGN.

abbrev pub PairExactly : Type 0
PairExactly = (a b : ℕ) → (pair_of a ≡ pair_of b) ↔ ((source_of a ≡ source_of b) × (dgn_of a ≡ dgn_of b))

abbrev pub PairShows : Type 0
PairShows = (id : ℕ) → (source_of (pair_of id) ≡ source_of id) × (dgn_of (pair_of id) ≡ dgn_of id)

-- No line meets another refusal than these.
abbrev pub OnlyThese : Type 0
OnlyThese =
    (piece : Piece) (n : ℕ) → (seen_of piece).says ≡ refused n → (n ≡ 3) ⊎ (n ≡ 5) ⊎ (n ≡ 6) ⊎ (n ≡ 19)

-- A gap is what passes between a frame of the pair and its next one, whatever other lines are between them.
abbrev pub GapExactly : Type 0
GapExactly =
    (pair : ℕ) (before others : List Seen) (f g : Seen) → is_pair pair f.says ≡ true → is_pair pair g.says ≡ true
    → any (λ l. is_pair pair l.says) others ≡ false
    → gaps_of pair (before ++ (f ∷ []) ++ others ++ (g ∷ []))
    ≡ gaps_of pair (before ++ (f ∷ [])) ++ ((time_of others + g.pause) ∷ [])

-- So a pair has a gap less than frames, and one that was seen once has none.
abbrev pub OneGapLess : Type 0
OneGapLess =
    (pair : ℕ) (lines : List Seen) → 0 < frames_of pair lines → length (gaps_of pair lines) + 1 ≡ frames_of pair lines

-- The least gap is one of them, and none is less; the greatest likewise.

abbrev pub LeastExactly : Type 0
LeastExactly =
    (g : ℕ) (gaps : List ℕ)
    → (any (◌=?◌ (least (g ∷ gaps))) (g ∷ gaps) ≡ true) × (every (λ n. least (g ∷ gaps) ≤? n) (g ∷ gaps) ≡ true)

abbrev pub GreatestExactly : Type 0
GreatestExactly =
    (g : ℕ) (gaps : List ℕ)
    → (any (◌=?◌ (greatest (g ∷ gaps))) (g ∷ gaps) ≡ true) × (every (λ n. n ≤? greatest (g ∷ gaps)) (g ∷ gaps) ≡ true)

-- No pair has two lines of its own, and at most 64 have one.
abbrev pub NamedOnce : Type 0
NamedOnce = (lines : List Seen) → Distinct (named lines) × (length (named lines) ≤ 64)

-- Whoever has a line keeps it, and its place, whatever comes after; so the order is that of first sight.
abbrev pub StaysNamed : Type 0
StaysNamed = (lines more : List Seen) → take (length (named lines)) (named (lines ++ more)) ≡ named lines

-- A frame is another's only where there are more than 64 pairs.
abbrev pub NoOthers : Type 0
NoOthers = (lines : List Seen) → length (once_each (pairs_in lines)) ≤ most_pairs → other_in lines ≡ 0
