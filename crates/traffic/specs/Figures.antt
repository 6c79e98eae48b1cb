-- The figures of a capture (RULES 15.3 to 15.9): for each pair of sender and DGN, its frames and the gaps between them.
-- Every figure is told by the lines that were read, and by nothing else.
use Rattle.std.specs.Prelude.{Bool, true, false, not, List, [], ◌∷◌, ◌++◌, map, ℕ, ◌+◌, min, max, length, take, drop, if◌then◌else◌}
use Rattle.words.specs.Words.{given◌then◌, ◌=?◌, bits, Told, refused, gives}
use Rattle.words.specs.Lists.{any, count}
use Rattle.frame.specs.Frame.{checked_of}
use Rattle.capture.specs.Line.{Frame}
use Rattle.capture.specs.Stream.{Piece, lines_of, piece_read}

-- Sender and DGN in one number: bits 24 to 0 of the identifier. Its sender and its DGN are read as an identifier's.
unfoldable pub pair_of : ℕ → ℕ
pair_of id = bits 24 0 id

-- What is looked at in a line: the time that it lets pass, and the pair of its frame or the number of its refusal.
pub record Seen : Type 0 where
  pub pause : ℕ
  pub says : Told ℕ

-- a malformed line lets no time pass, any other its gap; an identifier may be refused (3, 5, 6)
unfoldable pub seen_in : Told Frame → Seen
seen_in (refused n) = record { pause = 0; says = refused n }
seen_in (gives f) =
    record {
      pause = f.gap;
      says = given checked_of f.id (length f.bytes) then λ parts. gives (pair_of f.id);
    }

unfoldable pub seen_of : Piece → Seen
seen_of piece = seen_in (piece_read piece)

-- the lines that are read of a stream
abbrev pub lines_in : List ℕ → List Seen
lines_in stream = map seen_of (lines_of stream)

-- Frames and refused lines.

abbrev pub pair_in : Told ℕ → List ℕ
pair_in (refused n) = []
pair_in (gives pair) = pair ∷ []

-- the pairs of the frames, in their order
unfoldable pub pairs_in : List Seen → List ℕ
pairs_in [] = []
pairs_in (l ∷ lines) = pair_in l.says ++ pairs_in lines

abbrev pub is_refused : Told ℕ → Bool
is_refused (refused n) = true
is_refused (gives pair) = false

abbrev pub refused_in : List Seen → ℕ
refused_in lines = count (λ l. is_refused l.says) lines

abbrev pub frames_of : ℕ → List Seen → ℕ
frames_of pair lines = count (◌=?◌ pair) (pairs_in lines)

-- Time, and gaps.

abbrev pub sum : List ℕ → ℕ
sum [] = 0
sum (n ∷ ns) = n + sum ns

-- the time that lines let pass
abbrev pub time_of : List Seen → ℕ
time_of lines = sum (map (λ l. l.pause) lines)

abbrev pub is_pair : ℕ → Told ℕ → Bool
is_pair pair (refused n) = false
is_pair pair (gives p) = pair =? p

-- for each frame of the pair, the pauses since the one before it, with that of its own line; `since` is what had passed
-- before these lines
unfoldable pub waits_from : ℕ → ℕ → List Seen → List ℕ
waits_from pair since [] = []
waits_from pair since (l ∷ lines) =
    if is_pair pair l.says then (since + l.pause) ∷ waits_from pair 0 lines else
    waits_from pair (since + l.pause) lines

-- the gaps of a pair: its first frame has none before it, so what passed until then is no gap
abbrev pub gaps_of : ℕ → List Seen → List ℕ
gaps_of pair lines = drop 1 (waits_from pair 0 lines)

-- the least of some numbers, and the greatest; of none they are 0, which nothing prints

abbrev pub least : List ℕ → ℕ
least [] = 0
least (n ∷ []) = n
least (n ∷ m ∷ ns) = min n (least (m ∷ ns))

abbrev pub greatest : List ℕ → ℕ
greatest [] = 0
greatest (n ∷ ns) = max n (greatest ns)

-- Which pairs have figures.

abbrev pub without : ℕ → List ℕ → List ℕ
without p [] = []
without p (q ∷ qs) = if p =? q then without p qs else q ∷ without p qs

-- each once, in the order in which they were first seen
unfoldable pub once_each : List ℕ → List ℕ
once_each [] = []
once_each (p ∷ ps) = p ∷ without p (once_each ps)

-- so many have figures of their own
unfoldable pub most_pairs : ℕ
most_pairs = 64

abbrev pub named : List Seen → List ℕ
named lines = take most_pairs (once_each (pairs_in lines))

-- the frames of all pairs that came later

abbrev pub is_other : List ℕ → ℕ → Bool
is_other pairs p = not (any (◌=?◌ p) pairs)

abbrev pub other_in : List Seen → ℕ
other_in lines = count (is_other (named lines)) (pairs_in lines)
