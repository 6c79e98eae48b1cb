-- The report that the program prints of a capture (RULES 15.10 to 15.14): a first line, the refused lines, the figures
-- of each pair, those of the others, and a closing line. Everything is text, as the list of its bytes.
use Rattle.std.specs.Prelude.{List, [], ◌∷◌, ◌++◌, ℕ, ◌+◌, length}
use Prim.Native.String.{String}
use Rattle.words.specs.Words.{Told, refused, gives}
use Rattle.text.specs.Text.{text, digits, decimal}
use Rattle.frame.specs.Identifier.{source_of, dgn_of}
use Rattle.traffic.specs.Figures.{Seen, lines_in, frames_of, gaps_of, sum, least, greatest, named}
use Rattle.traffic.specs.Figures.{other_in, refused_in}

-- a key and its value
abbrev pub keyed : String → List ℕ → List ℕ
keyed key value = text key ++ value

abbrev pub newline : List ℕ
newline = text "\n"

-- a refused line, by its number; a frame prints nothing
unfoldable pub refusal_text : ℕ → Told ℕ → List ℕ
refusal_text n (refused refusal) = keyed "frame=" (decimal n) ++ keyed " refusal=" (decimal refusal) ++ newline
refusal_text n (gives pair) = []

-- the refused ones of some lines, which are counted from n
unfoldable pub refusals_text : ℕ → List Seen → List ℕ
refusals_text n [] = []
refusals_text n (l ∷ lines) = refusal_text n l.says ++ refusals_text (n + 1) lines

-- a pair that was seen once has no gap
unfoldable pub gaps_text : List ℕ → List ℕ
gaps_text [] = text " least=none greatest=none"
gaps_text (g ∷ gaps) = keyed " least=" (decimal (least (g ∷ gaps))) ++ keyed " greatest=" (decimal (greatest (g ∷ gaps)))

-- a source has two digits, a DGN five
unfoldable pub head_text : ℕ → ℕ → List ℕ
head_text pair frames =
    keyed "sa=" (digits 16 2 (source_of pair)) ++ keyed " dgn=" (digits 16 5 (dgn_of pair))
    ++ keyed " frames=" (decimal frames)

unfoldable pub sum_text : ℕ → List ℕ
sum_text n = keyed " sum=" (decimal n) ++ newline

-- the figures of a pair
unfoldable pub pair_text : List Seen → ℕ → List ℕ
pair_text lines pair =
    head_text pair (frames_of pair lines) ++ gaps_text (gaps_of pair lines) ++ sum_text (sum (gaps_of pair lines))

unfoldable pub pairs_text : List Seen → List ℕ → List ℕ
pairs_text lines [] = []
pairs_text lines (pair ∷ pairs) = pair_text lines pair ++ pairs_text lines pairs

-- the frames of all other pairs
unfoldable pub other_text : ℕ → List ℕ
other_text other = keyed "other=" (decimal other) ++ newline

-- those, how many lines there were, and how many of them were refused
unfoldable pub closing_text : ℕ → ℕ → ℕ → List ℕ
closing_text other lines refusals =
    other_text other ++ keyed "frames=" (decimal lines) ++ keyed " refused=" (decimal refusals) ++ newline

-- all that is printed behind the refused lines
unfoldable pub figures_text : List Seen → List ℕ
figures_text lines = pairs_text lines (named lines) ++ closing_text (other_in lines) (length lines) (refused_in lines)

-- the report of a capture
unfoldable pub report : List ℕ → List ℕ
report stream =
    text "format=1\n" ++ refusals_text 1 (lines_in stream) ++ figures_text (lines_in stream)
