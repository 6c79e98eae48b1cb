-- The counters (for RULES 15): how the lent table is laid out, what a line makes of it, and when it holds the figures
-- of some lines.
use Rattle.std.specs.Prelude.{◌≡◌, List, [], ◌∷◌, ◌++◌, ℕ, zero, suc, ◌+◌, ◌*◌, ◌-◌, ◌≤◌, ◌<◌, min, max, length, take, get_or, if◌then◌else◌}
use Rattle.words.specs.Words.{given◌then◌, ◌=?◌, Told, refused, gives}
use Rattle.frame.specs.Frame.{checked_of}
use Rattle.capture.specs.Line.{greatest_gap}
use Rattle.capture.specs.Stream.{most_lines}
use Rattle.text.specs.Text.{text, decimal}
use Rattle.traffic.specs.Figures.{Seen, pair_of, is_pair, time_of, frames_of, gaps_of, sum, least, greatest, named}
use Rattle.traffic.specs.Figures.{other_in, refused_in}
use Rattle.traffic.specs.Report.{keyed, head_text, sum_text}
use Rattle.traffic.specs.declared.seen.Says.{Says}
use Rattle.traffic.specs.declared.seen.Says.TheVariants.{Refused, Frame}
use Rattle.traffic.specs.declared.seen.Seen as Code
use Rattle.traffic.specs.declared.counters.Row.{Row}
use Rattle.traffic.specs.declared.counters.Totals.{Totals}

-- What the code has seen of a line.

abbrev pub says_by : Says → Told ℕ
says_by (Refused n) = refused n
says_by (Frame pair) = gives pair

abbrev pub seen_by : Code.Seen → Seen
seen_by s = record { pause = s.pause; says = says_by s.says }

-- what a frame says by itself
unfoldable pub says_of : ℕ → ℕ → Told ℕ
says_of id size = given checked_of id size then λ parts. gives (pair_of id)

-- Six columns: the pairs, and five counters of each.

abbrev pub table_size : ℕ
table_size = 384

abbrev pub row_at : List ℕ → ℕ → Row
row_at table i =
    record {
      frames = get_or table (64 + i) 0;
      last = get_or table (128 + i) 0;
      least = get_or table (192 + i) 0;
      greatest = get_or table (256 + i) 0;
      sum = get_or table (320 + i) 0;
    }

-- one row put, and all others as they were
pub record PutRow (before : List ℕ) (i : ℕ) (row : Row) (after : List ℕ) : Type 0 where
  pub here : row_at after i ≡ row
  pub others : (j : ℕ) → j < 64 → (j ≡ i → ⊥) → row_at after j ≡ row_at before j
  pub pairs : (n : ℕ) → n ≤ 64 → take n after ≡ take n before
  pub room : length after ≡ length before

-- What a frame makes of its pair's counters: at the first there is no gap.

abbrev pub first_frame : ℕ → Row
first_frame clock = record { frames = 1; last = clock; least = 0; greatest = 0; sum = 0 }

abbrev pub least_with : ℕ → ℕ → ℕ → ℕ
least_with frames least gap = if frames =? 1 then gap else min least gap

abbrev pub next_frame : Row → ℕ → Row
next_frame row clock =
    record {
      frames = row.frames + 1;
      last = clock;
      least = least_with row.frames row.least (clock - row.last);
      greatest = max row.greatest (clock - row.last);
      sum = row.sum + (clock - row.last);
    }

-- the time that has passed since the pair's last frame
unfoldable pub since_from : ℕ → ℕ → List Seen → ℕ
since_from pair since [] = since
since_from pair since (l ∷ lines) = since_from pair (if is_pair pair l.says then 0 else since + l.pause) lines

-- counters that hold the figures of a pair
pub record RowHolds (lines : List Seen) (pair : ℕ) (row : Row) : Type 0 where
  pub frames : row.frames ≡ frames_of pair lines
  pub last : row.last + since_from pair 0 lines ≡ time_of lines
  pub least : row.least ≡ least (gaps_of pair lines)
  pub greatest : row.greatest ≡ greatest (gaps_of pair lines)
  pub sum : row.sum ≡ sum (gaps_of pair lines)

-- totals and a table that hold the figures of all the lines that were read
pub record Holds (all : List Seen) (t : Totals) (table : List ℕ) : Type 0 where
  pub lines : t.lines ≡ length all
  pub refusals : t.refused ≡ refused_in all
  pub other : t.other ≡ other_in all
  pub clock : t.clock ≡ time_of all
  pub paced : time_of all ≤ greatest_gap * length all
  pub count : t.pairs ≡ length (named all)
  pub pairs : take t.pairs table ≡ named all
  pub rows : (i : ℕ) → i < length (named all) → RowHolds all (get_or (named all) i 0) (row_at table i)
  pub room : length table ≡ table_size

-- there are lines whose figures they hold
pub record Held (t : Totals) (table : List ℕ) : Type 0 where
  pub lines : List Seen
  pub holds : Holds lines t table

-- the totals with a refused line more, and with a frame of another pair more

abbrev pub refused_one : Totals → ℕ → Totals
refused_one t clock =
    record { lines = t.lines + 1; refused = t.refused + 1; other = t.other; pairs = t.pairs; clock = clock }

abbrev pub other_one : Totals → ℕ → Totals
other_one t clock =
    record { lines = t.lines + 1; refused = t.refused; other = t.other + 1; pairs = t.pairs; clock = clock }

-- one more line may be counted
pub record OneMore (t : Totals) (table : List ℕ) : Type 0 where
  pub fewer : t.lines < most_lines
  pub held : Held t table

-- a line counted: whatever lines were held, it is held behind them
pub record Counted (t : Totals) (table : List ℕ) (line : Seen) (r : Totals) (after : List ℕ) : Type 0 where
  pub holds : (lines : List Seen) → Holds lines t table → Holds (lines ++ (line ∷ [])) r after
  pub one : r.lines ≡ t.lines + 1

-- a frame of a pair at a time, whatever pause came before it
abbrev pub frame_line : ℕ → ℕ → Seen
frame_line pause pair = record { pause = pause; says = gives pair }

pub record CountedFrame (t : Totals) (table : List ℕ) (pair clock : ℕ) (r : Totals) (after : List ℕ) : Type 0 where
  pub holds : (lines : List Seen) (pause : ℕ) → Holds lines t table → clock ≡ t.clock + pause → pause ≤ greatest_gap
      → Holds (lines ++ (frame_line pause pair ∷ [])) r after
  pub one : r.lines ≡ t.lines + 1

-- the time of a frame that may be counted
pub record InTime (t : Totals) (clock : ℕ) : Type 0 where
  pub after : t.clock ≤ clock
  pub bounded : clock ≤ greatest_gap * most_lines

-- The text of a row, and of the first rows of a table.

unfoldable pub row_gaps_text : Row → List ℕ
row_gaps_text row =
    if row.frames =? 1 then text " least=none greatest=none" else
    keyed " least=" (decimal row.least) ++ keyed " greatest=" (decimal row.greatest)

unfoldable pub row_text : ℕ → Row → List ℕ
row_text pair row = head_text pair row.frames ++ row_gaps_text row ++ sum_text row.sum

unfoldable pub rows_text : List ℕ → ℕ → List ℕ
rows_text table zero = []
rows_text table (suc n) = rows_text table n ++ row_text (get_or table n 0) (row_at table n)
