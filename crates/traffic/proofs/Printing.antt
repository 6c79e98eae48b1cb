-- The text of the counters is that of the figures that they hold; and what lines say, one after the other.
-- Assumes nothing.
use mathlib.Core.Path.{◌≡◌, refl, sym, ap, ◌∙◌}
use mathlib.Core.Bool.{true}
use mathlib.Core.List.{List, [], ◌∷◌, ◌++◌, map, append_assoc, append-nil}
use Prim.Native.Nat.{ℕ, zero, suc, ◌+◌, ◌≤◌, ◌<◌}
use native.Mathlib.Omega.{arith}
use borrow.Author.Tests.{eq-eqb, ne_eqb}
use lib.ListN.{length, take, drop, get_or}
use lib.Seq.{take-suc, take-length, get_or-take}
use Rattle.words.specs.Words.{◌=?◌}
use Rattle.words.specs.Lists.{any}
use Rattle.text.specs.Text.{text, decimal}
use Rattle.capture.specs.Stream.{Piece}
use Rattle.traffic.specs.Figures.{Seen, seen_of, pairs_in, frames_of, waits_from, once_each, most_pairs, named, least, greatest}
use Rattle.traffic.specs.Report.{keyed, refusal_text, refusals_text, gaps_text, pair_text, pairs_text, closing_text, figures_text}
use Rattle.traffic.specs.Counters.{row_at, RowHolds, Holds, row_gaps_text, row_text, rows_text}
use Rattle.traffic.specs.declared.counters.Row.{Row}
use Rattle.traffic.specs.declared.counters.Totals.{Totals}
use Rattle.traffic.proofs.Figures.{waits_length, once_any}
use Rattle.traffic.proofs.Holding.{any_at, any_take, count_some}

-- what a row says of its gaps, by the frames

pub none_said : (row : Row) → row.frames ≡ 1 → row_gaps_text row ≡ text " least=none greatest=none"
unfolding row_gaps_text
none_said row f = rw (eq-eqb row.frames 1 f)

pub some_said : (row : Row) → (row.frames ≡ 1 → ⊥)
    → row_gaps_text row ≡ keyed " least=" (decimal row.least) ++ keyed " greatest=" (decimal row.greatest)
unfolding row_gaps_text
some_said row f = rw (ne_eqb row.frames 1 f)

-- a row of a pair that was seen

gaps_said : (waits : List ℕ) (row : Row) → 0 < length waits → row.frames ≡ length waits → row.least ≡ least (drop 1 waits)
    → row.greatest ≡ greatest (drop 1 waits) → row_gaps_text row ≡ gaps_text (drop 1 waits)
unfolding gaps_text
gaps_said [] row h f l g = absurd (omega arith)
gaps_said (w ∷ []) row h f l g = none_said row f
gaps_said (w ∷ n ∷ ns) row h f l g = some_said row (λ e. omega (arith, f, e)) ∙ rw (l, g)

row_said : {lines : List Seen} {pair : ℕ} {row : Row} → RowHolds lines pair row → 0 < frames_of pair lines → row_text pair row ≡ pair_text lines pair
unfolding row_text pair_text
row_said {lines} {pair} {row} h s =
    let n = waits_length pair 0 lines in
    let g = gaps_said (waits_from pair 0 lines) row (omega (arith, n)) (h.frames ∙ sym n) h.least h.greatest in
    rw (g, h.frames, h.sum)

pairs_said : (lines : List Seen) (pairs : List ℕ) (pair : ℕ)
    → pairs_text lines (pairs ++ (pair ∷ [])) ≡ pairs_text lines pairs ++ pair_text lines pair
unfolding pairs_text
pairs_said lines [] pair = append-nil (pair_text lines pair)
pairs_said lines (p ∷ pairs) pair =
    rw (pairs_said lines pairs pair) (sym (append_assoc (pair_text lines p) (pairs_text lines pairs) (pair_text lines pair)))

-- each named pair was seen
seen_once : (lines : List Seen) (i : ℕ) → i < length (named lines) → 0 < frames_of (get_or (named lines) i 0) lines
seen_once lines i h =
    let p = get_or (named lines) i 0 in
    let a : any (◌=?◌ p) (named lines) ≡ true = any_at (◌=?◌ p) (named lines) i 0 h (eq-eqb p p refl) in
    let b : any (◌=?◌ p) (pairs_in lines) ≡ true =
    sym (once_any p (pairs_in lines)) ∙ any_take (◌=?◌ p) most_pairs (once_each (pairs_in lines)) a in
    count_some (◌=?◌ p) (pairs_in lines) b

rows_said : {lines : List Seen} {t : Totals} {table : List ℕ} → Holds lines t table → (n : ℕ) → n ≤ length (named lines)
    → rows_text table n ≡ pairs_text lines (take n (named lines))
unfolding rows_text pairs_text
rows_said h zero l = refl
rows_said {lines} {t} {table} h (suc n) l =
    let k : n < length (named lines) = omega arith in
    let e : get_or table n 0 ≡ get_or (named lines) n 0 =
    sym (get_or-take t.pairs table n 0 (omega (arith, h.count))) ∙ ap (λ (ps : List ℕ). get_or ps n 0) h.pairs in
    let r : row_text (get_or table n 0) (row_at table n) ≡ pair_text lines (get_or (named lines) n 0) =
    rw e (row_said (h.rows n k) (seen_once lines n k)) in
    rw (rows_said h n (omega arith), r, take-suc (named lines) n 0 k) (sym (pairs_said lines (take n (named lines)) (get_or (named lines) n 0)))

pub figures_said : {lines : List Seen} {t : Totals} {table : List ℕ} → Holds lines t table
    → rows_text table t.pairs ++ closing_text t.other t.lines t.refused ≡ figures_text lines
unfolding figures_text
figures_said {lines} {t} {table} h =
    let e : rows_text table t.pairs ≡ pairs_text lines (named lines) =
    rw h.count (rows_said h (length (named lines)) (omega arith) ∙ rw take-length) in
    rw (e, h.other, h.lines, h.refusals)

-- Lines that say something one after the other.

pub refusals_join : (n : ℕ) (lines more : List Seen)
    → refusals_text n (lines ++ more) ≡ refusals_text n lines ++ refusals_text (n + length lines) more
unfolding refusals_text
refusals_join n [] more = let e : n + 0 ≡ n = omega arith in rw e
refusals_join n (l ∷ lines) more =
    let e : n + suc (length lines) ≡ n + 1 + length lines = omega arith in
    rw (refusals_join (n + 1) lines more, e)
    (sym (append_assoc (refusal_text n l.says) (refusals_text (n + 1) lines) (refusals_text (n + 1 + length lines) more)))

pub map_join : (pieces more : List Piece) → map seen_of (pieces ++ more) ≡ map seen_of pieces ++ map seen_of more
map_join [] more = refl
map_join (p ∷ pieces) more = ap (λ (l : List Seen). seen_of p ∷ l) (map_join pieces more)
