-- The counters with one line more: they hold its figures too.
-- Assumes nothing.
use Rattle.std.specs.Prelude.{Option, Some, None}
use mathlib.Core.Path.{◌≡◌, refl, sym, ap, ◌∙◌}
use mathlib.Core.Bool.{Bool, true, false}
use mathlib.Core.List.{List, [], ◌∷◌, ◌++◌, append-nil}
use Prim.Native.Nat.{ℕ, zero, suc, ◌+◌, ◌*◌, ◌-◌, ◌≤◌, ◌<◌, min}
use native.Mathlib.Omega.{arith}
use borrow.Author.Tests.{eqb-true, eqb-false, eq-eqb, ne_eqb}
use lib.ListN.{length, take, drop, get_or, set, length-append, length-take, length-set, get_or-append}
use lib.Seq.{drop-append-le, take_all, take-append-le, get_or-set_same, get_or-set_other, take-set-le}
use lib.Seq.{take-suc-set, take-nil, get_or_at}
use Rattle.words.specs.Words.{◌=?◌, Told, refused, gives}
use Rattle.words.specs.Lists.{any, count, first, Absent, Distinct}
use Rattle.words.proofs.Words.{by_test, true_false}
use Rattle.words.proofs.Lists.{found_at, found_nowhere, miss_at, Miss, end, on, distinct_head, distinct_tail, absent_head, absent_tail}
use Rattle.capture.specs.Line.{greatest_gap}
use Rattle.traffic.specs.Figures.{Seen, time_of, pair_in, pairs_in, is_refused, refused_in, frames_of, is_pair, waits_from, gaps_of}
use Rattle.traffic.specs.Figures.{least, once_each, most_pairs, named, is_other, other_in}
use Rattle.traffic.specs.Counters.{table_size, row_at, PutRow, first_frame, least_with, next_frame, since_from}
use Rattle.traffic.specs.Counters.{RowHolds, Holds, Held, frame_line, refused_one, other_one}
use Rattle.traffic.specs.declared.counters.Row.{Row}
use Rattle.traffic.specs.declared.counters.Totals.{Totals}
use Rattle.traffic.proofs.Figures.{sum_snoc, greatest_snoc, least_snoc, count_append, any_snoc, pairs_snoc}
use Rattle.traffic.proofs.Figures.{time_snoc, waits_frame, waits_other, since_frame, since_other, waits_length}
use Rattle.traffic.proofs.Figures.{gaps_sum, frames_and_refused, count_most, once_any, once_new, once_old}
use Rattle.traffic.proofs.Figures.{others_same, once_distinct, distinct_take}

-- One row: a line of another pair, a further frame, and a first one.

frames_snoc : (pair : ℕ) (lines : List Seen) (l : Seen)
    → frames_of pair (lines ++ (l ∷ [])) ≡ frames_of pair lines + count (◌=?◌ pair) (pair_in l.says)
frames_snoc pair lines l = rw (pairs_snoc lines l) (count_append (◌=?◌ pair) (pairs_in lines) (pair_in l.says))

none_of : (pair : ℕ) (says : Told ℕ) → is_pair pair says ≡ false → count (◌=?◌ pair) (pair_in says) ≡ 0
none_of pair (refused n) e = refl
none_of pair (gives p) e = rw e

eq_one : (p : ℕ) → (p =? p) ≡ true → count (◌=?◌ p) (p ∷ []) ≡ 1
eq_one p e = rw e

pub row_other : {lines : List Seen} {pair : ℕ} {row : Row} (l : Seen) → is_pair pair l.says ≡ false
    → RowHolds lines pair row → RowHolds (lines ++ (l ∷ [])) pair row
row_other {lines} {pair} {row} l e h =
    let w = waits_other pair 0 lines l e in
    record {
      frames = omega (arith, h.frames, frames_snoc pair lines l, none_of pair l.says e);
      last = omega (arith, h.last, since_other pair 0 lines l e, time_snoc lines l);
      least = rw w h.least;
      greatest = rw w h.greatest;
      sum = rw w h.sum;
    }

-- the waits of a pair that has been seen, one more

more_gaps : (waits : List ℕ) (g : ℕ) → 0 < length waits → drop 1 (waits ++ (g ∷ [])) ≡ drop 1 waits ++ (g ∷ [])
more_gaps waits g h = drop-append-le 1 waits (g ∷ []) h

least_more : (waits : List ℕ) (g : ℕ) → 0 < length waits
    → least (drop 1 waits ++ (g ∷ [])) ≡ least_with (length waits) (least (drop 1 waits)) g
least_more [] g h = absurd (omega arith)
least_more (w ∷ []) g h = refl
least_more (w ∷ n ∷ ns) g h =
    let t : (suc (suc (length ns)) =? 1) ≡ false = ne_eqb (suc (suc (length ns))) 1 (λ e. omega arith) in
    least_snoc n ns g ∙ rw t

pub row_next : {lines : List Seen} {pair : ℕ} {row : Row} (pause clock : ℕ) → clock ≡ time_of lines + pause
    → 0 < frames_of pair lines → RowHolds lines pair row
    → RowHolds (lines ++ (frame_line pause pair ∷ [])) pair (next_frame row clock)
row_next {lines} {pair} {row} pause clock c s h =
    let l = frame_line pause pair in
    let t : is_pair pair (gives pair) ≡ true = eq-eqb pair pair refl in
    let n : length (waits_from pair 0 lines) ≡ frames_of pair lines = waits_length pair 0 lines in
    let g : clock - row.last ≡ since_from pair 0 lines + pause = omega (arith, h.last) in
    let w : gaps_of pair (lines ++ (l ∷ [])) ≡ gaps_of pair lines ++ ((since_from pair 0 lines + pause) ∷ []) =
    ap (drop 1) (waits_frame pair 0 lines l t) ∙ more_gaps (waits_from pair 0 lines) (since_from pair 0 lines + pause) (omega arith) in
    record {
      frames = omega (arith, h.frames, frames_snoc pair lines l, eq_one pair t);
      last = omega (arith, since_frame pair 0 lines l t, time_snoc lines l);
      least =
          rw (w, g, h.frames, h.least, ← n)
          (sym (least_more (waits_from pair 0 lines) (since_from pair 0 lines + pause) (omega arith)));
      greatest = rw (w, g, h.greatest) (sym (greatest_snoc (gaps_of pair lines) (since_from pair 0 lines + pause)));
      sum = rw (w, g, h.sum) (sym (sum_snoc (gaps_of pair lines) (since_from pair 0 lines + pause)));
    }

pub row_first : (lines : List Seen) (pair pause clock : ℕ) → clock ≡ time_of lines + pause → frames_of pair lines ≡ 0
    → RowHolds (lines ++ (frame_line pause pair ∷ [])) pair (first_frame clock)
row_first lines pair pause clock c s =
    let l = frame_line pause pair in
    let t : is_pair pair (gives pair) ≡ true = eq-eqb pair pair refl in
    let n : length (waits_from pair 0 lines) ≡ 0 = waits_length pair 0 lines ∙ s in
    let z : waits_from pair 0 lines ≡ [] = empty (waits_from pair 0 lines) n in
    let v : waits_from pair 0 (lines ++ (l ∷ [])) ≡ (since_from pair 0 lines + pause) ∷ [] =
    waits_frame pair 0 lines l t ∙ ap (λ (ws : List ℕ). ws ++ ((since_from pair 0 lines + pause) ∷ [])) z in
    let w : gaps_of pair (lines ++ (l ∷ [])) ≡ [] = ap (drop 1) v in
    record {
      frames = omega (arith, s, frames_snoc pair lines l, eq_one pair t);
      last = omega (arith, since_frame pair 0 lines l t, time_snoc lines l);
      least = rw w;
      greatest = rw w;
      sum = rw w;
    }
  where
    empty : (ns : List ℕ) → length ns ≡ 0 → ns ≡ []
    empty [] e = refl
    empty (n ∷ ns) e = absurd (omega arith)

-- the least gap, with the first one and with one more

pub least_first : (frames l gap : ℕ) → frames ≡ 1 → gap ≡ least_with frames l gap
least_first frames l gap e = rw (eq-eqb frames 1 e)

pub least_further : (frames l gap : ℕ) {r : ℕ} → (frames ≡ 1 → ⊥) → r ≡ min l gap → r ≡ least_with frames l gap
least_further frames l gap e m = rw (ne_eqb frames 1 e) m

-- what the counters are bounded by

pub frames_most : (pair : ℕ) (lines : List Seen) → frames_of pair lines ≤ length lines
frames_most pair lines = omega (arith, count_most (◌=?◌ pair) (pairs_in lines), frames_and_refused lines)

pub row_bounds : {lines : List Seen} {pair : ℕ} {row : Row} → RowHolds lines pair row
    → (row.frames ≤ length lines) × (row.last ≤ time_of lines) × (row.sum ≤ time_of lines)
row_bounds {lines} {pair} h =
    (omega (arith, h.frames, frames_most pair lines), omega (arith, h.last), omega (arith, h.sum, gaps_sum pair lines))

-- Tests on lists.

pub any_at : {P : Type 0} (f : P → Bool) (ps : List P) (i : ℕ) (d : P) → i < length ps → f (get_or ps i d) ≡ true → any f ps ≡ true
any_at f [] i d l e = absurd (omega arith)
any_at f (p ∷ ps) zero d l e = rw e
any_at f (p ∷ ps) (suc i) d l e = by_test (f p) (λ t. rw t) (λ t. rw t (any_at f ps i d (omega arith) e))

pub any_take : {P : Type 0} (f : P → Bool) (n : ℕ) (ps : List P) → any f (take n ps) ≡ true → any f ps ≡ true
any_take f zero ps e = true_false (sym e)
any_take f (suc n) [] e = e
any_take f (suc n) (p ∷ ps) e = by_test (f p) (λ t. rw t) (λ t. rw t (any_take f n ps (rw t at e)))

any_miss : {P : Type 0} (f : P → Bool) (ps : List P) → Miss f ps → any f ps ≡ false
any_miss f ps end = refl
any_miss f ps (on {ps = qs} e h) = rw e (any_miss f qs h)

count_none : {P : Type 0} (f : P → Bool) (ps : List P) → any f ps ≡ false → count f ps ≡ 0
count_none f [] e = refl
count_none f (p ∷ ps) e = by_test (f p) (λ t. true_false (rw t at e)) (λ t. rw t (omega (arith, count_none f ps (rw t at e))))

pub count_some : {P : Type 0} (f : P → Bool) (ps : List P) → any f ps ≡ true → 0 < count f ps
count_some f [] e = true_false (sym e)
count_some f (p ∷ ps) e = by_test (f p) (λ t. rw t (omega arith)) (λ t. rw t (omega (arith, count_some f ps (rw t at e))))

absent_at : (k : ℕ) (ns : List ℕ) (i : ℕ) → Absent k ns → i < length ns → (k =? get_or ns i 0) ≡ false
absent_at k [] i a l = absurd (omega arith)
absent_at k (n ∷ ns) zero a l = ne_eqb k n (absent_head k n ns a)
absent_at k (n ∷ ns) (suc i) a l = absent_at k ns i (absent_tail k n ns a) (omega arith)

distinct_at : (ns : List ℕ) (i j : ℕ) → Distinct ns → i < length ns → j < length ns → (i ≡ j → ⊥)
    → get_or ns i 0 ≡ get_or ns j 0 → ⊥
distinct_at [] i j d l m n e = omega arith
distinct_at (k ∷ ns) zero zero d l m n e = n refl
distinct_at (k ∷ ns) zero (suc j) d l m n e = eqb-false _ _ (absent_at k ns j (distinct_head k ns d) (omega arith)) e
distinct_at (k ∷ ns) (suc i) zero d l m n e = eqb-false _ _ (absent_at k ns i (distinct_head k ns d) (omega arith)) (sym e)
distinct_at (k ∷ ns) (suc i) (suc j) d l m n e =
    distinct_at ns i j (distinct_tail k ns d) (omega arith) (omega arith) (λ x. n (ap suc x)) e

-- The named pairs.

sixty_four : most_pairs ≡ 64
unfolding most_pairs
sixty_four = refl

pub named_most : (lines : List Seen) → length (named lines) ≤ 64
named_most lines = omega (arith, length-take most_pairs (once_each (pairs_in lines)), sixty_four)

named_distinct : (lines : List Seen) → Distinct (named lines)
named_distinct lines = distinct_take most_pairs (once_each (pairs_in lines)) (once_distinct (pairs_in lines))

module _ (pair pause : ℕ) (lines : List Seen) where
  abbrev l : Seen
  l = frame_line pause pair

  abbrev before : List ℕ
  before = once_each (pairs_in lines)

  pairs_after : pairs_in (lines ++ (l ∷ [])) ≡ pairs_in lines ++ (pair ∷ [])
  pairs_after = pairs_snoc lines l

  -- a pair that is named
  known_once : any (◌=?◌ pair) (named lines) ≡ true → once_each (pairs_in (lines ++ (l ∷ []))) ≡ before
  known_once a =
      let b : any (◌=?◌ pair) (pairs_in lines) ≡ true = sym (once_any pair (pairs_in lines)) ∙ any_take (◌=?◌ pair) most_pairs before a in
      ap once_each pairs_after ∙ once_old pair (pairs_in lines) b

  -- with room left, all pairs are named
  all_named : length (named lines) < 64 → named lines ≡ before
  all_named h = take_all most_pairs before (omega (arith, length-take most_pairs before, sixty_four))

  unseen : length (named lines) < 64 → any (◌=?◌ pair) (named lines) ≡ false → any (◌=?◌ pair) (pairs_in lines) ≡ false
  unseen h a = sym (once_any pair (pairs_in lines)) ∙ ap (any (◌=?◌ pair)) (sym (all_named h)) ∙ a

  new_named : length (named lines) < 64 → any (◌=?◌ pair) (named lines) ≡ false
      → named (lines ++ (l ∷ [])) ≡ named lines ++ (pair ∷ [])
  new_named h a =
      let o : once_each (pairs_in (lines ++ (l ∷ []))) ≡ before ++ (pair ∷ []) = ap once_each pairs_after ∙ once_new pair (pairs_in lines) (unseen h a) in
      let s : length (before ++ (pair ∷ [])) ≤ most_pairs = omega (arith, length-append before (pair ∷ []), length-take most_pairs before, sixty_four) in
      ap (take most_pairs) o ∙ take_all most_pairs (before ++ (pair ∷ [])) s ∙ ap (λ (ps : List ℕ). ps ++ (pair ∷ [])) (sym (all_named h))

  -- with none left, no other is
  full_named : 64 ≤ length (named lines) → named (lines ++ (l ∷ [])) ≡ named lines
  full_named h =
      by_test (any (◌=?◌ pair) (pairs_in lines))
      (λ b. ap (λ (ps : List ℕ). take most_pairs (once_each ps)) pairs_after ∙ ap (take most_pairs) (once_old pair (pairs_in lines) b))
      (λ b.
      ap (λ (ps : List ℕ). take most_pairs (once_each ps)) pairs_after ∙ ap (take most_pairs) (once_new pair (pairs_in lines) b)
      ∙ take-append-le most_pairs before (pair ∷ []) (omega (arith, length-take most_pairs before, sixty_four)))

-- The rows of a table, and a number put into it.

pub row_set : (table : List ℕ) (i j v : ℕ) → i < 64 → row_at (set table i v) j ≡ row_at table j
row_set table i j v h =
    rw (
      get_or-set_other table i (64 + j) v 0 (λ e. omega arith),
      get_or-set_other table i (128 + j) v 0 (λ e. omega arith),
      get_or-set_other table i (192 + j) v 0 (λ e. omega arith),
      get_or-set_other table i (256 + j) v 0 (λ e. omega arith),
      get_or-set_other table i (320 + j) v 0 (λ e. omega arith),
    )

-- five numbers put, seen from another place

past : (l : List ℕ) (a b v w k : ℕ) → (k ≡ a → ⊥) → (k ≡ b → ⊥) → get_or (set (set l a v) b w) k 0 ≡ get_or l k 0
past l a b v w k m n = get_or-set_other (set l a v) b k w 0 n ∙ get_or-set_other l a k v 0 m

module _ (l : List ℕ) (i : ℕ) (row : Row) (h : i < 64) (n : length l ≡ table_size) where
  abbrev one : List ℕ
  one = set l (64 + i) row.frames

  abbrev two : List ℕ
  two = set one (128 + i) row.last

  abbrev three : List ℕ
  three = set two (192 + i) row.least

  abbrev four : List ℕ
  four = set three (256 + i) row.greatest

  abbrev five : List ℕ
  five = set four (320 + i) row.sum

  sizes : (length one ≡ table_size) × (length two ≡ table_size) × (length three ≡ table_size) × (length four ≡ table_size)
  sizes = (
    length-set l _ _ ∙ n,
    length-set one _ _ ∙ length-set l _ _ ∙ n,
    length-set two _ _ ∙ length-set one _ _ ∙ length-set l _ _ ∙ n,
    length-set three _ _ ∙ length-set two _ _ ∙ length-set one _ _ ∙ length-set l _ _ ∙ n,
  )

  frames_put : get_or five (64 + i) 0 ≡ row.frames
  frames_put =
      past three (256 + i) (320 + i) _ _ (64 + i) (λ e. omega arith) (λ e. omega arith)
      ∙ past one (128 + i) (192 + i) _ _ (64 + i) (λ e. omega arith) (λ e. omega arith) ∙ get_or-set_same l (64 + i) _ 0 (omega arith)

  last_put : get_or five (128 + i) 0 ≡ row.last
  last_put =
      past three (256 + i) (320 + i) _ _ (128 + i) (λ e. omega arith) (λ e. omega arith)
      ∙ get_or-set_other two (192 + i) (128 + i) _ 0 (λ e. omega arith) ∙ get_or-set_same one (128 + i) _ 0 (omega (arith, sizes.0))

  least_put : get_or five (192 + i) 0 ≡ row.least
  least_put =
      past three (256 + i) (320 + i) _ _ (192 + i) (λ e. omega arith) (λ e. omega arith)
      ∙ get_or-set_same two (192 + i) _ 0 (omega (arith, sizes.1))

  greatest_put : get_or five (256 + i) 0 ≡ row.greatest
  greatest_put = get_or-set_other four (320 + i) (256 + i) _ 0 (λ e. omega arith) ∙ get_or-set_same three (256 + i) _ 0 (omega (arith, sizes.2))

  sum_put : get_or five (320 + i) 0 ≡ row.sum
  sum_put = get_or-set_same four (320 + i) _ 0 (omega (arith, sizes.3))

  beside : (k : ℕ) → (k ≡ 64 + i → ⊥) → (k ≡ 128 + i → ⊥) → (k ≡ 192 + i → ⊥) → (k ≡ 256 + i → ⊥) → (k ≡ 320 + i → ⊥)
      → get_or five k 0 ≡ get_or l k 0
  beside k a b c d e =
      past three (256 + i) (320 + i) _ _ k d e ∙ past one (128 + i) (192 + i) _ _ k b c ∙ get_or-set_other l (64 + i) k _ 0 a

  pub row_put : PutRow l i row five
  row_put =
      record {
        here = rw (frames_put, last_put, least_put, greatest_put, sum_put);
        others = λ j b m.
            rw (
              beside (64 + j) (λ e. m (omega arith)) (λ e. omega arith) (λ e. omega arith) (λ e. omega arith) (λ e. omega arith),
              beside (128 + j) (λ e. omega arith) (λ e. m (omega arith)) (λ e. omega arith) (λ e. omega arith) (λ e. omega arith),
              beside (192 + j) (λ e. omega arith) (λ e. omega arith) (λ e. m (omega arith)) (λ e. omega arith) (λ e. omega arith),
              beside (256 + j) (λ e. omega arith) (λ e. omega arith) (λ e. omega arith) (λ e. m (omega arith)) (λ e. omega arith),
              beside (320 + j) (λ e. omega arith) (λ e. omega arith) (λ e. omega arith) (λ e. omega arith) (λ e. m (omega arith)),
            );
        pairs = λ k b.
            take-set-le k four (320 + i) _ (omega arith) ∙ take-set-le k three (256 + i) _ (omega arith) ∙ take-set-le k two (192 + i) _ (omega arith)
            ∙ take-set-le k one (128 + i) _ (omega arith) ∙ take-set-le k l (64 + i) _ (omega arith);
        room = length-set four _ _ ∙ sizes.3 ∙ sym n;
      }

-- what totals that are held are bounded by
pub record Bounds (t : Totals) (table : List ℕ) : Type 0 where
  pub other : t.other ≤ t.lines
  pub refusals : t.refused ≤ t.lines
  pub pairs : t.pairs ≤ 64
  pub clock : t.clock ≤ greatest_gap * t.lines
  pub room : length table ≡ table_size

pub bounds : {t : Totals} {table : List ℕ} → Held t table → Bounds t table
bounds {t} held =
    let h = held.holds in
    let lines = held.lines in
    let f = frames_and_refused lines in
    record {
      other = omega (arith, h.other, h.lines, f, count_most (is_other (named lines)) (pairs_in lines));
      refusals = omega (arith, h.refusals, h.lines, f);
      pairs = omega (arith, h.count, named_most lines);
      clock = omega (arith, h.clock, h.paced, h.lines);
      room = h.room;
    }

-- where a pair is found, and what its row is bounded by
pub record Known (t : Totals) (table : List ℕ) (i : ℕ) : Type 0 where
  pub below : i < 64
  pub frames : (row_at table i).frames ≤ t.lines
  pub last : (row_at table i).last ≤ t.clock
  pub sum : (row_at table i).sum ≤ t.clock

pub known : {t : Totals} {table : List ℕ} {r : Option ℕ} (pair i : ℕ) → Held t table
    → r ≡ first (◌=?◌ pair) (take t.pairs table) → r ≡ Some i → Known t table i
known {t} {table} pair i held f e =
    let h = held.holds in
    let at = found_at i (◌=?◌ pair) (named held.lines) 0 (rw h.pairs at (sym f ∙ e)) in
    let b = row_bounds (h.rows i at.below) in
    record {
      below = omega (arith, at.below, named_most held.lines);
      frames = omega (arith, b.0, h.lines);
      last = omega (arith, b.1, h.clock);
      sum = omega (arith, b.2, h.clock);
    }

-- All the counters.

abbrev one_line : Totals → ℕ → Totals
one_line t clock = record { lines = t.lines + 1; refused = t.refused; other = t.other; pairs = t.pairs; clock = clock }

pub holds_refused : {lines : List Seen} {t : Totals} {table : List ℕ} (pause n : ℕ) → pause ≤ greatest_gap → Holds lines t table
    → Holds (lines ++ (record { pause = pause; says = refused n } ∷ []))
    (refused_one t (t.clock + pause)) table
holds_refused {lines} {t} {table} pause n k h =
    let l : Seen = record { pause = pause; says = refused n } in
    let e : pairs_in (lines ++ (l ∷ [])) ≡ pairs_in lines = pairs_snoc lines l ∙ append-nil (pairs_in lines) in
    let m : length (lines ++ (l ∷ [])) ≡ length lines + 1 = length-append lines (l ∷ []) in
    record {
      lines = omega (arith, h.lines, m);
      refusals = omega (arith, h.refusals, count_append (λ (s : Seen). is_refused s.says) lines (l ∷ []));
      other = rw e h.other;
      clock = omega (arith, h.clock, time_snoc lines l);
      paced = omega (arith, h.paced, time_snoc lines l, m, k);
      count = rw e h.count;
      pairs = rw e h.pairs;
      rows = λ i b. rw e (row_other l refl (h.rows i (rw e at b)));
      room = h.room;
    }

module _ {lines : List Seen} {t : Totals} {table : List ℕ} (pair pause clock : ℕ)
    (h : Holds lines t table) (c : clock ≡ t.clock + pause) (k : pause ≤ greatest_gap) where
  one_longer : length (lines ++ (frame_line pause pair ∷ [])) ≡ length lines + 1
  one_longer = length-append lines (frame_line pause pair ∷ [])

  later : clock ≡ time_of lines + pause
  later = omega (arith, c, h.clock)

  -- what no frame changes: the lines, the refused ones, and the time
  refusals_same : t.refused ≡ refused_in (lines ++ (frame_line pause pair ∷ []))
  refusals_same = omega (arith, h.refusals, count_append (λ (s : Seen). is_refused s.says) lines (frame_line pause pair ∷ []))

  clock_after : clock ≡ time_of (lines ++ (frame_line pause pair ∷ []))
  clock_after = omega (arith, later, time_snoc lines (frame_line pause pair))

  paced_after : time_of (lines ++ (frame_line pause pair ∷ [])) ≤ greatest_gap * length (lines ++ (frame_line pause pair ∷ []))
  paced_after = omega (arith, h.paced, time_snoc lines (frame_line pause pair), one_longer, k)

  -- the frames of the others, where the named pairs stay
  others_after : (n : ℕ) → named (lines ++ (frame_line pause pair ∷ [])) ≡ named lines
      → count (is_other (named lines)) (pair ∷ []) ≡ n → t.other + n ≡ other_in (lines ++ (frame_line pause pair ∷ []))
  others_after n s z =
      rw (s, pairs_snoc lines (frame_line pause pair))
      (omega (arith, h.other, z, count_append (is_other (named lines)) (pairs_in lines) (pair ∷ [])))

  -- a further frame of a named pair

  pub holds_known : {after : List ℕ} (i : ℕ) → first (◌=?◌ pair) (take t.pairs table) ≡ Some i
      → PutRow table i (next_frame (row_at table i) clock) after
      → Holds (lines ++ (frame_line pause pair ∷ [])) (one_line t clock) after
  holds_known {after} i f p =
      let at = found_at i (◌=?◌ pair) (named lines) 0 (rw h.pairs at f) in
      let a = any_at (◌=?◌ pair) (named lines) i 0 at.below at.passes in
      let q : pair ≡ get_or (named lines) i 0 = eqb-true pair (get_or (named lines) i 0) at.passes in
      let s : named (lines ++ (frame_line pause pair ∷ [])) ≡ named lines = ap (take most_pairs) (known_once pair pause lines a) in
      let b : any (◌=?◌ pair) (pairs_in lines) ≡ true =
      sym (once_any pair (pairs_in lines)) ∙ any_take (◌=?◌ pair) most_pairs (once_each (pairs_in lines)) a in
      let z : count (is_other (named lines)) (pair ∷ []) ≡ 0 = rw a in
      record {
        lines = omega (arith, h.lines, one_longer);
        refusals = refusals_same;
        other = omega (arith, others_after 0 s z);
        clock = clock_after;
        paced = paced_after;
        count = rw s h.count;
        pairs = rw s (p.pairs t.pairs (omega (arith, h.count, named_most lines)) ∙ h.pairs);
        rows = λ j b'. rw s (row at.below q (count_some (◌=?◌ pair) (pairs_in lines) b) p j (rw s at b'));
        room = p.room ∙ h.room;
      }
    where
      row : {i : ℕ} → i < length (named lines) → pair ≡ get_or (named lines) i 0 → 0 < frames_of pair lines
          → PutRow table i (next_frame (row_at table i) clock) after → (j : ℕ) → j < length (named lines)
          → RowHolds (lines ++ (frame_line pause pair ∷ [])) (get_or (named lines) j 0) (row_at after j)
      row {i} l q m p j b =
          by_test (j =? i)
          (λ e.
          let x : j ≡ i = eqb-true j i e in
          rw (x, ← q, p.here) (row_next pause clock later m (rw q (h.rows i l))))
          (λ e.
          let n : j ≡ i → ⊥ = eqb-false j i e in
          let d : (get_or (named lines) j 0 =? pair) ≡ false =
          ne_eqb _ _ (λ y. distinct_at (named lines) j i (named_distinct lines) b l n (y ∙ q)) in
          rw (p.others j (omega (arith, named_most lines)) n) (row_other (frame_line pause pair) d (h.rows j b)))

  -- a pair that is not named: it is the next, or one of the others

  pub holds_new : {after : List ℕ} → first (◌=?◌ pair) (take t.pairs table) ≡ None → t.pairs < 64
      → PutRow (set table t.pairs pair) t.pairs (first_frame clock) after
      → Holds (lines ++ (frame_line pause pair ∷ []))
      (record { lines = t.lines + 1; refused = t.refused; other = t.other; pairs = t.pairs + 1; clock = clock }) after
  holds_new {after} f b p =
      let g = rw h.pairs at f in
      let a : any (◌=?◌ pair) (named lines) ≡ false = any_miss (◌=?◌ pair) (named lines) (miss_at (◌=?◌ pair) (named lines) g) in
      let r : length (named lines) < 64 = omega (arith, h.count) in
      let u = unseen pair pause lines r a in
      let s : named (lines ++ (frame_line pause pair ∷ [])) ≡ named lines ++ (pair ∷ []) = new_named pair pause lines r a in
      let v : any (◌=?◌ pair) (named lines ++ (pair ∷ [])) ≡ true = any_snoc (◌=?◌ pair) (named lines) pair ∙ rw (a, eq-eqb pair pair refl) in
      let z : count (is_other (named lines ++ (pair ∷ []))) (pair ∷ []) ≡ 0 = rw v in
      let w : t.pairs < length table = omega (arith, h.room) in
      let n : length (named lines ++ (pair ∷ [])) ≡ length (named lines) + 1 = length-append (named lines) (pair ∷ []) in
      let e : t.pairs + 1 ≡ suc t.pairs = omega arith in
      record {
        lines = omega (arith, h.lines, one_longer);
        refusals = refusals_same;
        other =
            rw (s, pairs_snoc lines (frame_line pause pair))
            (omega (
              arith,
              h.other,
              z,
              others_same pair (named lines) (pairs_in lines) u,
              count_append (is_other (named lines ++ (pair ∷ []))) (pairs_in lines) (pair ∷ []),
            ));
        clock = clock_after;
        paced = paced_after;
        count = rw s (omega (arith, h.count, n));
        pairs =
            rw (s, e)
            (p.pairs (suc t.pairs) (omega arith) ∙ take-suc-set table t.pairs pair w
            ∙ ap (λ (ps : List ℕ). ps ++ (pair ∷ [])) h.pairs);
        rows = λ j b'. rw s (row b p g (count_none (◌=?◌ pair) (pairs_in lines) u) j (omega (arith, rw s at b', n)));
        room = p.room ∙ length-set table t.pairs pair ∙ h.room;
      }
    where
      row : {after : List ℕ} → t.pairs < 64 → PutRow (set table t.pairs pair) t.pairs (first_frame clock) after
          → first (◌=?◌ pair) (named lines) ≡ None → frames_of pair lines ≡ 0 → (j : ℕ) → j < length (named lines) + 1
          → RowHolds (lines ++ (frame_line pause pair ∷ [])) (get_or (named lines ++ (pair ∷ [])) j 0) (row_at after j)
      row {after} b p g z j l =
          by_test (j =? t.pairs)
          (λ e.
          let x : j ≡ t.pairs = eqb-true j t.pairs e in
          let y : get_or (named lines ++ (pair ∷ [])) j 0 ≡ pair = get_or_at (named lines) pair [] 0 j (omega (arith, h.count, x)) in
          let q : row_at after j ≡ first_frame clock = ap (row_at after) x ∙ p.here in
          rw (y, q) (row_first lines pair pause clock later z))
          (λ e.
          let n : j ≡ t.pairs → ⊥ = eqb-false j t.pairs e in
          let m : j < length (named lines) = below n l in
          let y : get_or (named lines ++ (pair ∷ [])) j 0 ≡ get_or (named lines) j 0 = get_or-append (named lines) (pair ∷ []) 0 j m in
          let q : row_at after j ≡ row_at table j = p.others j (omega (arith, h.count)) n ∙ row_set table t.pairs j pair b in
          let d : (get_or (named lines) j 0 =? pair) ≡ false =
          ne_eqb _ _ (λ w. eqb-false pair (get_or (named lines) j 0) (found_nowhere (◌=?◌ pair) (named lines) 0 g j m) (sym w)) in
          rw (y, q) (row_other (frame_line pause pair) d (h.rows j m)))
        where
          below : (j ≡ t.pairs → ⊥) → j < length (named lines) + 1 → j < length (named lines)
          below n l = omega (arith, h.count, n)

  pub holds_other : first (◌=?◌ pair) (take t.pairs table) ≡ None → 64 ≤ t.pairs
      → Holds (lines ++ (frame_line pause pair ∷ []))
      (other_one t clock) table
  holds_other f b =
      let g = rw h.pairs at f in
      let a : any (◌=?◌ pair) (named lines) ≡ false = any_miss (◌=?◌ pair) (named lines) (miss_at (◌=?◌ pair) (named lines) g) in
      let s : named (lines ++ (frame_line pause pair ∷ [])) ≡ named lines = full_named pair pause lines (omega (arith, h.count)) in
      let z : count (is_other (named lines)) (pair ∷ []) ≡ 1 = rw a in
      record {
        lines = omega (arith, h.lines, one_longer);
        refusals = refusals_same;
        other = others_after 1 s z;
        clock = clock_after;
        paced = paced_after;
        count = rw s h.count;
        pairs = rw s h.pairs;
        rows = λ j b'. rw s (row g j (rw s at b'));
        room = h.room;
      }
    where
      row : first (◌=?◌ pair) (named lines) ≡ None → (j : ℕ) → j < length (named lines)
          → RowHolds (lines ++ (frame_line pause pair ∷ [])) (get_or (named lines) j 0) (row_at table j)
      row g j m =
          let d : (get_or (named lines) j 0 =? pair) ≡ false =
          ne_eqb _ _ (λ w. eqb-false pair (get_or (named lines) j 0) (found_nowhere (◌=?◌ pair) (named lines) 0 g j m) (sym w)) in
          row_other (frame_line pause pair) d (h.rows j m)

-- at the start nothing is counted

none_named : named [] ≡ []
unfolding pairs_in once_each
none_named = take-nil most_pairs

pub start_holds : {table : List ℕ} → length table ≡ table_size
    → Holds [] (record { lines = 0; refused = 0; other = 0; pairs = 0; clock = 0 }) table
unfolding pairs_in
start_holds n =
    record {
      lines = refl;
      refusals = refl;
      other = refl;
      clock = refl;
      paced = omega arith;
      count = sym (ap length none_named);
      pairs = sym none_named;
      rows = λ i b. absurd (let e = ap length none_named in omega arith);
      room = n;
    }
