-- The rule of a table, computed once over all rows, and what it says at each row and pair of rows, in any list of rows that keeps it. Then the rows of
-- a DGN. Assumes nothing.
use Rattle.std.specs.Prelude.{if◌then◌else◌}
use mathlib.Core.Path.{◌≡◌, refl, sym, ◌∙◌}
use mathlib.Core.Bool.{Bool, true, false}
use mathlib.Core.List.{List, [], ◌∷◌}
use mathlib.Core.Logic.{◌↔◌, ◌⊎◌, inl, inr, ⊎_elim}
use Prim.Native.Nat.{ℕ, zero, suc, ◌+◌, ◌*◌, ◌≤◌, ◌<◌, zero-le, suc-le-suc}
use native.Mathlib.Nat.{le_of_suc-le-suc, not-suc-le-zero, eq-or-lt_of_le, le_refl, lt_of_le_of_lt}
use native.Mathlib.Omega.{arith}
use borrow.Author.Tests.{leb-true, leb-false, ltb-true, ltb-false, lt-ltb, le-ltb, eq-eqb, ne_eqb, eqb-true, eqb-false}
use lib.Arith.{lt_of_le-ne}
use lib.ListN.{length, get_or}
use Rattle.words.specs.Words.{◌and◌, ◌<?◌, ◌≤?◌, ◌=?◌, gives}
use Rattle.words.specs.Lists.{count}
use Rattle.words.proofs.Words.{by_test, both_true, true_false, gives_same, refused_gives}
use Rattle.catalogue.specs.Rows.{rows, row_count}
use Rattle.catalogue.specs.Table.{nth, no_row, below, having, row_with, lies_in_frame, bit_from, bit_past, in_order}
use Rattle.catalogue.specs.Table.{KeepsRule}
use Rattle.catalogue.specs.Field.{InFrame, widest, frame_bits}
use Rattle.catalogue.specs.declared.Row.{Row}

-- the test of one row
pub framed : (r : Row) → lies_in_frame r ≡ true → InFrame r.first r.width
unfolding lies_in_frame
framed r t =
    let a = 1 ≤? r.width in
    let b = r.width ≤? widest in
    let d = r.first + r.width ≤? frame_bits in
    let t₁ = both_true a (b and d) t in
    let t₂ = both_true b d t₁.1 in
    record { some = leb-true _ _ t₁.0; most = leb-true _ _ t₂.0; ends = leb-true _ _ t₂.1 }

head_from : (k : ℕ) (r : Row) (rs : List Row) → in_order k (r ∷ rs) ≡ true → k ≤ bit_from r
unfolding in_order
head_from k r rs t = leb-true k (bit_from r) (both_true (k ≤? bit_from r) _ t).0

head_lies : (k : ℕ) (r : Row) (rs : List Row) → in_order k (r ∷ rs) ≡ true → lies_in_frame r ≡ true
unfolding in_order
head_lies k r rs t = (both_true (lies_in_frame r) (in_order (bit_past r) rs) (both_true (k ≤? bit_from r) _ t).1).0

rest : (k : ℕ) (r : Row) (rs : List Row) → in_order k (r ∷ rs) ≡ true → in_order (bit_past r) rs ≡ true
unfolding in_order
rest k r rs t = (both_true (lies_in_frame r) (in_order (bit_past r) rs) (both_true (k ≤? bit_from r) _ t).1).1

lies_in : (k : ℕ) (rs : List Row) → in_order k rs ≡ true → (i : ℕ) → i < length rs → lies_in_frame (nth rs i) ≡ true
lies_in k [] t i h = absurd (not-suc-le-zero h)
lies_in k (r ∷ rs) t zero h = head_lies k r rs t
lies_in k (r ∷ rs) t (suc i) h = lies_in (bit_past r) rs (rest k r rs t) i (le_of_suc-le-suc h)

from_in_lem : (k : ℕ) (rs : List Row) → in_order k rs ≡ true → (i : ℕ) → i < length rs → k ≤ bit_from (nth rs i)
from_in_lem k [] t i h = absurd (not-suc-le-zero h)
from_in_lem k (r ∷ rs) t zero h = head_from k r rs t
from_in_lem k (r ∷ rs) t (suc i) h =
    omega (arith, head_from k r rs t, from_in_lem (bit_past r) rs (rest k r rs t) i (le_of_suc-le-suc h))

pair_in_lem : (k : ℕ) (rs : List Row) → in_order k rs ≡ true → (i j : ℕ) → i < j → j < length rs → bit_past (nth rs i) ≤ bit_from (nth rs j)
pair_in_lem k [] t i j h g = absurd (not-suc-le-zero g)
pair_in_lem k (r ∷ rs) t i zero h g = absurd (not-suc-le-zero h)
pair_in_lem k (r ∷ rs) t zero (suc j) h g = from_in_lem (bit_past r) rs (rest k r rs t) j (le_of_suc-le-suc g)
pair_in_lem k (r ∷ rs) t (suc i) (suc j) h g = pair_in_lem (bit_past r) rs (rest k r rs t) i j (le_of_suc-le-suc h) (le_of_suc-le-suc g)

-- a row by its DGN and first bit

pub found_with : (rs : List Row) (dgn first : ℕ) {row : Row} → row_with rs dgn first ≡ gives row
    → (n : ℕ) × (n < length rs) × (row ≡ nth rs n) × (row.dgn ≡ dgn) × (row.first ≡ first)
unfolding row_with
found_with [] dgn first e = refused_gives e
found_with (r ∷ rs) dgn first {row} e =
    by_test ((r.dgn =? dgn) and (r.first =? first))
    (λ t. let s : row ≡ r = sym (gives_same (rw t at e)) in
    let b = both_true (r.dgn =? dgn) (r.first =? first) t in
    (0, omega arith, s, rw s (eqb-true r.dgn dgn b.0), rw s (eqb-true r.first first b.1)))
    (λ t. let f = found_with rs dgn first (rw t at e) in (suc f.0, suc-le-suc f.1, f.2, f.3, f.4))

other : (r x : Row) → 1 ≤ r.width → bit_past r ≤ bit_from x → ((r.dgn =? x.dgn) and (r.first =? x.first)) ≡ false
other r x w h =
    by_test (r.dgn =? x.dgn)
    (λ e. by_test (r.first =? x.first)
    (λ f. absurd (same r.dgn x.dgn r.first x.first r.width (eqb-true _ _ e) (eqb-true _ _ f) w h)) (λ f. rw (e, f)))
    (λ e. rw e)
  where
    same : (a b c d w : ℕ) → a ≡ b → c ≡ d → 1 ≤ w → 64 * a + c + w ≤ 64 * b + d → ⊥
    same a b c d w e f g h = omega arith

with_in : (k : ℕ) (rs : List Row) → in_order k rs ≡ true → (n : ℕ) → n < length rs
    → row_with rs (nth rs n).dgn (nth rs n).first ≡ gives (nth rs n)
unfolding row_with
with_in k [] t n h = absurd (not-suc-le-zero h)
with_in k (r ∷ rs) t zero h = rw (eq-eqb r.dgn r.dgn refl, eq-eqb r.first r.first refl)
with_in k (r ∷ rs) t (suc n) h =
    let l = le_of_suc-le-suc h in
    rw (other r (nth rs n) (framed r (head_lies k r rs t)).some (from_in_lem (bit_past r) rs (rest k r rs t) n l))
    (with_in (bit_past r) rs (rest k r rs t) n l)

-- the catalogue keeps the rule: the one test of the whole table
pub whole : KeepsRule rows
unfolding in_order lies_in_frame rows
whole = refl

pub row_count_lem : length rows ≡ row_count
unfolding rows
row_count_lem = refl

module _ (list : List Row) (rule : KeepsRule list) where
  pub lies_at : (i : ℕ) → i < length list → lies_in_frame (nth list i) ≡ true
  lies_at i h = lies_in 0 list rule i h

  pub in_frame_at : (i : ℕ) → i < length list → InFrame (nth list i).first (nth list i).width
  in_frame_at i h = framed (nth list i) (lies_at i h)

  pub in_order_lem : (i j : ℕ) → i < j → j < length list → bit_past (nth list i) ≤ bit_from (nth list j)
  in_order_lem i j h g = pair_in_lem 0 list rule i j h g

  pub rising : (i j : ℕ) → i < j → j < length list
      → ((nth list i).dgn < (nth list j).dgn) ⊎ (((nth list i).dgn ≡ (nth list j).dgn) × ((nth list i).first < (nth list j).first))
  rising i j h g =
      let p = in_order_lem i j h g in
      let a = in_frame_at i (omega arith) in
      let b = in_frame_at j g in
      let le : (nth list i).dgn ≤ (nth list j).dgn = omega arith in
      ⊎_elim (λ e. inr (e, omega arith)) inl (eq-or-lt_of_le le)

  -- rows of one DGN, in either order, share no bit
  pub apart_at : (i j : ℕ) → i < length list → j < length list → (i ≡ j → ⊥) → (nth list i).dgn ≡ (nth list j).dgn
      → ((nth list i).first + (nth list i).width ≤ (nth list j).first) ⊎ ((nth list j).first + (nth list j).width ≤ (nth list i).first)
  apart_at i j h g n e =
      by_test (i <? j)
      (λ t. inl (omega (arith, in_order_lem i j (ltb-true i j t) g)))
      (λ t. inr (omega (arith, in_order_lem j i (lt_of_le-ne (ltb-false i j t) (λ w. n (sym w))) h)))

  pub one_row : (n : ℕ) → n < length list → row_with list (nth list n).dgn (nth list n).first ≡ gives (nth list n)
  one_row n h = with_in 0 list rule n h

  -- DGNs never fall
  pub rising_dgn : (i j : ℕ) → i ≤ j → j < length list → (nth list i).dgn ≤ (nth list j).dgn
  rising_dgn i j h g =
      ⊎_elim (λ e. rw e (le_refl _))
      (λ l. let p = in_order_lem i j l g in let a = in_frame_at i (omega arith) in let b = in_frame_at j g in omega arith)
      (eq-or-lt_of_le h)

-- how many rows pass a test that holds of the first n and of no other: n
count_split : (f : Row → Bool) (l : List Row) (n : ℕ) → n ≤ length l → ((k : ℕ) → k < n → f (get_or l k no_row) ≡ true)
    → ((k : ℕ) → n ≤ k → k < length l → f (get_or l k no_row) ≡ false) → n ≡ count f l
count_split f [] n h a b = omega arith
count_split f (r ∷ l) zero h a b =
    rw (b 0 (omega arith) (omega arith)) (omega (arith, count_split f l 0 (omega arith) (λ k g. absurd (not-suc-le-zero g)) (λ k g m. b (suc k) (omega arith) (omega arith))))
count_split f (r ∷ l) (suc n) h a b =
    rw (a 0 (omega arith)) (omega (arith, count_split f l n (omega arith) (λ k g. a (suc k) (omega arith)) (λ k g m. b (suc k) (omega arith) (omega arith))))

pub below_is : (list : List Row) (d n : ℕ) → n ≤ length list → ((k : ℕ) → k < n → (nth list k).dgn < d)
    → ((k : ℕ) → n ≤ k → k < length list → d ≤ (nth list k).dgn) → n ≡ below list d
unfolding below
below_is list d n h a b = count_split (λ r. r.dgn <? d) list n h (λ k g. lt-ltb _ _ (a k g)) (λ k g m. le-ltb _ _ (b k g m))

-- one more DGN
count_next : (d : ℕ) (l : List Row) → count (λ r. r.dgn <? d + 1) l ≡ count (λ r. r.dgn <? d) l + count (λ r. r.dgn =? d) l
count_next d [] = refl
count_next d (r ∷ l) =
    let x = r.dgn in
    let one : (if x <? d + 1 then 1 else 0) ≡ (if x <? d then 1 else 0) + (if x =? d then 1 else 0) =
    by_test (x <? d)
    (λ t. let h = ltb-true x d t in rw (t, lt-ltb x (d + 1) (omega arith), ne_eqb x d (λ e. omega arith)))
    (λ t. let h = ltb-false x d t in by_test (x =? d)
    (λ u. let e = eqb-true x d u in rw (t, u, lt-ltb x (d + 1) (omega arith)))
    (λ u. let n = lt_of_le-ne h (λ e. eqb-false x d u (sym e)) in rw (t, u, le-ltb x (d + 1) (omega arith)))) in
    omega (arith, one, count_next d l)

pub below_next : (list : List Row) (d : ℕ) → below list (d + 1) ≡ below list d + having list d
unfolding below having
below_next list d = count_next d list

-- where a test that holds, if anywhere, of the first rows only, holds

count_none : (f : Row → Bool) (l : List Row) → ((k : ℕ) → k < length l → f (get_or l k no_row) ≡ true → ⊥) → count f l ≡ 0
count_none f [] a = refl
count_none f (r ∷ l) a =
    by_test (f r) (λ t. absurd (a 0 (omega arith) t)) (λ t. rw t (omega (arith, count_none f l (λ k h e. a (suc k) (omega arith) e))))

no_less : (k n : ℕ) → k < n → n ≡ 0 → ⊥
no_less k n g z = omega arith

count_first : (f : Row → Bool) (l : List Row) → ((i j : ℕ) → i ≤ j → j < length l → f (get_or l j no_row) ≡ true → f (get_or l i no_row) ≡ true)
    → (k : ℕ) → k < length l → (f (get_or l k no_row) ≡ true → k < count f l) × (k < count f l → f (get_or l k no_row) ≡ true)
count_first f [] a k h = absurd (not-suc-le-zero h)
count_first f (r ∷ l) a zero h =
    by_test (f r) (λ t. ((λ e. rw t (omega arith)), (λ g. t)))
    (λ t. let z = count_none f (r ∷ l) (λ k g e. true_false (sym (a 0 k zero-le g e) ∙ t)) in ((λ e. true_false (sym e ∙ t)), (λ g. absurd (no_less _ _ g z))))
count_first f (r ∷ l) a (suc k) h =
    let ih = count_first f l (λ i j p q e. a (suc i) (suc j) (suc-le-suc p) (suc-le-suc q) e) k (le_of_suc-le-suc h) in
    by_test (f r) (λ t. ((λ e. let g = ih.0 e in rw t (omega arith)), (λ g. ih.1 (let g' = rw t at g in omega arith))))
    (λ t. let z = count_none f (r ∷ l) (λ j g e. true_false (sym (a 0 j zero-le g e) ∙ t)) in
    ((λ e. true_false (sym (a 0 (suc k) zero-le h e) ∙ t)), (λ g. absurd (no_less _ _ g z))))

-- the rows of a DGN are within the table
count_le : (f : Row → Bool) (l : List Row) → count f l ≤ length l
count_le f [] = le_refl 0
count_le f (r ∷ l) = by_test (f r) (λ t. rw t (omega (arith, count_le f l))) (λ t. rw t (omega (arith, count_le f l)))

pub span_within : (list : List Row) (d : ℕ) → below list d + having list d ≤ length list
unfolding below
span_within list d =
    let l = count_le (λ r. r.dgn <? d + 1) list in
    omega (arith, below_next list d, l)

module _ (list : List Row) (rule : KeepsRule list) where
  below_at : (d k : ℕ) → k < length list → ((nth list k).dgn < d → k < below list d) × (k < below list d → (nth list k).dgn < d)
  unfolding below
  below_at d k h =
      let both_ways =
      count_first (λ r. r.dgn <? d) list
      (λ i j p q e. lt-ltb _ _ (lt_of_le_of_lt (rising_dgn list rule i j p q) (ltb-true _ _ e))) k h in
      ((λ l. both_ways.0 (lt-ltb _ _ l)), (λ l. ltb-true _ _ (both_ways.1 l)))

  -- the rows from `below list d`, as many as `having list d`, are those of the DGN, and no others are
  pub exactly : (d n : ℕ) → n < length list → ((below list d ≤ n) × (n < below list d + having list d)) ↔ ((nth list n).dgn ≡ d)
  exactly d n h =
      let e = below_next list d in
      let p = below_at d n h in
      let q = below_at (d + 1) n h in (
        (λ g. let u : (nth list n).dgn < d + 1 = q.1 (omega arith) in
            by_test ((nth list n).dgn <? d) (λ t. let w : n < below list d = p.0 (ltb-true _ _ t) in omega arith)
            (λ t. let w : d ≤ (nth list n).dgn = ltb-false _ _ t in omega arith)),
        (λ g. let u : n < below list (d + 1) = q.0 (omega arith) in
            by_test (below list d ≤? n) (λ t. let w : below list d ≤ n = leb-true _ _ t in (w, omega arith))
            (λ t. let w : (nth list n).dgn < d = p.1 (leb-false _ _ t) in omega arith)),
      )
