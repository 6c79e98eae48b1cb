-- A table of packed rows, and the catalogue as one.
-- Assumes nothing.
use mathlib.Core.Path.{◌≡◌, refl, sym, ap, ◌∙◌}
use mathlib.Core.Bool.{true}
use mathlib.Core.List.{List, [], ◌∷◌}
use Rattle.std.specs.Prelude.{Option, Some, None}
use Rattle.std.specs.List.{find}
use Prim.Native.Nat.{ℕ, ◌+◌, ◌≤◌, ◌<◌}
use native.Mathlib.Omega.{arith}
use borrow.Author.Tests.{lt-ltb, le-ltb, ltb-true}
use lib.ListN.{length, get_or, length-map, get_or-map, get_or-eq_default}
use Rattle.words.specs.Words.{given◌then◌, ◌<?◌, Told, refused, gives}
use Rattle.words.proofs.Words.{by_test}
use Rattle.catalogue.specs.Rows.{rows}
use Rattle.catalogue.specs.Table.{no_row, nth, row_in, row_with, lies_in_frame, KeepsRule, row_of, span_in, span_of}
use Rattle.catalogue.specs.Packed.{unit_of, unpacked, pack, packed_rows, table_rows, lying, table_row, table_row_with}
use Rattle.catalogue.specs.Packed.{table_span}
use Rattle.catalogue.specs.Private.{begins}
use Rattle.catalogue.specs.declared.Row.{Row}
use Rattle.catalogue.proofs.Rule.{whole, lies_at, found_with}
use Rattle.catalogue.proofs.Halving.{halved_below, halved_having, halved_within, halved_rises}

-- the rows, packed and unpacked, are the rows
pub rows_packed : table_rows packed_rows ≡ rows
unfolding rows pack packed_rows unpacked unit_of
rows_packed = refl

-- a row of a table, for the code

pub table_at : (table : List ℕ) (n : ℕ) → nth (table_rows table) n ≡ unpacked (get_or table n 0)
unfolding unpacked unit_of
table_at table n = get_or-map unpacked table n 0

pub row_past : (table : List ℕ) (n : ℕ) → length table ≤ n → refused 11 ≡ table_row table n
unfolding table_row row_in
row_past table n h = sym (rw (le-ltb n (length (table_rows table)) (rw (length-map table unpacked) h)))

pub row_there : (table : List ℕ) (n : ℕ) → n < length table → lying (unpacked (get_or table n 0)) ≡ table_row table n
unfolding table_row row_in
row_there table n h =
    sym (rw (lt-ltb n (length (table_rows table)) (rw (length-map table unpacked) h), table_at table n))

-- the first row with a DGN and a first bit is what a search for it finds

told_found : Option Row → Told Row
told_found (Some row) = gives row
told_found None = refused 11

found_is : (list : List Row) (dgn first : ℕ) → row_with list dgn first ≡ told_found (find (begins dgn first) list)
unfolding row_with told_found
found_is [] dgn first = refl
found_is (r ∷ rs) dgn first =
    by_test (begins dgn first r) (λ t. rw t) (λ t. rw t (found_is rs dgn first))

module _ (table : List ℕ) (dgn first : ℕ) where
  pub found_row : (row : Row) → find (begins dgn first) (table_rows table) ≡ Some row → lying row ≡ table_row_with table dgn first
  unfolding table_row_with told_found
  found_row row e = sym (rw (found_is (table_rows table) dgn first, e))

  pub found_none : find (begins dgn first) (table_rows table) ≡ None → refused 11 ≡ table_row_with table dgn first
  unfolding table_row_with told_found
  found_none e = sym (rw (found_is (table_rows table) dgn first, e))

-- in a table that keeps the rule every row lies in a frame

given_lying : (row : Row) → lies_in_frame row ≡ true → lying row ≡ gives row
unfolding lying
given_lying row e = rw e

pub row_in_ruled : (table : List ℕ) (n : ℕ) → KeepsRule (table_rows table) → table_row table n ≡ row_in (table_rows table) n
unfolding table_row row_in
row_in_ruled table n rule =
    let list = table_rows table in
    by_test (n <? length list) (λ t. rw t (given_lying (nth list n) (lies_at list rule n (ltb-true n (length list) t)))) (λ t. rw t)

pub row_of_in_ruled : (table : List ℕ) (dgn first : ℕ) → KeepsRule (table_rows table)
    → table_row_with table dgn first ≡ row_with (table_rows table) dgn first
unfolding table_row_with
row_of_in_ruled table dgn first rule = go (row_with (table_rows table) dgn first) refl
  where
    go : (t : Told Row) → row_with (table_rows table) dgn first ≡ t → (given t then λ row. lying row) ≡ t
    go (refused k) e = refl
    go (gives row) e =
        let f = found_with (table_rows table) dgn first e in
        given_lying row (rw f.2 (lies_at (table_rows table) rule f.0 f.1))

pub rows_in_ruled : (table : List ℕ) (dgn : ℕ) → KeepsRule (table_rows table) → table_span table dgn ≡ span_in (table_rows table) dgn
unfolding table_span
rows_in_ruled table dgn rule = rw (halved_having (table_rows table) dgn rule, halved_below (table_rows table) dgn rule)

pub rows_in_within : (table : List ℕ) (dgn : ℕ) → (table_span table dgn).start + (table_span table dgn).count ≤ length table
unfolding table_span
rows_in_within table dgn =
    let a = halved_within (table_rows table) (dgn + 1) in
    let b = halved_rises (table_rows table) dgn in
    let c = length-map table unpacked in
    omega arith

-- the catalogue's own table

pub row_in_packed : (n : ℕ) → table_row packed_rows n ≡ row_of n
unfolding row_of
row_in_packed n = row_in_ruled packed_rows n (rw rows_packed whole) ∙ ap (λ (l : List Row). row_in l n) rows_packed

pub rows_in_packed : (dgn : ℕ) → table_span packed_rows dgn ≡ span_of dgn
rows_in_packed dgn = rows_in_ruled packed_rows dgn (rw rows_packed whole) ∙ ap (λ (l : List Row). span_in l dgn) rows_packed

pub row_of_in_packed : (dgn first : ℕ) → table_row_with packed_rows dgn first ≡ row_with rows dgn first
row_of_in_packed dgn first =
    row_of_in_ruled packed_rows dgn first (rw rows_packed whole) ∙ ap (λ (l : List Row). row_with l dgn first) rows_packed
