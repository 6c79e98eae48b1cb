-- The fields of a frame, row by row.
-- Assumes nothing.
use mathlib.Core.Path.{◌≡◌, sym, ap, ◌∙◌}
use mathlib.Core.Bool.{true}
use mathlib.Core.List.{List, [], ◌∷◌, ◌++◌, append_assoc, append-nil}
use Prim.Native.Nat.{ℕ, ◌+◌, ◌*◌, ◌≤◌, ◌<◌}
use native.Mathlib.Numerals.{add-one}
use native.Mathlib.Omega.{arith}
use lib.ListN.{length, take, drop, get_or, length-take, length-drop}
use lib.Seq.{take-suc, take_all, get_or-take, get_or-drop}
use Rattle.words.proofs.Tests.{tests}
use Rattle.frame.specs.Identifier.{catalogue_form}
use Rattle.words.specs.Words.{◌<?◌, gives}
use Rattle.words.proofs.Words.{refused_gives, gives_same}
use Rattle.catalogue.specs.Rows.{rows}
use Rattle.catalogue.specs.Table.{no_row, row_in, row_at, row_of, span_of}
use Rattle.catalogue.specs.Catalogue.{field_in}
use Rattle.catalogue.specs.Packed.{packed_rows, table_row, table_span}
use Rattle.catalogue.specs.Promises.{Looked, RowIn, RowsIn, told_looked}
use Rattle.catalogue.specs.declared.Row.{Row}
use Rattle.catalogue.specs.declared.Span.{Span}
use Rattle.std.specs.Prelude.{Ok, Err}
use Rattle.catalogue.specs.declared.NotFound.{NotFound}
use Rattle.catalogue.proofs.Laws.{row_count_lem, within, row_in_packed, rows_in_packed}
use Rattle.busread.specs.Step.{line_room}
use Rattle.busread.specs.Report.{field_text, fields_text, rows_of}

-- a row that is there is found in the catalogue's table

found : {table : List ℕ} {n : ℕ} {r : Looked} → table ≡ packed_rows → RowIn table n r → n < 375 → told_looked r ≡ gives (row_at n)
unfolding row_of row_in row_at
found {n = n} e h k =
    let l : n < length rows = rw row_count_lem k in
    let t : n <? length rows ≡ true = search tests in
    h.answer ∙ ap (λ (t : List ℕ). table_row t n) e ∙ row_in_packed n ∙ rw t

pub row_there : {table : List ℕ} {n : ℕ} {r : Looked} {row : Row}
    → table ≡ packed_rows → RowIn table n r → r ≡ Ok row → n < 375 → row ≡ row_at n
row_there t h e k = gives_same (sym (ap told_looked e) ∙ found t h k)

pub row_missing : {table : List ℕ} {n : ℕ} {r : Looked} {why : NotFound} {A : Type 0}
    → table ≡ packed_rows → RowIn table n r → r ≡ Err why → n < 375 → A
row_missing t h e k = refused_gives (sym (ap told_looked e) ∙ found t h k)

-- and so are the rows of a DGN
pub span_there : {table : List ℕ} {dgn : ℕ} {span : Span} → table ≡ packed_rows → RowsIn table dgn span → span ≡ span_of (catalogue_form dgn)
span_there {dgn = dgn} t h = h.answer ∙ ap (λ (t : List ℕ). table_span t (catalogue_form dgn)) t ∙ rows_in_packed (catalogue_form dgn)

pub span_fits : {table : List ℕ} {dgn : ℕ} {span : Span} → table ≡ packed_rows → RowsIn table dgn span → span.start + span.count ≤ 375
span_fits {dgn = dgn} t h = rw (span_there t h) (within (catalogue_form dgn))

-- a line more of the fields' lines, of which there are at most 375
pub room_left : (at i start : ℕ) {end count before after : ℕ} → end ≤ at + 160 * i → i < count → start + count ≤ 375
    → at + line_room ≤ before → after ≡ before → end + 160 ≤ after
room_left at i start n l s r e = omega arith

-- the rows of a span
abbrev pub rows_in : Span → List Row
rows_in span = take span.count (drop span.start rows)

module _ (head : List ℕ) (number : ℕ) where
  fields_snoc : (rs : List Row) (row : Row)
      → fields_text head number (rs ++ (row ∷ [])) ≡ fields_text head number rs ++ field_text head row (field_in row number)
  unfolding fields_text
  fields_snoc [] row = append-nil (field_text head row (field_in row number))
  fields_snoc (r ∷ rs) row = rw (fields_snoc rs row) (sym (append_assoc (field_text head r (field_in r number)) (fields_text head number rs) (field_text head row (field_in row number))))

  pub fields_turn : (span : Span) (i : ℕ) → i < span.count → span.start + span.count ≤ 375
      → fields_text head number (take (i + 1) (rows_in span))
      ≡ fields_text head number (take i (rows_in span)) ++ field_text head (row_at (span.start + i)) (field_in (row_at (span.start + i)) number)
  unfolding row_at
  fields_turn span i h k =
      let l : length rows ≡ 375 = row_count_lem in
      let m : i < length (rows_in span) = simp (length-take, length-drop) (omega arith) in
      let e : get_or (rows_in span) i no_row ≡ get_or rows (span.start + i) no_row = rw (get_or-take, get_or-drop) in
      rw (add-one, take-suc (rows_in span) i no_row m, fields_snoc (take i (rows_in span)) (get_or (rows_in span) i no_row), e)

pub whole_span : (span : Span) (dgn i : ℕ) → span ≡ span_of (catalogue_form dgn) → span.count ≤ i → take i (rows_in span) ≡ rows_of dgn
whole_span span dgn i e h = take_all i (rows_in span) (rw length-take (omega arith)) ∙ ap rows_in e
