-- The rows of DM_RV as a table: packed, in order, found by the catalogue's calls, and all of DM_RV.
-- Assumes nothing.
use mathlib.Core.Path.{◌≡◌, refl, sym, ap, ◌∙◌}
use mathlib.Core.Bool.{true, not}
use mathlib.Core.List.{List}
use Prim.Native.Nat.{ℕ, ◌-◌, ◌≤◌, ◌<◌}
use native.Mathlib.Omega.{arith}
use borrow.Author.Tests.{ltb-true, ltb-false}
use lib.ListN.{length, get_or-eq_default}
use Rattle.words.specs.Words.{◌<?◌, Told, refused, gives}
use Rattle.frame.specs.Identifier.{is_addressed, destination_of, catalogue_form}
use Rattle.frame.specs.Frame.{checked_of}
use Rattle.frame.specs.declared.Parts.{Parts}
use Rattle.words.proofs.Words.{by_test}
use Rattle.catalogue.specs.Table.{no_row, nth, row_in, below, having, row_with, span_in, lies_in_frame, in_order, KeepsRule}
use Rattle.catalogue.specs.Packed.{unit_of, unpacked, pack, table_rows, table_row, table_row_with, table_span}
use Rattle.catalogue.specs.Catalogue.{opened_for, read_row_of, written_row_of}
use Rattle.catalogue.specs.Promises.{Reading, Writing, done_if, bytes_after, ReadRow, WriteRow}
use Rattle.catalogue.specs.declared.Row.{Row}
use Rattle.catalogue.specs.declared.Value.{Value}
use Rattle.catalogue.proofs.Rule.{lies_at}
use Rattle.catalogue.proofs.Found.{match_outside, match_other, match_same, for_sound}
use Rattle.catalogue.proofs.Laws.{rule_holds, row_in_ruled, rows_in_ruled, row_of_in_ruled}
use Rattle.faults.specs.Rows.{dm_rv, rows, packed, read_of, written_of}
use Rattle.faults.specs.Promises.{ReadField, WriteField}

-- the rows, packed and unpacked, are the rows
rows_packed : table_rows packed ≡ rows
unfolding packed pack unpacked unit_of
rows_packed = refl

-- the one test of the whole table
pub whole : KeepsRule rows
unfolding in_order lies_in_frame
whole = refl

packed_whole : KeepsRule (table_rows packed)
packed_whole = ap (in_order 0) rows_packed ∙ whole

pub row_in_packed : (n : ℕ) → table_row packed n ≡ row_in rows n
row_in_packed n = row_in_ruled packed n packed_whole ∙ ap (λ (l : List Row). row_in l n) rows_packed

pub rows_in_packed : (dgn : ℕ) → table_span packed dgn ≡ span_in rows dgn
rows_in_packed dgn = rows_in_ruled packed dgn packed_whole ∙ ap (λ (l : List Row). span_in l dgn) rows_packed

pub row_of_in_packed : (dgn first : ℕ) → table_row_with packed dgn first ≡ row_with rows dgn first
row_of_in_packed dgn first =
    row_of_in_ruled packed dgn first packed_whole ∙ ap (λ (l : List Row). row_with l dgn first) rows_packed

-- for the code: what is promised of the row with a number is promised of the number

pub read_by : (n id : ℕ) (bytes : List ℕ) (row : Row) (r : Reading) → row ≡ nth rows n → ReadRow row id bytes r
    → ReadField n id bytes r
unfolding read_of
read_by n id bytes row r e p = record { answer = p.answer ∙ ap (λ (x : Row). read_row_of x id bytes) e }

pub write_by : (n id : ℕ) (bytes : List ℕ) (value : Value) (row : Row) (r : Writing) (after : List ℕ) → row ≡ nth rows n
    → WriteRow row id bytes value r after → WriteField n id bytes value r after
unfolding written_of
write_by n id bytes value row r after e p =
    let f = ap (λ (x : Row). written_row_of x id bytes value) e in
    record {
      answer = p.answer ∙ ap done_if f;
      data_bytes = p.data_bytes ∙ ap (λ (t : Told (List ℕ)). bytes_after t bytes) f;
    }

-- past the end
pub past : (n : ℕ) → length rows ≤ n → nth rows n ≡ no_row
past n h = get_or-eq_default rows no_row h

-- each row is one of DM_RV
pub own : (n : ℕ) → n < length rows → (nth rows n).dgn ≡ dm_rv
unfolding below having
own n h = ((rule_holds rows whole).exactly dm_rv n h).0 (omega arith, h)

-- only DM_RV itself stands in a table as DM_RV
form_is : (dgn : ℕ) → catalogue_form dgn ≡ dm_rv → dgn ≡ dm_rv
unfolding catalogue_form destination_of
form_is dgn e =
    by_test (is_addressed dgn)
    (λ t. let z : dgn - destination_of dgn ≡ dm_rv = rw t at e in omega arith)
    (λ t. rw t at e)

dm_rv_form : catalogue_form dm_rv ≡ dm_rv
unfolding catalogue_form is_addressed
dm_rv_form = refl

-- a row of DM_RV, for a sound frame: of another DGN, or a DM_RV
module _ (row : Row) (id size : ℕ) (parts : Parts) (e : checked_of id size ≡ gives parts) where
  other_dgn : row.dgn ≡ dm_rv → (parts.dgn ≡ dm_rv → ⊥) → opened_for row id size ≡ refused 11
  other_dgn d n =
      sym (for_sound row id size parts e)
      ∙ sym (match_other row parts.dgn (catalogue_form parts.dgn) refl (λ q. n (form_is parts.dgn (sym q ∙ d))))

  opens : lies_in_frame row ≡ true → row.dgn ≡ dm_rv → parts.dgn ≡ dm_rv → opened_for row id size ≡ gives row
  opens l d p =
      sym (for_sound row id size parts e)
      ∙ sym (match_same row parts.dgn dm_rv (ap not l) (sym (ap catalogue_form p ∙ dm_rv_form)) d)

-- the row with a number, for a sound frame
module _ (n id size : ℕ) (parts : Parts) (e : checked_of id size ≡ gives parts) where
  pub none_past : length rows ≤ n → opened_for (nth rows n) id size ≡ refused 11
  unfolding lies_in_frame
  none_past h = rw (past n h) (sym (for_sound no_row id size parts e) ∙ sym (match_outside no_row parts.dgn refl))

  pub opens_at : n < length rows → parts.dgn ≡ dm_rv → opened_for (nth rows n) id size ≡ gives (nth rows n)
  opens_at h p = opens (nth rows n) id size parts e (lies_at rows whole n h) (own n h) p

  pub none_other : (parts.dgn ≡ dm_rv → ⊥) → opened_for (nth rows n) id size ≡ refused 11
  none_other x =
      by_test (n <? length rows)
      (λ t. other_dgn (nth rows n) id size parts e (own n (ltb-true n (length rows) t)) x)
      (λ t. none_past (ltb-false n (length rows) t))
