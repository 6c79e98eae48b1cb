-- The statements of specs/FieldLaws.antt, proved.
-- Assumes nothing.
use Rattle.std.specs.Prelude.{Ok, Err}
use mathlib.Core.Path.{◌≡◌, refl, sym, ap, ◌∙◌}
use mathlib.Core.List.{List}
use mathlib.Core.Logic.{⊎_elim}
use Prim.Native.Nat.{ℕ, ◌<◌}
use native.Mathlib.Omega.{arith}
use borrow.Author.Tests.{ltb-true, ltb-false}
use lib.ListN.{length}
use Rattle.words.specs.Words.{◌<?◌, Told, refused, gives}
use Rattle.frame.specs.Bytes.{number_of, bytes_of, AreBytes}
use Rattle.frame.specs.Identifier.{priority_of, reserved_of, dgn_of, source_of, is_addressed, catalogue_form}
use Rattle.frame.specs.Frame.{source_allowed, checked_of}
use Rattle.frame.specs.declared.Parts.{Parts}
use Rattle.words.proofs.Words.{by_test, refused_gives, gives_same}
use Rattle.catalogue.specs.Rows as Catalogue
use Rattle.catalogue.specs.Table.{no_row, nth, having, lies_in_frame}
use Rattle.catalogue.specs.Field.{field_of, with_field}
use Rattle.catalogue.specs.Classes.{class_in, class_at}
use Rattle.catalogue.specs.Scale.{steps_of}
use Rattle.catalogue.specs.Codes.{code_where, stepped_code, scaled_code, code_of}
use Rattle.catalogue.specs.Catalogue.{field_in, matching, opened_for, read_row_of, written_row_of, replaced}
use Rattle.catalogue.specs.Promises.{done_if, bytes_after}
use Rattle.catalogue.specs.Laws.{HasBit, bit_of}
use Rattle.catalogue.specs.declared.Value.{Value}
use Rattle.catalogue.proofs.Found.{found, for_bad, read_none, read_row, write_none, write_uncoded, write_row}
use Rattle.catalogue.proofs.Laws.{rule_holds, told_looked_same, told_reading_same, told_writing_same, row_reads_others}
use Rattle.catalogue.proofs.Laws.{row_bits_kept, row_eight_bytes}
use Rattle.faults.specs.Rows.{dm_rv, rows, high_part, middle_part, low_part, read_of, written_of}
use Rattle.faults.specs.ServicePoint.{joined, service_point_of, written_parts, with_service_point_of}
use Rattle.faults.specs.Laws as the
use Rattle.faults.specs.FieldLaws as Laws
use Rattle.words.proofs.Words.{told_same}
use Rattle.catalogue.specs.Promises.{number_of_not_read}
use Rattle.catalogue.proofs.Laws.{not_read_same}
use Rattle.catalogue.proofs.Bits.{field_below}
use Rattle.faults.proofs.Table as Table
use Rattle.faults.proofs.Parts as Points

-- an answer is read back from what it tells

pub told_service_point_same : the.ToldServicePointSame
told_service_point_same = told_same number_of_not_read not_read_same

-- no second answer

pub packed_rows_only : the.PackedRowsOnly
packed_rows_only r s p q = p.answer ∙ sym q.answer

pub row_at_only : the.RowAtOnly
row_at_only n r s p q = told_looked_same r s (p.answer ∙ sym q.answer)

pub read_only : the.ReadOnly
read_only n id bytes r s p q = told_reading_same r s (p.answer ∙ sym q.answer)

pub write_only : the.WriteOnly
write_only n id bytes value r s after after' p q =
    (told_writing_same r s (p.answer ∙ sym q.answer), p.data_bytes ∙ sym q.data_bytes)

pub read_service_point_only : the.ReadServicePointOnly
read_service_point_only id bytes r s p q = told_service_point_same r s (p.answer ∙ sym q.answer)

pub write_service_point_only : the.WriteServicePointOnly
write_service_point_only id bytes number r s after after' p q =
    (told_writing_same r s (p.answer ∙ sym q.answer), p.data_bytes ∙ sym q.data_bytes)

pub service_point_refusal_only : the.ServicePointRefusalOnly
service_point_refusal_only answer r s p q = p.number ∙ sym q.number

pub service_point_refusal_told : the.ServicePointRefusalTold
service_point_refusal_told (Ok value) = record { number = refl }
service_point_refusal_told (Err why) = record { number = refl }

-- the rows

pub rows_keep_rule : Laws.RowsKeepRule
rows_keep_rule = Table.whole

pub rows_ruled : Laws.RowsRuled
rows_ruled = rule_holds rows Table.whole

pub table_is_rows : Laws.TableIsRows
table_is_rows =
    record { by_number = Table.row_in_packed; by_dgn = Table.rows_in_packed; by_bit = Table.row_of_in_packed }

pub rows_apart : Laws.RowsApart
unfolding having Catalogue.rows
rows_apart = (refl, refl, Table.own)

pub plain_parts : Laws.PlainParts
unfolding class_in class_at
plain_parts = ((λ code. refl), (λ code. refl), (λ code. refl), (λ code. refl), refl, refl, refl, refl)

-- a refused write

kept : (t : Told (List ℕ)) (bytes : List ℕ) (k : ℕ) → done_if t ≡ refused k → bytes_after t bytes ≡ bytes
kept (gives new) bytes k e = refused_gives (sym e)
kept (refused n) bytes k e = refl

pub field_refused_keeps : Laws.FieldRefusedKeeps
field_refused_keeps n id bytes value r after k p e =
    p.data_bytes ∙ kept (written_of n id bytes value) bytes k (sym p.answer ∙ e)

pub service_point_refused_keeps : Laws.ServicePointRefusedKeeps
service_point_refused_keeps id bytes number r after k p e =
    p.data_bytes ∙ kept (with_service_point_of id bytes number) bytes k (sym p.answer ∙ e)

-- the lowest number wins

pub field_lowest_wins : (n id : ℕ) (bytes : List ℕ) (value : Value) → Laws.FieldLowestWins n id bytes value
unfolding read_of written_of
field_lowest_wins n id bytes value =
    let row = nth rows n in
    let size = length bytes in
    record {
      frame_first = λ k e. refuses k (sym (for_bad row id size k e));
      row_next = λ parts e o.
          refuses 11 (⊎_elim (Table.none_past n id size parts e) (Table.none_other n id size parts e) o);
      code_last = λ parts e h p f. write_uncoded row id bytes value row 12 (Table.opens_at n id size parts e h p) f;
      else_read = λ parts e h p. sym (read_row row id bytes row (Table.opens_at n id size parts e h p));
      else_done = λ parts code e h p f.
          ap done_if (write_row row id bytes value row code (Table.opens_at n id size parts e h p) f);
    }
  where
    refuses : (k : ℕ) → opened_for (nth rows n) id (length bytes) ≡ refused k
        → (read_row_of (nth rows n) id bytes ≡ refused k) × (written_row_of (nth rows n) id bytes value ≡ refused k)
    refuses k e = (sym (read_none (nth rows n) id bytes k e), write_none (nth rows n) id bytes value k e)

pub service_point_lowest_wins : (id : ℕ) (bytes : List ℕ) (number : ℕ) → Laws.ServicePointLowestWins id bytes number
unfolding read_of
service_point_lowest_wins id bytes number =
    record {
      frame_first = λ k e. refuses k (sym (for_bad high_part id (length bytes) k e));
      dgn_next = λ parts e n. refuses 11 (Table.none_other 5 id (length bytes) parts e n);
      else_read = λ parts e p. read parts e p;
      number_last = λ parts e p h. Points.with_more id bytes number _ (read parts e p) h;
      else_done = λ parts e p h.
          let w = Points.written id bytes number (opened parts e p) h in
          let g = Points.given_steps id bytes number w.after w.steps in
          ap done_if (Points.with_parts id bytes number _ (read parts e p) h ∙ g);
    }
  where
    refuses : (k : ℕ) → opened_for high_part id (length bytes) ≡ refused k
        → (service_point_of id bytes ≡ refused k) × (with_service_point_of id bytes number ≡ refused k)
    refuses k e =
        let s = sym (Points.high_refused id bytes k (read_none high_part id bytes k e)) in
        (s, Points.with_none id bytes number k s)

    opened : (parts : Parts) → checked_of id (length bytes) ≡ gives parts → parts.dgn ≡ dm_rv
        → Points.Opens id (length bytes)
    opened parts e p =
        Points.opens_from id (length bytes) high_part (Table.opens_at 5 id (length bytes) parts e (omega arith) p)

    read : (parts : Parts) (e : checked_of id (length bytes) ≡ gives parts) (p : parts.dgn ≡ dm_rv)
        → service_point_of id bytes
        ≡ gives (joined (field_of 16 8 (number_of bytes)) (field_of 24 8 (number_of bytes)) (field_of 37 3 (number_of bytes)))
    read parts e p = Points.number_is id bytes (opened parts e p)

-- the service point number

pub service_point_fits : Laws.ServicePointFits
service_point_fits id bytes number e =
    let s = gives_same (sym e ∙ Points.number_is id bytes (Points.opens_number id bytes number e)) in
    let h = field_below 16 8 (number_of bytes) in
    let m = field_below 24 8 (number_of bytes) in
    let l = field_below 37 3 (number_of bytes) in
    omega arith

pub service_point_bytes : Laws.ServicePointBytes
service_point_bytes id bytes number a e =
    let o = Points.opens_number id bytes number e in
    gives_same (sym e ∙ Points.number_is id bytes o)
    ∙ Points.in_bytes bytes a (found high_part id (length bytes) high_part o.high).eight

-- the cases of a write
by_write : {P : Type 0} (t : Told (List ℕ)) → ((new : List ℕ) → t ≡ gives new → P) → ((k : ℕ) → t ≡ refused k → P) → P
by_write (gives new) f g = f new refl
by_write (refused k) f g = g k refl

pub service_point_reads_back : Laws.ServicePointReadsBack
service_point_reads_back id bytes number r after a p d =
    by_write (with_service_point_of id bytes number)
    (λ new e. let s : after ≡ new = p.data_bytes ∙ ap (λ (t : Told (List ℕ)). bytes_after t bytes) e in
    Points.reads_back id bytes number after a (Points.wrote id bytes number after (e ∙ ap gives (sym s))))
    (λ k e. refused_gives (sym (sym d ∙ p.answer ∙ ap done_if e)))

-- the rest of the frame

-- a row that has a bit is a row of the table
has_row : (n b : ℕ) → HasBit (nth rows n) b → n < length rows
has_row n b h =
    by_test (n <? length rows) (λ t. ltb-true n (length rows) t)
    (λ t. absurd (none (rw (Table.past n (ltb-false n (length rows) t)) at h)))
  where
    none : HasBit no_row b → ⊥
    none h = omega arith

-- the other rows, and the bits outside of a row, after one write
others : (n m id : ℕ) (bytes new : List ℕ) (value : Value) → AreBytes bytes → (m ≡ n → ⊥)
    → written_row_of (nth rows n) id bytes value ≡ gives new
    → read_row_of (nth rows m) id new ≡ read_row_of (nth rows m) id bytes
others n m id bytes new value a d e =
    (row_reads_others (nth rows n) (nth rows m) id bytes new value a
    (λ s b p q. rows_ruled.apart n m b (has_row n b p) (has_row m b q) (λ w. d (sym w)) s p q) e).0

same : (id : ℕ) (bytes after : List ℕ) → after ≡ bytes → Laws.Alone id bytes after
same id bytes after e =
    record {
      rows_kept = λ n x y z. ap (read_of n id) e;
      bits_kept = λ b o. ap (λ (l : List ℕ). bit_of b (number_of l)) e;
      size_kept = ap length e;
    }

-- a bit outside of the parts is in none of them
outside : (b : ℕ) → Laws.Outside b → (HasBit high_part b → ⊥) × (HasBit middle_part b → ⊥) × (HasBit low_part b → ⊥)
outside b o =
    ⊎_elim (λ p. ((λ h. omega arith), (λ h. omega arith), (λ h. omega arith)))
    (⊎_elim (λ p. ((λ h. omega arith), (λ h. omega arith), (λ h. omega arith)))
    (λ p. ((λ h. omega arith), (λ h. omega arith), (λ h. omega arith)))) o

alone : (id : ℕ) (bytes : List ℕ) (number : ℕ) (after : List ℕ) → AreBytes bytes → Points.Wrote id bytes number after
    → Laws.Alone id bytes after
unfolding read_of
alone id bytes number after a w =
    let s = w.steps in
    let b₁ = row_eight_bytes high_part id bytes s.one _ s.high in
    let b₂ = row_eight_bytes middle_part id s.one s.two _ s.middle in
    let b₃ = row_eight_bytes low_part id s.two after _ s.low in
    record {
      rows_kept = λ n x y z.
          others 8 n id s.two after _ b₂.1 z s.low ∙ others 6 n id s.one s.two _ b₁.1 y s.middle
          ∙ others 5 n id bytes s.one _ a x s.high;
      bits_kept = λ b o.
          let x = outside b o in
          row_bits_kept low_part id b s.two after _ b₂.1 x.2 s.low
          ∙ row_bits_kept middle_part id b s.one s.two _ b₁.1 x.1 s.middle
          ∙ row_bits_kept high_part id b bytes s.one _ a x.0 s.high;
      size_kept = b₃.0 ∙ sym (found high_part id (length bytes) high_part w.opened.high).eight;
    }

pub service_point_alone : Laws.ServicePointAlone
service_point_alone id bytes number r after a p =
    by_write (with_service_point_of id bytes number)
    (λ new e. let s : after ≡ new = p.data_bytes ∙ ap (λ (t : Told (List ℕ)). bytes_after t bytes) e in
    alone id bytes number after a (Points.wrote id bytes number after (e ∙ ap gives (sym s))))
    (λ k e. same id bytes after (p.data_bytes ∙ ap (λ (t : Told (List ℕ)). bytes_after t bytes) e))

-- 000's example

pub service_point_example : Laws.ServicePointExample
unfolding service_point_of with_service_point_of written_parts read_row_of written_row_of opened_for checked_of matching lies_in_frame catalogue_form is_addressed dgn_of source_of priority_of reserved_of source_allowed field_in field_of with_field replaced number_of bytes_of code_of scaled_code stepped_code code_where class_in steps_of
service_point_example = (refl, refl)
