-- The parts of a service point number: read and written in a frame that has one.
-- Assumes nothing.
use mathlib.Core.Path.{◌≡◌, refl, sym, ap, ◌∙◌, subst}
use mathlib.Core.Bool.{true, not}
use mathlib.Core.List.{List, [], ◌∷◌}
use Prim.Native.Nat.{ℕ, ◌/◌, ◌%◌, ◌^◌, ◌<◌, ◌≤◌}
use native.Mathlib.Omega.{arith}
use borrow.Author.Tests.{leb-false, lt-leb, le-leb}
use lib.IntN.{pos}
use lib.ListN.{length, get_or}
use Rattle.words.specs.Words.{◌≤?◌, Told, refused, gives, done}
use Rattle.frame.specs.Bytes.{number_of, AreBytes}
use Rattle.frame.specs.Identifier.{catalogue_form}
use Rattle.frame.specs.Frame.{frame_bytes}
use Rattle.frame.specs.declared.Parts.{Parts}
use Rattle.words.proofs.Words.{past_refusal, gives_same, refused_gives}
use Rattle.frame.proofs.Frame.{checked_given}
use Rattle.catalogue.specs.Rows.{plain}
use Rattle.catalogue.specs.Table.{lies_in_frame}
use Rattle.catalogue.specs.Field.{field_of}
use Rattle.catalogue.specs.Classes.{class_in}
use Rattle.catalogue.specs.Scale.{scaled_of, value_of}
use Rattle.catalogue.specs.Codes.{code_of}
use Rattle.catalogue.specs.Catalogue.{field_in, opened_for, read_row_of, written_row_of, replaced}
use Rattle.catalogue.specs.Promises.{Writing, told_writing, done_if, bytes_after}
use Rattle.catalogue.specs.Laws.{field_at}
use Rattle.catalogue.specs.declared.Row.{Row}
use Rattle.catalogue.specs.declared.Field.{Field}
use Rattle.catalogue.specs.declared.Value.{Value}
use Rattle.catalogue.specs.declared.Value.TheVariants.{Scaled}
use Rattle.std.specs.Prelude.{Err}
use Rattle.catalogue.specs.declared.NotWritten.{NotWritten}
use Rattle.catalogue.proofs.Found.{given_then, found, match_same, for_sound, read_row, write_row, field_read}
use Rattle.catalogue.proofs.Bits.{field_below}
use Rattle.catalogue.proofs.Laws.{code_back, row_reads_code, row_reads_others, row_eight_bytes}
use Rattle.faults.specs.Rows.{field, high_part, middle_part, low_part, read_of, written_of}
use Rattle.faults.specs.ServicePoint.{service_points, joined, service_point_of, HasServicePoint}
use Rattle.faults.specs.ServicePoint.{written_parts, with_service_point_of}
use Rattle.faults.specs.Promises.{WriteField, WriteServicePoint}

-- a row of the same DGN is found in every frame that another is found in
alike : (a b : Row) (id size : ℕ) (r : Row) → lies_in_frame b ≡ true → b.dgn ≡ a.dgn → opened_for a id size ≡ gives r
    → opened_for b id size ≡ gives b
alike a b id size r l d e =
    let f = found a id size r e in
    let p = f.checked in
    let q = (checked_given id size p.0 p.1).1 in
    let m : b.dgn ≡ catalogue_form p.0.dgn = d ∙ f.dgn ∙ sym (ap (λ (x : Parts). catalogue_form x.dgn) q) in
    sym (for_sound b id size p.0 p.1)
    ∙ sym (match_same b p.0.dgn (catalogue_form p.0.dgn) (ap not l) refl m)

-- the rows of the parts are found in a frame with this identifier and so many bytes
pub record Opens (id size : ℕ) : Type 0 where
  pub high : opened_for high_part id size ≡ gives high_part
  pub middle : opened_for middle_part id size ≡ gives middle_part
  pub low : opened_for low_part id size ≡ gives low_part

pub opens_from : (id size : ℕ) (r : Row) → opened_for high_part id size ≡ gives r → Opens id size
unfolding lies_in_frame
opens_from id size r e =
    record {
      high = alike high_part high_part id size r refl refl e;
      middle = alike high_part middle_part id size r refl refl e;
      low = alike high_part low_part id size r refl refl e;
    }

pub opens_read : (id : ℕ) (bytes : List ℕ) (f : Field) → read_row_of high_part id bytes ≡ gives f → Opens id (length bytes)
unfolding read_row_of
opens_read id bytes f e =
    let a = given_then (opened_for high_part id (length bytes)) (λ r. gives (field_in r (number_of bytes))) e in
    opens_from id (length bytes) a.0 a.1

pub opens_number : (id : ℕ) (bytes : List ℕ) (number : ℕ) → service_point_of id bytes ≡ gives number
    → Opens id (length bytes)
unfolding service_point_of
opens_number id bytes number e =
    let a = given_then (read_row_of high_part id bytes) _ e in
    opens_read id bytes a.0 a.1

-- a code that is read fits its row
pub code_below : (row : Row) (id : ℕ) (bytes : List ℕ) (f : Field) → gives f ≡ read_row_of row id bytes → f.code < 2 ^ row.width
unfolding field_in
code_below row id bytes f e = rw (field_read row id bytes f e).1 (field_below row.first row.width (number_of bytes))

pub number_is : (id : ℕ) (bytes : List ℕ) → Opens id (length bytes)
    → service_point_of id bytes
    ≡ gives (joined (field_of 16 8 (number_of bytes)) (field_of 24 8 (number_of bytes)) (field_of 37 3 (number_of bytes)))
unfolding service_point_of field_in
number_is id bytes o =
    let h = read_row high_part id bytes high_part o.high in
    let m = read_row middle_part id bytes middle_part o.middle in
    let l = read_row low_part id bytes low_part o.low in
    rw (← h, ← m, ← l)

-- the parts as bytes: bytes 2 and 3, and the three highest bits of byte 4

field_two : (a b c : ℕ) (rest : List ℕ) → a < 256 → b < 256 → c < 256 → field_of 16 8 (number_of (a ∷ b ∷ c ∷ rest)) ≡ c
unfolding field_of number_of
field_two a b c rest h g k = omega arith

field_three : (a b c d : ℕ) (rest : List ℕ) → a < 256 → b < 256 → c < 256 → d < 256
    → field_of 24 8 (number_of (a ∷ b ∷ c ∷ d ∷ rest)) ≡ d
unfolding field_of number_of
field_three a b c d rest h g k l = omega arith

field_four : (a b c d e : ℕ) (rest : List ℕ) → a < 256 → b < 256 → c < 256 → d < 256 → e < 256
    → field_of 37 3 (number_of (a ∷ b ∷ c ∷ d ∷ e ∷ rest)) ≡ e / 32
unfolding field_of number_of
field_four a b c d e rest h g k l m = omega arith

pub in_bytes : (bytes : List ℕ) → AreBytes bytes → length bytes ≡ frame_bytes
    → joined (field_of 16 8 (number_of bytes)) (field_of 24 8 (number_of bytes)) (field_of 37 3 (number_of bytes))
    ≡ joined (get_or bytes 2 0) (get_or bytes 3 0) (get_or bytes 4 0 / 32)
in_bytes [] h l = omega arith
in_bytes (a ∷ []) h l = omega arith
in_bytes (a ∷ b ∷ []) h l = omega arith
in_bytes (a ∷ b ∷ c ∷ []) h l = omega arith
in_bytes (a ∷ b ∷ c ∷ d ∷ []) h l = omega arith
in_bytes (a ∷ b ∷ c ∷ d ∷ e ∷ rest) h l =
    rw (
      field_two a b c (d ∷ e ∷ rest) (h 0) (h 1) (h 2),
      field_three a b c d (e ∷ rest) (h 0) (h 1) (h 2) (h 3),
      field_four a b c d e rest (h 0) (h 1) (h 2) (h 3) (h 4),
    )

-- what the code reads: the number that three parts spell, or the first refusal of a part
module _ (id : ℕ) (bytes : List ℕ) where
  pub high_refused : (k : ℕ) → refused k ≡ read_of 5 id bytes → refused k ≡ service_point_of id bytes
  unfolding service_point_of read_of
  high_refused k e = rw (← e) refl

  module _ (high : Field) (e : gives high ≡ read_of 5 id bytes) where
    pub middle_refused : (k : ℕ) → refused k ≡ read_of 6 id bytes → refused k ≡ service_point_of id bytes
    unfolding service_point_of read_of
    middle_refused k f = rw (← e, ← f) refl

    module _ (middle : Field) (f : gives middle ≡ read_of 6 id bytes) where
      pub low_refused : (k : ℕ) → refused k ≡ read_of 8 id bytes → refused k ≡ service_point_of id bytes
      unfolding service_point_of read_of
      low_refused k g = rw (← e, ← f, ← g) refl

      pub parts_below : (low : Field) → gives low ≡ read_of 8 id bytes → (high.code < 256) × (middle.code < 256) × (low.code < 8)
      unfolding read_of
      parts_below low g = (code_below high_part id bytes high e, code_below middle_part id bytes middle f, code_below low_part id bytes low g)

      pub parts_joined : (low : Field) (number : ℕ) → gives low ≡ read_of 8 id bytes
          → number ≡ joined high.code middle.code low.code → gives number ≡ service_point_of id bytes
      unfolding service_point_of read_of
      parts_joined low number g n = rw (← e, ← f, ← g) (ap gives n)

-- a plain row takes every code that fits
plain_code : (first width c : ℕ) → c < 2 ^ width → code_of (field first width plain) (Scaled (pos c)) ≡ gives c
unfolding value_of class_in scaled_of
plain_code first width c h = code_back (field first width plain) c h

part_written : (first width id : ℕ) (bytes : List ℕ) (c : ℕ) → c < 2 ^ width
    → opened_for (field first width plain) id (length bytes) ≡ gives (field first width plain)
    → written_row_of (field first width plain) id bytes (Scaled (pos c))
    ≡ gives (replaced (field first width plain) c bytes)
part_written first width id bytes c h e =
    let part = field first width plain in
    write_row part id bytes (Scaled (pos c)) part c e (plain_code first width c h)

-- a write keeps the frame's size
written_size : (row : Row) (id : ℕ) (bytes new : List ℕ) (value : Value) → opened_for row id (length bytes) ≡ gives row
    → written_row_of row id bytes value ≡ gives new → length new ≡ length bytes
written_size row id bytes new value o e =
    (row_eight_bytes row id bytes new value e).0 ∙ sym (found row id (length bytes) row o).eight

-- the three writes of a number, one after the other
pub record Steps (id : ℕ) (bytes : List ℕ) (number : ℕ) (after : List ℕ) : Type 0 where
  pub one : List ℕ
  pub two : List ℕ
  pub high : written_row_of high_part id bytes (Scaled (pos (number / 2048))) ≡ gives one
  pub middle : written_row_of middle_part id one (Scaled (pos (number / 8 % 256))) ≡ gives two
  pub low : written_row_of low_part id two (Scaled (pos (number % 8))) ≡ gives after

steps_given : (id : ℕ) (bytes : List ℕ) (number : ℕ) (after : List ℕ) → written_parts id bytes number ≡ gives after
    → Steps id bytes number after
unfolding written_parts
steps_given id bytes number after e =
    let a = given_then (written_row_of high_part id bytes (Scaled (pos (number / 2048)))) _ e in
    let b = given_then (written_row_of middle_part id a.0 (Scaled (pos (number / 8 % 256)))) _ a.2 in
    record { one = a.0; two = b.0; high = a.1; middle = b.1; low = b.2 }

pub given_steps : (id : ℕ) (bytes : List ℕ) (number : ℕ) (after : List ℕ) → Steps id bytes number after
    → written_parts id bytes number ≡ gives after
unfolding written_parts
given_steps id bytes number after s = rw (s.high, s.middle) s.low

opens_size : (id size size' : ℕ) → size' ≡ size → Opens id size → Opens id size'
opens_size id size size' e o = subst (Opens id) (sym e) o

-- in a DM_RV a number of 19 bits is written
pub record Written (id : ℕ) (bytes : List ℕ) (number : ℕ) : Type 0 where
  pub after : List ℕ
  pub steps : Steps id bytes number after

pub written : (id : ℕ) (bytes : List ℕ) (number : ℕ) → Opens id (length bytes) → number < service_points
    → Written id bytes number
written id bytes number o h =
    let one = replaced high_part (number / 2048) bytes in
    let e₁ = part_written 16 8 id bytes (number / 2048) (omega arith) o.high in
    let o₁ = opens_size id (length bytes) (length one) (written_size high_part id bytes one _ o.high e₁) o in
    let two = replaced middle_part (number / 8 % 256) one in
    let e₂ = part_written 24 8 id one (number / 8 % 256) (omega arith) o₁.middle in
    let o₂ = opens_size id (length one) (length two) (written_size middle_part id one two _ o₁.middle e₂) o₁ in
    record {
      after = replaced low_part (number % 8) two;
      steps =
          record {
            one = one;
            two = two;
            high = e₁;
            middle = e₂;
            low = part_written 37 3 id two (number % 8) (omega arith) o₂.low;
          };
    }

-- a number of more than 19 bits, and one that is written
module _ (id : ℕ) (bytes : List ℕ) (number before : ℕ) (e : service_point_of id bytes ≡ gives before) where
  pub with_more : service_points ≤ number → with_service_point_of id bytes number ≡ refused 12
  unfolding with_service_point_of
  with_more h = rw (e, le-leb service_points number h)

  pub with_parts : number < service_points → with_service_point_of id bytes number ≡ written_parts id bytes number
  unfolding with_service_point_of
  with_parts h = rw (e, lt-leb service_points number h)

pub with_none : (id : ℕ) (bytes : List ℕ) (number k : ℕ) → service_point_of id bytes ≡ refused k
    → with_service_point_of id bytes number ≡ refused k
unfolding with_service_point_of
with_none id bytes number k e = rw e

-- what the code does: three calls that are not refused

record Did (r : Writing) (after new : List ℕ) : Type 0 where
  told : told_writing r ≡ gives done
  is : after ≡ new

did : (n id : ℕ) (bytes new after : List ℕ) (v value : Value) (r : Writing) → v ≡ value
    → WriteField n id bytes v r after → written_of n id bytes value ≡ gives new
    → Did r after new
did n id bytes new after v value r q w e =
    let g : written_of n id bytes v ≡ gives new = ap (written_of n id bytes) q ∙ e in
    record { told = w.answer ∙ ap done_if g; is = w.data_bytes ∙ ap (λ (t : Told (List ℕ)). bytes_after t bytes) g }

pub parts_written : (id : ℕ) (bytes : List ℕ) (number : ℕ) (a₁ a₂ a₃ : List ℕ) (v₁ v₂ v₃ : Value) (r₁ r₂ r₃ : Writing)
    → HasServicePoint id bytes → number < service_points
    → v₁ ≡ Scaled (pos (number / 2048)) → WriteField 5 id bytes v₁ r₁ a₁
    → v₂ ≡ Scaled (pos (number / 8 % 256)) → WriteField 6 id a₁ v₂ r₂ a₂
    → v₃ ≡ Scaled (pos (number % 8)) → WriteField 8 id a₂ v₃ r₃ a₃
    → WriteServicePoint id bytes number r₃ a₃
unfolding written_of
parts_written id bytes number a₁ a₂ a₃ v₁ v₂ v₃ r₁ r₂ r₃ p h q₁ w₁ q₂ w₂ q₃ w₃ =
    let w = written id bytes number (opens_number id bytes p.number p.is) h in
    let s = w.steps in
    let d₁ = did 5 id bytes s.one a₁ v₁ _ r₁ q₁ w₁ s.high in
    let d₂ = did 6 id a₁ s.two a₂ v₂ _ r₂ q₂ w₂ (rw d₁.is s.middle) in
    let d₃ = did 8 id a₂ w.after a₃ v₃ _ r₃ q₃ w₃ (rw d₂.is s.low) in
    let g = with_parts id bytes number p.number p.is h ∙ given_steps id bytes number w.after s in
    record {
      answer = d₃.told ∙ sym (ap done_if g);
      data_bytes = d₃.is ∙ sym (ap (λ (t : Told (List ℕ)). bytes_after t bytes) g);
    }

-- none of the first two is refused
first_not : (n id : ℕ) (bytes new after : List ℕ) (v value : Value) (w : NotWritten) → v ≡ value
    → WriteField n id bytes v (Err w) after → written_of n id bytes value ≡ gives new → ⊥
first_not n id bytes new after v value w q p e = refused_gives (did n id bytes new after v value (Err w) q p e).told

module _ (id : ℕ) (bytes : List ℕ) (number : ℕ) (a₁ : List ℕ) (v₁ : Value) (p : HasServicePoint id bytes)
    (h : number < service_points) (q₁ : v₁ ≡ Scaled (pos (number / 2048))) where
  pub high_not : (w : NotWritten) → WriteField 5 id bytes v₁ (Err w) a₁ → ⊥
  unfolding written_of
  high_not w w₁ =
      let s = (written id bytes number (opens_number id bytes p.number p.is) h).steps in
      first_not 5 id bytes s.one a₁ v₁ _ w q₁ w₁ s.high

  pub middle_not : (r₁ : Writing) (a₂ : List ℕ) (v₂ : Value) (w : NotWritten) → WriteField 5 id bytes v₁ r₁ a₁
      → v₂ ≡ Scaled (pos (number / 8 % 256)) → WriteField 6 id a₁ v₂ (Err w) a₂ → ⊥
  unfolding written_of
  middle_not r₁ a₂ v₂ w w₁ q₂ w₂ =
      let s = (written id bytes number (opens_number id bytes p.number p.is) h).steps in
      let d₁ = did 5 id bytes s.one a₁ v₁ _ r₁ q₁ w₁ s.high in
      first_not 6 id a₁ s.two a₂ v₂ _ w q₂ w₂ (rw d₁.is s.middle)

-- for the code: a number that cannot be read is not written
pub write_keeps : (id : ℕ) (bytes : List ℕ) (number : ℕ) (r : Writing) (k : ℕ) → told_writing r ≡ refused k
    → service_point_of id bytes ≡ refused k → WriteServicePoint id bytes number r bytes
write_keeps id bytes number r k t e =
    let w = with_none id bytes number k e in
    record { answer = t ∙ sym (ap done_if w); data_bytes = sym (ap (λ (x : Told (List ℕ)). bytes_after x bytes) w) }

-- what a write that gave new bytes did
pub record Wrote (id : ℕ) (bytes : List ℕ) (number : ℕ) (after : List ℕ) : Type 0 where
  pub opened : Opens id (length bytes)
  pub fits : number < service_points
  pub steps : Steps id bytes number after

pub wrote : (id : ℕ) (bytes : List ℕ) (number : ℕ) (after : List ℕ) → with_service_point_of id bytes number ≡ gives after
    → Wrote id bytes number after
unfolding with_service_point_of
wrote id bytes number after e =
    let a = given_then (service_point_of id bytes) _ e in
    let b = past_refusal (service_points ≤? number) 12 (written_parts id bytes number) a.2 in
    record {
      opened = opens_number id bytes a.0 a.1;
      fits = leb-false service_points number b.0;
      steps = steps_given id bytes number after b.1;
    }

-- a part is read back after its write
part_back : (first width id : ℕ) (bytes new : List ℕ) (c : ℕ) → AreBytes bytes → c < 2 ^ width
    → written_row_of (field first width plain) id bytes (Scaled (pos c)) ≡ gives new
    → read_row_of (field first width plain) id new ≡ gives (field_at (field first width plain) c)
unfolding written_row_of
part_back first width id bytes new c a h e =
    let part = field first width plain in
    let g = given_then (opened_for part id (length bytes)) _ e in
    let i = (found part id (length bytes) g.0 g.1).is in
    let o : opened_for part id (length bytes) ≡ gives part = g.1 ∙ ap gives i in
    let n : new ≡ replaced part c bytes = gives_same (sym e ∙ part_written first width id bytes c h o) in
    ap (read_row_of part id) n ∙ row_reads_code part id bytes (Scaled (pos c)) part c a o (plain_code first width c h)

-- the number that the parts of a number spell is that number
joined_back : (number : ℕ) → joined (number / 2048) (number / 8 % 256) (number % 8) ≡ number
joined_back number = omega arith

pub reads_back : (id : ℕ) (bytes : List ℕ) (number : ℕ) (after : List ℕ) → AreBytes bytes → Wrote id bytes number after
    → service_point_of id after ≡ gives number
unfolding service_point_of
reads_back id bytes number after a w =
    let s = w.steps in
    let f = w.fits in
    let a₁ = (row_eight_bytes high_part id bytes s.one _ s.high).1 in
    let a₂ = (row_eight_bytes middle_part id s.one s.two _ s.middle).1 in
    let h₁ = part_back 16 8 id bytes s.one (number / 2048) a (omega arith) s.high in
    let m₂ = part_back 24 8 id s.one s.two (number / 8 % 256) a₁ (omega arith) s.middle in
    let l₃ = part_back 37 3 id s.two after (number % 8) a₂ (omega arith) s.low in
    let h₂ = (row_reads_others middle_part high_part id s.one s.two _ a₁ (λ d b p q. omega arith) s.middle).0 in
    let h₃ = (row_reads_others low_part high_part id s.two after _ a₂ (λ d b p q. omega arith) s.low).0 in
    let m₃ = (row_reads_others low_part middle_part id s.two after _ a₂ (λ d b p q. omega arith) s.low).0 in
    rw (h₃, h₂, h₁, m₃, m₂, l₃, joined_back number)
