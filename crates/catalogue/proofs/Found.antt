-- What is known of a row that was found for a frame.
-- Assumes nothing.
use mathlib.Core.Path.{◌≡◌, refl, sym, ap, ◌∙◌, subst}
use mathlib.Core.Bool.{Bool, true, false, not}
use mathlib.Core.List.{List}
use Prim.Native.Nat.{ℕ, ◌^◌, ◌<◌}
use borrow.Author.Tests.{ltb-true, ltb-false, eqb-true, eq-eqb, ne_eqb}
use lib.ListN.{length, get_or-eq_default}
use native.Mathlib.Nat.{lt_of_lt_of_le}
use lib.Pow.{pow_mono}
use Rattle.words.specs.Words.{given◌then◌, ◌<?◌, ◌=?◌, Told, refused, gives, told, Done}
use Rattle.frame.specs.Bytes.{number_of}
use Rattle.frame.specs.Identifier.{dgn_of, catalogue_form}
use Rattle.frame.specs.Frame.{checked_of, frame_bytes}
use Rattle.frame.specs.Promises.{bytes_if}
use Rattle.frame.specs.declared.Parts.{Parts}
use Rattle.words.proofs.Words.{by_test, before_refusal, past_refusal, not_flips, gives_same, refused_same, refused_gives}
use Rattle.frame.proofs.Frame.{checked_given}
use Rattle.catalogue.specs.Rows.{rows}
use Rattle.catalogue.specs.Table.{no_row, nth, row_in, lies_in_frame, row_at, row_of}
use Rattle.catalogue.specs.Field.{InFrame}
use Rattle.catalogue.specs.Scale.{value_of}
use Rattle.catalogue.specs.Codes.{code_of}
use Rattle.catalogue.specs.Catalogue.{matching, opened_for, read_row_of, scaled_row_of, written_row_of, row_of_dgn, row_for}
use Rattle.catalogue.specs.Catalogue.{field_in, read_of, scaled_read_of, replaced, written_of}
use Rattle.std.specs.Result.{ResultUnwrapsOrElse}
use Rattle.std.specs.Option.{ok_or}
use Rattle.std.specs.Prelude.{Option, None, Result, Ok, Err, IsErrAnd, if◌then◌else◌}
use Rattle.catalogue.specs.Private.{is_of, not_written}
use Rattle.catalogue.specs.Promises.{Looked, Writing, WriteRow, told_looked, told_writing, done_if, bytes_after}
use Rattle.catalogue.specs.Promises.{number_of_not_read, number_of_not_written}
use Rattle.catalogue.specs.declared.NotRead.{NotRead}
use Rattle.catalogue.specs.declared.NotWritten.{NotWritten}
use Rattle.catalogue.specs.declared.Field.{Field}
use Rattle.catalogue.proofs.Bits.{field_below}
use Rattle.catalogue.specs.declared.Row.{Row}
use Rattle.catalogue.specs.declared.Unit.{Unit}
use Rattle.catalogue.specs.declared.Unit.TheVariants.{Other}
use Rattle.catalogue.specs.declared.Value.{Value}
use Rattle.catalogue.proofs.Rule.{framed, whole, lies_at}

-- what is given after a step had that step give
pub given_then : {A B : Type 0} (t : Told A) (f : A → Told B) {b : B} → (given t then f) ≡ gives b → (a : A) × (t ≡ gives a) × (f a ≡ gives b)
given_then (refused n) f e = refused_gives e
given_then (gives a) f e = (a, refl, e)

-- a row that matches
pub matched : (row : Row) (dgn : ℕ) {r : Row} → matching row dgn ≡ gives r
    → (lies_in_frame row ≡ true) × (row.dgn ≡ catalogue_form dgn) × (r ≡ row)
unfolding matching
matched row dgn e =
    let a = past_refusal (not (lies_in_frame row)) 11 _ e in
    let b = before_refusal (row.dgn =? catalogue_form dgn) 11 (gives row) a.1 in
    (not_flips (lies_in_frame row) a.0, eqb-true row.dgn (catalogue_form dgn) b.0, sym (gives_same b.1))

pub record Found (row : Row) (id size : ℕ) (r : Row) : Type 0 where
  pub checked : (p : Parts) × (checked_of id size ≡ gives p)
  pub eight : size ≡ frame_bytes
  pub lies : lies_in_frame row ≡ true
  pub is : r ≡ row
  pub dgn : row.dgn ≡ catalogue_form (dgn_of id)

pub found : (row : Row) (id size : ℕ) (r : Row) → opened_for row id size ≡ gives r → Found row id size r
unfolding opened_for
found row id size r e =
    let a = given_then (checked_of id size) (λ parts. matching row parts.dgn) e in
    let h = checked_given id size a.0 a.1 in
    let m = matched row a.0.dgn a.2 in
    record {
      checked = (a.0, a.1);
      eight = h.0;
      lies = m.0;
      is = m.2;
      dgn = m.1 ∙ ap (λ (p : Parts). catalogue_form p.dgn) h.1;
    }

module _ (row : Row) (id size : ℕ) (r : Row) (e : opened_for row id size ≡ gives r) where
  pub found_frame : InFrame r.first r.width
  found_frame =
      let f = found row id size r e in
      subst (λ (x : Row). InFrame x.first x.width) (sym f.is) (framed row f.lies)

-- the outcomes of a search for a row, for the code

module _ (row : Row) (dgn : ℕ) where
  pub match_outside : not (lies_in_frame row) ≡ true → refused 11 ≡ matching row dgn
  unfolding matching
  match_outside e = sym (rw e)

  pub match_other : (d : ℕ) → d ≡ catalogue_form dgn → (row.dgn ≡ d → ⊥) → refused 11 ≡ matching row dgn
  unfolding matching
  match_other d f x = by_test (not (lies_in_frame row)) match_outside (λ e. sym (rw (e, ← f, ne_eqb row.dgn d x)))

  pub match_same : (d : ℕ) → not (lies_in_frame row) ≡ false → d ≡ catalogue_form dgn → row.dgn ≡ d → gives row ≡ matching row dgn
  unfolding matching
  match_same d e f x = sym (rw (e, ← f, eq-eqb row.dgn d x))

pub match_is : (row : Row) (dgn : ℕ) → matching row dgn ≡ (if is_of row dgn then gives row else refused 11)
unfolding matching
match_is row dgn =
    by_test (lies_in_frame row)
    (λ t. by_test (row.dgn =? catalogue_form dgn) (λ u. rw (t, u)) (λ u. rw (t, u)))
    (λ t. rw t)

module _ (row : Row) (id size : ℕ) where
  pub for_bad : (k : ℕ) → checked_of id size ≡ refused k → refused k ≡ opened_for row id size
  unfolding opened_for
  for_bad k e = sym (rw e)

  pub for_sound : (p : Parts) → checked_of id size ≡ gives p → matching row p.dgn ≡ opened_for row id size
  unfolding opened_for
  for_sound p e = sym (rw e)

  -- what a number is given for: a row for the frame, and else nothing
  module _ (n : ℕ) where
    pub number_none : (k : ℕ) → checked_of id size ≡ refused k → refused k ≡ (given opened_for row id size then λ _. gives n)
    unfolding opened_for
    number_none k e = sym (rw e)

    pub number_other : (p : Parts) → checked_of id size ≡ gives p → is_of row p.dgn ≡ false
        → refused 11 ≡ (given opened_for row id size then λ _. gives n)
    unfolding opened_for
    number_other p e t = sym (rw (e, match_is row p.dgn, t))

    pub number_given : (p : Parts) → checked_of id size ≡ gives p → is_of row p.dgn ≡ true
        → gives n ≡ (given opened_for row id size then λ _. gives n)
    unfolding opened_for
    number_given p e t = sym (rw (e, match_is row p.dgn, t))

-- a `?` hands on the refusal that it met

pub handed : {A E : Type 0} (number : E → ℕ) (r : Result A E) (w : E) → IsErrAnd r (λ e. e ≡ w) → told number r ≡ refused (number w)
handed number (Ok a) w h = absurd h
handed number (Err e) w h = ap (λ x. refused (number x)) h

pub handed_write : (r : Writing) (w : NotWritten) → IsErrAnd r (λ e. e ≡ w) → told_writing r ≡ refused (number_of_not_written w)
handed_write (Ok a) w h = absurd h
handed_write (Err e) w h = ap (λ x. refused (number_of_not_written x)) h

-- a value without a code
pub uncoded : (o : Option ℕ) (w : NotWritten) → o ≡ None → ◌≡◌ {A = Result ℕ NotWritten} (Err w) (ok_or o NotWritten.NoCode) → w ≡ NotWritten.NoCode
uncoded o w n e = let f : ◌≡◌ {A = Result ℕ NotWritten} (Err w) (Err NotWritten.NoCode) = rw n at e in cc

-- what is not written since it is not read has the same number
pub same_number : (w : NotRead) → ◌≡◌ {A = Told Done} (refused (number_of_not_written (not_written w))) (refused (number_of_not_read w))
same_number (NotRead.BadFrame why) = refl
same_number NotRead.NoSuchRow = refl

-- a sound frame has its bytes
pub sound_bytes : (id : ℕ) (bytes : List ℕ) (p : Parts) → checked_of id (length bytes) ≡ gives p → bytes_if (checked_of id (length bytes)) bytes ≡ bytes
sound_bytes id bytes p e = ap (λ (t : Told Parts). bytes_if t bytes) e

none_behind : {A : Type 0} (t : Told A) (n k : ℕ) → refused k ≡ (given t then λ _. gives n) → t ≡ refused k
none_behind (refused j) n k e = ap refused (sym (refused_same e))
none_behind (gives a) n k e = refused_gives e

-- the outcomes of a call

module _ (row : Row) (id : ℕ) (bytes : List ℕ) where
  -- a frame opened for a row

  pub opened_none : (k : ℕ) → refused k ≡ (given opened_for row id (length bytes) then λ _. gives (number_of bytes))
      → opened_for row id (length bytes) ≡ refused k
  opened_none k e = none_behind (opened_for row id (length bytes)) (number_of bytes) k e

  pub opened_row : (m : ℕ) → gives m ≡ (given opened_for row id (length bytes) then λ _. gives (number_of bytes))
      → (opened_for row id (length bytes) ≡ gives row) × (m ≡ number_of bytes)
  opened_row m e =
      let g = given_then (opened_for row id (length bytes)) (λ _. gives (number_of bytes)) (sym e) in
      (g.1 ∙ ap gives (found row id (length bytes) g.0 g.1).is, sym (gives_same g.2))

  -- a field that was read

  pub field_none : (k : ℕ) → refused k ≡ read_row_of row id bytes → opened_for row id (length bytes) ≡ refused k
  unfolding read_row_of
  field_none k e = behind (opened_for row id (length bytes)) e
    where
      behind : (t : Told Row) → refused k ≡ (given t then λ r. gives (field_in r (number_of bytes))) → t ≡ refused k
      behind (refused j) e = ap refused (sym (refused_same e))
      behind (gives a) e = refused_gives e

  pub field_read : (f : Field) → gives f ≡ read_row_of row id bytes
      → (opened_for row id (length bytes) ≡ gives row) × (f ≡ field_in row (number_of bytes))
  unfolding read_row_of
  field_read f e =
      let g = given_then (opened_for row id (length bytes)) (λ r. gives (field_in r (number_of bytes))) (sym e) in
      let i = (found row id (length bytes) g.0 g.1).is in
      (g.1 ∙ ap gives i, sym (gives_same g.2) ∙ ap (λ (r : Row). field_in r (number_of bytes)) i)

  pub field_small : (f : Field) → gives f ≡ read_row_of row id bytes → f.code < 2 ^ 32
  unfolding field_in
  field_small f e =
      let r = field_read f e in
      let i = found_frame row id (length bytes) row r.0 in
      rw r.1 (lt_of_lt_of_le (field_below row.first row.width (number_of bytes)) (pow_mono {i = row.width} {j = 32} i.most))

  pub read_none : (k : ℕ) → opened_for row id (length bytes) ≡ refused k → refused k ≡ read_row_of row id bytes
  unfolding read_row_of
  read_none k e = sym (rw e)

  pub read_row : (r : Row) → opened_for row id (length bytes) ≡ gives r → gives (field_in r (number_of bytes)) ≡ read_row_of row id bytes
  unfolding read_row_of
  read_row r e = sym (rw e)

  pub scaled_none : (k : ℕ) → opened_for row id (length bytes) ≡ refused k → refused k ≡ scaled_row_of row id bytes
  unfolding scaled_row_of
  scaled_none k e = sym (rw e)

  pub scaled_row : (r : Row) → opened_for row id (length bytes) ≡ gives r → gives (value_of r (field_in r (number_of bytes))) ≡ scaled_row_of row id bytes
  unfolding scaled_row_of
  scaled_row r e = sym (rw e)

  pub write_none : (value : Value) (k : ℕ) → opened_for row id (length bytes) ≡ refused k → written_row_of row id bytes value ≡ refused k
  unfolding written_row_of
  write_none value k e = rw e

  pub write_uncoded : (value : Value) (r : Row) (k : ℕ) → opened_for row id (length bytes) ≡ gives r → code_of r value ≡ refused k
      → written_row_of row id bytes value ≡ refused k
  unfolding written_row_of
  write_uncoded value r k e f = rw (e, f)

  pub write_row : (value : Value) (r : Row) (code : ℕ) → opened_for row id (length bytes) ≡ gives r → code_of r value ≡ gives code
      → written_row_of row id bytes value ≡ gives (replaced r code bytes)
  unfolding written_row_of
  write_row value r code e f = rw (e, f)

  -- a refused write leaves the bytes, and another gives the new ones
  pub write_keeps : (value : Value) (r : Writing) (k : ℕ) → told_writing r ≡ refused k → written_row_of row id bytes value ≡ refused k → WriteRow row id bytes value r bytes
  write_keeps value r k t e = record { answer = t ∙ sym (ap done_if e); data_bytes = sym (ap (λ (x : Told (List ℕ)). bytes_after x bytes) e) }

  pub write_gives : (value : Value) (new after : List ℕ) → written_row_of row id bytes value ≡ gives new → after ≡ new → WriteRow row id bytes value (Ok tt) after
  write_gives value new after e f = record { answer = sym (ap done_if e); data_bytes = f ∙ sym (ap (λ (x : Told (List ℕ)). bytes_after x bytes) e) }

-- The row with a number is that row by value: past the end it is one that lies in no frame, and every row of the catalogue lies in one.

no_row_lem : lies_in_frame no_row ≡ false
unfolding lies_in_frame
no_row_lem = refl

pub dgn_at_lem : (n dgn : ℕ) → row_of_dgn n dgn ≡ matching (row_at n) dgn
unfolding row_of_dgn matching row_of row_in row_at
dgn_at_lem n dgn =
    by_test (n <? length rows)
    (λ t. rw (t, lies_at rows whole n (ltb-true n (length rows) t)))
    (λ t. rw (t, get_or-eq_default rows no_row (ltb-false n (length rows) t), no_row_lem))

pub for_at : (n id size : ℕ) → row_for n id size ≡ opened_for (row_at n) id size
unfolding row_for opened_for
for_at n id size = go (checked_of id size)
  where
    go : (t : Told Parts) → (given t then λ parts. row_of_dgn n parts.dgn) ≡ (given t then λ parts. matching (row_at n) parts.dgn)
    go (refused k) = refl
    go (gives p) = dgn_at_lem n p.dgn

pub read_at : (n id : ℕ) (bytes : List ℕ) → read_of n id bytes ≡ read_row_of (row_at n) id bytes
unfolding read_of read_row_of
read_at n id bytes = rw (for_at n id (length bytes))

pub scaled_at : (n id : ℕ) (bytes : List ℕ) → scaled_read_of n id bytes ≡ scaled_row_of (row_at n) id bytes
unfolding scaled_read_of scaled_row_of
scaled_at n id bytes = rw (for_at n id (length bytes))

pub written_at : (n id : ℕ) (bytes : List ℕ) (value : Value) → written_of n id bytes value ≡ written_row_of (row_at n) id bytes value
unfolding written_of written_row_of
written_at n id bytes value = rw (for_at n id (length bytes))

-- the row of a look-up, or all zeros

abbrev AllZeros : Row → Type 0
AllZeros r = (r.dgn ≡ 0) × ((r.first ≡ 0) × ((r.width ≡ 0) × ((r.unit ≡ Other) × ((r.plain ≡ false) × (r.two_state ≡ false)))))

made_of : (d f w : ℕ) (u : Unit) (p t : Bool) → d ≡ 0 → f ≡ 0 → w ≡ 0 → u ≡ Other → p ≡ false → t ≡ false
    → ◌≡◌ {A = Row} (record { dgn = d; first = f; width = w; unit = u; plain = p; two_state = t }) no_row
made_of d f w u p t a b c e g h = rw (a, b, c, e, g, h)

zeros_are : (r : Row) → AllZeros r → r ≡ no_row
zeros_are r z =
    made_of r.dgn r.first r.width r.unit r.plain r.two_state z.0 z.1.0 z.1.1.0 z.1.1.1.0 z.1.1.1.1.0 z.1.1.1.1.1

pub row_in_or_none : (list : List Row) (n : ℕ) (looked : Looked) (row : Row) → told_looked looked ≡ row_in list n
    → ResultUnwrapsOrElse looked AllZeros row → row ≡ nth list n
unfolding row_in
row_in_or_none list n (Ok r) row e u =
    u ∙ sym (gives_same (before_refusal (n <? length list) 11 (gives (nth list n)) (sym e)).1)
row_in_or_none list n (Err w) row e u =
    by_test (n <? length list)
    (λ t. refused_gives (rw t at e))
    (λ t. zeros_are row u ∙ sym (get_or-eq_default list no_row (ltb-false n (length list) t)))

pub row_or_none : (n : ℕ) (looked : Looked) (row : Row) → told_looked looked ≡ row_of n
    → ResultUnwrapsOrElse looked AllZeros row → row ≡ row_at n
unfolding row_of row_at
row_or_none n looked row e u = row_in_or_none rows n looked row e u
