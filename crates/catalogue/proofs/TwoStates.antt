-- Rows of two states: what the calls answer, that the mark speaks of 10b alone, and the marks of the catalogue.
-- Assumes nothing.
use Rattle.std.specs.Prelude.{if◌then◌else◌}
use mathlib.Core.Path.{◌≡◌, refl, sym, ap, ◌∙◌}
use mathlib.Core.Bool.{Bool, true, false, not}
use mathlib.Core.List.{List, [], ◌∷◌}
use Prim.Native.Nat.{ℕ, zero, suc, ◌-◌, ◌/◌, ◌%◌, ◌^◌, ◌≤◌, ◌<◌}
use native.Mathlib.Nat.{le_of_suc-le-suc, not-suc-le-zero, mod-lt}
use native.Mathlib.Omega.{arith}
use borrow.Author.Tests.{eqb-true, eqb-false, ltb-true, ltb-false}
use lib.IntN.{pos, ◌+ℤ◌}
use lib.Arith.{lt_of_le-ne}
use lib.ListN.{length, get_or-eq_default}
use Rattle.words.specs.Words.{given◌then◌, ◌<?◌, ◌≤?◌, ◌=?◌, ◌and◌, Told, refused, gives}
use Rattle.frame.specs.Bytes.{number_of}
use Rattle.frame.specs.Identifier.{catalogue_form}
use Rattle.frame.specs.Frame.{checked_of}
use Rattle.frame.specs.declared.Parts.{Parts}
use Rattle.words.proofs.Words.{by_test, both_true, true_false, gives_same}
use Rattle.catalogue.specs.Rows.{rows, row_count}
use Rattle.catalogue.specs.Table.{nth, no_row, lies_in_frame, row_at}
use Rattle.catalogue.specs.Field.{field_of}
use Rattle.catalogue.specs.Classes.{greatest_code, has_two_states, error_code, is_error, class_in, below_greatest}
use Rattle.catalogue.specs.Scale.{scaled_of, value_as, value_of, steps_of, by_steps, celsius_steps, ampere_steps}
use Rattle.catalogue.specs.Codes.{code_where, class_code, from_zero, stepped_code, scaled_code, code_of}
use Rattle.catalogue.specs.Catalogue.{field_in, matching, opened_for, read_row_of, scaled_row_of, written_row_of}
use Rattle.catalogue.specs.Catalogue.{replaced}
use Rattle.catalogue.specs.Laws as Laws
use Rattle.catalogue.specs.Laws.{unmarked}
use Rattle.catalogue.specs.declared.Row.{Row}
use Rattle.catalogue.specs.declared.Unit.{Unit}
use Rattle.catalogue.specs.declared.Unit.TheVariants.{Other, Percent, Celsius, Volt, Ampere, Hertz}
use Rattle.catalogue.specs.declared.Field.{Field}
use Rattle.catalogue.specs.declared.Class.{Class}
use Rattle.catalogue.specs.declared.Value.{Value}
use Rattle.catalogue.specs.declared.Value.TheVariants.{Scaled, NoData, OutOfRange, Reserved}
use Rattle.catalogue.proofs.Rule.{row_count_lem}
use Rattle.catalogue.proofs.Classed.{two_bits, two_of, unmarked_same, plain_same, unmarked_number}
use Rattle.catalogue.proofs.Codes.{scaled_of_lem}
use Rattle.catalogue.proofs.Found.{given_then, found, read_row, scaled_row, write_row, write_uncoded, read_at}

-- at two bits every unit gives the code itself

scaled_two : (u : Unit) (c : ℕ) → scaled_of u 2 c ≡ pos c
unfolding scaled_of
scaled_two Other c = refl
scaled_two Percent c = refl
scaled_two Celsius c = refl
scaled_two Volt c = refl
scaled_two Ampere c = refl
scaled_two Hertz c = refl

steps_two : (u : Unit) → steps_of u 2 ≡ by_steps 1 0
unfolding steps_of celsius_steps ampere_steps
steps_two Other = refl
steps_two Percent = refl
steps_two Celsius = refl
steps_two Volt = refl
steps_two Ampere = refl
steps_two Hertz = refl

-- what the calls answer

module _ (row : Row) (p : row.plain ≡ false) (s : has_two_states row ≡ true) where
  states : Laws.OfTwoStates row
  states = two_of row p s

  -- what hangs on the width

  greatest : greatest_code row.width ≡ 3
  greatest = ap greatest_code (two_bits row s)

  codes : 2 ^ row.width ≡ 4
  codes = ap (λ (w : ℕ). 2 ^ w) (two_bits row s)

  scaled : (c : ℕ) → scaled_of row.unit row.width c ≡ pos c
  scaled c = ap (λ (w : ℕ). scaled_of row.unit w c) (two_bits row s) ∙ scaled_two row.unit c

  steps : steps_of row.unit row.width ≡ by_steps 1 0
  steps = ap (steps_of row.unit) (two_bits row s) ∙ steps_two row.unit

  -- the field, where the frame has this code, and its value

  field_two : (number c : ℕ) (k : Class) → field_of row.first 2 number ≡ c → class_in row c ≡ k
      → field_in row number ≡ record { class = k; code = c }
  unfolding field_in
  field_two number c k e f =
      let g : field_of row.first row.width number ≡ c =
      ap (λ (w : ℕ). field_of row.first w number) (two_bits row s) ∙ e in
      rw (g, f)

  value_two : (c : ℕ) (k : Class) → value_of row (record { class = k; code = c }) ≡ value_as k (pos c)
  unfolding value_of
  value_two c k = ap (value_as k) (scaled c)

  -- the codes that are written

  state_code : (c : ℕ) → c < error_code → class_in row c ≡ Class.Number → code_of row (Scaled (pos c)) ≡ gives c
  unfolding code_of
  state_code c h e =
      ap (scaled_code row) (sym (scaled c)) ∙ scaled_of_lem row c (record { fits = rw codes (omega arith); class = e })

  error_code_lem : code_of row OutOfRange ≡ gives error_code
  unfolding code_of class_code code_where
  error_code_lem = rw (greatest, states.error)

  no_data_code : code_of row NoData ≡ gives 3
  unfolding code_of class_code code_where
  no_data_code = rw (greatest, states.no_data)

  reserved_code : code_of row Reserved ≡ refused 12
  unfolding code_of class_code code_where
  reserved_code = rw (greatest, states.other_state)

  third_code : code_of row (Scaled (pos error_code)) ≡ refused 12
  unfolding code_of scaled_code stepped_code code_where
  third_code = rw (steps, codes, states.error)

  state_class : (c : ℕ) → c < error_code → class_in row c ≡ Class.Number
  state_class c h =
      by_test (c =? 0) (λ e. rw (eqb-true c 0 e) states.one_state) (λ e. rw (one c h e) states.other_state)
    where
      one : (c : ℕ) → c < 2 → (c =? 0) ≡ false → c ≡ 1
      one zero h e = true_false e
      one (suc c) h e = omega arith

  module _ (id : ℕ) (bytes : List ℕ) (opened : opened_for row id (length bytes) ≡ gives row) where
    reads : (c : ℕ) (k : Class) → field_of row.first 2 (number_of bytes) ≡ c → class_in row c ≡ k
        → (read_row_of row id bytes ≡ gives (record { class = k; code = c }))
        × (scaled_row_of row id bytes ≡ gives (value_as k (pos c)))
    reads c k e f =
        let x = field_two (number_of bytes) c k e f in (
          sym (read_row row id bytes row opened) ∙ ap gives x,
          sym (scaled_row row id bytes row opened) ∙ ap gives (ap (value_of row) x ∙ value_two c k),
        )

    answers : Laws.TwoStateAnswers row id bytes
    answers =
        record {
          read_state = λ c h e. reads c Class.Number e (state_class c h);
          read_error = λ e. reads error_code Class.OutOfRange e states.error;
          read_no_data = λ e. reads 3 Class.NoData e states.no_data;
          write_state = λ c h. write_row row id bytes (Scaled (pos c)) row c opened (state_code c h (state_class c h));
          write_error = write_row row id bytes OutOfRange row error_code opened error_code_lem;
          write_no_data = write_row row id bytes NoData row 3 opened no_data_code;
          no_third_state = write_uncoded row id bytes (Scaled (pos error_code)) row 12 opened third_code;
          no_reserved = write_uncoded row id bytes Reserved row 12 opened reserved_code;
        }

pub answered : Laws.TwoStatesAnswered
answered row opened id bytes p s e =
    answers row p s id bytes (e ∙ ap gives (found row id (length bytes) opened e).is)

-- the mark speaks of 10b alone

not_error : (row : Row) (c : ℕ) → (has_two_states row ≡ true → c ≡ error_code → ⊥) → is_error row c ≡ false
not_error row c h =
    by_test (has_two_states row)
    (λ t. by_test (c =? error_code) (λ e. absurd (h t (eqb-true c error_code e))) (λ e. rw (t, e)))
    (λ t. rw t)

module _ (row : Row) where
  lies_same : lies_in_frame (unmarked row) ≡ lies_in_frame row
  unfolding lies_in_frame
  lies_same = refl

  -- the same row is opened, so what is made of it is the same if it does not hang on the mark
  opened_same : {A : Type 0} (f : Row → Told A) (id size : ℕ) → f row ≡ f (unmarked row)
      → (given opened_for row id size then f) ≡ (given opened_for (unmarked row) id size then f)
  unfolding opened_for matching
  opened_same f id size e = go (checked_of id size)
    where
      go : (t : Told Parts)
          → (given (given t then λ parts. matching row parts.dgn) then f)
          ≡ (given (given t then λ parts. matching (unmarked row) parts.dgn) then f)
      go (refused k) = refl
      go (gives parts) =
          by_test (lies_in_frame row)
          (λ t. by_test (row.dgn =? catalogue_form parts.dgn)
          (λ u. rw (lies_same, t, u) e)
          (λ u. rw (lies_same, t, u)))
          (λ t. rw (lies_same, t))

  field_same : (number : ℕ) → (has_two_states row ≡ true → field_of row.first row.width number ≡ error_code → ⊥)
      → field_in row number ≡ field_in (unmarked row) number
  unfolding field_in
  field_same number h =
      let c = field_of row.first row.width number in
      rw (unmarked_same row c (not_error row c h))

  -- the code of a value, where it is 10b neither with the mark nor without

  abbrev NotError : Told ℕ → Type 0
  NotError t = has_two_states row ≡ true → t ≡ gives error_code → ⊥

  past : (b : Bool) (t u : Told ℕ) → (NotError t → NotError u → t ≡ u)
      → NotError (if b then refused 12 else t) → NotError (if b then refused 12 else u)
      → (if b then refused 12 else t) ≡ (if b then refused 12 else u)
  past true t u f p q = refl
  past false t u f p q = f p q

  -- at 10b itself

  where_plain : (k : Class) → row.plain ≡ true → code_where row k error_code ≡ code_where (unmarked row) k error_code
  unfolding code_where
  where_plain k l = rw (plain_same row error_code l)

  where_error : row.plain ≡ false → has_two_states row ≡ true → (k : Class)
      → NotError (code_where row k error_code) → NotError (code_where (unmarked row) k error_code)
      → code_where row k error_code ≡ code_where (unmarked row) k error_code
  unfolding code_where
  where_error l s Class.Number p q = absurd (q s (rw (unmarked_number row l s)))
  where_error l s Class.OutOfRange p q = absurd (p s (rw (two_of row l s).error))
  where_error l s Class.NoData p q = rw ((two_of row l s).error, unmarked_number row l s)
  where_error l s Class.Reserved p q = rw ((two_of row l s).error, unmarked_number row l s)

  where_elsewhere : (k : Class) (c : ℕ) → is_error row c ≡ false → code_where row k c ≡ code_where (unmarked row) k c
  unfolding code_where
  where_elsewhere k c t = rw (unmarked_same row c t)

  where_same : (k : Class) (c : ℕ) → NotError (code_where row k c) → NotError (code_where (unmarked row) k c)
      → code_where row k c ≡ code_where (unmarked row) k c
  where_same k c p q =
      by_test (is_error row c)
      (λ t. let b = both_true (has_two_states row) (c =? error_code) t in
      let e = eqb-true c error_code b.1 in
      rw e (by_test row.plain (where_plain k) (λ l. where_error l b.0 k (rw e at p) (rw e at q))))
      (where_elsewhere k c)

  class_same : (k : Class) → NotError (class_code row k) → NotError (class_code (unmarked row) k)
      → class_code row k ≡ class_code (unmarked row) k
  unfolding class_code
  class_same k p q =
      let g = greatest_code row.width in
      past (g <? below_greatest k) _ _ (where_same k (g - below_greatest k)) p q

  stepped_same : (step l : ℕ) → NotError (stepped_code row step l) → NotError (stepped_code (unmarked row) step l)
      → stepped_code row step l ≡ stepped_code (unmarked row) step l
  unfolding stepped_code
  stepped_same step l p q =
      past (not (l % step =? 0)) _ _
      (λ p q. past (2 ^ row.width ≤? l / step) _ _ (where_same Class.Number (l / step)) p q) p q

  lifted_same : (step : ℕ) (lifted : Told ℕ)
      → NotError (given lifted then λ n. stepped_code row step n)
      → NotError (given lifted then λ n. stepped_code (unmarked row) step n)
      → (given lifted then λ n. stepped_code row step n) ≡ (given lifted then λ n. stepped_code (unmarked row) step n)
  lifted_same step (refused k) p q = refl
  lifted_same step (gives n) p q = stepped_same step n p q

  code_same : (value : Value) → NotError (code_of row value) → NotError (code_of (unmarked row) value)
      → code_of row value ≡ code_of (unmarked row) value
  unfolding code_of scaled_code
  code_same (Scaled value) p q =
      let s = steps_of row.unit row.width in
      lifted_same s.step (from_zero (value +ℤ pos s.offset)) p q
  code_same NoData p q = class_same Class.NoData p q
  code_same OutOfRange p q = class_same Class.OutOfRange p q
  code_same Reserved p q = class_same Class.Reserved p q

pub reads_unmarked : Laws.MarkReads
unfolding read_row_of scaled_row_of value_of
reads_unmarked row id bytes h =
    let e = field_same row (number_of bytes) h in (
      opened_same row (λ r. gives (field_in r (number_of bytes))) id (length bytes) (ap gives e),
      opened_same row (λ r. gives (value_of r (field_in r (number_of bytes)))) id (length bytes)
          (ap (λ (f : Field). gives (value_of row f)) e),
    )

pub writes_unmarked : Laws.MarkWrites
unfolding written_row_of replaced
writes_unmarked row id bytes value p q =
    opened_same row (λ r. given code_of r value then λ code. gives (replaced r code bytes)) id (length bytes)
    (rw (code_same row value p q))

-- the marks of the catalogue: one test of each row, computed once over all

mark_fits : Row → Bool
mark_fits r = if r.two_state then (r.width =? 2) and not r.plain else not (r.width =? 2)

marks_fit : List Row → Bool
marks_fit [] = true
marks_fit (r ∷ rs) = mark_fits r and marks_fit rs

all_fit : marks_fit rows ≡ true
unfolding mark_fits marks_fit rows
all_fit = refl

fits_in_lem : (rs : List Row) → marks_fit rs ≡ true → (n : ℕ) → n < length rs → mark_fits (nth rs n) ≡ true
unfolding marks_fit
fits_in_lem [] t n h = absurd (not-suc-le-zero h)
fits_in_lem (r ∷ rs) t zero h = (both_true (mark_fits r) (marks_fit rs) t).0
fits_in_lem (r ∷ rs) t (suc n) h = fits_in_lem rs (both_true (mark_fits r) (marks_fit rs) t).1 n (le_of_suc-le-suc h)

fits_at : (n : ℕ) → n < row_count → mark_fits (row_at n) ≡ true
unfolding row_at
fits_at n h = fits_in_lem rows all_fit n (rw row_count_lem h)

not-true : (b : Bool) → not b ≡ true → b ≡ false
not-true true e = sym e
not-true false e = refl

marked_right : (r : Row) → mark_fits r ≡ true → r.two_state ≡ true → (r.width ≡ 2) × (r.plain ≡ false)
unfolding mark_fits
marked_right r t m =
    let b = both_true (r.width =? 2) (not r.plain) (rw m at t) in
    (eqb-true r.width 2 b.0, not-true r.plain b.1)

two_bits_marked : (r : Row) → mark_fits r ≡ true → r.width ≡ 2 → r.two_state ≡ true
unfolding mark_fits
two_bits_marked r t w = by_test r.two_state (λ m. m) (λ m. true_false (sym (rw (m, w) at t)))

pub rows_marked : Laws.TwoStateRows
rows_marked n h m = marked_right (row_at n) (fits_at n h) m

pub marked_count : Laws.TwoStateCount
unfolding rows
marked_count = refl

-- a number of a row of two states is one of the two

number_two : (row : Row) → row.plain ≡ false → has_two_states row ≡ true → (c : ℕ) → c < 4 → class_in row c ≡ Class.Number
    → c < error_code
number_two row p s c h k =
    by_test (c <? error_code) (λ t. ltb-true c error_code t)
    (λ t. let two = two_of row p s in
    let most = four c h (ltb-false c error_code t) in
    by_test (c =? error_code)
    (λ e. absurd (other Class.OutOfRange two.error (λ z. omega arith) (eqb-true c error_code e)))
    (λ e. absurd (other Class.NoData two.no_data (λ z. omega arith) (most (eqb-false c error_code e)))))
  where
    -- a code of another class is no number
    other : {d : ℕ} (l : Class) → class_in row d ≡ l → (below_greatest l ≡ 3 → ⊥) → c ≡ d → ⊥
    other l e n f = n (ap below_greatest (sym e ∙ ap (class_in row) (sym f) ∙ k))

    four : (c : ℕ) → c < 4 → 2 ≤ c → (c ≡ 2 → ⊥) → c ≡ 3
    four c h g n = omega (arith, lt_of_le-ne g (λ e. n (sym e)))

-- a row with bits is there
there : (n : ℕ) → (row_at n).width ≡ 2 → n < row_count
unfolding row_at
there n w =
    by_test (n <? row_count) (λ t. ltb-true n row_count t)
    (λ t. let past : length rows ≤ n = rw row_count_lem (ltb-false n row_count t) in
    let z : no_row.width ≡ 2 = rw (get_or-eq_default rows no_row past) at w in omega arith)

field_below : (row : Row) (number : ℕ) → row.width ≡ 2 → field_of row.first row.width number < 4
unfolding field_of
field_below row number w = rw w (mod-lt (number / 2 ^ row.first) (omega arith))

code_below : (row : Row) (number : ℕ) (field : Field) → field_in row number ≡ field → row.plain ≡ false
    → has_two_states row ≡ true → field.class ≡ Class.Number
    → field.code < error_code
unfolding field_in
code_below row number field e p s k =
    let c = field_of row.first row.width number in
    let l = number_two row p s c (field_below row number (two_bits row s)) (ap (λ (f : Field). f.class) e ∙ k) in
    rw (sym (ap (λ (f : Field). f.code) e)) l

pub never_third : Laws.NoThirdState
unfolding read_row_of
never_third n id bytes field w e k =
    let row = row_at n in
    let t = fits_at n (there n w) in
    let m = two_bits_marked row t w in
    let opened = opened_for row id (length bytes) in
    let g = given_then opened (λ r. gives (field_in r (number_of bytes))) (sym (read_at n id bytes) ∙ e) in
    let f : field_in row (number_of bytes) ≡ field =
    ap (λ (r : Row). field_in r (number_of bytes)) (sym (found row id (length bytes) g.0 g.1).is)
    ∙ gives_same g.2 in
    code_below row (number_of bytes) field f (marked_right row t m).1 (rw (m, w)) k
