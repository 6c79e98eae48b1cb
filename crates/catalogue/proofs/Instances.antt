-- The DGNs with an instance in byte 0, the rows with a scale and an instance, and how large a scaled value is.
-- Assumes nothing.
use mathlib.Core.Path.{◌≡◌, refl, sym, ◌∙◌, subst}
use mathlib.Core.Bool.{Bool, true, false, not}
use mathlib.Core.List.{List, [], ◌∷◌}
use Prim.Native.Nat.{ℕ, ◌*◌, ◌/◌, ◌^◌, ◌<◌}
use native.Mathlib.Nat.{mod-lt}
use native.Mathlib.Omega.{arith}
use borrow.Author.Tests.{eqb-true, ltb-true, ltb-false}
use lib.IntN.{ℤ, sub_ℕ}
use lib.ListN.{length}
use lib.Pow.{pow_pos}
use lib.Signed.{mag}
use Rattle.words.specs.Words.{◌<?◌, ◌=?◌, Told, refused, gives}
use Rattle.words.specs.Lists.{any, every}
use Rattle.words.proofs.Words.{by_test, true_false, both_true, before_refusal, gives_same, refused_gives, refused_same}
use Rattle.frame.specs.Identifier.{is_addressed, catalogue_form}
use Rattle.catalogue.specs.Rows.{rows}
use Rattle.catalogue.specs.Instances.{instance_dgns, has_instance}
use Rattle.catalogue.specs.Table.{nth, row_in, row_with, lies_in_frame, row_at, row_of}
use Rattle.catalogue.specs.Field.{field_of}
use Rattle.catalogue.specs.Scale.{scaled_of, steps_of, celsius_steps, ampere_steps, steps_in_one, value_as, value_of}
use Rattle.catalogue.specs.Catalogue.{field_in}
use Rattle.catalogue.specs.Laws as Laws
use Rattle.catalogue.specs.declared.Row.{Row}
use Rattle.catalogue.specs.declared.Unit.TheVariants.{Other, Percent, Celsius, Volt, Ampere, Hertz}
use Rattle.catalogue.specs.declared.Class.{Class}
use Rattle.catalogue.specs.declared.Value.TheVariants as Value
use Rattle.catalogue.proofs.Rule.{lies_at, whole}
use Rattle.catalogue.proofs.Scales.{scaled_is}
use Rattle.catalogue.proofs.Found.{match_same, for_sound, scaled_row}

-- counted

pub scaled_with_instance : Laws.ScaledWithInstance
unfolding rows instance_dgns has_instance catalogue_form is_addressed steps_in_one
scaled_with_instance = refl

pub scaled_by_unit : Laws.ScaledByUnit
unfolding rows instance_dgns has_instance catalogue_form is_addressed steps_in_one
scaled_by_unit = record { percent = refl; celsius = (refl, refl); volt = refl; ampere = refl; hertz = refl }

pub steps_by_unit : Laws.StepsByUnit
unfolding steps_in_one
steps_by_unit =
    record {
      percent = refl;
      celsius = (refl, refl);
      volt = refl;
      ampere = refl;
      hertz = refl;
      other = λ width. refl;
    }

pub instance_count : Laws.InstanceCount
unfolding instance_dgns
instance_count = refl

-- byte 0 is one row

is_byte : Told Row → Bool
is_byte (refused n) = false
is_byte (gives row) = row.width =? 8

is_byte_lem : (t : Told Row) → is_byte t ≡ true → (row : Row) × (t ≡ gives row) × (row.width ≡ 8)
unfolding is_byte
is_byte_lem (refused n) e = true_false (sym e)
is_byte_lem (gives row) e = (row, refl, eqb-true row.width 8 e)

all_bytes : every (λ dgn. is_byte (row_with rows dgn 0)) instance_dgns ≡ true
unfolding is_byte row_with rows instance_dgns
all_bytes = refl

among : (test : ℕ → Bool) (k : ℕ) (ks : List ℕ) → every test ks ≡ true → any (◌=?◌ k) ks ≡ true → test k ≡ true
among test k [] a e = true_false (sym e)
among test k (n ∷ ns) a e =
    let b = both_true (test n) (every test ns) a in
    by_test (k =? n) (λ t. rw (eqb-true k n t) b.0) (λ f. among test k ns b.1 (rw f at e))

pub instance_row : Laws.InstanceRow
unfolding has_instance
instance_row dgn e = is_byte_lem (row_with rows (catalogue_form dgn) 0)
    (among (λ d. is_byte (row_with rows d 0)) (catalogue_form dgn) instance_dgns all_bytes e)

-- small values

small_sub : (a b : ℕ) → a < 2 ^ 16 → b < 2 ^ 16 → mag (sub_ℕ a b) < 2 ^ 16
small_sub a b h g =
    by_test (a <? b) (λ t. let l = ltb-true a b t in rw t (omega arith))
    (λ t. let l = ltb-false a b t in rw t (omega arith))

-- a code of so many bits, where the width is tested for them
of_width : (w k c : ℕ) → (w =? k) ≡ true → c < 2 ^ w → c < 2 ^ k
of_width w k c t h = subst (λ (m : ℕ). c < 2 ^ m) (eqb-true w k t) h

ampere : (w c : ℕ) → (w =? 16) ≡ true → c < 2 ^ 16 → mag (sub_ℕ ((steps_of Ampere w).step * c) (steps_of Ampere w).offset)
    < 2 ^ 16
unfolding steps_of ampere_steps
ampere w c t h = rw t (small_sub (1 * c) 32000 (omega arith) (omega arith))

celsius_8 : (w c : ℕ) → (w =? 8) ≡ true → c < 2 ^ 8 → mag
    (sub_ℕ ((steps_of Celsius w).step * c) (steps_of Celsius w).offset) < 2 ^ 16
unfolding steps_of celsius_steps
celsius_8 w c t h = rw t (small_sub (32 * c) 1280 (omega arith) (omega arith))

celsius_16 : (w c : ℕ) → (w =? 8) ≡ false → (w =? 16) ≡ true → c < 2 ^ 16
    → mag (sub_ℕ ((steps_of Celsius w).step * c) (steps_of Celsius w).offset) < 2 ^ 16
unfolding steps_of celsius_steps
celsius_16 w c f t h = rw (f, t) (small_sub (1 * c) 8736 (omega arith) (omega arith))

pub scaled_small : Laws.ScaledSmall
unfolding scaled_of steps_in_one
scaled_small Percent w c n h =
    by_test (w =? 8) (λ t. let g = of_width w 8 c t h in omega arith) (λ t. absurd (n (rw t refl)))
scaled_small Volt w c n h =
    by_test (w =? 16) (λ t. let g = of_width w 16 c t h in omega arith) (λ t. absurd (n (rw t refl)))
scaled_small Hertz w c n h =
    by_test (w =? 16) (λ t. let g = of_width w 16 c t h in omega arith) (λ t. absurd (n (rw t refl)))
scaled_small Ampere w c n h =
    by_test (w =? 16) (λ t. let g = of_width w 16 c t h in rw (scaled_is Ampere w c) (ampere w c t g))
    (λ t. absurd (n (rw t refl)))
scaled_small Celsius w c n h =
    by_test (w =? 8) (λ t. let g = of_width w 8 c t h in rw (scaled_is Celsius w c) (celsius_8 w c t g))
    (λ f. by_test (w =? 16) (λ t. let g = of_width w 16 c t h in rw (scaled_is Celsius w c) (celsius_16 w c f t g))
    (λ t. absurd (n (rw (f, t) refl))))
scaled_small Other w c n h = absurd (n refl)

-- a value that is read

field_below : (first width number : ℕ) → field_of first width number < 2 ^ width
unfolding field_of
field_below first width number = mod-lt (number / 2 ^ first) (pow_pos width)

value_number : (class : Class) (z v : ℤ) → value_as class z ≡ Value.Scaled v → (class ≡ Class.Number) × (v ≡ z)
value_number Class.Number z v e = (refl, cc)
value_number Class.NoData z v e = let k : ◌≡◌ {A = ℕ} 0 1 = cc in absurd (omega arith)
value_number Class.OutOfRange z v e = let k : ◌≡◌ {A = ℕ} 0 1 = cc in absurd (omega arith)
value_number Class.Reserved z v e = let k : ◌≡◌ {A = ℕ} 0 1 = cc in absurd (omega arith)

pub code_below : Laws.CodeBelow
unfolding field_in
code_below row number = field_below row.first row.width number

pub value_by_class : Laws.ValueByClass
unfolding value_of
value_by_class row field =
    record { number = λ e. rw e; no_data = λ e. rw e; out_of_range = λ e. rw e; reserved = λ e. rw e }

not_zero : (k : ℕ) → not (k =? 0) ≡ true → k ≡ 0 → ⊥
not_zero k t e = true_false (sym (subst (λ (m : ℕ). not (m =? 0) ≡ true) e t))

pub value_small : Laws.ValueSmall
unfolding value_of
value_small row number v t e =
    let f = field_in row number in
    let n = value_number f.class (scaled_of row.unit row.width f.code) v e in
    subst (λ (z : ℤ). mag z < 2 ^ 16) (sym n.1)
    (scaled_small row.unit row.width f.code (not_zero (steps_in_one row.unit row.width) t)
    (code_below row number))

-- a row that a number gives

pub row_given : Laws.RowGiven
unfolding row_of row_in row_at
row_given n row e = sym (gives_same (before_refusal (n <? length rows) 11 (gives (nth rows n)) e).1)

pub row_refused : Laws.RowRefused
unfolding row_of row_in
row_refused n k e =
    by_test (n <? length rows) (λ t. refused_gives (sym (rw t at e))) (λ t. sym (refused_same (rw t at e)))

given_lies : (n : ℕ) (row : Row) → row_of n ≡ gives row → lies_in_frame row ≡ true
unfolding row_of row_in
given_lies n row e =
    let b = before_refusal (n <? length rows) 11 (gives (nth rows n)) e in
    subst (λ (r : Row). lies_in_frame r ≡ true) (gives_same b.1)
    (lies_at rows whole n (ltb-true n (length rows) b.0))

pub scaled_in_frame : Laws.ScaledInFrame
scaled_in_frame n id bytes row parts e s d =
    let m = match_same row parts.dgn (catalogue_form parts.dgn) (rw (given_lies n row e)) refl d in
    sym (scaled_row row id bytes row (sym (for_sound row id (length bytes) parts s) ∙ sym m))
