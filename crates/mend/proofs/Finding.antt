-- The turns of the loops that look at a line: keys, digits, small letters and leading zeros; and the fields that they
-- find.
-- Assumes nothing.
use Rattle.std.specs.Prelude.{Option, Some, None}
use mathlib.Core.Path.{◌≡◌, refl, sym, ap, ◌∙◌}
use mathlib.Core.Bool.{Bool, true, false}
use mathlib.Core.List.{List, [], ◌∷◌}
use Prim.Native.Nat.{ℕ, suc, ◌+◌, ◌-◌, ◌≤◌, ◌<◌}
use native.Mathlib.Nat.{add-zero}
use native.Mathlib.Numerals.{add-one}
use native.Mathlib.Omega.{arith}
use borrow.Author.Tests.{leb-true, ltb-true, ltb-false, lt-ltb, le-ltb, eq-eqb, ne_eqb}
use lib.ListN.{length, get_or, take, drop, drop_of_length-le, length-take, length-drop}
use lib.Seq.{drop-cons, drop-drop}
use Rattle.words.specs.Words.{◌<?◌, ◌≤?◌, ◌=?◌, ◌and◌, ◌or◌, refused, gives}
use Rattle.words.specs.Lists.{any}
use Rattle.words.proofs.Words.{by_test, true_false, both_true}
use Rattle.text.specs.Text.{digit0}
use Rattle.capture.specs.Digits.{value_of}
use Rattle.capture.specs.Line.{gap_key, id_key, data_key, begins_with}
use Rattle.mend.specs.Mending.{is_small, capital, ahead, field_of, carriage_return, return_in, Parts, parts_in, without_zeros, actions_of}
use Rattle.mend.specs.Places.{part, FieldFound, parts_at, PlacesFit, FieldsFound}
use Rattle.mend.specs.declared.fields.Places.{Places}

-- Keys: none stands where too little is left.

and_false : (b : Bool) → (b and false) ≡ false
and_false true = refl
and_false false = refl

pub begins_short : (key line : List ℕ) → length line < length key → begins_with key line ≡ false
unfolding begins_with
begins_short [] line h = absurd (omega arith)
begins_short (k ∷ key) [] h = refl
begins_short (k ∷ key) (c ∷ line) h = rw (begins_short key line (omega arith)) (and_false (c =? k))

begins_long : (key line : List ℕ) → begins_with key line ≡ true → length key ≤ length line
begins_long key line e =
    by_test (length line <? length key)
    (λ t. true_false (sym e ∙ begins_short key line (ltb-true (length line) (length key) t)))
    (λ t. ltb-false (length line) (length key) t)

-- Digits.

pub ahead_stop : (base : ℕ) (line : List ℕ) (i : ℕ) → i < length line → base ≤ value_of (capital (get_or line i 0))
    → i + length (ahead base (drop i line)) ≡ i
unfolding ahead
ahead_stop base line i h l = rw (drop-cons line i 0 h, le-ltb (value_of (capital (get_or line i 0))) base l, add-zero)

pub ahead_pass : (base : ℕ) (line : List ℕ) (i : ℕ) → i < length line → value_of (capital (get_or line i 0)) < base
    → i + length (ahead base (drop i line)) ≡ i + 1 + length (ahead base (drop (i + 1) line))
unfolding ahead
ahead_pass base line i h l = rw (add-one, drop-cons line i 0 h, lt-ltb (value_of (capital (get_or line i 0))) base l) (omega arith)

pub ahead_end : (base : ℕ) (line : List ℕ) (i : ℕ) → length line ≤ i → i + length (ahead base (drop i line)) ≡ i
unfolding ahead
ahead_end base line i h = rw (drop_of_length-le line h, add-zero)

ahead_most : (base : ℕ) (codes : List ℕ) → length (ahead base codes) ≤ length codes
unfolding ahead
ahead_most base [] = omega arith
ahead_most base (c ∷ codes) =
    by_test (value_of (capital c) <? base) (λ e. let l = ahead_most base codes in rw e (omega arith)) (λ e. rw e (omega arith))

ahead_take : (base : ℕ) (codes : List ℕ) → take (length (ahead base codes)) codes ≡ ahead base codes
unfolding ahead
ahead_take base [] = refl
ahead_take base (c ∷ codes) =
    by_test (value_of (capital c) <? base) (λ e. rw e (ap (λ (l : List ℕ). c ∷ l) (ahead_take base codes))) (λ e. rw e)

-- A field.

pub field_missing : (line : List ℕ) (at : ℕ) (key : List ℕ) (base : ℕ) → begins_with key (drop at line) ≡ false
    → FieldFound line at key base None
unfolding field_of
field_missing line at key base e = record { told = rw e; fits = λ to f. let z : ◌≡◌ {A = ℕ} 0 1 = cc in absurd (omega arith) }

pub key_fits : (line : List ℕ) (at : ℕ) (key : List ℕ) → begins_with key (drop at line) ≡ true → at ≤ length line → at + length key ≤ length line
key_fits line at key e h = let k = begins_long key (drop at line) e in omega (arith, length-drop at line)

at_same : {m n : ℕ} → Some m ≡ Some n → m ≡ n
at_same e = cc

pub field_there : (line : List ℕ) (at : ℕ) (key : List ℕ) (base to : ℕ) → begins_with key (drop at line) ≡ true → at ≤ length line
    → to ≡ at + length key + length (ahead base (drop (at + length key) line)) → FieldFound line at key base (Some to)
unfolding field_of
field_there line at key base to e h q =
    let from = at + length key in
    let codes = drop from line in
    let n = length (ahead base codes) in
    let k = begins_long key (drop at line) e in
    let l = ahead_most base codes in
    let m : to - from ≡ n = omega arith in
    let d : drop (length key) (drop at line) ≡ codes = drop-drop (length key) at line in
    let r : drop n codes ≡ drop to line = drop-drop n from line ∙ rw q in
    record {
      told = rw (e, d, m, ahead_take base codes, r);
      fits = λ t f. let s : to ≡ t = at_same f in (omega arith, omega (arith, length-drop from line, length-drop at line));
    }

-- What stands at the end.

pub tail_none : (line : List ℕ) (at : ℕ) → length line ≤ at → return_in (drop at line) ≡ gives false
unfolding return_in
tail_none line at h = rw (drop_of_length-le line h)

pub tail_more : (line : List ℕ) (at : ℕ) → at + 2 ≤ length line → return_in (drop at line) ≡ refused 19
unfolding return_in
tail_more line at h = rw (drop-cons line at 0 (omega arith), drop-cons line (suc at) 0 (omega arith))

tail_one : (line : List ℕ) (at : ℕ) → at + 1 ≡ length line → drop at line ≡ get_or line at 0 ∷ []
tail_one line at h = rw (drop-cons line at 0 (omega arith), drop_of_length-le line {i = suc at} (omega arith))

pub tail_return : (line : List ℕ) (at : ℕ) → at + 1 ≡ length line → get_or line at 0 ≡ carriage_return → return_in (drop at line) ≡ gives true
unfolding return_in
tail_return line at h e = rw (tail_one line at h, eq-eqb (get_or line at 0) carriage_return e)

pub tail_other : (line : List ℕ) (at : ℕ) → at + 1 ≡ length line → (get_or line at 0 ≡ carriage_return → ⊥) → return_in (drop at line) ≡ refused 19
unfolding return_in
tail_other line at h e = rw (tail_one line at h, ne_eqb (get_or line at 0) carriage_return e)

-- Small letters.

pub small_least : (code : ℕ) → is_small code ≡ true → 97 ≤ code
unfolding is_small
small_least code e = leb-true 97 code (both_true (97 ≤? code) (code ≤? 102) e).0

pub small_found : (part : List ℕ) (i : ℕ) → i < length part → is_small (get_or part i 0) ≡ true → any is_small (drop i part) ≡ true
small_found part i h e = rw (drop-cons part i 0 h, e)

pub small_pass : (part : List ℕ) (i : ℕ) → i < length part → is_small (get_or part i 0) ≡ false → any is_small (drop i part) ≡ any is_small (drop (i + 1) part)
small_pass part i h e = rw (add-one, drop-cons part i 0 h, e)

pub small_end : (part : List ℕ) (i : ℕ) → length part ≤ i → any is_small (drop i part) ≡ false
small_end part i h = rw (drop_of_length-le part h)

-- Leading zeros.

pub zero_stop : (part : List ℕ) (i : ℕ) → i + 1 < length part → (get_or part i 0 ≡ digit0 → ⊥) → without_zeros (drop i part) ≡ drop i part
unfolding without_zeros
zero_stop part i h e =
    rw (drop-cons part i 0 (omega arith), drop-cons part (suc i) 0 (omega arith), ne_eqb (get_or part i 0) digit0 e)

pub zero_pass : (part : List ℕ) (i : ℕ) → i + 1 < length part → get_or part i 0 ≡ digit0 → without_zeros (drop i part) ≡ without_zeros (drop (i + 1) part)
unfolding without_zeros
zero_pass part i h e =
    rw (add-one, drop-cons part i 0 (omega arith), drop-cons part (suc i) 0 (omega arith), eq-eqb (get_or part i 0) digit0 e)

short_stays : (codes : List ℕ) → length codes ≤ 1 → without_zeros codes ≡ codes
unfolding without_zeros
short_stays [] h = refl
short_stays (c ∷ []) h = refl
short_stays (c ∷ d ∷ codes) h = absurd (omega arith)

pub zero_end : (part : List ℕ) (i : ℕ) → length part ≤ i + 1 → without_zeros (drop i part) ≡ drop i part
zero_end part i h = short_stays (drop i part) (omega (arith, length-drop i part))

pub zeros_test : (part : List ℕ) (n : ℕ) → drop n part ≡ without_zeros part → n ≤ length part
    → (0 <? n) ≡ (length (without_zeros part) <? length part)
zeros_test part n e h =
    let l : length (without_zeros part) ≡ length part - n = sym (ap length e) ∙ length-drop n part in
    by_test (0 <? n)
    (λ t. let k = ltb-true 0 n t in t ∙ sym (lt-ltb (length (without_zeros part)) (length part) (omega arith)))
    (λ t. let k = ltb-false 0 n t in t ∙ sym (le-ltb (length (without_zeros part)) (length part) (omega arith)))

pub length_part : (line : List ℕ) (from to : ℕ) → from ≤ to → to ≤ length line → length (part from to line) ≡ to - from
length_part line from to h k = length-take (to - from) (drop from line) ∙ omega (arith, length-drop from line)

-- The fields, one after the other.

whole_same : {p q : Places} → ◌≡◌ {A = Option Places} (Some p) (Some q) → p ≡ q
whole_same e = cc

broken : (line : List ℕ) → parts_in line ≡ refused 19 → FieldsFound line None
broken line e = record { told = sym e; fits = λ p f. let z : ◌≡◌ {A = ℕ} 0 1 = cc in absurd (omega arith) }

module _ (line : List ℕ) where
  pub no_gap : FieldFound line 0 gap_key 10 None → FieldsFound line None
  unfolding parts_in
  no_gap f =
      let e : field_of gap_key 10 line ≡ refused 19 = sym f.told in
      broken line (rw e)

  module _ (g : ℕ) (f₁ : FieldFound line 0 gap_key 10 (Some g)) where
    gap_there : field_of gap_key 10 line ≡ gives (record { digits = part 4 g line; rest = drop g line })
    gap_there = sym f₁.told

    pub gap_room : g ≤ length line
    gap_room = (f₁.fits g refl).1

    pub no_id : FieldFound line g id_key 16 None → FieldsFound line None
    unfolding parts_in
    no_id f = broken line (rw (gap_there, ← f.told))

    module _ (i : ℕ) (f₂ : FieldFound line g id_key 16 (Some i)) where
      pub id_room : i ≤ length line
      id_room = (f₂.fits i refl).1

      pub no_data : FieldFound line i data_key 16 None → FieldsFound line None
      unfolding parts_in
      no_data f = broken line (rw (gap_there, ← f₂.told, ← f.told))

      module _ (d : ℕ) (f₃ : FieldFound line i data_key 16 (Some d)) where
        pub data_room : d ≤ length line
        data_room = (f₃.fits d refl).1

        pub no_end : refused 19 ≡ return_in (drop d line) → FieldsFound line None
        unfolding parts_in
        no_end e = broken line (rw (gap_there, ← f₂.told, ← f₃.told, ← e))

        pub all_there : (b : Bool) → gives b ≡ return_in (drop d line)
            → FieldsFound line (Some (record { gap_to = g; id_to = i; data_to = d; returns = b }))
        unfolding parts_in parts_at
        all_there b e =
            record {
              told = sym (rw (gap_there, ← f₂.told, ← f₃.told, ← e));
              fits = λ p q.
                  rw (← whole_same q)
                  (record { gap = (f₁.fits g refl).0; id = (f₂.fits i refl).0; bytes = (f₃.fits d refl).0; within = (f₃.fits d refl).1 });
            }

-- How many digits an identifier has.
pub id_length : (line : List ℕ) (p : Places) → PlacesFit line p → length (parts_at line p).id ≡ p.id_to - (p.gap_to + 4)
unfolding parts_at
id_length line p f = length_part line (p.gap_to + 4) p.id_to f.id (omega (arith, f.bytes, f.within))

-- Which mendings change a line.

pub either_same : {a a' b b' : Bool} → a ≡ a' → b ≡ b' → (a or b) ≡ (a' or b')
either_same e f = rw (e, f)

pub actions_same : (p : Parts) {letters zeros few : Bool} → letters ≡ (any is_small p.id or any is_small p.bytes)
    → zeros ≡ (length (without_zeros p.gap) <? length p.gap) → few ≡ (length p.id <? 8)
    → record { cr = p.returns; case = letters; gap = zeros; id = few } ≡ actions_of p
unfolding actions_of
actions_same p c g i = rw (c, g, i)
