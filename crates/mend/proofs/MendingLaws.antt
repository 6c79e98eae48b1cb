-- The statements of specs/Laws.antt about one line, proved.
-- Assumes nothing.
use Rattle.std.specs.Prelude.{if◌then◌else◌}
use mathlib.Core.Path.{◌≡◌, refl, sym, ap, subst, ◌∙◌}
use mathlib.Core.Bool.{Bool, true, false}
use mathlib.Core.List.{List, [], ◌∷◌, ◌++◌, append-nil}
use Prim.Native.Nat.{ℕ, ◌+◌, ◌*◌, ◌-◌, ◌^◌, ◌≤◌, ◌<◌}
use native.Mathlib.Nat.{pow-le-pow_right}
use native.Mathlib.Omega.{arith}
use borrow.Author.Tests.{ltb-false, eqb-false, ne_eqb}
use lib.Dec.{lit<, lit≤}
use lib.ListN.{length, length-map}
use Rattle.words.specs.Words.{given◌then◌, ◌<?◌, ◌=?◌, ◌or◌, Told, refused, gives}
use Rattle.words.specs.Lists.{any}
use Rattle.words.proofs.Words.{past_refusal, gives_same, refused_gives, refused_same}
use Rattle.text.specs.Text.{digits, decimal_width, decimal, byte_pairs}
use Rattle.text.proofs.Digits.{length_digits, length_pairs, width_positive, width_digits, width_most}
use Rattle.frame.specs.Bytes.{AreBytes}
use Rattle.capture.specs.Digits.{are_digits, number_read}
use Rattle.capture.specs.Line.{Frame, gap_key, id_key, data_key, IsLineOf, line_read, begins_with}
use Rattle.capture.proofs.Digits.{spelled_read, read_spelled, read_below}
use Rattle.capture.proofs.Laws.{sound_exactly}
use Rattle.capture.proofs.Laws as Capture
use Rattle.mend.specs.Mending.{is_small, capitals, Parts, field_of, return_in, parts_in, without_zeros, zeros}
use Rattle.mend.specs.Mending.{eight_digits, tidied, actions_of, Mended, mended, spelled, Names, Mends, Sound}
use Rattle.mend.specs.Report.{any_action}
use Rattle.mend.specs.Laws.{KeptExactly, DroppedExactly, OnlyNineteen, SameMeaning, NamesKept, NamesOne}
use Rattle.mend.specs.Laws.{SoundUnchanged, ReportedExactly}
use Rattle.mend.specs.declared.line.Actions.{Actions}
use Rattle.mend.proofs.Letters.{neither, no_small, capitals_same, capitals_digits}
use Rattle.mend.proofs.Zeros.{less_test, zeros_are_digits, zeros_read, zeros_more, zeros_gone, length_zeros, without_zeros_lem}
use Rattle.mend.proofs.Parts.{given_gives, parts_on, parts_split}
use Rattle.mend.proofs.Bytes.{bytes_spelled, spelled_bytes}
use Rattle.mend.proofs.Spelling.{plain, frame_spelled, decimal_digits, id_digits_lem, pairs_digits, frame_same}

-- What is kept is mended: zeros that lead the gap go, and zeros come before the identifier.

tidied_spelled : (p : Parts)
    → tidied p ≡ spelled (plain (without_zeros p.gap) (zeros (8 - length p.id) ++ capitals p.id) (capitals p.bytes))
unfolding tidied eight_digits spelled
tidied_spelled p = rw (length-map, append-nil)

mends : (line : List ℕ) (p : Parts) → line ≡ spelled p → 1 ≤ length p.id → Mends line (tidied p) (actions_of p)
unfolding actions_of
mends line p e h =
    let g = zeros_gone p.gap in
    let l : length p.gap ≡ g.0 + length (without_zeros p.gap) = ap length g.1 ∙ length_zeros g.0 (without_zeros p.gap) in
    record {
      gap = without_zeros p.gap;
      id = p.id;
      bytes = p.bytes;
      zeros_gone = g.0;
      zeros_come = 8 - length p.id;
      few = omega arith;
      before = e ∙ ap (λ (x : List ℕ). spelled (record { gap = x; id = p.id; bytes = p.bytes; returns = p.returns })) g.1;
      after = tidied_spelled p;
      letters = refl;
      fewer = less_test g.0 (length (without_zeros p.gap)) (length p.gap) (omega arith);
      more = less_test (8 - length p.id) (length p.id) 8 refl;
    }

kept_mends : (line : List ℕ) (m : Mended) → mended line ≡ gives m → Mends line m.text m.actions × Sound m.text
unfolding mended
kept_mends line m e =
    let p = given_gives (parts_in line) _ e in
    let r = past_refusal (length p.0.id =? 0) 19 _ p.2 in
    let f = given_gives (line_read (tidied p.0)) _ r.1 in
    let n = eqb-false (length p.0.id) 0 r.0 in
    subst (λ (x : Mended). Mends line x.text x.actions × Sound x.text) (gives_same f.2) (
      mends line p.0 (parts_split line p.0 p.1) (omega arith),
      (f.0, (sound_exactly (tidied p.0) f.0).0 f.1),
    )

-- What is mended to a sound line is kept.

module _ (line text : List ℕ) (actions : Actions) (w : Mends line text actions) (f : Frame) (is : IsLineOf f text) where
  fields : (w.gap ≡ decimal f.gap) × (zeros w.zeros_come ++ capitals w.id ≡ digits 16 8 f.id)
      × (capitals w.bytes ≡ byte_pairs f.bytes)
  fields = frame_same f w.gap (zeros w.zeros_come ++ capitals w.id) (capitals w.bytes) (sym w.after ∙ is.spelling)

  eight : w.zeros_come + length w.id ≡ 8
  eight =
      let e = ap length fields.1 ∙ length_digits 16 8 f.id in
      rw (length_zeros, length-map) at e

  parts : Parts
  parts = record { gap = zeros w.zeros_gone ++ w.gap; id = w.id; bytes = w.bytes; returns = actions.cr }

  parts_read : parts_in line ≡ gives parts
  unfolding parts
  parts_read =
      let a : are_digits 10 (zeros w.zeros_gone ++ w.gap) ≡ true =
      zeros_are_digits 10 (lit< tt) w.zeros_gone w.gap ∙ rw fields.0 (decimal_digits f.gap) in
      let b : are_digits 16 (capitals w.id) ≡ true =
      sym (zeros_are_digits 16 (lit< tt) w.zeros_come (capitals w.id)) ∙ rw fields.1 (id_digits_lem f.id) in
      let d : are_digits 16 (capitals w.bytes) ≡ true = rw fields.2 (pairs_digits f.bytes) in
      ap parts_in w.before ∙ parts_on parts (rw (capitals_digits 10 (lit≤ tt) _ a) a) b d

  gap_bare : without_zeros (zeros w.zeros_gone ++ w.gap) ≡ w.gap
  gap_bare = rw fields.0 (without_zeros_lem w.zeros_gone f.gap)

  parts_tidied : tidied parts ≡ text
  unfolding parts
  parts_tidied =
      let k : 8 - length w.id ≡ w.zeros_come = omega (arith, eight) in
      tidied_spelled parts ∙ rw (gap_bare, k) (sym w.after)

  parts_actions : actions_of parts ≡ actions
  unfolding parts actions_of
  parts_actions =
      let l = length_zeros w.zeros_gone w.gap in
      let g : (length w.gap <? length (zeros w.zeros_gone ++ w.gap)) ≡ actions.gap =
      less_test w.zeros_gone (length w.gap) _ (omega arith) ∙ sym w.fewer in
      let i : (length w.id <? 8) ≡ actions.id = less_test w.zeros_come (length w.id) 8 (omega (arith, eight)) ∙ sym w.more in
      rw (gap_bare, g, i, ← w.letters)

  mends_kept : mended line ≡ gives (record { text = text; actions = actions })
  unfolding mended parts
  mends_kept =
      let n = ne_eqb (length w.id) 0 (λ z. omega (arith, eight, w.few)) in
      rw (parts_read, n, parts_tidied, (sound_exactly text f).1 is, parts_actions)

  -- and named, before, the frame that it is the line of
  mends_names : Names f line
  unfolding parts decimal
  mends_names =
      let l : length w.gap ≡ decimal_width f.gap = ap length fields.0 ∙ length_digits 10 _ f.gap in
      let p = width_positive f.gap in
      let g : number_read 10 w.gap ≡ gives f.gap =
      rw fields.0 (spelled_read 10 (lit< tt) (lit≤ tt) _ f.gap (width_digits f.gap).0) in
      let i : number_read 16 (zeros w.zeros_come ++ capitals w.id) ≡ gives f.id =
      rw fields.1 (spelled_read 16 (lit< tt) (lit≤ tt) 8 f.id is.frame.id_fits) in
      let n : length (capitals w.bytes) ≡ 16 =
      ap length fields.2 ∙ length_pairs f.bytes ∙ ap (λ (k : ℕ). 2 * k) is.frame.eight in
      record {
        parts = parts;
        spelling = w.before;
        some_gap = rw (length_zeros w.zeros_gone w.gap) (omega arith);
        gap = zeros_read 10 (lit< tt) w.zeros_gone w.gap ∙ g;
        gap_fits = is.frame.gap_fits;
        some_id = omega (arith, eight, w.few);
        few_id = omega (arith, eight);
        id = sym (zeros_read 16 (lit< tt) w.zeros_come (capitals w.id)) ∙ i;
        all_bytes = sym (length-map w.bytes _) ∙ n;
        bytes = spelled_bytes (capitals w.bytes) f.bytes n fields.2 is.frame.eight is.frame.are_bytes;
      }

pub kept_exactly : KeptExactly
kept_exactly line m = (
  kept_mends line m,
  (λ e. mends_kept line m.text m.actions e.0 e.1.0 e.1.1),
)

-- Nothing but 19.

abbrev Only19 : {A : Type 0} → Told A → Type 0
Only19 t = (n : ℕ) → t ≡ refused n → n ≡ 19

refused_19 : {A : Type 0} → Only19 {A = A} (refused 19)
refused_19 n e = sym (refused_same e)

gives_19 : {A : Type 0} (a : A) → Only19 (gives a)
gives_19 a n e = refused_gives (sym e)

given_19 : {A B : Type 0} (t : Told A) (f : A → Told B) → Only19 t → ((a : A) → Only19 (f a)) → Only19 (given t then f)
given_19 (refused m) f p q n e = p n (ap refused (refused_same e))
given_19 (gives a) f p q n e = q a n e

if_19 : {A : Type 0} (b : Bool) (t u : Told A) → Only19 t → Only19 u → Only19 (if b then t else u)
if_19 true t u p q = p
if_19 false t u p q = q

field_19 : (key : List ℕ) (base : ℕ) (line : List ℕ) → Only19 (field_of key base line)
unfolding field_of
field_19 key base line = if_19 (begins_with key line) _ _ (gives_19 _) refused_19

return_19 : (l : List ℕ) → Only19 (return_in l)
unfolding return_in
return_19 [] = gives_19 false
return_19 (c ∷ []) = if_19 (c =? 13) _ _ (gives_19 true) refused_19
return_19 (c ∷ d ∷ l) = refused_19

parts_19 : (line : List ℕ) → Only19 (parts_in line)
unfolding parts_in
parts_19 line =
    given_19 (field_of gap_key 10 line) _ (field_19 gap_key 10 line) (λ gap.
    given_19 (field_of id_key 16 gap.rest) _ (field_19 id_key 16 gap.rest) (λ id.
    given_19 (field_of data_key 16 id.rest) _ (field_19 data_key 16 id.rest) (λ bytes.
    given_19 (return_in bytes.rest) _ (return_19 bytes.rest) (λ returns. gives_19 _))))

pub only_nineteen : OnlyNineteen
unfolding mended
only_nineteen line =
    given_19 (parts_in line) _ (parts_19 line) (λ p.
    if_19 (length p.id =? 0) (refused 19) _ refused_19 (
    given_19 (line_read (tidied p)) _ (Capture.only_nineteen (tidied p)) (λ f. gives_19 _)))

dropped_if : (line : List ℕ) (t : Told Mended) → mended line ≡ t
    → ((text : List ℕ) (actions : Actions) → Mends line text actions → Sound text → ⊥) → mended line ≡ refused 19
dropped_if line (gives m) e none = let k = (kept_exactly line m).0 e in absurd (none m.text m.actions k.0 k.1)
dropped_if line (refused n) e none = e ∙ ap refused (only_nineteen line n e)

pub dropped_exactly : DroppedExactly
dropped_exactly line = (
  (λ e text actions w s. refused_gives (sym e ∙ (kept_exactly line (record { text = text; actions = actions })).1 (w, s))),
  dropped_if line (mended line) refl,
)

-- A sound line stays, and nothing is said of it.

pub sound_unchanged : SoundUnchanged
sound_unchanged line f is =
    let e : line ≡ spelled (plain (decimal f.gap) (digits 16 8 f.id) (byte_pairs f.bytes)) = is.spelling ∙ frame_spelled f in
    let a = id_digits_lem f.id in
    let b = pairs_digits f.bytes in
    (kept_exactly line _).1 (
      record {
        gap = decimal f.gap;
        id = digits 16 8 f.id;
        bytes = byte_pairs f.bytes;
        zeros_gone = 0;
        zeros_come = 0;
        few = lit≤ tt;
        before = e;
        after = rw (capitals_digits 16 (lit≤ tt) _ a, capitals_digits 16 (lit≤ tt) _ b) e;
        letters = rw (no_small 16 (lit≤ tt) _ a, no_small 16 (lit≤ tt) _ b);
        fewer = refl;
        more = refl;
      },
      (f, is),
    )

unreported : (line text : List ℕ) (actions : Actions) → Mends line text actions → any_action actions ≡ false → text ≡ line
unreported line text actions w e =
    let n = neither (actions.cr or actions.case) (actions.gap or actions.id) e in
    let n₁ = neither actions.cr actions.case n.0 in
    let n₂ = neither actions.gap actions.id n.1 in
    let s = neither (any is_small w.id) (any is_small w.bytes) (sym w.letters ∙ n₁.1) in
    let a = ltb-false 0 w.zeros_gone (sym w.fewer ∙ n₂.0) in
    let b = ltb-false 0 w.zeros_come (sym w.more ∙ n₂.1) in
    let g : w.zeros_gone ≡ 0 = omega arith in
    let i : w.zeros_come ≡ 0 = omega arith in
    w.after ∙ rw (i, capitals_same w.id s.0, capitals_same w.bytes s.1) (sym (rw (g, n₁.0) at w.before))

unsaid : (line : List ℕ) (m : Mended) → mended line ≡ gives m → Sound line → any_action m.actions ≡ false
unsaid line m e s = ap (λ (x : Mended). any_action x.actions) (gives_same (sym e ∙ sound_unchanged line s.0 s.1))

pub reported_exactly : ReportedExactly
reported_exactly line m e =
    let k = (kept_exactly line m).0 e in
    (unreported line m.text m.actions k.0, λ t. unsaid line m e (subst Sound t k.1))

-- A kept line says what it said.

module _ (f : Frame) (line : List ℕ) (n : Names f line) where
  names_gap : without_zeros n.parts.gap ≡ decimal f.gap
  unfolding decimal
  names_gap =
      let gap = n.parts.gap in
      let w = decimal_width f.gap in
      let b = read_below 10 (lit< tt) (lit≤ tt) gap f.gap n.gap in
      let m = width_most f.gap (length gap) n.some_gap b in
      let e : length gap ≡ length gap - w + w = omega arith in
      let z = zeros_more 10 (lit< tt) (length gap - w) w f.gap (lit≤ tt) (width_digits f.gap).0 in
      ap without_zeros
      (read_spelled 10 (lit< tt) (lit≤ tt) gap f.gap n.gap ∙ ap (λ (k : ℕ). digits 10 k f.gap) e ∙ sym z)
      ∙ without_zeros_lem (length gap - w) f.gap

  names_id : (zeros (8 - length n.parts.id) ++ capitals n.parts.id ≡ digits 16 8 f.id) × (f.id < 2 ^ 32)
  names_id =
      let id = capitals n.parts.id in
      let l : length id ≡ length n.parts.id = length-map n.parts.id _ in
      let s = read_spelled 16 (lit< tt) (lit≤ tt) id f.id n.id in
      let b = read_below 16 (lit< tt) (lit≤ tt) id f.id n.id in
      let k : length id ≤ 8 = omega (arith, n.few_id) in
      let m : 16 ^ length id ≤ 16 ^ 8 = pow-le-pow_right (lit< tt) k in
      let e : 8 - length n.parts.id + length id ≡ 8 = omega (arith, n.few_id) in
      let z = zeros_more 16 (lit< tt) (8 - length n.parts.id) (length id) f.id (lit≤ tt) b in (
        ap (λ (x : List ℕ). zeros (8 - length n.parts.id) ++ x) s ∙ z ∙ ap (λ (k : ℕ). digits 16 k f.id) e,
        omega arith,
      )

  names_bytes : (capitals n.parts.bytes ≡ byte_pairs f.bytes) × (length f.bytes ≡ 8) × AreBytes f.bytes
  names_bytes = bytes_spelled (capitals n.parts.bytes) f.bytes (length-map n.parts.bytes _ ∙ n.all_bytes) n.bytes

  names_line : IsLineOf f (tidied n.parts)
  names_line =
      record {
        frame = record { gap_fits = n.gap_fits; id_fits = names_id.1; eight = names_bytes.1; are_bytes = names_bytes.2 };
        spelling = tidied_spelled n.parts ∙ rw (names_gap, names_id.0, names_bytes.0) (sym (frame_spelled f));
      }

pub names_kept : NamesKept
names_kept line f n =
    let p = n.parts in
    let m : Mended = record { text = tidied p; actions = actions_of p } in
    (m, (kept_exactly line m).1 (mends line p n.spelling n.some_id, (f, names_line f line n)), names_line f line n)

names_text : (line : List ℕ) (m : Mended) (f : Frame) → mended line ≡ gives m → Names f line → IsLineOf f m.text
names_text line m f e n =
    let k = names_kept line f n in
    subst (λ (x : Mended). IsLineOf f x.text) (gives_same (sym k.1 ∙ e)) k.2

pub names_one : NamesOne
names_one line f g n n' =
    let k = names_kept line f n in
    let is = names_text line k.0 g k.1 n' in
    Capture.one_frame f g k.2.frame is.frame (sym k.2.spelling ∙ is.spelling)

pub same_meaning : SameMeaning
same_meaning line m f e = (
  mends_names line m.text m.actions ((kept_exactly line m).0 e).0 f,
  names_text line m f e,
)
