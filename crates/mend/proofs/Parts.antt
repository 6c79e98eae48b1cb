-- The fields of a line: a line is read as its parts exactly when the parts spell it and their digits are digits.
-- Assumes nothing.
use mathlib.Core.Path.{◌≡◌, refl, sym, ap, ◌∙◌}
use mathlib.Core.Bool.{Bool, true, false}
use mathlib.Core.List.{List, [], ◌∷◌, ◌++◌, append_assoc, append-nil}
use Prim.Native.Nat.{ℕ, ◌≤◌}
use borrow.Author.Tests.{eqb-true, eq-eqb, le-ltb}
use lib.Dec.{lit≤}
use lib.ListN.{length, drop}
use lib.Seq.{drop-append_seam}
use Rattle.words.specs.Words.{given◌then◌, ◌<?◌, ◌=?◌, Told, refused, gives}
use Rattle.words.proofs.Words.{by_test, both_true, true_false, before_refusal, gives_same, refused_gives}
use Rattle.capture.specs.Digits.{value_of, are_digits}
use Rattle.capture.specs.Line.{gap_key, id_key, data_key, begins_with}
use Rattle.mend.specs.Mending.{is_small, capital, capitals, Parts, Field, ahead, cut_behind, field_of, return_in, parts_in}
use Rattle.mend.specs.Mending.{return_text, spelled}

-- what is given after something that was given
pub given_gives : {A B : Type 0} (t : Told A) (f : A → Told B) {b : B} → (given t then f) ≡ gives b
    → (a : A) × (t ≡ gives a) × (f a ≡ gives b)
given_gives (gives a) f e = (a, refl, e)
given_gives (refused n) f e = refused_gives e

-- A key, and the digits behind it.

begins_on : (key line : List ℕ) → begins_with key (key ++ line) ≡ true
unfolding begins_with
begins_on [] line = refl
begins_on (k ∷ key) line = rw (eq-eqb k k refl, begins_on key line)

begins_split : (key line : List ℕ) → begins_with key line ≡ true → line ≡ key ++ drop (length key) line
unfolding begins_with
begins_split [] line e = refl
begins_split (k ∷ key) [] e = true_false (sym e)
begins_split (k ∷ key) (c ∷ line) e =
    let b = both_true (c =? k) (begins_with key line) e in
    let h = eqb-true c k b.0 in
    rw h (ap (λ (l : List ℕ). k ∷ l) (begins_split key line b.1))

ahead_on : (base : ℕ) (ds rest : List ℕ) → are_digits base (capitals ds) ≡ true → ahead base (ds ++ rest) ≡ ds ++ ahead base rest
unfolding ahead are_digits
ahead_on base [] rest a = refl
ahead_on base (c ∷ ds) rest a =
    let b = both_true (value_of (capital c) <? base) (are_digits base (capitals ds)) a in
    rw (b.0, ahead_on base ds rest b.1)

ahead_split : (base : ℕ) (l : List ℕ) → l ≡ ahead base l ++ drop (length (ahead base l)) l
unfolding ahead
ahead_split base [] = refl
ahead_split base (c ∷ l) =
    by_test (value_of (capital c) <? base)
    (λ e. rw e (ap (λ (x : List ℕ). c ∷ x) (ahead_split base l)))
    (λ e. rw e)

field_on : (key : List ℕ) (base : ℕ) (ds rest : List ℕ) → are_digits base (capitals ds) ≡ true → ahead base rest ≡ []
    → field_of key base (key ++ (ds ++ rest)) ≡ gives (record { digits = ds; rest = rest })
unfolding field_of
field_on key base ds rest a s =
    let h : ahead base (ds ++ rest) ≡ ds = ahead_on base ds rest a ∙ rw (s, append-nil) in
    rw (begins_on key (ds ++ rest), drop-append_seam key (ds ++ rest), h, drop-append_seam ds rest)

field_split : (key : List ℕ) (base : ℕ) (line : List ℕ) (f : Field) → field_of key base line ≡ gives f
    → line ≡ key ++ (f.digits ++ f.rest)
unfolding field_of
field_split key base line f e =
    let r = before_refusal (begins_with key line) 19 (gives (cut_behind base (drop (length key) line))) e in
    let s : cut_behind base (drop (length key) line) ≡ f = gives_same r.1 in
    rw (← s) (begins_split key line r.0 ∙ ap (λ (l : List ℕ). key ++ l) (ahead_split base (drop (length key) line)))

-- The end.

return_on : (b : Bool) → return_in (return_text b) ≡ gives b
unfolding return_in
return_on true = refl
return_on false = refl

return_split : (l : List ℕ) (b : Bool) → return_in l ≡ gives b → l ≡ return_text b
unfolding return_in
return_split [] b e = rw (← gives_same e)
return_split (c ∷ []) b e =
    let r = before_refusal (c =? 13) 19 (gives true) e in
    rw (← gives_same r.1, eqb-true c 13 r.0)
return_split (c ∷ d ∷ l) b e = refused_gives e

-- The line.

-- bracketed from the right, as it is read
abbrev from_right : Parts → List ℕ
from_right p = gap_key ++ (p.gap ++ (id_key ++ (p.id ++ (data_key ++ (p.bytes ++ return_text p.returns)))))

pub in_turn : (p : Parts) → spelled p ≡ from_right p
unfolding spelled
in_turn p = simp append_assoc

-- no digit stands behind a field's digits

space_stops : (base : ℕ) (l : List ℕ) → base ≤ 16 → ahead base (32 ∷ l) ≡ []
unfolding ahead value_of capital is_small
space_stops base l m = rw (le-ltb 16 base m)

return_stops : (b : Bool) → ahead 16 (return_text b) ≡ []
unfolding ahead value_of capital is_small
return_stops true = refl
return_stops false = refl

pub parts_on : (p : Parts) → are_digits 10 (capitals p.gap) ≡ true → are_digits 16 (capitals p.id) ≡ true
    → are_digits 16 (capitals p.bytes) ≡ true → parts_in (spelled p) ≡ gives p
unfolding parts_in
parts_on p g i b =
    let end = return_text p.returns in
    let f₃ = field_on data_key 16 p.bytes end b (return_stops p.returns) in
    let f₂ = field_on id_key 16 p.id (data_key ++ (p.bytes ++ end)) i (space_stops 16 _ (lit≤ tt)) in
    let f₁ = field_on gap_key 10 p.gap (id_key ++ (p.id ++ (data_key ++ (p.bytes ++ end)))) g (space_stops 10 _ (lit≤ tt)) in
    rw (in_turn p, f₁, f₂, f₃, return_on p.returns)

pub parts_split : (line : List ℕ) (p : Parts) → parts_in line ≡ gives p → line ≡ spelled p
unfolding parts_in
parts_split line p e =
    let g = given_gives (field_of gap_key 10 line) _ e in
    let i = given_gives (field_of id_key 16 g.0.rest) _ g.2 in
    let b = given_gives (field_of data_key 16 i.0.rest) _ i.2 in
    let r = given_gives (return_in b.0.rest) _ b.2 in
    let s₁ = field_split gap_key 10 line g.0 g.1 in
    let s₂ = field_split id_key 16 g.0.rest i.0 i.1 in
    let s₃ = field_split data_key 16 i.0.rest b.0 b.1 in
    let s₄ = return_split b.0.rest r.0 r.1 in
    rw (← gives_same r.2, in_turn, ← s₄, ← s₃, ← s₂) s₁
