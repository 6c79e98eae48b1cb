-- Positions of the entries that pass a test: the loop that collects them.
-- Assumes nothing.
use Rattle.std.specs.Prelude.{if◌then◌else◌}
use mathlib.Core.Path.{◌≡◌, refl, sym, ap, ◌∙◌}
use mathlib.Core.Bool.{Bool, true, false}
use mathlib.Core.List.{List, [], ◌∷◌, ◌++◌, append_assoc, append-nil}
use Prim.Native.Nat.{ℕ, suc, ◌+◌, ◌-◌, ◌≤◌, ◌<◌}
use native.Mathlib.Numerals.{add-one}
use native.Mathlib.Omega.{arith}
use lib.ListN.{length, take, get_or, replicate, length-append}
use lib.Seq.{take-suc, set_at, length-take-le, take-append_seam}
use Rattle.words.specs.Lists.{any}
use Rattle.words.proofs.Words.{by_test}
use Rattle.command.specs.Hosted.{most_entries, blank_entry}
use Rattle.command.specs.Positions.{positions_from, positions_where, filled, listed}
use Rattle.command.specs.Private.{added}
use Rattle.command.specs.declared.Entry.{Entry}
use Rattle.command.specs.declared.Positions.{Positions}
use Rattle.words.proofs.Lists.{replicate_cons}

module _ (f : Entry → Bool) where
  -- one entry more at the end
  positions_snoc : (i n : ℕ) (es : List Entry) (e : Entry) → n ≡ i + length es
      → positions_from i f (es ++ (e ∷ [])) ≡ positions_from i f es ++ (if f e then n ∷ [] else [])
  positions_snoc i n [] e k = let k' : n ≡ i = omega arith in rw k'
  positions_snoc i n (x ∷ es) e k =
      let k' : n ≡ suc i + length es = omega arith in
      let h = positions_snoc (suc i) n es e k' in
      by_test (f x)
      (λ t. rw t (ap (λ (l : List ℕ). i ∷ l) h))
      (λ t. rw t h)

  positions_few : (i : ℕ) (es : List Entry) → length (positions_from i f es) ≤ length es
  positions_few i [] = omega arith
  positions_few i (x ∷ es) =
      let h = positions_few (suc i) es in
      by_test (f x)
      (λ t. rw t (omega arith))
      (λ t. rw t (omega arith))

-- the positions with one more

added_filled : (i : ℕ) (ps : List ℕ) → length ps < most_entries → added i (filled ps) ≡ filled (ps ++ (i ∷ []))
unfolding filled
added_filled i ps h =
    let p : 0 < most_entries - length ps = omega arith in
    let k : length (ps ++ (i ∷ [])) ≡ length ps + 1 = simp length-append in
    let m : most_entries - length ps - 1 ≡ most_entries - (length ps + 1) = omega arith in
    rw (k, replicate_cons {P = ℕ} (most_entries - length ps) 0 p, m, set_at ps 0 (replicate (most_entries - (length ps + 1)) 0) i (length ps) refl)
    (ap (λ (l : List ℕ). record { at = l; count = length ps + 1 }) (sym (append_assoc ps (i ∷ []) (replicate (most_entries - (length ps + 1)) 0))))

-- a turn of the loop that collects
module _ (f : Entry → Bool) (es : List Entry) (i : ℕ) where
  pub pick_few : length es ≤ most_entries → i < length es → length (positions_where f (take i es)) < most_entries
  unfolding positions_where
  pick_few k h =
      let j : i ≤ length es = omega arith in
      let l = length-take-le i es j in
      let p = positions_few f 0 (take i es) in
      omega arith

  pub pick_turn : (p r : Positions) → i < length es → length es ≤ most_entries → p ≡ filled (positions_where f (take i es))
      → r ≡ (if f (get_or es i blank_entry) then added i p else p) → r ≡ filled (positions_where f (take (i + 1) es))
  unfolding positions_where
  pick_turn p r h k e g =
      let j : i ≤ length es = omega arith in
      let m = length-take-le i es j in
      let l : i ≡ 0 + length (take i es) = omega arith in
      let s = positions_snoc f 0 i (take i es) (get_or es i blank_entry) l in
      let w : positions_where f (take (i + 1) es) ≡ positions_from 0 f (take i es) ++ (if f (get_or es i blank_entry) then i ∷ [] else []) =
      rw (add-one, take-suc es i blank_entry h) s in
      by_test (f (get_or es i blank_entry))
      (λ t. g ∙ rw (t, e) (added_filled i (positions_from 0 f (take i es)) (pick_few k h) ∙ ap filled (sym (w ∙ rw t))))
      (λ t. g ∙ rw (t, e) (ap filled (sym (w ∙ rw t (append-nil (positions_from 0 f (take i es)))))))

-- what was filled up reads as it was
pub listed_filled : (ps : List ℕ) → listed (filled ps) ≡ ps
unfolding filled
listed_filled ps = take-append_seam ps (replicate (most_entries - length ps) 0)

-- a test that no entry passes has no positions, and one that some entry passes has some

positions_none : (f : Entry → Bool) (i : ℕ) (es : List Entry) → length (positions_from i f es) ≡ 0 → any f es ≡ false
positions_none f i [] e = refl
positions_none f i (x ∷ es) e =
    by_test (f x)
    (λ t. let e' = rw t at e in absurd (omega arith))
    (λ t. let e' = rw t at e in rw t (positions_none f (suc i) es e'))

positions_some : (f : Entry → Bool) (i : ℕ) (es : List Entry) → 0 < length (positions_from i f es) → any f es ≡ true
positions_some f i [] e = absurd (omega arith)
positions_some f i (x ∷ es) e =
    by_test (f x)
    (λ t. rw t)
    (λ t. let e' = rw t at e in rw t (positions_some f (suc i) es e'))

pub none_picked : (f : Entry → Bool) (es : List Entry) (p : Positions) → p ≡ filled (positions_where f es) → p.count ≡ 0 → any f es ≡ false
unfolding filled positions_where
none_picked f es p e h = positions_none f 0 es (sym (ap (λ (q : Positions). q.count) e) ∙ h)

pub some_picked : (f : Entry → Bool) (es : List Entry) (p : Positions) → p ≡ filled (positions_where f es) → (p.count ≡ 0 → ⊥) → any f es ≡ true
unfolding filled positions_where
some_picked f es p e n =
    let k = ap (λ (q : Positions). q.count) e in
    positions_some f 0 es (omega (arith, n))
