-- Laws of places: what an update, the taking of the lowest free place and a pause do to a key's session, to the holders and to their number.
-- Assumes nothing.
use mathlib.Core.Path.{◌≡◌, refl, sym, ap, ◌∙◌}
use mathlib.Core.Bool.{true, false}
use mathlib.Core.List.{List, [], ◌∷◌}
use mathlib.Core.Logic.{◌≢◌}
use mathlib.Core.Option.{Option, some, none}
use Prim.Native.Nat.{ℕ, suc, ◌≤◌}
use native.Mathlib.Decide.{ℕ_discrete}
use native.Mathlib.Omega.{arith}
use borrow.Author.Tests.{eq-eqb, ne_eqb}
use lib.ListN.{length}
use Rattle.words.proofs.Words.{true_false}
use Rattle.words.specs.Lists.{Absent}
use Rattle.words.proofs.Lists.{absent_cons, absent_head, absent_tail, distinct_cons, distinct_head, distinct_tail}
use Rattle.places.specs.Places.{Place, free, held, lookup, keyed, update, any_free, take_lowest, keys_of}
use Rattle.places.specs.Places.{OnePlaceEach}

-- the two cases of two numbers
pub by_equal : {P : Type 0} (i k : ℕ) → (i ≡ k → P) → (i ≢ k → P) → P
by_equal {P} i k f g = go (ℕ_discrete i k)
  where
    go : Dec (i ≡ k) → P
    go (yes e) = f e
    go (no n) = g n

pub some_none : {A B : Type 0} {a : A} → some a ≡ none → B
some_none p = let z : ◌≡◌ {A = ℕ} 0 1 = cc in absurd (omega arith)

module _ {S : Type 0} where
  -- a key that holds no place has no session, and the other way round

  pub absent_lookup : (k : ℕ) (ps : List (Place S)) → Absent k (keys_of ps) → lookup k ps ≡ none
  absent_lookup k [] h = refl
  absent_lookup k (free ∷ ps) h = absent_lookup k ps h
  absent_lookup k (held j s ∷ ps) h =
      let n : j ≢ k = λ e. absent_head k j (keys_of ps) h (sym e) in
      rw (ne_eqb j k n) (absent_lookup k ps (absent_tail k j (keys_of ps) h))

  pub lookup_absent : (k : ℕ) (ps : List (Place S)) → lookup k ps ≡ none → Absent k (keys_of ps)
  lookup_absent k [] h = refl
  lookup_absent k (free ∷ ps) h = lookup_absent k ps h
  lookup_absent k (held j s ∷ ps) h =
      by_equal j k
      (λ e. some_none (rw (eq-eqb j k e) at h))
      (λ n. absent_cons k j (keys_of ps) (λ e. n (sym e)) (lookup_absent k ps (rw (ne_eqb j k n) at h)))

  -- a first place that is k's, or free

  pub keyed_other : (j k : ℕ) (m : Option S) (ps : List (Place S)) → k ≢ j → lookup j (keyed k m ∷ ps) ≡ lookup j ps
  keyed_other j k none ps h = refl
  keyed_other j k (some s) ps h = rw (ne_eqb k j h)

  pub keyed_same : (k : ℕ) (m : Option S) (ps : List (Place S)) → lookup k ps ≡ none → lookup k (keyed k m ∷ ps) ≡ m
  keyed_same k none ps h = h
  keyed_same k (some s) ps h = rw (eq-eqb k k refl)

  pub keyed_each : (k : ℕ) (m : Option S) (ps : List (Place S)) → lookup k ps ≡ none → OnePlaceEach ps → OnePlaceEach (keyed k m ∷ ps)
  keyed_each k none ps h u = u
  keyed_each k (some s) ps h u = distinct_cons k (keys_of ps) (lookup_absent k ps h) u

  -- an update of k's place

  pub update_other : (j k : ℕ) (m : Option S) (ps : List (Place S)) → k ≢ j → lookup j (update k m ps) ≡ lookup j ps
  update_other j k m [] h = refl
  update_other j k m (free ∷ ps) h = update_other j k m ps h
  update_other j k m (held i s ∷ ps) h =
      by_equal i k
      (λ e. rw (eq-eqb i k e, ne_eqb i j (λ p. h (sym e ∙ p))) (keyed_other j k m ps h))
      (λ n. rw (ne_eqb i k n, update_other j k m ps h))

  pub update_same : (k : ℕ) (m : Option S) (t : S) (ps : List (Place S)) → OnePlaceEach ps → lookup k ps ≡ some t → lookup k (update k m ps) ≡ m
  update_same k m t [] u h = cc
  update_same k m t (free ∷ ps) u h = update_same k m t ps u h
  update_same k m t (held i s ∷ ps) u h =
      by_equal i k
      (λ e. rw (eq-eqb i k e) (keyed_same k m ps (rw e at (absent_lookup i ps (distinct_head i (keys_of ps) u)))))
      (λ n.
      let others = distinct_tail i (keys_of ps) u in
      rw (ne_eqb i k n) (rw (ne_eqb i k n) (update_same k m t ps others (rw (ne_eqb i k n) at h))))

  pub update_each : (k : ℕ) (m : Option S) (ps : List (Place S)) → OnePlaceEach ps → OnePlaceEach (update k m ps)
  update_each k m [] u = u
  update_each k m (free ∷ ps) u = update_each k m ps u
  update_each k m (held i s ∷ ps) u =
      let alone = absent_lookup i ps (distinct_head i (keys_of ps) u) in
      let others = distinct_tail i (keys_of ps) u in
      by_equal i k
      (λ e. rw (eq-eqb i k e) (keyed_each k m ps (rw e at alone) others))
      (λ n.
      let a = lookup_absent i (update k m ps) (update_other i k m ps (λ p. n (sym p)) ∙ alone) in
      rw (ne_eqb i k n) (distinct_cons i (keys_of (update k m ps)) a (update_each k m ps others)))

  pub length_update : (k : ℕ) (m : Option S) (ps : List (Place S)) → length (update k m ps) ≡ length ps
  length_update k m [] = refl
  length_update k m (free ∷ ps) = ap suc (length_update k m ps)
  length_update k m (held j s ∷ ps) = by_equal j k (λ e. rw (eq-eqb j k e)) (λ n. rw (ne_eqb j k n) (ap suc (length_update k m ps)))

  -- the lowest free place taken

  pub take_other : (j k : ℕ) (s : S) (ps : List (Place S)) → k ≢ j → lookup j (take_lowest k s ps) ≡ lookup j ps
  take_other j k s [] h = refl
  take_other j k s (free ∷ ps) h = rw (ne_eqb k j h)
  take_other j k s (held i t ∷ ps) h = rw (take_other j k s ps h)

  pub take_same : (k : ℕ) (s : S) (ps : List (Place S)) → any_free ps ≡ true → lookup k ps ≡ none → lookup k (take_lowest k s ps) ≡ some s
  take_same k s [] f h = cc
  take_same k s (free ∷ ps) f h = rw (eq-eqb k k refl)
  take_same k s (held i t ∷ ps) f h =
      by_equal i k
      (λ e. some_none (rw (eq-eqb i k e) at h))
      (λ n. rw (ne_eqb i k n) (take_same k s ps f (rw (ne_eqb i k n) at h)))

  pub take_each : (k : ℕ) (s : S) (ps : List (Place S)) → OnePlaceEach ps → lookup k ps ≡ none → OnePlaceEach (take_lowest k s ps)
  take_each k s [] u h = u
  take_each k s (free ∷ ps) u h = distinct_cons k (keys_of ps) (lookup_absent k ps h) u
  take_each k s (held i t ∷ ps) u h =
      by_equal i k
      (λ e. some_none (rw (eq-eqb i k e) at h))
      (λ n.
      let alone = absent_lookup i ps (distinct_head i (keys_of ps) u) in
      let a = lookup_absent i (take_lowest k s ps) (take_other i k s ps (λ p. n (sym p)) ∙ alone) in
      let others = distinct_tail i (keys_of ps) u in
      distinct_cons i (keys_of (take_lowest k s ps)) a (take_each k s ps others (rw (ne_eqb i k n) at h)))

  pub length_lowest : (k : ℕ) (s : S) (ps : List (Place S)) → length (take_lowest k s ps) ≡ length ps
  length_lowest k s [] = refl
  length_lowest k s (free ∷ ps) = refl
  length_lowest k s (held j t ∷ ps) = ap suc (length_lowest k s ps)

  -- no place is free exactly when as many keys hold places as there are places

  pub holders_below : (ps : List (Place S)) → length (keys_of ps) ≤ length ps
  holders_below [] = omega arith
  holders_below (free ∷ ps) = omega (arith, holders_below ps)
  holders_below (held j s ∷ ps) = omega (arith, holders_below ps)

  pub holders_full : (ps : List (Place S)) → length (keys_of ps) ≡ length ps → any_free ps ≡ false
  holders_full [] h = refl
  holders_full (free ∷ ps) h = absurd (omega (arith, holders_below ps))
  holders_full (held j s ∷ ps) h = holders_full ps (omega arith)

  pub full_holders : (ps : List (Place S)) → any_free ps ≡ false → length (keys_of ps) ≡ length ps
  full_holders [] f = refl
  full_holders (free ∷ ps) f = true_false f
  full_holders (held j s ∷ ps) f = ap suc (full_holders ps f)

  -- a place that is freed leaves one holder less
  pub freed_holders : (k : ℕ) (s : S) (ps : List (Place S)) → lookup k ps ≡ some s → suc (length (keys_of (update k none ps))) ≡ length (keys_of ps)
  freed_holders k s [] h = some_none (sym h)
  freed_holders k s (free ∷ ps) h = freed_holders k s ps h
  freed_holders k s (held j t ∷ ps) h =
      by_equal j k
      (λ e. rw (eq-eqb j k e))
      (λ n. rw (ne_eqb j k n) (ap suc (freed_holders k s ps (rw (ne_eqb j k n) at h))))
