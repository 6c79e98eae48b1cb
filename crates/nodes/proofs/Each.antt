-- What `each_from` does to a list, one element at a time. Assumes nothing.
use mathlib.Core.Path.{◌≡◌, refl, sym, ◌∙◌, ap, subst}
use Prim.Native.Nat.{ℕ, zero, suc, ◌+◌, ◌<◌, ◌≤◌}
use native.Mathlib.Nat.{zero-add, add-zero, add-suc, suc-add, not-suc-le-zero, le_of_suc-le-suc}
use native.Mathlib.Omega.{arith}
use mathlib.Core.List.{List, [], ◌∷◌, ◌++◌}
use lib.ListN.{length, get_or, set, take, drop}
use Rattle.nodes.specs.Table.{each_from}

module _ {A : Type 0} (f : ℕ → A → A) where
  pub each_length : (k a : ℕ) (xs : List A) → length (each_from f k a xs) ≡ length xs
  unfolding each_from
  each_length zero a xs = refl
  each_length (suc k) a [] = refl
  each_length (suc k) a (x ∷ xs) = ap suc (each_length k (suc a) xs)

  -- the element after those that are done is as it was
  pub each_at : (k a : ℕ) (xs : List A) (d : A) → get_or (each_from f k a xs) k d ≡ get_or xs k d
  unfolding each_from
  each_at zero a xs d = refl
  each_at (suc k) a [] d = refl
  each_at (suc k) a (x ∷ xs) d = each_at k (suc a) xs d

  -- one more
  pub each_step : (k a : ℕ) (xs : List A) (d : A) → set (each_from f k a xs) k (f (a + k) (get_or xs k d)) ≡ each_from f (suc k) a xs
  unfolding each_from
  each_step zero a [] d = refl
  each_step zero a (x ∷ xs) d = ap (λ (n : ℕ). f n x ∷ xs) (add-zero a)
  each_step (suc k) a [] d = refl
  each_step (suc k) a (x ∷ xs) d = ap (λ (n : ℕ). f a x ∷ set (each_from f k (suc a) xs) k (f n (get_or xs k d))) (add-suc a k ∙ sym (suc-add a k)) ∙ ap (λ (l : List A). f a x ∷ l) (each_step k (suc a) xs d)

  -- the same, as a loop makes it of the list so far
  pub each_turn : (i : ℕ) (xs ys : List A) (y d : A) → ys ≡ each_from f i 0 xs → y ≡ f i (get_or ys i d)
      → set ys i y ≡ each_from f (i + 1) 0 xs
  each_turn i xs ys y d e h =
      let at : get_or ys i d ≡ get_or xs i d = ap (λ (l : List A). get_or l i d) e ∙ each_at i 0 xs d in
      let r : y ≡ f (0 + i) (get_or xs i d) =
      h ∙ ap (f i) at ∙ ap (λ (k : ℕ). f k (get_or xs i d)) (sym (zero-add i)) in
      let next : suc i ≡ i + 1 = omega arith in
      ap (λ (l : List A). set l i y) e ∙ ap (set (each_from f i 0 xs) i) r ∙ each_step i 0 xs d
      ∙ ap (λ (k : ℕ). each_from f k 0 xs) next

  -- an element that is done, and one that is past them
  pub each_inside : (k a : ℕ) (xs : List A) (d : A) (i : ℕ) → i < k → i < length xs → get_or (each_from f k a xs) i d ≡ f (a + i) (get_or xs i d)
  unfolding each_from
  each_inside zero a xs d i h l = absurd (not-suc-le-zero h)
  each_inside (suc k) a [] d i h l = absurd (not-suc-le-zero l)
  each_inside (suc k) a (x ∷ xs) d zero h l = ap (λ (n : ℕ). f n x) (sym (add-zero a))
  each_inside (suc k) a (x ∷ xs) d (suc i) h l = each_inside k (suc a) xs d i (le_of_suc-le-suc h) (le_of_suc-le-suc l) ∙ ap (λ (n : ℕ). f n (get_or xs i d)) (suc-add a i ∙ sym (add-suc a i))

  pub each_outside : (k a : ℕ) (xs : List A) (d : A) (i : ℕ) → k ≤ i → get_or (each_from f k a xs) i d ≡ get_or xs i d
  unfolding each_from
  each_outside zero a xs d i h = refl
  each_outside (suc k) a [] d i h = refl
  each_outside (suc k) a (x ∷ xs) d zero h = absurd (not-suc-le-zero h)
  each_outside (suc k) a (x ∷ xs) d (suc i) h = each_outside k (suc a) xs d i (le_of_suc-le-suc h)

  -- the elements that are done, and those past them, as lists
  pub take_each : (k a : ℕ) (xs : List A) → take k (each_from f k a xs) ≡ each_from f k a (take k xs)
  unfolding each_from
  take_each zero a xs = refl
  take_each (suc k) a [] = refl
  take_each (suc k) a (x ∷ xs) = ap (λ (l : List A). f a x ∷ l) (take_each k (suc a) xs)

  pub drop_each : (k a : ℕ) (xs : List A) → drop k (each_from f k a xs) ≡ drop k xs
  unfolding each_from
  drop_each zero a xs = refl
  drop_each (suc k) a [] = refl
  drop_each (suc k) a (x ∷ xs) = drop_each k (suc a) xs

  -- the first elements alone, with those past them behind
  pub each_front : (k a : ℕ) (xs : List A) → each_from f k a (take k xs) ++ drop k xs ≡ each_from f k a xs
  unfolding each_from
  each_front zero a xs = refl
  each_front (suc k) a [] = refl
  each_front (suc k) a (x ∷ xs) = ap (λ (l : List A). f a x ∷ l) (each_front k (suc a) xs)

-- two functions that agree on each of the first elements
pub each_same : {A : Type 0} (f g : ℕ → A → A) (k a : ℕ) (xs : List A) (d : A)
    → ((i : ℕ) → i < k → i < length xs → f (a + i) (get_or xs i d) ≡ g (a + i) (get_or xs i d))
    → each_from f k a xs ≡ each_from g k a xs
unfolding each_from
each_same f g zero a xs d same = refl
each_same f g (suc k) a [] d same = refl
each_same f g (suc k) a (x ∷ xs) d same =
    let first : f a x ≡ g a x = subst (λ (n : ℕ). f n x ≡ g n x) (add-zero a) (same 0 (omega arith) (omega arith)) in
    let rest = each_same f g k (suc a) xs d (λ i h l.
    subst (λ (n : ℕ). f n (get_or xs i d) ≡ g n (get_or xs i d)) (add-suc a i ∙ sym (suc-add a i))
    (same (suc i) (omega arith) (omega arith))) in
    λ j. first j ∷ rest j
