-- The fault that a step chooses: it is due, none that is due is older, and of equals it has the lowest place.
-- Assumes nothing.
use Rattle.std.specs.Prelude.{Some, None}
use mathlib.Core.Path.{◌≡◌, refl, sym, ◌∙◌}
use mathlib.Core.Bool.{true, false}
use mathlib.Core.List.{List, [], ◌∷◌}
use mathlib.Core.Logic.{◌⊎◌, inl, inr}
use Prim.Native.Nat.{ℕ, zero, suc, ◌≤◌, ◌<◌}
use native.Mathlib.Nat.{le_of_suc-le-suc, not-suc-le-zero}
use native.Mathlib.Omega.{arith}
use borrow.Author.Tests.{ltb-true, ltb-false, eqb-true, eq-eqb}
use lib.ListN.{length, get_or}
use Rattle.words.specs.Words.{◌<?◌, ◌=?◌, ◌and◌}
use Rattle.words.proofs.Words.{by_test, both_true, true_false}
use Rattle.words.proofs.Lists.{found_at, found_nowhere}
use Rattle.faults.specs.Fault.{no_fault, is_due}
use Rattle.faults.specs.Sender.{longer, longest_due, is_chosen, chosen}
use Rattle.faults.specs.declared.Fault.{Fault}

longer_says : (f : Fault) (a : ℕ) → ((longer f a ≡ f.age) × (is_due f ≡ true) × (a < f.age))
    ⊎ ((longer f a ≡ a) × (is_due f ≡ true → f.age ≤ a))
unfolding longer
longer_says f a =
    by_test (is_due f and (a <? f.age))
    (λ e. let t = both_true (is_due f) (a <? f.age) e in inl (rw e, t.0, ltb-true a f.age t.1))
    (λ e. inr (
      rw e,
      λ d. by_test (a <? f.age)
          (λ k. true_false (sym (rw (d, k)) ∙ e))
          (λ k. ltb-false a f.age k),
    ))

at_least : (f : Fault) (a : ℕ) → a ≤ longer f a
at_least f a = go (longer_says f a)
  where
    go : ((longer f a ≡ f.age) × (is_due f ≡ true) × (a < f.age)) ⊎ ((longer f a ≡ a) × (is_due f ≡ true
        → f.age ≤ a)) → a ≤ longer f a
    go (inl t) = omega (arith, t.0, t.2)
    go (inr t) = omega (arith, t.0)

at_least_its : (f : Fault) (a : ℕ) → is_due f ≡ true → f.age ≤ longer f a
at_least_its f a d = go (longer_says f a)
  where
    go : ((longer f a ≡ f.age) × (is_due f ≡ true) × (a < f.age)) ⊎ ((longer f a ≡ a) × (is_due f ≡ true
        → f.age ≤ a)) → f.age ≤ longer f a
    go (inl t) = omega (arith, t.0)
    go (inr t) = omega (arith, t.0, t.1 d)

-- no due fault is older
pub none_older : (fs : List Fault) (i : ℕ) (d : Fault) → i < length fs → is_due (get_or fs i d) ≡ true
    → (get_or fs i d).age ≤ longest_due fs
unfolding longest_due
none_older [] i d h e = absurd (not-suc-le-zero h)
none_older (f ∷ fs) zero d h e = at_least_its f (longest_due fs) e
none_older (f ∷ fs) (suc i) d h e =
    omega (arith, none_older fs i d (le_of_suc-le-suc h) e, at_least f (longest_due fs))

-- a due fault of that age
pub record OfAge (fs : List Fault) (age : ℕ) : Type 0 where
  pub at : ℕ
  pub below : at < length fs
  pub due : is_due (get_or fs at no_fault) ≡ true
  pub is : (get_or fs at no_fault).age ≡ age

-- the greatest age is 0, or that of a due fault

reached : (fs : List Fault) → (longest_due fs ≡ 0) ⊎ OfAge fs (longest_due fs)
unfolding longest_due
reached [] = inl refl
reached (f ∷ fs) = go (longer_says f (longest_due fs)) (reached fs)
  where
    go : ((longer f (longest_due fs) ≡ f.age) × (is_due f ≡ true) × (longest_due fs < f.age))
        ⊎ ((longer f (longest_due fs) ≡ longest_due fs) × (is_due f ≡ true → f.age ≤ longest_due fs))
        → (longest_due fs ≡ 0) ⊎ OfAge fs (longest_due fs) → (longer f (longest_due fs) ≡ 0)
        ⊎ OfAge (f ∷ fs) (longer f (longest_due fs))
    go (inl t) r = inr (record { at = 0; below = omega arith; due = t.1; is = sym t.0 })
    go (inr t) (inl z) = inl (t.0 ∙ z)
    go (inr t) (inr o) = inr (record {
      at = suc o.at;
      below = omega (arith, o.below);
      due = o.due;
      is = o.is
          ∙ sym t.0;
    })

-- where one is due, one has the greatest age
pub some_oldest : (fs : List Fault) (i : ℕ) → i < length fs → is_due (get_or fs i no_fault) ≡ true
    → OfAge fs (longest_due fs)
some_oldest fs i h e = go (reached fs)
  where
    go : (longest_due fs ≡ 0) ⊎ OfAge fs (longest_due fs) → OfAge fs (longest_due fs)
    go (inl z) = record { at = i; below = h; due = e; is = omega (arith, z, none_older fs i no_fault h e) }
    go (inr o) = o

-- what is chosen

pub record Chosen (fs : List Fault) (q : ℕ) : Type 0 where
  pub below : q < length fs
  pub due : is_due (get_or fs q no_fault) ≡ true
  pub most : (i : ℕ) → i < length fs → is_due (get_or fs i no_fault) ≡ true
      → (get_or fs i no_fault).age ≤ (get_or fs q no_fault).age
  pub lowest : (i : ℕ) → i < length fs → is_due (get_or fs i no_fault) ≡ true
      → (get_or fs i no_fault).age ≡ (get_or fs q no_fault).age → q ≤ i

pub chosen_at : (fs : List Fault) (q : ℕ) → chosen fs ≡ Some q → Chosen fs q
unfolding chosen
chosen_at fs q e =
    let a = longest_due fs in
    let t = found_at q (is_chosen a) fs no_fault e in
    let b = both_true (is_due (get_or fs q no_fault)) ((get_or fs q no_fault).age =? a) t.passes in
    let k = eqb-true (get_or fs q no_fault).age a b.1 in
    record {
      below = t.below;
      due = b.0;
      most = λ i h d. omega (arith, k, none_older fs i no_fault h d);
      lowest = λ i h d z. by_test (i <? q)
          (λ l. true_false (sym (rw (d, eq-eqb (get_or fs i no_fault).age a (z ∙ k))) ∙ t.lowest i (ltb-true i q l)))
          (λ l. ltb-false i q l);
    }

pub chosen_nowhere : (fs : List Fault) → chosen fs ≡ None → (i : ℕ) → i < length fs
    → is_due (get_or fs i no_fault) ≡ false
unfolding chosen
chosen_nowhere fs e i h =
    by_test (is_due (get_or fs i no_fault))
    (λ d.
    let a = longest_due fs in
    let o = some_oldest fs i h d in
    let n = found_nowhere (is_chosen a) fs no_fault e o.at o.below in
    true_false (sym (rw (o.due, eq-eqb (get_or fs o.at no_fault).age a o.is)) ∙ n))
    (λ d. d)
