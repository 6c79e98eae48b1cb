-- The one pass over the table is the two steps of RULES 9.3 and 9.4: the NAME is cleared everywhere, and then entered
-- in the record of the source.
-- Assumes nothing.
use Rattle.std.specs.Prelude.{if◌then◌else◌}
use mathlib.Core.Path.{◌≡◌, refl, sym, ap, ◌∙◌, subst}
use mathlib.Core.Bool.{Bool, true, false}
use mathlib.Core.List.{List, [], ◌∷◌, ◌++◌, map}
use Prim.Native.Nat.{ℕ, zero, suc, ◌+◌, ◌<◌, ◌≤◌}
use native.Mathlib.Omega.{arith}
use lib.ListN.{length, get_or, set, take, drop, length-take}
use lib.Dec.{leb, eqb}
use borrow.Author.Tests.{leb-true, leb-false, eqb-true, eqb-false, eq-eqb, ne_eqb}
use Rattle.frame.specs.Standard.{greatest_address}
use Rattle.words.proofs.Words.{by_test}
use Rattle.nodes.specs.Table.{addresses, absent, cleared_of, entered_of, claimed_at, each_from, claimed_of, keeps_rules}
use Rattle.nodes.specs.Laws.{cleared_all, ClearedThenEntered}
use Rattle.nodes.specs.declared.Node.{Node}
use Rattle.nodes.specs.declared.Claim.{Claim}
use Rattle.nodes.proofs.Each.{each_same}
use Rattle.nodes.proofs.Find.{get_d_front}
use Rattle.nodes.proofs.Sound.{Facts, facts_at, elsewhere, here}

pub each_map : {A : Type 0} (f : A → A) (k a : ℕ) (xs : List A)
    → each_from (λ _ x. f x) k a xs ≡ map f (take k xs) ++ drop k xs
unfolding each_from
each_map f zero a xs = refl
each_map f (suc k) a [] = refl
each_map f (suc k) a (x ∷ xs) = ap (λ (l : List _). f x ∷ l) (each_map f k (suc a) xs)

-- f of each element, and h besides of the one at s
module _ {A : Type 0} (f h : A → A) (s : ℕ) where
  abbrev at : ℕ → A → A
  at a x = if eqb a s then h (f x) else f x

  pub each_none : (k a : ℕ) (xs : List A) → ((i : ℕ) → a ≤ i → i < a + k → i ≡ s → ⊥)
      → each_from at k a xs ≡ each_from (λ _ x. f x) k a xs
  unfolding each_from
  each_none zero a xs away = refl
  each_none (suc k) a [] away = refl
  each_none (suc k) a (x ∷ xs) away =
      let here : a ≡ s → ⊥ = away a (omega arith) (omega arith) in
      rw (ne_eqb a s here) (ap (λ (l : List A). f x ∷ l)
      (each_none k (suc a) xs (λ i l u. away i (omega arith) (omega arith))))

  pub each_one : (d : A) (k a j : ℕ) (xs : List A) → s ≡ a + j → j < k
      → each_from at k a xs ≡ set (each_from (λ _ x. f x) k a xs) j (h (get_or (each_from (λ _ x. f x) k a xs) j d))
  unfolding each_from
  each_one d zero a j xs e l = absurd (omega arith)
  each_one d (suc k) a j [] e l = refl
  each_one d (suc k) a zero (x ∷ xs) e l =
      let same : a ≡ s = omega arith in
      rw (eq-eqb a s same) (ap (λ (l : List A). h (f x) ∷ l) (each_none k (suc a) xs (λ i l u e'. omega arith)))
  each_one d (suc k) a (suc j) (x ∷ xs) e l =
      let other : a ≡ s → ⊥ = λ same. omega arith in
      let next : s ≡ suc a + j = omega arith in
      rw (ne_eqb a s other) (ap (λ (l : List A). f x ∷ l) (each_one d k (suc a) j xs next (omega arith)))

module _ (claim : Claim) (table : List Node) where
  abbrev f : Node → Node
  f = cleared_of claim.name

  abbrev h : Node → Node
  h = entered_of claim.name

  -- over any number of records that has the source's among them, or is the addresses'
  abbrev both : ℕ → Node → Node
  both = at f h claim.source

  taken_one : (k : ℕ) → claim.source < k → each_from both k 0 table
      ≡ set (map f (take k table) ++ drop k table) claim.source
      (h (get_or (map f (take k table) ++ drop k table) claim.source absent))
  taken_one k l =
      let e : claim.source ≡ 0 + claim.source = omega arith in
      rw (← each_map f k 0 table) (each_one f h claim.source absent k 0 claim.source table e l)

  taken_none : (k : ℕ) → k ≤ claim.source → each_from both k 0 table ≡ map f (take k table) ++ drop k table
  taken_none k l = each_none f h claim.source k 0 table (λ i a b e. omega arith) ∙ each_map f k 0 table

  by_source : (t : Bool) → leb claim.source greatest_address ≡ t
      → each_from both addresses 0 table
      ≡ (if t then set (cleared_all claim.name table) claim.source
      (h (get_or (cleared_all claim.name table) claim.source absent)) else cleared_all claim.name table)
  by_source true e = let l : claim.source ≤ greatest_address = leb-true _ _ e in taken_one addresses (omega arith)
  by_source false e = let l : greatest_address < claim.source = leb-false _ _ e in taken_none addresses (omega arith)

  -- a sound record is cleared and then entered
  one_record : (a : ℕ) (n : Node) → Facts n → claimed_at claim a n ≡ both a n
  one_record a n facts =
      by_test (eqb a claim.source)
      (λ t. here claim a n facts (eqb-true _ _ t) ∙ sym (both_here t)) (λ t. elsewhere claim a n (eqb-false _ _ t)
      ∙ sym (both_there t))
    where
      both_here : eqb a claim.source ≡ true → both a n ≡ h (f n)
      both_here t = rw t

      both_there : eqb a claim.source ≡ false → both a n ≡ f n
      both_there t = rw t

  each_record : (k : ℕ) → keeps_rules (take k table) ≡ true
      → each_from (claimed_at claim) k 0 table ≡ each_from both k 0 table
  each_record k keeps =
      each_same (claimed_at claim) both k 0 table absent (λ i a l.
      one_record (0 + i) (get_or table i absent)
      (subst Facts (get_d_front k i table a) (facts_at (take k table) keeps i (inside i a l))))
    where
      inside : (i : ℕ) → i < k → i < length table → i < length (take k table)
      inside i a l = simp length-take (omega arith)

pub cleared_then_entered : ClearedThenEntered
unfolding claimed_of
cleared_then_entered claim table keeps =
    each_record claim table addresses keeps ∙ by_source claim table (leb claim.source greatest_address) refl
