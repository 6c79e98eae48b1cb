-- How many claims can come of one: it is answered at most by every lower NAME, each of whose claims is answered by the
-- ones below it in turn. So a claim costs twice what a claim of the next lower NAME costs.
-- Assumes nothing.
use Rattle.std.specs.Prelude.{if◌then◌else◌}
use mathlib.Core.Path.{◌≡◌, refl, sym, ap, ◌∙◌}
use mathlib.Core.Bool.{true, false}
use mathlib.Core.List.{List, [], ◌∷◌}
use mathlib.Core.Logic.{◌⊎◌, inl, inr}
use Prim.Native.Nat.{ℕ, zero, suc, ◌+◌, ◌^◌, ◌≤◌, ◌<◌}
use native.Mathlib.Nat.{pow-suc}
use native.Mathlib.Omega.{arith}
use borrow.Author.Tests.{ne_eqb, lt-ltb, le-ltb, eqb-true, eqb-false, ltb-true, ltb-false}
use lib.ListN.{length, get_or}
use lib.Pow.{pow_pos, pow_mono}
use Rattle.words.specs.Words.{◌<?◌, ◌=?◌}
use Rattle.words.proofs.Words.{by_test}
use Rattle.network.specs.Network.{Differ}

-- how many NAMEs are below n, and what a claim of n costs
abbrev pub below : List ℕ → ℕ → ℕ
below [] n = 0
below (m ∷ ns) n = (if m <? n then 1 else 0) + below ns n

unfoldable pub cost : List ℕ → ℕ → ℕ
cost names n = 2 ^ below names n

-- what the claims of those below n cost, one of each
abbrev pub lower : List ℕ → List ℕ → ℕ → ℕ
lower names [] n = 0
lower names (m ∷ ns) n = (if m <? n then cost names m else 0) + lower names ns n

-- x for each that is n
abbrev each : List ℕ → ℕ → ℕ → ℕ
each [] n x = 0
each (m ∷ ns) n x = (if m =? n then x else 0) + each ns n x

-- below the next number are those below n, and n
below_next : (m n x : ℕ) → (if m <? suc n then x else 0) ≡ (if m <? n then x else 0) + (if m =? n then x else 0)
below_next m n x =
    by_test (m <? n)
    (λ l.
    let h = ltb-true m n l in
    let a : (m <? suc n) ≡ true = lt-ltb m (suc n) (omega arith) in
    let b : (m =? n) ≡ false = ne_eqb m n (λ e. omega arith) in
    rw (l, a, b) (omega arith))
    (λ l.
    let h = ltb-false m n l in
    by_test (m =? n)
    (λ e.
    let q = eqb-true m n e in
    let a : (m <? suc n) ≡ true = lt-ltb m (suc n) (omega arith) in
    rw (l, e, a) (omega arith))
    (λ e.
    let q = eqb-false m n e in
    let a : (m <? suc n) ≡ false = le-ltb m (suc n) (omega (arith, h, q)) in
    rw (l, e, a) (omega arith)))

below_suc : (ns : List ℕ) (n : ℕ) → below ns (suc n) ≡ below ns n + each ns n 1
below_suc [] n = refl
below_suc (m ∷ ns) n = omega (arith, below_next m n 1, below_suc ns n)

here_cost : (names : List ℕ) (m n : ℕ) → (if m =? n then cost names m else 0) ≡ (if m =? n then cost names n else 0)
here_cost names m n =
    by_test (m =? n)
    (λ e. rw e (ap (cost names) (eqb-true m n e)))
    (λ e. rw e refl)

lower_suc : (names ns : List ℕ) (n : ℕ) → lower names ns (suc n) ≡ lower names ns n + each ns n (cost names n)
lower_suc names [] n = refl
lower_suc names (m ∷ ns) n = omega (arith, below_next m n (cost names m), here_cost names m n, lower_suc names ns n)

-- each NAME is there once at most

each_none : (ns : List ℕ) (n x : ℕ) → ((i : ℕ) → i < length ns → get_or ns i 0 ≡ n → ⊥) → each ns n x ≡ 0
each_none [] n x f = refl
each_none (m ∷ ns) n x f =
    let a : (m =? n) ≡ false = ne_eqb m n (f 0 (omega arith)) in
    rw a (omega (arith, each_none ns n x (λ i h e. f (suc i) (omega arith) e)))

differ_tail : (m : ℕ) (ns : List ℕ) → Differ (m ∷ ns) → Differ ns
differ_tail m ns d i j h k e = let q : suc i ≡ suc j = d (suc i) (suc j) (omega arith) (omega arith) e in omega arith

each_once : (ns : List ℕ) (n x : ℕ) → Differ ns
    → ((each ns n 1 ≡ 0) × (each ns n x ≡ 0)) ⊎ ((each ns n 1 ≡ 1) × (each ns n x ≡ x))
each_once [] n x d = inl (refl, refl)
each_once (m ∷ ns) n x d =
    by_test (m =? n)
    (λ e.
    let f : (i : ℕ) → i < length ns → get_or ns i 0 ≡ n → ⊥ =
    λ i h q. let z : 0 ≡ suc i = d 0 (suc i) (omega arith) (omega arith) (eqb-true m n e ∙ sym q) in omega arith in
    inr (rw e (omega (arith, each_none ns n 1 f)), rw e (omega (arith, each_none ns n x f))))
    (λ e. rw e (go (each_once ns n x (differ_tail m ns d))))
  where
    go : ((each ns n 1 ≡ 0) × (each ns n x ≡ 0)) ⊎ ((each ns n 1 ≡ 1) × (each ns n x ≡ x))
        → ((0 + each ns n 1 ≡ 0) × (0 + each ns n x ≡ 0)) ⊎ ((0 + each ns n 1 ≡ 1) × (0 + each ns n x ≡ x))
    go (inl p) = inl (omega (arith, p.0), omega (arith, p.1))
    go (inr p) = inr (omega (arith, p.0), omega (arith, p.1))

-- all that is below costs less

lower_zero : (names ns : List ℕ) → lower names ns 0 ≡ 0
lower_zero names [] = refl
lower_zero names (m ∷ ns) = let a : (m <? 0) ≡ false = le-ltb m 0 (omega arith) in rw a (omega (arith, lower_zero names ns))

cost_pos : (names : List ℕ) (n : ℕ) → 1 ≤ cost names n
unfolding cost
cost_pos names n = pow_pos (below names n)

cost_same : (names : List ℕ) (n m : ℕ) → below names n ≡ below names m → cost names n ≡ cost names m
unfolding cost
cost_same names n m e = ap (λ (k : ℕ). 2 ^ k) e

cost_twice : (names : List ℕ) (n m : ℕ) → below names n ≡ suc (below names m) → cost names n ≡ cost names m + cost names m
unfolding cost
cost_twice names n m e = ap (λ (k : ℕ). 2 ^ k) e ∙ pow-suc 2 (below names m) ∙ omega arith

pub lower_less : (names : List ℕ) → Differ names → (n : ℕ) → lower names names n + 1 ≤ cost names n
lower_less names d zero = omega (arith, lower_zero names names, cost_pos names 0)
lower_less names d (suc n) = go (lower_less names d n) (each_once names n (cost names n) d)
  where
    go : lower names names n + 1 ≤ cost names n
        → ((each names n 1 ≡ 0) × (each names n (cost names n) ≡ 0)) ⊎ ((each names n 1 ≡ 1) × (each names n (cost names n) ≡ cost names n))
        → lower names names (suc n) + 1 ≤ cost names (suc n)
    go h (inl p) =
        let e : cost names (suc n) ≡ cost names n = cost_same names (suc n) n (omega (arith, below_suc names n, p.0)) in
        omega (arith, h, e, lower_suc names names n, p.1)
    go h (inr p) =
        let e : cost names (suc n) ≡ cost names n + cost names n =
        cost_twice names (suc n) n (omega (arith, below_suc names n, p.0)) in
        omega (arith, h, e, lower_suc names names n, p.1)

-- and one claim of each costs less than two to the power of their number

abbrev pub total : List ℕ → List ℕ → ℕ
total names [] = 0
total names (m ∷ ns) = cost names m + total names ns

all_lower : (names ns : List ℕ) (n : ℕ) → ((i : ℕ) → i < length ns → get_or ns i 0 < n)
    → (lower names ns n ≡ total names ns) × (below ns n ≡ length ns)
all_lower names [] n f = (refl, refl)
all_lower names (m ∷ ns) n f =
    let a : (m <? n) ≡ true = lt-ltb m n (f 0 (omega arith)) in
    let r = all_lower names ns n (λ i h. f (suc i) (omega arith)) in
    (rw a (omega (arith, r.0)), rw a (omega (arith, r.1)))

cost_all : (names : List ℕ) (n : ℕ) → below names n ≡ length names → cost names n ≡ 2 ^ length names
unfolding cost
cost_all names n e = ap (λ (k : ℕ). 2 ^ k) e

pub total_less : (names : List ℕ) → Differ names → (n : ℕ) → ((i : ℕ) → i < length names → get_or names i 0 < n)
    → total names names + 1 ≤ 2 ^ length names
total_less names d n f =
    let r = all_lower names names n f in
    let e = cost_all names n r.1 in
    rw (← e, ← r.0) (lower_less names d n)

-- a claim of whichever NAME costs at most that much

below_most : (ns : List ℕ) (n : ℕ) → below ns n ≤ length ns
below_most [] n = omega arith
below_most (m ∷ ns) n =
    by_test (m <? n)
    (λ t. rw t (omega (arith, below_most ns n)))
    (λ t. rw t (omega (arith, below_most ns n)))

pub cost_most : (names : List ℕ) (n : ℕ) → cost names n ≤ 2 ^ length names
unfolding cost
cost_most names n = pow_mono (below_most names n)
