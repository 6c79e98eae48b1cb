-- What a claim and a pause keep of a whole table: its rules, its length, and what is past the addresses.
-- Assumes nothing.
use mathlib.Core.Path.{◌≡◌, refl, sym, ap, ◌∙◌, subst}
use mathlib.Core.Bool.{true, false}
use mathlib.Core.List.{List, ◌++◌}
use mathlib.Core.Logic.{◌⊎◌, inl, inr}
use Prim.Native.Nat.{ℕ, ◌<◌, ◌≤◌}
use native.Mathlib.Nat.{zero-add}
use native.Mathlib.Omega.{arith}
use lib.ListN.{length, get_or, take, drop, length-take}
use lib.Dec.{eqb}
use borrow.Author.Tests.{eqb-true, eqb-false}
use Rattle.words.proofs.Words.{by_test}
use Rattle.nodes.specs.Table.{addresses, absent, held, has_name, has_challenger, unchallenged_of, gives_way}
use Rattle.nodes.specs.Table.{may_challenge, cleared_of, entered_of, stands, claimed_at, paused_at, each_from}
use Rattle.nodes.specs.Table.{claimed_of, paused_of, keeps_rules}
use Rattle.nodes.specs.Laws.{Rules, NameOnce, TakenByLower}
use Rattle.nodes.specs.declared.Node.{Node}
use Rattle.nodes.specs.declared.Claim.{Claim}
use Rattle.nodes.proofs.Each.{each_length, each_inside, take_each, drop_each, each_front}
use Rattle.nodes.proofs.Find.{get_d_front, front_length}
use Rattle.nodes.proofs.Sound.{Facts, name_of, rules_of, of_rules, rules_facts, facts_at, cleared_challenger}
use Rattle.nodes.proofs.Sound.{cleared_none, entered_taken, entered_challenges, entered_not, present_gives}
use Rattle.nodes.proofs.Sound.{elsewhere, here_other, claimed_facts, claimed_stands, paused_facts, paused_stands}

-- ---- over any number of records

-- What an event makes of each record keeps the rules, if it keeps each record sound, and whoever stands in a record
-- after it is newly there, which can be said of one record only, or stood there and is nobody who is new.
module _ (g : ℕ → Node → Node) (New : ℕ → ℕ → Type 0) (Other : ℕ → Type 0)
    (same : (m a b : ℕ) → New m a → New m b → a ≡ b) (clash : (m a : ℕ) → New m a → Other m → ⊥)
    (sound : (a : ℕ) (n : Node) → Facts n → Facts (g a n))
    (origin : (m a : ℕ) (n : Node) → Facts n → stands m (g a n) ≡ true
    → New m a ⊎ (Other m × (stands m n ≡ true))) where
  pub done_at : (k : ℕ) (ns : List Node) (a : ℕ) → a < k → a < length ns
      → get_or (each_from g k 0 ns) a absent ≡ g a (get_or ns a absent)
  done_at k ns a h l = each_inside g k 0 ns absent a h l ∙ ap (λ (i : ℕ). g i (get_or ns a absent)) (zero-add a)

  module _ (k : ℕ) (ns : List Node) (short : length ns ≤ k) (rules : Rules ns) where
    abbrev out : ℕ → Node
    out a = get_or (each_from g k 0 ns) a absent

    out_at : (a : ℕ) → a < length ns → out a ≡ g a (get_or ns a absent)
    out_at a l = done_at k ns a (omega arith) l

    in_facts : (a : ℕ) → a < length ns → Facts (get_or ns a absent)
    in_facts a l = rules_facts ns rules a l

    out_facts : (a : ℕ) → a < length ns → Facts (out a)
    out_facts a l = subst Facts (sym (out_at a l)) (sound a (get_or ns a absent) (in_facts a l))

    out_origin : (m a : ℕ) → a < length ns → stands m (out a) ≡ true
        → New m a ⊎ (Other m × (stands m (get_or ns a absent) ≡ true))
    out_origin m a l s = origin m a (get_or ns a absent) (in_facts a l) (sym (ap (stands m) (out_at a l)) ∙ s)

    one_by : (m a b : ℕ) → a < length ns → b < length ns
        → New m a ⊎ (Other m × (stands m (get_or ns a absent) ≡ true))
        → New m b ⊎ (Other m × (stands m (get_or ns b absent) ≡ true))
        → a ≡ b
    one_by m a b l h (inl x) (inl y) = same m a b x y
    one_by m a b l h (inl x) (inr y) = absurd (clash m a x y.0)
    one_by m a b l h (inr x) (inl y) = absurd (clash m b y x.0)
    one_by m a b l h (inr x) (inr y) = rules.one_each m a b l h x.1 y.1

    was_short : (a : ℕ) → a < length (each_from g k 0 ns) → a < length ns
    was_short a l = omega (arith, each_length g k 0 ns)

    each_rules : Rules (each_from g k 0 ns)
    each_rules =
        record {
          absent_zeros = λ a l. (out_facts a (was_short a l)).absent_zeros;
          challenger_above = λ a l. (out_facts a (was_short a l)).above;
          wait_below = λ a l. (out_facts a (was_short a l)).below;
          missing_zeros = λ a l. (out_facts a (was_short a l)).missing;
          one_each = λ m a b l h p q.
              one_by m a b (was_short a l) (was_short b h) (out_origin m a (was_short a l) p)
              (out_origin m b (was_short b h) q);
        }

  take_short : (k : ℕ) (ns : List Node) → length (take k ns) ≤ k
  take_short k ns = simp length-take (omega arith)

  pub each_keeps : (k : ℕ) (ns : List Node) → keeps_rules (take k ns) ≡ true
      → keeps_rules (take k (each_from g k 0 ns)) ≡ true
  each_keeps k ns e =
      rw (take_each g k 0 ns) (of_rules _ (each_rules k (take k ns) (take_short k ns) (rules_of (take k ns) e)))

-- ---- a claim, over the addresses

module _ (claim : Claim) (table : List Node) where
  pub claimed_length : length (claimed_of claim table) ≡ length table
  unfolding claimed_of
  claimed_length = each_length (claimed_at claim) addresses 0 table

  pub claimed_past : drop addresses (claimed_of claim table) ≡ drop addresses table
  unfolding claimed_of
  claimed_past = drop_each (claimed_at claim) addresses 0 table

  pub claimed_front : take addresses (claimed_of claim table) ≡ each_from (claimed_at claim) addresses 0
      (take addresses table)
  unfolding claimed_of
  claimed_front = take_each (claimed_at claim) addresses 0 table

  -- the pass over the records of the addresses leaves the whole table so
  pub claimed_whole : claimed_of claim (take addresses table) ++ drop addresses table ≡ claimed_of claim table
  unfolding claimed_of
  claimed_whole = each_front (claimed_at claim) addresses 0 table

  pub claimed_keeps : keeps_rules (take addresses table) ≡ true
      → keeps_rules (take addresses (claimed_of claim table)) ≡ true
  unfolding claimed_of
  claimed_keeps e =
      each_keeps (claimed_at claim) (λ m a. (m ≡ claim.name) × (a ≡ claim.source)) (λ m. m ≡ claim.name → ⊥)
      (λ m a b x y. x.1 ∙ sym y.1) (λ m a x o. o x.0) (λ a n f. claimed_facts claim a n f)
      (λ m a n f s. claimed_stands claim a n f m s) addresses table e

  pub claimed_at_lem : addresses ≤ length table → (a : ℕ) → a < addresses
      → get_or (claimed_of claim table) a absent ≡ claimed_at claim a (get_or table a absent)
  unfolding claimed_of
  claimed_at_lem enough a h =
      each_inside (claimed_at claim) addresses 0 table absent a h (omega arith)
      ∙ ap (λ (i : ℕ). claimed_at claim i (get_or table a absent)) (zero-add a)

-- the facts of a record of a table that keeps its rules
facts_in : (k : ℕ) (table : List Node) → k ≤ length table → keeps_rules (take k table) ≡ true → (a : ℕ) → a < k
    → Facts (get_or table a absent)
facts_in k table enough keeps a h =
    let l : a < length (take k table) = omega (arith, front_length k table enough) in
    subst Facts (get_d_front k a table h) (facts_at (take k table) keeps a l)

pub facts_here : (table : List Node) → addresses ≤ length table → keeps_rules (take addresses table) ≡ true → (a : ℕ)
    → a < addresses → Facts (get_or table a absent)
facts_here table enough keeps a h = facts_in addresses table enough keeps a h

once_by : (claim : Claim) (a : ℕ) (n : Node)
    → ((claim.name ≡ claim.name) × (a ≡ claim.source)) ⊎ ((claim.name ≡ claim.name
    → ⊥) × (stands claim.name n ≡ true))
    → a ≡ claim.source
once_by claim a n (inl x) = x.1
once_by claim a n (inr x) = absurd (x.0 refl)

pub name_once : NameOnce
name_once claim table enough keeps a h s =
    let n = get_or table a absent in
    once_by claim a n (claimed_stands claim a n (facts_here table enough keeps a h) claim.name
    (sym (ap (stands claim.name) (claimed_at_lem claim table enough a h)) ∙ s))

-- ---- whoever holds a record, and is not the claimer

module _ (name : ℕ) (n : Node) (p : n.present ≡ true) (d : n.name ≡ name → ⊥) where
  abbrev Still : Node → Type 0
  Still m = (m.present ≡ true) × (m.name ≡ n.name)

  not_holder : has_name name n ≡ false
  not_holder = by_test (has_name name n) (λ h. absurd (d (name_of name n h).1)) (λ h. h)

  unchallenged_still : Still (unchallenged_of n)
  unfolding unchallenged_of
  unchallenged_still = (p, refl)

  pub cleared_still : Still (cleared_of name n)
  cleared_still =
      by_test (has_challenger name n)
      (λ c. subst Still (sym (cleared_challenger name n not_holder c)) unchallenged_still)
      (λ c. subst Still (sym (cleared_none name n not_holder c)) (p, refl))

  pub entered_still : (m : Node) → Still m
      → Still (entered_of name m) ⊎ ((name < n.name) × (entered_of name m ≡ held name))
  entered_still m s =
      by_test (gives_way name m)
      (λ g. let l : name < m.name = present_gives name m s.0 g in
      inr (omega (arith, l, s.1), entered_taken name m g))
      (λ g. by_test (may_challenge name m)
      (λ c. inl (subst Still (sym (entered_challenges name m g c)) s))
      (λ c. inl (subst Still (sym (entered_not name m g c)) s)))

pub taken_by_lower : TakenByLower
taken_by_lower claim table enough a h p d =
    let n = get_or table a absent in
    let at = claimed_at_lem claim table enough a h in
    by_test (eqb a claim.source)
    (λ t. let e = eqb-true a claim.source t in
    lower e (here_other claim a n e (not_holder claim.name n p d))
    (entered_still claim.name n p d (cleared_of claim.name n) (cleared_still claim.name n p d)))
    (λ t. inl (subst (Still claim.name n p d) (sym (at
    ∙ elsewhere claim a n (eqb-false _ _ t))) (cleared_still claim.name n p d)))
  where
    n : Node
    n = get_or table a absent

    after : Node
    after = get_or (claimed_of claim table) a absent

    lower : a ≡ claim.source → claimed_at claim a n ≡ entered_of claim.name (cleared_of claim.name n)
        → Still claim.name n p d (entered_of claim.name (cleared_of claim.name n))
        ⊎ ((claim.name < n.name) × (entered_of claim.name (cleared_of claim.name n) ≡ held claim.name))
        → ((after.present ≡ true) × (after.name ≡ n.name))
        ⊎ ((a ≡ claim.source) × (claim.name < n.name) × (after ≡ held claim.name))
    lower e k (inl x) = inl (subst (Still claim.name n p d) (sym (claimed_at_lem claim table enough a h ∙ k)) x)
    lower e k (inr x) = inr (e, x.0, claimed_at_lem claim table enough a h ∙ k ∙ x.1)

-- ---- a pause, over the addresses

module _ (ms : ℕ) (table : List Node) where
  pub paused_length : length (paused_of ms table) ≡ length table
  unfolding paused_of
  paused_length = each_length (λ a. paused_at ms) addresses 0 table

  pub paused_past : drop addresses (paused_of ms table) ≡ drop addresses table
  unfolding paused_of
  paused_past = drop_each (λ a. paused_at ms) addresses 0 table

  pub paused_front : take addresses (paused_of ms table) ≡ each_from (λ a. paused_at ms) addresses 0 (take addresses table)
  unfolding paused_of
  paused_front = take_each (λ a. paused_at ms) addresses 0 table

  pub paused_whole : paused_of ms (take addresses table) ++ drop addresses table ≡ paused_of ms table
  unfolding paused_of
  paused_whole = each_front (λ a. paused_at ms) addresses 0 table

  pub paused_keeps : keeps_rules (take addresses table) ≡ true → keeps_rules (take addresses (paused_of ms table)) ≡ true
  unfolding paused_of
  paused_keeps e =
      each_keeps (λ a. paused_at ms) (λ m a. ⊥) (λ m. Unit) (λ m a b x y. absurd x) (λ m a x o. x)
      (λ a n f. paused_facts ms n f) (λ m a n f s. inr (tt, paused_stands ms n m s)) addresses table e

  pub paused_at_lem : addresses ≤ length table → (a : ℕ) → a < addresses
      → get_or (paused_of ms table) a absent ≡ paused_at ms (get_or table a absent)
  unfolding paused_of
  paused_at_lem enough a h = each_inside (λ i. paused_at ms) addresses 0 table absent a h (omega arith)
