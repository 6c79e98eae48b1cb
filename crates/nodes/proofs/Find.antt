-- The search for a NAME: what it finds in a table that keeps the rules.
-- Assumes nothing.
use Rattle.std.specs.Prelude.{Option, Some, None}
use mathlib.Core.Path.{◌≡◌, refl, sym, ap, ◌∙◌}
use mathlib.Core.Bool.{true}
use mathlib.Core.List.{List}
use Prim.Native.Nat.{ℕ, ◌<◌, ◌≤◌}
use native.Mathlib.Omega.{arith}
use lib.ListN.{length, get_or, take, length-take}
use lib.Dec.{ltb}
use lib.Seq.{get_or-take}
use borrow.Author.Tests.{ltb-true, ltb-false}
use Rattle.words.specs.Words.{Told, gives}
use Rattle.words.specs.Lists.{first}
use Rattle.frame.specs.Standard.{greatest_address}
use Rattle.words.proofs.Words.{gives_same, true_false, by_test}
use Rattle.words.proofs.Lists.{found_at as first_at, found_nowhere as first_none}
use Rattle.nodes.specs.Table.{addresses, absent, has_name, stands, keeps_rules}
use Rattle.nodes.specs.Call.{Holder, nobody, holder, holder_of, looked_up_of, found_of}
use Rattle.nodes.specs.Laws.{Rules, Holds, FoundThere, FoundNowhere, FoundShown}
use Rattle.nodes.specs.declared.Node.{Node}
use Rattle.nodes.proofs.Call.{table_passes, table_sound, holder_past, holder_at_lem}
use Rattle.nodes.proofs.Sound.{has_name_of, name_of, stands_holder, rules_of}

-- ---- what is found, among any records

module _ (name : ℕ) (rs : List Node) where
  abbrev In : ℕ → Type 0
  In a = (a < length rs) × ((get_or rs a absent).present ≡ true) × ((get_or rs a absent).name ≡ name)

  in_of : (a : ℕ) → first (has_name name) rs ≡ Some a → In a
  in_of a e =
      let f = first_at a (has_name name) rs absent e in
      let p = name_of name (get_or rs a absent) f.passes in
      (f.below, p.0, p.1)

  none_in : first (has_name name) rs ≡ None → (a : ℕ) → In a → ⊥
  none_in e a i =
      let has = has_name_of name (get_or rs a absent) i.1 i.2 in
      true_false (sym has ∙ first_none (has_name name) rs absent e a i.0)

  of_none : ((a : ℕ) → In a → ⊥) → (w : Option ℕ) → first (has_name name) rs ≡ w → w ≡ None
  of_none h None e = refl
  of_none h (Some b) e = absurd (h b (in_of b e))

  of_in : Rules rs → (a : ℕ) → In a → (w : Option ℕ) → first (has_name name) rs ≡ w → w ≡ Some a
  of_in rules a i None e = absurd (none_in e a i)
  of_in rules a i (Some b) e =
      let j = in_of b e in
      ap Some (rules.one_each name b a j.0 i.0 (standing b j) (standing a i))
    where
      standing : (x : ℕ) → In x → stands name (get_or rs x absent) ≡ true
      standing x k =
          stands_holder name (get_or rs x absent) (has_name_of name (get_or rs x absent) k.1 k.2)

-- ---- in a table, of whose records the first n are looked at

pub get_d_front : (n a : ℕ) (ns : List Node) → a < n → get_or (take n ns) a absent ≡ get_or ns a absent
get_d_front n a ns h = rw get_or-take

pub front_length : (n : ℕ) (ns : List Node) → n ≤ length ns → length (take n ns) ≡ n
front_length n ns h = simp (length-take) (omega arith)

module _ (n : ℕ) (table : List Node) (name : ℕ) (enough : n ≤ length table) where
  abbrev HoldsIn : ℕ → Type 0
  HoldsIn a = (a < n) × ((get_or table a absent).present ≡ true) × ((get_or table a absent).name ≡ name)

  in_front : (a : ℕ) → HoldsIn a → In name (take n table) a
  in_front a h =
      let same = get_d_front n a table h.0 in
      let l : a < length (take n table) = omega (arith, front_length n table enough, h.0) in
      (l, ap (λ (m : Node). m.present) same ∙ h.1, ap (λ (m : Node). m.name) same ∙ h.2)

  of_front : (a : ℕ) → In name (take n table) a → HoldsIn a
  of_front a i =
      let l : a < n = omega (arith, front_length n table enough, i.0) in
      let same = get_d_front n a table l in
      (l, sym (ap (λ (m : Node). m.present) same) ∙ i.1, sym (ap (λ (m : Node). m.name) same) ∙ i.2)

module _ (table : List Node) (name : ℕ) (enough : addresses ≤ length table)
    (keeps : keeps_rules (take addresses table) ≡ true) where
  abbrev rs : List Node
  rs = take addresses table

  abbrev sought : Option ℕ
  sought = first (has_name name) rs

  found_is : found_of table name ≡ gives sought
  found_is = table_passes table (gives sought) enough keeps

  there_holds : (a : ℕ) → found_of table name ≡ gives (Some a) → Holds table name a
  there_holds a e = of_front addresses table name enough a (in_of name rs a (gives_same (sym found_is ∙ e)))

  holds_there : (a : ℕ) → Holds table name a → found_of table name ≡ gives (Some a)
  holds_there a h =
      found_is ∙ ap gives (of_in name rs (rules_of rs keeps) a (in_front addresses table name enough a h) sought refl)

  nowhere_none : found_of table name ≡ gives None → (a : ℕ) → Holds table name a → ⊥
  nowhere_none e a h = none_in name rs (gives_same (sym found_is ∙ e)) a (in_front addresses table name enough a h)

  none_nowhere : ((a : ℕ) → Holds table name a → ⊥) → found_of table name ≡ gives None
  none_nowhere h =
      found_is ∙ ap gives (of_none name rs (λ a i. h a (of_front addresses table name enough a i)) sought refl)

pub found_there : FoundThere
found_there table name a enough keeps = (there_holds table name enough keeps a, holds_there table name enough keeps a)

pub found_nowhere : FoundNowhere
found_nowhere table name enough keeps = (nowhere_none table name enough keeps, none_nowhere table name enough keeps)

-- ---- what is found is looked up, and what is looked up is found

pub holder_held : (n : Node) → n.present ≡ true → holder_of n ≡ holder n.name
unfolding holder_of
holder_held n p = rw p

pub holder_of_lem : (n : Node) (name : ℕ) → holder_of n ≡ holder name → (n.present ≡ true) × (n.name ≡ name)
unfolding holder_of
holder_of_lem n name e =
    by_test n.present (λ p. (p, same (rw p at e))) (λ p. absurd (differ (rw p at e)))
  where
    same : holder n.name ≡ holder name → n.name ≡ name
    same e = cc

    differ : nobody ≡ holder name → ⊥
    differ e = let z : ◌≡◌ {A = ℕ} 0 1 = cc in omega arith

module _ (table : List Node) (a : ℕ) (enough : addresses ≤ length table)
    (keeps : keeps_rules (take addresses table) ≡ true) where
  pub looked_past : greatest_address < a → looked_up_of table a ≡ gives nobody
  looked_past h = table_passes table _ enough keeps ∙ ap gives (holder_past (take addresses table) a h)

  pub looked_at : a ≤ greatest_address → looked_up_of table a ≡ gives (holder_of (get_or (take addresses table) a absent))
  looked_at h = table_passes table _ enough keeps ∙ ap gives (holder_at_lem (take addresses table) a h)

module _ (table : List Node) (name a : ℕ) where
  abbrev looked_in : Told Holder
  looked_in = looked_up_of table a

  shown : found_of table name ≡ gives (Some a) → looked_in ≡ gives (holder name)
  shown e =
      let s = table_sound table _ e in
      let h = there_holds table name s.0 s.1 a (found_is table name s.0 s.1 ∙ s.2) in
      let l : a ≤ greatest_address = omega (arith, h.0) in
      looked_at table a s.0 s.1 l
      ∙ ap (λ (n : Node). gives (holder_of n)) (get_d_front addresses a table h.0)
      ∙ ap gives (holder_held (get_or table a absent) h.1 ∙ ap holder h.2)

  refound : looked_in ≡ gives (holder name) → found_of table name ≡ gives (Some a)
  refound e =
      let s = table_sound table _ e in
      by_test (ltb greatest_address a)
      (λ t. absurd (differ (sym (looked_past table a s.0 s.1 (ltb-true _ _ t)) ∙ e)))
      (λ t. let l : a ≤ greatest_address = ltb-false _ _ t in
      let h : a < addresses = omega arith in
      let k = looked_at table a s.0 s.1 l
      ∙ ap (λ (n : Node). gives (holder_of n)) (get_d_front addresses a table h) in
      let p = holder_of_lem (get_or table a absent) name (gives_same (sym k ∙ e)) in
      holds_there table name s.0 s.1 a (h, p.0, p.1))
    where
      differ : ◌≡◌ {A = Told Holder} (gives nobody) (gives (holder name)) → ⊥
      differ e = let z : ◌≡◌ {A = ℕ} 0 1 = cc in omega arith

pub found_shown : FoundShown
found_shown table name a = (shown table name a, refound table name a)
