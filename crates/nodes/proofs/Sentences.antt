-- What a claim makes of a sound record, sentence by sentence; and what a pause counts of it.
-- Assumes nothing.
use mathlib.Core.Path.{◌≡◌, refl, sym, ap, ◌∙◌}
use mathlib.Core.Bool.{true, false}
use mathlib.Core.Logic.{inl, inr}
use Prim.Native.Nat.{ℕ, ◌+◌, ◌<◌, ◌≤◌}
use native.Mathlib.Omega.{arith}
use lib.Dec.{ltb}
use borrow.Author.Tests.{ltb-true, ltb-false, lt-leb, le-leb}
use Rattle.words.proofs.Words.{true_false, by_test}
use Rattle.nodes.specs.Table.{takes_after, held, challenged, unchallenged_of, has_name, is_challenged, has_challenger}
use Rattle.nodes.specs.Table.{gives_way, cleared_of, entered_of, is_replaced}
use Rattle.nodes.specs.Laws.{EverySentence, ReplacedCounts}
use Rattle.nodes.specs.declared.Node.{Node}
use Rattle.nodes.specs.declared.Claim.{Claim}
use Rattle.nodes.proofs.Sound.{Facts, facts_of, name_of, above_zero, challenger_of_lem, stands_not}
use Rattle.nodes.proofs.Sound.{vacated_challenged, vacated_alone, cleared_holder, cleared_challenger}
use Rattle.nodes.proofs.Sound.{cleared_none, entered_taken, entered_challenges, entered_not, gives_absent}
use Rattle.nodes.proofs.Sound.{gives_lower, gives_not, may_alone, may_lower, may_not, unchallenged_alone}
use Rattle.nodes.proofs.Sound.{elsewhere, here, holder_entered, paused_alone, paused_waits, paused_takes}

-- a NAME that is not in a record
module _ (name : ℕ) (n : Node) where
  pub no_holder : (n.name ≡ name → ⊥) → has_name name n ≡ false
  no_holder d = by_test (has_name name n) (λ h. absurd (d (name_of name n h).1)) (λ h. h)

  pub no_challenger : (is_challenged n ≡ true → n.challenger ≡ name → ⊥) → has_challenger name n ≡ false
  no_challenger d =
      by_test (has_challenger name n) (λ h. let k = challenger_of_lem name n h in absurd (d k.0 k.1)) (λ h. h)

-- a challenged record is present
pub challenged_present : (n : Node) → Facts n → is_challenged n ≡ true → n.present ≡ true
challenged_present n f e =
    by_test n.present (λ p. p)
    (λ p. let k : n.challenger ≡ 0 = ap (λ (m : Node). m.challenger) (f.absent_zeros p) in
    absurd (omega (arith, above_zero n e, k)))

module _ (claim : Claim) (a : ℕ) (n : Node) (f : Facts n) where
  abbrev name : ℕ
  name = claim.name

  abbrev m : Node
  m = cleared_of name n

  repeated : has_name name n ≡ true → entered_of name m ≡ held name
  repeated h = holder_entered claim a n f h

  -- a challenger is not the holder
  other_holder : has_challenger name n ≡ true → has_name name n ≡ false
  other_holder c =
      let k = challenger_of_lem name n c in
      let l : n.name < n.challenger = f.above k.0 in
      no_holder name n (λ h. omega (arith, k.1, l, h))

  challenged_anew : challenged name 0 (unchallenged_of n) ≡ challenged name 0 n
  unfolding unchallenged_of
  challenged_anew = refl

  unchallenged_stays : ((unchallenged_of n).present ≡ n.present) × ((unchallenged_of n).name ≡ n.name)
  unfolding unchallenged_of
  unchallenged_stays = (refl, refl)

  entered_anew : has_challenger name n ≡ true → entered_of name m ≡ challenged name 0 n
  entered_anew c =
      let k = challenger_of_lem name n c in
      let l : n.name < n.challenger = f.above k.0 in
      let p = unchallenged_stays.0 ∙ challenged_present n f k.0 in
      let e : (unchallenged_of n).name ≤ name = omega (arith, unchallenged_stays.1, k.1, l) in
      ap (entered_of name) (cleared_challenger name n (other_holder c) c)
      ∙ entered_challenges name (unchallenged_of n) (gives_not name (unchallenged_of n) p e)
      (may_alone name (unchallenged_of n) (unchallenged_alone name n))
      ∙ challenged_anew

  absent_enters : n.present ≡ false → entered_of name m ≡ held name
  absent_enters p =
      let z = f.absent_zeros p in
      let h = by_test (has_name name n) (λ h. true_false (sym (name_of name n h).0 ∙ p)) (λ h. h) in
      let c = no_challenger name n (λ e k. let o : n.challenger ≡ 0 = ap (λ (x : Node). x.challenger) z in omega
      (arith, above_zero n e, o)) in
      ap (entered_of name) (cleared_none name n h c) ∙ entered_taken name n (gives_absent name n p)

  lower_enters : name < n.name → entered_of name m ≡ held name
  lower_enters l =
      let h = no_holder name n (λ e. omega (arith, e)) in
      let c = no_challenger name n (λ e k. let b : n.name < n.challenger = f.above e in omega (arith, k, b)) in
      ap (entered_of name) (cleared_none name n h c) ∙ entered_taken name n (gives_lower name n l)

  -- above the holder, and not the challenger: what is cleared is nothing
  module _ (p : n.present ≡ true) (l : n.name < name) (d : is_challenged n ≡ true → n.challenger ≡ name → ⊥) where
    cleared_nothing : m ≡ n
    cleared_nothing = cleared_none name n (no_holder name n (λ e. omega (arith, e))) (no_challenger name n d)

    holds_on : gives_way name n ≡ false
    holds_on = let h : n.name ≤ name = omega arith in gives_not name n p h

pub every_sentence : EverySentence
every_sentence claim a n s =
    let f = facts_of n s in
    record {
      repeats = λ e h. here claim a n f e ∙ repeated claim a n f h;
      handed_over = λ e h c. elsewhere claim a n e ∙ cleared_holder claim.name n h
          ∙ vacated_challenged claim.name n c;
      left = λ e h c. elsewhere claim a n e ∙ cleared_holder claim.name n h ∙ vacated_alone claim.name n c;
      withdrawn = λ e c. elsewhere claim a n e ∙ cleared_challenger claim.name n (other_holder claim a n f c) c;
      anew = λ e c. here claim a n f e ∙ entered_anew claim a n f c;
      takes_absent = λ e p. here claim a n f e ∙ absent_enters claim a n f p;
      takes = λ e l. here claim a n f e ∙ lower_enters claim a n f l;
      first = λ e p l c.
          let d : is_challenged n ≡ true → n.challenger ≡ claim.name → ⊥ = λ t k. true_false (sym t ∙ c) in
          here claim a n f e ∙ ap (entered_of claim.name) (cleared_nothing claim a n f p l d)
          ∙ entered_challenges claim.name n (holds_on claim a n f p l d) (may_alone claim.name n c);
      instead = λ e p l c b.
          let d : is_challenged n ≡ true → n.challenger ≡ claim.name → ⊥ = λ t k. omega (arith, k) in
          here claim a n f e ∙ ap (entered_of claim.name) (cleared_nothing claim a n f p l d)
          ∙ entered_challenges claim.name n (holds_on claim a n f p l d) (may_lower claim.name n b);
      ignored = λ e p l c b.
          let d : is_challenged n ≡ true → n.challenger ≡ claim.name → ⊥ = λ t k. omega (arith, k) in
          let h : n.challenger ≤ claim.name = omega arith in
          here claim a n f e ∙ ap (entered_of claim.name) (cleared_nothing claim a n f p l d)
          ∙ entered_not claim.name n (holds_on claim a n f p l d) (may_not claim.name n c h);
      untouched = λ e t. let k = stands_not claim.name n t in elsewhere claim a n e
          ∙ cleared_none claim.name n k.0 k.1;
    }

-- ---- a pause

module _ (ms : ℕ) (n : Node) where
  pub counts_none : is_challenged n ≡ false → is_replaced ms n ≡ false
  unfolding is_replaced
  counts_none e = rw e

  pub counts_waiting : is_challenged n ≡ true → n.wait + ms < takes_after → is_replaced ms n ≡ false
  unfolding is_replaced
  counts_waiting e l = rw (e, lt-leb _ _ l)

  pub counts_one : is_challenged n ≡ true → takes_after ≤ n.wait + ms → is_replaced ms n ≡ true
  unfolding is_replaced
  counts_one e l = rw (e, le-leb _ _ l)

pub replaced_counts : ReplacedCounts
replaced_counts ms n s =
    by_test (is_challenged n)
    (λ e. by_test (ltb (n.wait + ms) takes_after)
    (λ t. let l = ltb-true _ _ t in
    let k = paused_waits ms n e l in
    inr (counts_waiting ms n e l, ap (λ (m : Node). m.present) k, ap (λ (m : Node). m.name) k))
    (λ t. let l = ltb-false _ _ t in inl (counts_one ms n e l, paused_takes ms n e l, (facts_of n s).above e)))
    (λ e. let k = paused_alone ms n e in
    inr (counts_none ms n e, ap (λ (m : Node). m.present) k, ap (λ (m : Node). m.name) k))
