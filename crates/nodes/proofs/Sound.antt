-- The rules of a table, said of its records one by one; and what a claim and a pause keep of one sound record.
-- Assumes nothing.
use mathlib.Core.Path.{◌≡◌, refl, sym, ap, ◌∙◌, subst}
use mathlib.Core.Bool.{Bool, true, false, not}
use mathlib.Core.List.{List, [], ◌∷◌}
use mathlib.Core.Logic.{◌⊎◌, inl, inr}
use Prim.Native.Nat.{ℕ, zero, suc, ◌+◌, ◌<◌, ◌≤◌}
use native.Mathlib.Nat.{not-suc-le-zero, le_of_suc-le-suc}
use native.Mathlib.Omega.{arith}
use lib.ListN.{length, get_or}
use lib.Dec.{ltb, leb, eqb}
use borrow.Author.Tests.{eqb-true, eqb-false, ltb-true, ltb-false, leb-false, eq-eqb, ne_eqb, lt-ltb, lt-leb, le-ltb}
use borrow.Author.Tests.{not-false}
use Rattle.words.specs.Words.{◌and◌, ◌or◌}
use Rattle.words.specs.Lists.{any, every, no_two}
use Rattle.words.proofs.Words.{both_true, true_false, by_test}
use Rattle.nodes.specs.Table.{takes_after, absent, held, challenged, unchallenged_of, has_name, is_challenged}
use Rattle.nodes.specs.Table.{has_challenger, stands, gives_way, may_challenge, vacated_of, cleared_of, entered_of}
use Rattle.nodes.specs.Table.{claimed_here, claimed_at, paused_at, sound_challenge, sound_record, shares_name}
use Rattle.nodes.specs.Table.{keeps_rules}
use Rattle.nodes.specs.Laws.{Rules}
use Rattle.nodes.specs.declared.Node.{Node}
use Rattle.nodes.specs.declared.Claim.{Claim}
use Rattle.nodes.proofs.Rules.{sound_present, again_is}

-- ---- words

or_false : (a b : Bool) → a or b ≡ false → (a ≡ false) × (b ≡ false)
or_false true b e = true_false e
or_false false b e = (refl, e)

or_right : (a : Bool) {c : Bool} → c ≡ true → a or c ≡ true
or_right true e = refl
or_right false e = e

not_both : (b : Bool) → not b ≡ true → b ≡ false
not_both true e = true_false (sym e)
not_both false e = refl

-- ---- who stands in a record

-- a record has a NAME when it is present with it
pub has_name_of : (name : ℕ) (n : Node) → n.present ≡ true → n.name ≡ name → has_name name n ≡ true
unfolding has_name
has_name_of name n p e = rw (p, eq-eqb _ _ e)

pub name_of : (name : ℕ) (n : Node) → has_name name n ≡ true → (n.present ≡ true) × (n.name ≡ name)
unfolding has_name
name_of name n e = let b = both_true n.present (eqb n.name name) e in (b.0, eqb-true n.name name b.1)

pub not_name_of : (name : ℕ) (n : Node) → has_name name n ≡ false → n.present ≡ true → n.name ≡ name → ⊥
not_name_of name n e p s = true_false (sym (has_name_of name n p s) ∙ e)

pub challenged_of : (n : Node) → 0 < n.challenger → is_challenged n ≡ true
unfolding is_challenged
challenged_of n l = lt-ltb _ _ l

pub above_zero : (n : Node) → is_challenged n ≡ true → 0 < n.challenger
unfolding is_challenged
above_zero n e = ltb-true 0 n.challenger e

pub zero_of : (n : Node) → is_challenged n ≡ false → n.challenger ≡ 0
unfolding is_challenged
zero_of n e = let h : n.challenger ≤ 0 = ltb-false 0 n.challenger e in omega arith

pub of_zero : (n : Node) → n.challenger ≡ 0 → is_challenged n ≡ false
unfolding is_challenged
of_zero n e = let h : n.challenger ≤ 0 = omega (arith, e) in le-ltb _ _ h

pub has_challenger_of : (name : ℕ) (n : Node) → is_challenged n ≡ true → n.challenger ≡ name
    → has_challenger name n ≡ true
unfolding has_challenger
has_challenger_of name n p e = rw (p, eq-eqb _ _ e)

pub challenger_of_lem : (name : ℕ) (n : Node) → has_challenger name n ≡ true
    → (is_challenged n ≡ true) × (n.challenger ≡ name)
unfolding has_challenger
challenger_of_lem name n e =
    let b = both_true (is_challenged n) (eqb n.challenger name) e in
    (b.0, eqb-true n.challenger name b.1)

pub stands_holder : (name : ℕ) (n : Node) → has_name name n ≡ true → stands name n ≡ true
unfolding stands
stands_holder name n e = rw e

pub stands_challenger : (name : ℕ) (n : Node) → has_challenger name n ≡ true → stands name n ≡ true
unfolding stands
stands_challenger name n e = or_right (has_name name n) e

pub stands_as : (name : ℕ) (n : Node) → stands name n ≡ true → (has_name name n ≡ true) ⊎ (has_challenger name n ≡ true)
unfolding stands
stands_as name n e = by_test (has_name name n) (λ h. inl h) (λ h. inr (rw h at e))

pub stands_not : (name : ℕ) (n : Node) → stands name n ≡ false
    → (has_name name n ≡ false) × (has_challenger name n ≡ false)
unfolding stands
stands_not name n e = or_false (has_name name n) (has_challenger name n) e

pub not_stands : (name : ℕ) (n : Node) → has_name name n ≡ false → has_challenger name n ≡ false → stands name n ≡ false
unfolding stands
not_stands name n h c = rw (h, c)

-- in a record with one holder and no challenger stands its holder
pub held_stands : (name m : ℕ) → stands m (held name) ≡ true → m ≡ name
unfolding stands has_name has_challenger is_challenged
held_stands name m e = by_test (eqb name m) (λ h. sym (eqb-true name m h)) (λ h. true_false (sym e ∙ rw h))

absent_stands : (m : ℕ) → stands m absent ≡ true → ⊥
unfolding stands has_name has_challenger is_challenged
absent_stands m e = true_false (sym e)

-- ---- what a sound record has

pub record Facts (n : Node) : Type 0 where
  pub absent_zeros : n.present ≡ false → n ≡ absent
  pub above : is_challenged n ≡ true → n.name < n.challenger
  pub below : n.wait < takes_after
  pub missing : is_challenged n ≡ false → n.wait ≡ 0

all_zeros : (n : Node) → n.present ≡ false → n.name ≡ 0 → n.challenger ≡ 0 → n.wait ≡ 0 → n ≡ absent
all_zeros n p m c w = λ i. record { present = p i; name = m i; challenger = c i; wait = w i }

pub absent_facts : Facts absent
unfolding is_challenged
absent_facts =
    record { absent_zeros = λ p. refl; above = λ e. true_false (sym e); below = omega arith; missing = λ e. refl }

pub held_facts : (name : ℕ) → Facts (held name)
unfolding is_challenged
held_facts name =
    record {
      absent_zeros = λ p. true_false p;
      above = λ e. true_false
          (sym e);
      below = omega arith;
      missing = λ e. refl;
    }

-- of a present record the challenge alone is judged
module _ (n : Node) where
  unchallenged_zero : sound_challenge n ≡ true → is_challenged n ≡ false → n.wait ≡ 0
  unfolding sound_challenge
  unchallenged_zero s e = eqb-true n.wait 0 (rw e at s)

  challenge_sound : sound_challenge n ≡ true → is_challenged n ≡ true → (n.name < n.challenger) × (n.wait < takes_after)
  unfolding sound_challenge
  challenge_sound s e =
      by_test (leb n.challenger n.name) (λ l. true_false (sym (rw (e, l) at s)))
      (λ l. (leb-false _ _ l, ltb-true n.wait takes_after (rw (e, l) at s)))

  sound_unchallenged : is_challenged n ≡ false → n.wait ≡ 0 → sound_challenge n ≡ true
  unfolding sound_challenge
  sound_unchallenged e w = rw (e, eq-eqb _ _ w)

  sound_challenged : is_challenged n ≡ true → n.name < n.challenger → n.wait < takes_after → sound_challenge n ≡ true
  unfolding sound_challenge
  sound_challenged e l w = rw (e, lt-leb _ _ l, lt-ltb _ _ w)

  of_present : sound_record n ≡ true → n.present ≡ true → sound_challenge n ≡ true
  of_present s p = sym (sound_present n p) ∙ s

  of_absent : sound_record n ≡ true → n.present ≡ false → n ≡ absent
  unfolding sound_record
  of_absent s p =
      let b = both_true (eqb n.name 0) (eqb n.challenger 0 and eqb n.wait 0) (rw p at s) in
      let c = both_true (eqb n.challenger 0) (eqb n.wait 0) b.1 in
      all_zeros n p (eqb-true _ _ b.0) (eqb-true _ _ c.0) (eqb-true _ _ c.1)

  present_sound : n.present ≡ true → sound_challenge n ≡ true → sound_record n ≡ true
  present_sound p s = sound_present n p ∙ s

  present_facts : n.present ≡ true → sound_challenge n ≡ true → Facts n
  present_facts p s =
      record {
        absent_zeros = λ q. true_false (sym p ∙ q);
        above = λ e. (challenge_sound s e).0;
        below = by_test (is_challenged n) (λ e. (challenge_sound s e).1)
            (λ e. let z = unchallenged_zero s e in omega (arith, z));
        missing = unchallenged_zero s;
      }

pub facts_of : (n : Node) → sound_record n ≡ true → Facts n
facts_of n s =
    by_test n.present (λ p. present_facts n p (of_present n s p))
    (λ p. subst Facts (sym (of_absent n s p)) absent_facts)

pub absent_sound : sound_record absent ≡ true
unfolding sound_record
absent_sound = refl

pub of_facts : (n : Node) → Facts n → sound_record n ≡ true
of_facts n f =
    by_test n.present
    (λ p. present_sound n p
    (by_test (is_challenged n) (λ e. sound_challenged n e (f.above e) f.below)
    (λ e. sound_unchallenged n e (f.missing e))))
    (λ p. ap sound_record (f.absent_zeros p) ∙ absent_sound)

-- ---- the computed rules say the rules

stands_at : (name : ℕ) (ns : List Node) (b : ℕ) → b < length ns → stands name (get_or ns b absent) ≡ true
    → any (stands name) ns ≡ true
stands_at name [] b l e = absurd (not-suc-le-zero l)
stands_at name (n ∷ ns) zero l e = rw e
stands_at name (n ∷ ns) (suc b) l e = or_right (stands name n) (stands_at name ns b (le_of_suc-le-suc l) e)

abbrev Found : ℕ → List Node → Type 0
Found name ns = (b : ℕ) × (b < length ns) × (stands name (get_or ns b absent) ≡ true)

stands_found : (name : ℕ) (ns : List Node) → any (stands name) ns ≡ true → Found name ns
stands_found name [] e = true_false (sym e)
stands_found name (n ∷ ns) e =
    by_test (stands name n) (λ h. (0, omega arith, h)) (λ h. next (stands_found name ns (rw h at e)))
  where
    next : Found name ns → Found name (n ∷ ns)
    next f = (suc f.0, omega arith, f.2)

-- who stands in a record stands in none after it
module _ (n : Node) (ns : List Node) where
  holder_none : n.present and any (stands n.name) ns ≡ false → n.present ≡ true → any (stands n.name) ns ≡ false
  holder_none h p = rw p at h

  challenger_none : is_challenged n and any (stands n.challenger) ns ≡ false → is_challenged n ≡ true
      → any (stands n.challenger) ns ≡ false
  challenger_none h p = rw p at h

  again_none : any (shares_name n) ns ≡ false → (name : ℕ) → stands name n ≡ true → any (stands name) ns ≡ false
  again_none h name s = by (stands_as name n s)
    where
      o : (n.present and any (stands n.name) ns ≡ false)
          × (is_challenged n and any (stands n.challenger) ns ≡ false)
      o = or_false _ _ (sym (again_is n ns) ∙ h)

      by : (has_name name n ≡ true) ⊎ (has_challenger name n ≡ true) → any (stands name) ns ≡ false
      by (inl t) =
          let k = name_of name n t in
          sym (ap (λ (m : ℕ). any (stands m) ns) k.1) ∙ holder_none o.0 k.0
      by (inr t) =
          let k = challenger_of_lem name n t in
          sym (ap (λ (m : ℕ). any (stands m) ns) k.1) ∙ challenger_none o.1 k.0

  none_holder : (n.present ≡ true → any (stands n.name) ns ≡ false)
      → n.present and any (stands n.name) ns ≡ false
  none_holder h = by_test n.present (λ p. rw (p, h p)) (λ p. rw p)

  none_challenger : (is_challenged n ≡ true → any (stands n.challenger) ns ≡ false)
      → is_challenged n and any (stands n.challenger) ns ≡ false
  none_challenger h = by_test (is_challenged n) (λ p. rw (p, h p)) (λ p. rw p)

  none_again : ((name : ℕ) → stands name n ≡ true → any (stands name) ns ≡ false) → any (shares_name n) ns ≡ false
  none_again h =
      again_is n ns ∙ rw (
        none_holder (λ p. h n.name (stands_holder n.name n (has_name_of n.name n p refl))),
        none_challenger (λ p. h n.challenger
            (stands_challenger n.challenger n (has_challenger_of n.challenger n p refl))),
      )

  -- the three things that keeping the rules says of the first record and those after it
  parts_of : keeps_rules (n ∷ ns) ≡ true
      → (sound_record n ≡ true) × (any (shares_name n) ns ≡ false) × (keeps_rules ns ≡ true)
  unfolding keeps_rules
  parts_of e =
      let b = both_true (sound_record n and every sound_record ns) _ e in
      let c = both_true (sound_record n) (every sound_record ns) b.0 in
      let d = both_true (not (any (shares_name n) ns)) (no_two shares_name ns) b.1 in
      (c.0, not_both (any (shares_name n) ns) d.0, rw c.1 d.1)

  of_parts : sound_record n ≡ true → any (shares_name n) ns ≡ false → keeps_rules ns ≡ true → keeps_rules (n ∷ ns) ≡ true
  unfolding keeps_rules
  of_parts s h k =
      let b = both_true (every sound_record ns) (no_two shares_name ns) k in
      rw (s, h, b.0) b.1

pub facts_at : (ns : List Node) → keeps_rules ns ≡ true → (a : ℕ) → a < length ns → Facts (get_or ns a absent)
facts_at [] k a l = absurd (not-suc-le-zero l)
facts_at (n ∷ ns) k zero l = facts_of n (parts_of n ns k).0
facts_at (n ∷ ns) k (suc a) l = facts_at ns (parts_of n ns k).2 a (le_of_suc-le-suc l)

once : (ns : List Node) → keeps_rules ns ≡ true → (name a b : ℕ) → a < b → b < length ns
    → stands name (get_or ns a absent) ≡ true → stands name (get_or ns b absent) ≡ true → ⊥
once [] k name a b l m p q = absurd (not-suc-le-zero m)
once (n ∷ ns) k name zero zero l m p q = absurd (not-suc-le-zero l)
once (n ∷ ns) k name zero (suc b) l m p q =
    true_false (sym (stands_at name ns b (le_of_suc-le-suc m) q) ∙ again_none n ns (parts_of n ns k).1 name p)
once (n ∷ ns) k name (suc a) zero l m p q = absurd (not-suc-le-zero l)
once (n ∷ ns) k name (suc a) (suc b) l m p q =
    once ns (parts_of n ns k).2 name a b (le_of_suc-le-suc l) (le_of_suc-le-suc m) p q

pub rules_of : (ns : List Node) → keeps_rules ns ≡ true → Rules ns
rules_of ns k =
    record {
      absent_zeros = λ a l. (facts_at ns k a l).absent_zeros;
      challenger_above = λ a l. (facts_at ns k a l).above;
      wait_below = λ a l. (facts_at ns k a l).below;
      missing_zeros = λ a l. (facts_at ns k a l).missing;
      one_each = λ name a b l m p q.
          by_test (ltb a b) (λ t. let h : a < b = ltb-true a b t in absurd (once ns k name a b h m p q))
          (λ t. by_test (ltb b a) (λ u. let h : b < a = ltb-true b a u in absurd (once ns k name b a h l q p))
          (λ u. let g : b ≤ a = ltb-false a b t in let h : a ≤ b = ltb-false b a u in omega arith));
    }

pub rules_facts : (ns : List Node) → Rules ns → (a : ℕ) → a < length ns → Facts (get_or ns a absent)
rules_facts ns r a l =
    record {
      absent_zeros = r.absent_zeros a l;
      above = r.challenger_above a l;
      below = r.wait_below a l;
      missing = r.missing_zeros a l;
    }

tail_rules : (n : Node) (ns : List Node) → Rules (n ∷ ns) → Rules ns
tail_rules n ns r =
    record {
      absent_zeros = λ a l. r.absent_zeros (suc a) (omega arith);
      challenger_above = λ a l. r.challenger_above (suc a) (omega arith);
      wait_below = λ a l. r.wait_below (suc a) (omega arith);
      missing_zeros = λ a l. r.missing_zeros (suc a) (omega arith);
      one_each = λ name a b l m p q.
          let s : suc a ≡ suc b = r.one_each name (suc a) (suc b) (omega arith) (omega arith) p q in
          omega arith;
    }

pub of_rules : (ns : List Node) → Rules ns → keeps_rules ns ≡ true
unfolding keeps_rules
of_rules [] r = refl
of_rules (n ∷ ns) r =
    of_parts n ns (of_facts n (rules_facts (n ∷ ns) r 0 (omega arith)))
    (none_again n ns (λ name s. by_test (any (stands name) ns) (λ h. absurd (twice name s (stands_found name ns h)))
    (λ h. h)))
    (of_rules ns (tail_rules n ns r))
  where
    twice : (name : ℕ) → stands name n ≡ true → Found name ns → ⊥
    twice name s f =
        let e : 0 ≡ suc f.0 = r.one_each name 0 (suc f.0) (omega arith) (omega arith) s f.2 in
        omega arith

-- ---- what a claim makes of a record, case by case

module _ (name : ℕ) (n : Node) where
  pub vacated_challenged : is_challenged n ≡ true → vacated_of n ≡ held n.challenger
  unfolding vacated_of
  vacated_challenged e = rw e

  pub vacated_alone : is_challenged n ≡ false → vacated_of n ≡ absent
  unfolding vacated_of
  vacated_alone e = rw e

  pub cleared_holder : has_name name n ≡ true → cleared_of name n ≡ vacated_of n
  unfolding cleared_of
  cleared_holder e = rw e

  pub cleared_challenger : has_name name n ≡ false → has_challenger name n ≡ true → cleared_of name n ≡ unchallenged_of n
  unfolding cleared_of
  cleared_challenger e f = rw (e, f)

  pub cleared_none : has_name name n ≡ false → has_challenger name n ≡ false → cleared_of name n ≡ n
  unfolding cleared_of
  cleared_none e f = rw (e, f)

  pub entered_taken : gives_way name n ≡ true → entered_of name n ≡ held name
  unfolding entered_of
  entered_taken e = rw e

  pub entered_challenges : gives_way name n ≡ false → may_challenge name n ≡ true → entered_of name n ≡ challenged name 0 n
  unfolding entered_of
  entered_challenges e f = rw (e, f)

  pub entered_not : gives_way name n ≡ false → may_challenge name n ≡ false → entered_of name n ≡ n
  unfolding entered_of
  entered_not e f = rw (e, f)

  pub gives_absent : n.present ≡ false → gives_way name n ≡ true
  unfolding gives_way
  gives_absent p = rw p

  pub gives_lower : name < n.name → gives_way name n ≡ true
  unfolding gives_way
  gives_lower l = or_right (not n.present) (lt-ltb _ _ l)

  pub not_gives : gives_way name n ≡ false → (n.present ≡ true) × (n.name ≤ name)
  unfolding gives_way
  not_gives e =
      let b = or_false (not n.present) (ltb name n.name) e in
      (not-false n.present b.0, ltb-false name n.name b.1)

  pub gives_not : n.present ≡ true → n.name ≤ name → gives_way name n ≡ false
  unfolding gives_way
  gives_not p l = rw (p, le-ltb _ _ l)

  pub present_gives : n.present ≡ true → gives_way name n ≡ true → name < n.name
  unfolding gives_way
  present_gives p e = ltb-true name n.name (rw p at e)

  pub may_alone : is_challenged n ≡ false → may_challenge name n ≡ true
  unfolding may_challenge
  may_alone e = rw e

  pub may_lower : name < n.challenger → may_challenge name n ≡ true
  unfolding may_challenge
  may_lower l = or_right (not (is_challenged n)) (lt-ltb _ _ l)

  pub may_not : is_challenged n ≡ true → n.challenger ≤ name → may_challenge name n ≡ false
  unfolding may_challenge
  may_not e l = rw (e, le-ltb _ _ l)

  pub not_may : may_challenge name n ≡ false → (is_challenged n ≡ true) × (n.challenger ≤ name)
  unfolding may_challenge
  not_may e =
      let b = or_false (not (is_challenged n)) (ltb name n.challenger) e in
      (not-false (is_challenged n) b.0, ltb-false name n.challenger b.1)

  -- a record without its challenger
  pub unchallenged_alone : is_challenged (unchallenged_of n) ≡ false
  unfolding unchallenged_of is_challenged
  unchallenged_alone = refl

  unchallenged_present : (unchallenged_of n).present ≡ n.present
  unfolding unchallenged_of
  unchallenged_present = refl

  unchallenged_wait : (unchallenged_of n).wait ≡ 0
  unfolding unchallenged_of
  unchallenged_wait = refl

  unchallenged_absent : n ≡ absent → unchallenged_of n ≡ absent
  unfolding unchallenged_of
  unchallenged_absent e = ap (λ (m : Node). challenged 0 0 m) e

  unchallenged_stands : (m : ℕ) → stands m (unchallenged_of n) ≡ true → has_name m n ≡ true
  unfolding unchallenged_of stands has_name has_challenger is_challenged
  unchallenged_stands m e = by_test (n.present and eqb n.name m) (λ h. h) (λ h. true_false (sym (rw h at e)))

-- ---- its soundness is kept

module _ (name : ℕ) (n : Node) (f : Facts n) where
  vacated_facts : Facts (vacated_of n)
  vacated_facts =
      by_test (is_challenged n) (λ e. subst Facts (sym (vacated_challenged name n e)) (held_facts n.challenger))
      (λ e. subst Facts (sym (vacated_alone name n e)) absent_facts)

  unchallenged_facts : Facts (unchallenged_of n)
  unchallenged_facts =
      record {
        absent_zeros = λ p. unchallenged_absent name n (f.absent_zeros (sym (unchallenged_present name n) ∙ p));
        above = λ e. true_false (sym e ∙ unchallenged_alone name n);
        below = let z = unchallenged_wait name n in omega (arith, z);
        missing = λ e. unchallenged_wait name n;
      }

  pub cleared_facts : Facts (cleared_of name n)
  cleared_facts =
      by_test (has_name name n) (λ h. subst Facts (sym (cleared_holder name n h)) vacated_facts)
      (λ h. by_test (has_challenger name n) (λ c. subst Facts (sym (cleared_challenger name n h c)) unchallenged_facts)
      (λ c. subst Facts (sym (cleared_none name n h c)) f))

  -- after it the NAME stands there no more, and nobody else does who did not
  vacated_stands : has_name name n ≡ true → (m : ℕ) → stands m (vacated_of n) ≡ true
      → (m ≡ name → ⊥) × (stands m n ≡ true)
  vacated_stands h m s =
      by_test (is_challenged n)
      (λ e. let k : m ≡ n.challenger = held_stands n.challenger m
      (sym (ap (stands m) (vacated_challenged name n e)) ∙ s) in
      let l : n.name < n.challenger = f.above e in
      let g : n.name ≡ name = (name_of name n h).1 in
      ((λ t. omega (arith, k, l, g, t)), stands_challenger m n (has_challenger_of m n e (sym k))))
      (λ e. absurd (absent_stands m (sym (ap (stands m) (vacated_alone name n e)) ∙ s)))

  pub cleared_stands : (m : ℕ) → stands m (cleared_of name n) ≡ true → (m ≡ name → ⊥) × (stands m n ≡ true)
  cleared_stands m s =
      by_test (has_name name n) (λ h. vacated_stands h m (sym (ap (stands m) (cleared_holder name n h)) ∙ s))
      (λ h. by_test (has_challenger name n)
      (λ c. let k = unchallenged_stands name n m (sym (ap (stands m) (cleared_challenger name n h c)) ∙ s) in
      ((λ t. true_false (sym (subst (λ (x : ℕ). has_name x n ≡ true) t k) ∙ h)), stands_holder m n k))
      (λ c. let k = sym (ap (stands m) (cleared_none name n h c)) ∙ s in
      ((λ t. true_false (sym (subst (λ (x : ℕ). stands x n ≡ true) t k) ∙ not_stands name n h c)), k)))

-- ---- and then it is entered

module _ (name : ℕ) (n : Node) where
  challenged_stands : (m : ℕ) → stands m (challenged name 0 n) ≡ true → (m ≡ name) ⊎ (stands m n ≡ true)
  challenged_stands m s = by (stands_as m (challenged name 0 n) s)
    where
      by : (has_name m (challenged name 0 n) ≡ true) ⊎ (has_challenger m (challenged name 0 n) ≡ true)
          → (m ≡ name) ⊎ (stands m n ≡ true)
      by (inl t) =
          let k = name_of m (challenged name 0 n) t in
          inr (stands_holder m n (has_name_of m n k.0 k.1))
      by (inr t) = inl (sym (challenger_of_lem m (challenged name 0 n) t).1)

  pub entered_stands : (m : ℕ) → stands m (entered_of name n) ≡ true → (m ≡ name) ⊎ (stands m n ≡ true)
  entered_stands m s =
      by_test (gives_way name n) (λ g. inl (held_stands name m (sym (ap (stands m) (entered_taken name n g)) ∙ s)))
      (λ g. by_test (may_challenge name n)
      (λ c. challenged_stands m (sym (ap (stands m) (entered_challenges name n g c)) ∙ s))
      (λ c. inr (sym (ap (stands m) (entered_not name n g c)) ∙ s)))

  -- a NAME that does not stand in a record that does not give way is above its holder
  pub above_holder : stands name n ≡ false → gives_way name n ≡ false → (n.present ≡ true) × (n.name < name)
  above_holder s g =
      let p = not_gives name n g in
      let d : n.name ≡ name → ⊥ = not_name_of name n (stands_not name n s).0 p.0 in
      let l : n.name ≤ name = p.1 in
      (p.0, omega (arith, d))

  challenged_facts : n.present ≡ true → n.name < name → Facts (challenged name 0 n)
  challenged_facts p l =
      record {
        absent_zeros = λ q. true_false (sym p ∙ q);
        above = λ e. l;
        below = omega arith;
        missing = λ e. refl;
      }

  pub entered_facts : Facts n → stands name n ≡ false → Facts (entered_of name n)
  entered_facts f s =
      by_test (gives_way name n) (λ g. subst Facts (sym (entered_taken name n g)) (held_facts name))
      (λ g. by_test (may_challenge name n)
      (λ c. let k = above_holder s g in subst Facts (sym (entered_challenges name n g c))
      (challenged_facts k.0 k.1))
      (λ c. subst Facts (sym (entered_not name n g c)) f))

-- ---- a claim at the record of an address

module _ (claim : Claim) (a : ℕ) (n : Node) where
  abbrev name : ℕ
  name = claim.name

  pub elsewhere : (a ≡ claim.source → ⊥) → claimed_at claim a n ≡ cleared_of name n
  unfolding claimed_at
  elsewhere e = rw (ne_eqb a claim.source e)

  at_source : a ≡ claim.source → claimed_at claim a n ≡ claimed_here name n
  unfolding claimed_at
  at_source e = rw (eq-eqb a claim.source e)

  another_here : has_name name n ≡ false → claimed_here name n ≡ entered_of name (cleared_of name n)
  unfolding claimed_here
  another_here h = rw h

  -- at its source a NAME that does not hold the record is cleared and entered;
  pub here_other : a ≡ claim.source → has_name name n ≡ false → claimed_at claim a n ≡ entered_of name (cleared_of name n)
  here_other e h = at_source e ∙ another_here h

  holder_here : has_name name n ≡ true → claimed_here name n ≡ held name
  unfolding claimed_here unchallenged_of
  holder_here h =
      let k = name_of name n h in
      rw h (λ i. record { present = k.0 i; name = k.1 i; challenger = 0; wait = 0 })

  -- and of a sound record the same can be said of its holder
  module _ (f : Facts n) where
    pub holder_entered : has_name name n ≡ true → entered_of name (cleared_of name n) ≡ held name
    holder_entered h =
        by_test (is_challenged n)
        (λ e. let k : n.name ≡ name = (name_of name n h).1 in
        let b : n.name < n.challenger = f.above e in
        let l : name < (held n.challenger).name = omega (arith, k, b) in
        ap (entered_of name) (cleared_holder name n h ∙ vacated_challenged name n e)
        ∙ entered_taken name (held n.challenger) (gives_lower name (held n.challenger) l))
        (λ e. ap (entered_of name) (cleared_holder name n h ∙ vacated_alone name n e)
        ∙ entered_taken name absent (gives_absent name absent refl))

    pub here : a ≡ claim.source → claimed_at claim a n ≡ entered_of name (cleared_of name n)
    here e =
        by_test (has_name name n) (λ h. at_source e ∙ holder_here h ∙ sym (holder_entered h)) (λ h. here_other e h)

    pub gone : stands name (cleared_of name n) ≡ false
    gone =
        by_test (stands name (cleared_of name n)) (λ s. absurd ((cleared_stands name n f name s).0 refl)) (λ s. s)

    pub claimed_facts : Facts (claimed_at claim a n)
    claimed_facts =
        by_test (eqb a claim.source)
        (λ t. subst Facts (sym (here (eqb-true _ _ t)))
        (entered_facts name (cleared_of name n) (cleared_facts name n f) gone))
        (λ t. subst Facts (sym (elsewhere (eqb-false _ _ t))) (cleared_facts name n f))

    -- who stands there after it: the NAME at its source, or another that stood there
    abbrev Origin : ℕ → Type 0
    Origin m = ((m ≡ name) × (a ≡ claim.source)) ⊎ ((m ≡ name → ⊥) × (stands m n ≡ true))

    pub claimed_stands : (m : ℕ) → stands m (claimed_at claim a n) ≡ true → Origin m
    claimed_stands m s =
        by_test (eqb a claim.source)
        (λ t. let e = eqb-true a claim.source t in
        by e (entered_stands name (cleared_of name n) m (sym (ap (stands m) (here e)) ∙ s)))
        (λ t. inr (cleared_stands name n f m (sym (ap (stands m) (elsewhere (eqb-false _ _ t))) ∙ s)))
      where
        by : a ≡ claim.source → (m ≡ name) ⊎ (stands m (cleared_of name n) ≡ true) → Origin m
        by e (inl t) = inl (t, e)
        by e (inr t) = inr (cleared_stands name n f m t)

-- ---- a pause at a record

module _ (ms : ℕ) (n : Node) where
  pub paused_alone : is_challenged n ≡ false → paused_at ms n ≡ n
  unfolding paused_at
  paused_alone e = rw e

  pub paused_waits : is_challenged n ≡ true → n.wait + ms < takes_after
      → paused_at ms n ≡ challenged n.challenger (n.wait + ms) n
  unfolding paused_at
  paused_waits e l = rw (e, lt-ltb _ _ l)

  pub paused_takes : is_challenged n ≡ true → takes_after ≤ n.wait + ms → paused_at ms n ≡ held n.challenger
  unfolding paused_at
  paused_takes e l = rw (e, le-ltb _ _ l)

  pub still_challenged : is_challenged n ≡ true → (w : ℕ) → is_challenged (challenged n.challenger w n) ≡ true
  unfolding is_challenged
  still_challenged e w = e

  waits_facts : Facts n → is_challenged n ≡ true → n.wait + ms < takes_after
      → Facts (challenged n.challenger (n.wait + ms) n)
  waits_facts f e l =
      record {
        absent_zeros = λ p. absurd (never (f.absent_zeros p));
        above = λ c. f.above e;
        below = l;
        missing = λ c. true_false (sym (still_challenged e (n.wait + ms)) ∙ c);
      }
    where
      never : n ≡ absent → ⊥
      never z = let c : n.challenger ≡ 0 = ap (λ (m : Node). m.challenger) z in omega (arith, above_zero n e, c)

  pub paused_facts : Facts n → Facts (paused_at ms n)
  paused_facts f =
      by_test (is_challenged n)
      (λ e. by_test (ltb (n.wait + ms) takes_after)
      (λ t. let l = ltb-true _ _ t in subst Facts (sym (paused_waits e l)) (waits_facts f e l))
      (λ t. subst Facts (sym (paused_takes e (ltb-false _ _ t))) (held_facts n.challenger)))
      (λ e. subst Facts (sym (paused_alone e)) f)

  waits_stands : (w m : ℕ) → stands m (challenged n.challenger w n) ≡ stands m n
  unfolding stands has_name has_challenger is_challenged
  waits_stands w m = refl

  pub paused_stands : (m : ℕ) → stands m (paused_at ms n) ≡ true → stands m n ≡ true
  paused_stands m s =
      by_test (is_challenged n)
      (λ e. by_test (ltb (n.wait + ms) takes_after)
      (λ t. sym (waits_stands (n.wait + ms) m) ∙ sym (ap (stands m) (paused_waits e (ltb-true _ _ t))) ∙ s)
      (λ t. let k = held_stands n.challenger m (sym (ap (stands m) (paused_takes e (ltb-false _ _ t))) ∙ s) in
      stands_challenger m n (has_challenger_of m n e (sym k))))
      (λ e. sym (ap (stands m) (paused_alone e)) ∙ s)
