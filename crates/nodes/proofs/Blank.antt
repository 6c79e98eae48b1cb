-- Records that are all absent: they keep the rules, and nobody is among them.
-- Assumes nothing.
use Rattle.std.specs.Prelude.{None}
use mathlib.Core.Path.{◌≡◌, refl, ap, ◌∙◌}
use mathlib.Core.Bool.{true, false}
use mathlib.Core.List.{List, ◌∷◌, ◌++◌}
use Prim.Native.Nat.{ℕ, zero, suc, ◌+◌, ◌≤◌}
use native.Mathlib.Omega.{arith}
use lib.ListN.{length, get_or, take, replicate, length-append, length-replicate}
use lib.Dec.{ltb}
use borrow.Author.Tests.{ltb-true, ltb-false}
use Rattle.words.specs.Words.{gives}
use Rattle.words.specs.Lists.{any, no_two, first_from, first}
use Rattle.frame.specs.Standard.{greatest_address}
use Rattle.words.proofs.Words.{by_test}
use Rattle.words.proofs.Lists.{every_replicate}
use Rattle.nodes.specs.Table.{addresses, absent, has_name, is_challenged, sound_record, shares_name, keeps_rules}
use Rattle.nodes.specs.Call.{nobody, holder_of, looked_up_of, found_of, no_rival, rival_of, challenger_of}
use Rattle.nodes.specs.Promises.{Empty}
use Rattle.nodes.specs.Laws.{EmptyKeepsRules, EmptyHasNobody, EmptyHasNoName, EmptyHasNoChallenger}
use Rattle.nodes.specs.declared.Node.{Node}
use Rattle.nodes.proofs.Call.{table_passes, rival_past, rival_at_lem}
use Rattle.nodes.proofs.Sound.{absent_sound}
use Rattle.nodes.proofs.Find.{looked_past, looked_at}

-- ---- any number of them

front : (k : ℕ) (behind : List Node) → take k (replicate k absent ++ behind) ≡ replicate k absent
front zero behind = refl
front (suc k) behind = ap (λ (ns : List Node). absent ∷ ns) (front k behind)

all_alone : (k : ℕ) → any (shares_name absent) (replicate k absent) ≡ false
unfolding shares_name is_challenged
all_alone zero = refl
all_alone (suc k) = all_alone k

all_apart : (k : ℕ) → no_two shares_name (replicate k absent) ≡ true
all_apart zero = refl
all_apart (suc k) = rw (all_alone k) (all_apart k)

all_keep : (k : ℕ) → keeps_rules (replicate k absent) ≡ true
unfolding keeps_rules
all_keep k = rw (every_replicate sound_record k absent absent_sound) (all_apart k)

all_absent : (k a : ℕ) → get_or (replicate k absent) a absent ≡ absent
all_absent zero a = refl
all_absent (suc k) zero = refl
all_absent (suc k) (suc a) = all_absent k a

all_nameless : (name k a : ℕ) → first_from (has_name name) a (replicate k absent) ≡ None
unfolding has_name
all_nameless name zero a = refl
all_nameless name (suc k) a = all_nameless name k (a + 1)

-- ---- those of the addresses

nobody_there : holder_of absent ≡ nobody
unfolding holder_of
nobody_there = refl

nobody_challenges : rival_of absent ≡ no_rival
unfolding rival_of is_challenged
nobody_challenges = refl

module _ (r behind : List Node) (e : Empty r) where
  front_is : take addresses (r ++ behind) ≡ replicate addresses absent
  front_is = ap (λ (ns : List Node). take addresses (ns ++ behind)) e.answer ∙ front addresses behind

  long : addresses ≤ length (r ++ behind)
  long =
      let l : length r ≡ addresses = ap length e.answer ∙ length-replicate addresses absent in
      omega (arith, length-append r behind, l)

  kept : keeps_rules (take addresses (r ++ behind)) ≡ true
  kept = ap keeps_rules front_is ∙ all_keep addresses

  pub absent_at : (a : ℕ) → get_or (take addresses (r ++ behind)) a absent ≡ absent
  absent_at a = ap (λ (ns : List Node). get_or ns a absent) front_is ∙ all_absent addresses a

  looked : (a : ℕ) → looked_up_of (r ++ behind) a ≡ gives nobody
  looked a =
      by_test (ltb greatest_address a) (λ t. looked_past (r ++ behind) a long kept (ltb-true _ _ t))
      (λ t. looked_at (r ++ behind) a long kept (ltb-false _ _ t)
      ∙ ap (λ (n : Node). gives (holder_of n)) (absent_at a) ∙ ap gives nobody_there)

  found : (name : ℕ) → found_of (r ++ behind) name ≡ gives None
  found name =
      table_passes (r ++ behind) _ long kept
      ∙ ap (λ (ns : List Node). gives (first (has_name name) ns)) front_is ∙ ap gives (all_nameless name addresses 0)

  rivals : (a : ℕ) → challenger_of (r ++ behind) a ≡ gives no_rival
  rivals a =
      by_test (ltb greatest_address a)
      (λ t. table_passes (r ++ behind) _ long kept ∙ ap gives (rival_past _ a (ltb-true _ _ t)))
      (λ t. table_passes (r ++ behind) _ long kept ∙ ap gives (rival_at_lem _ a (ltb-false _ _ t))
      ∙ ap (λ (n : Node). gives (rival_of n)) (absent_at a) ∙ ap gives nobody_challenges)

pub empty_keeps_rules : EmptyKeepsRules
empty_keeps_rules r behind e = (long r behind e, kept r behind e)

pub empty_has_nobody : EmptyHasNobody
empty_has_nobody r behind a e = looked r behind e a

pub empty_has_no_name : EmptyHasNoName
empty_has_no_name r behind name e = found r behind e name

pub empty_has_no_challenger : EmptyHasNoChallenger
empty_has_no_challenger r behind a e = rivals r behind e a
