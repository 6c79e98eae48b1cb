-- One record of a listener's table: whom it shows after all that was said, by the last claim from its address and by the
-- last claim of each NAME.
-- Assumes nothing.
use Rattle.std.specs.Prelude.{if◌then◌else◌}
use mathlib.Core.Path.{◌≡◌, refl, sym, ap, ◌∙◌}
use mathlib.Core.Bool.{true}
use mathlib.Core.List.{List, [], ◌∷◌}
use mathlib.Core.Logic.{◌⊎◌, inl, inr}
use mathlib.Core.Option.{Option, some, none}
use Prim.Native.Nat.{ℕ, ◌≤◌}
use native.Mathlib.Omega.{arith}
use borrow.Author.Tests.{eq-eqb, ne_eqb}
use Rattle.words.specs.Words.{◌=?◌}
use Rattle.words.proofs.Words.{by_test, true_false}
use Rattle.nodes.specs.Table.{absent, held, has_name, is_challenged, has_challenger, stands, claimed_at, paused_at}
use Rattle.nodes.specs.Runs.{Said, nothing, claims, pauses, record_after_all}
use Rattle.nodes.specs.declared.Node.{Node}
use Rattle.nodes.proofs.Sound.{Facts, of_facts, absent_facts, held_facts, held_stands, stands_holder, has_name_of, not_name_of}
use Rattle.nodes.proofs.Sound.{claimed_facts, claimed_stands, paused_facts, paused_stands, paused_alone}
use Rattle.nodes.proofs.Sentences.{every_sentence}
use Rattle.nodes.proofs.Shown.{held_alone}
use Rattle.network.specs.Listener.{claims_in}
use Rattle.network.proofs.Lists.{equal_or}

-- ---- the last claim from an address, and the last of a NAME

abbrev pub who_said : ℕ → Option ℕ → List Said → Option ℕ
who_said a who [] = who
who_said a who (nothing ∷ said) = who_said a who said
who_said a who (claims c ∷ said) = who_said a (if c.source =? a then some c.name else who) said
who_said a who (pauses ms ∷ said) = who_said a who said

abbrev pub from_where : ℕ → Option ℕ → List Said → Option ℕ
from_where n from [] = from
from_where n from (nothing ∷ said) = from_where n from said
from_where n from (claims c ∷ said) = from_where n (if c.name =? n then some c.source else from) said
from_where n from (pauses ms ∷ said) = from_where n from said

-- no claim from an address is below a NAME
abbrev pub NoneBelow : ℕ → ℕ → List Said → Type 0
NoneBelow a n [] = Unit
NoneBelow a n (nothing ∷ said) = NoneBelow a n said
NoneBelow a n (claims c ∷ said) = (c.source ≡ a → n ≤ c.name) × NoneBelow a n said
NoneBelow a n (pauses ms ∷ said) = NoneBelow a n said

-- pauses and other frames make no difference to them

pub who_claims : (a : ℕ) (who : Option ℕ) (said : List Said) → who_said a who said ≡ who_said a who (claims_in said)
who_claims a who [] = refl
who_claims a who (nothing ∷ said) = who_claims a who said
who_claims a who (claims c ∷ said) = who_claims a (if c.source =? a then some c.name else who) said
who_claims a who (pauses ms ∷ said) = who_claims a who said

pub from_claims : (n : ℕ) (from : Option ℕ) (said : List Said) → from_where n from said ≡ from_where n from (claims_in said)
from_claims n from [] = refl
from_claims n from (nothing ∷ said) = from_claims n from said
from_claims n from (claims c ∷ said) = from_claims n (if c.name =? n then some c.source else from) said
from_claims n from (pauses ms ∷ said) = from_claims n from said

pub below_claims : (a n : ℕ) (said : List Said) → NoneBelow a n (claims_in said) → NoneBelow a n said
below_claims a n [] h = tt
below_claims a n (nothing ∷ said) h = below_claims a n said h
below_claims a n (claims c ∷ said) h = (h.0, below_claims a n said h.1)
below_claims a n (pauses ms ∷ said) h = below_claims a n said h

some_same : (i j : ℕ) → ◌≡◌ {A = Option ℕ} (some i) (some j) → i ≡ j
some_same i j e = cc

-- ---- who claims from the address last, and from nowhere else after it, holds it, if nobody below claimed from it

record Holds (a n : ℕ) (who from : Option ℕ) (r : Node) : Type 0 where
  facts : Facts r
  none_below : (m : ℕ) → stands m r ≡ true → n ≤ m
  holds : who ≡ some n → from ≡ some a → r ≡ held n

module _ (a n : ℕ) (who from : Option ℕ) (r : Node) (source name : ℕ) (h : Holds a n who from r) (low : source ≡ a → n ≤ name) where
  -- the NAME claims from the address
  takes : source ≡ a → name ≡ n → claimed_at (record { source = source; name = name }) a r ≡ held n
  takes s e =
      let k = every_sentence (record { source = source; name = name }) a r (of_facts r h.facts) in
      by_test (has_name (name) r)
      (λ q. k.repeats (sym s) q ∙ ap held e)
      (λ q. by_test r.present
      (λ p.
      let l : n ≤ r.name = h.none_below r.name (stands_holder r.name r (has_name_of r.name r p refl)) in
      let d : r.name ≡ name → ⊥ = not_name_of (name) r q p in
      k.takes (sym s) (omega (arith, l, e, d)) ∙ ap held e)
      (λ p. k.takes_absent (sym s) p ∙ ap held e))

  -- another NAME claims from another address
  untouched : (source ≡ a → ⊥) → (name ≡ n → ⊥) → r ≡ held n → claimed_at (record { source = source; name = name }) a r ≡ held n
  untouched s e q =
      ap (claimed_at (record { source = source; name = name }) a) q
      ∙ (every_sentence (record { source = source; name = name }) a (held n) (of_facts (held n) (held_facts n))).untouched (λ z. s (sym z))
      (by_test (stands (name) (held n)) (λ z. absurd (e (held_stands n (name) z))) (λ z. z))

  claim_holds : Holds a n (if source =? a then some (name) else who) (if name =? n then some (source) else from) (claimed_at (record { source = source; name = name }) a r)
  claim_holds =
      record {
        facts = claimed_facts (record { source = source; name = name }) a r h.facts;
        none_below = λ m z. go m (claimed_stands (record { source = source; name = name }) a r h.facts m z);
        holds =
            equal_or (source) a
            (λ s. equal_or (name) n
            (λ e. λ p q. takes s e)
            (λ e. rw (eq-eqb (source) a s) (λ p q. absurd (e (some_same (name) n p)))))
            (λ s. equal_or (name) n
            (λ e. rw (eq-eqb (name) n e) (λ p q. absurd (s (some_same (source) a q))))
            (λ e. rw (ne_eqb (source) a s, ne_eqb (name) n e) (λ p q. untouched s e (h.holds p q))));
      }
    where
      go : (m : ℕ) → ((m ≡ name) × (a ≡ source)) ⊎ ((m ≡ name → ⊥) × (stands m r ≡ true)) → n ≤ m
      go m (inl z) = rw z.0 (low (sym z.1))
      go m (inr z) = h.none_below m z.1

pause_holds : (a n ms : ℕ) (who from : Option ℕ) (r : Node) → Holds a n who from r → Holds a n who from (paused_at ms r)
pause_holds a n ms who from r h =
    record {
      facts = paused_facts ms r h.facts;
      none_below = λ m z. h.none_below m (paused_stands ms r m z);
      holds = λ p q. ap (paused_at ms) (h.holds p q) ∙ paused_alone ms (held n) (held_alone n);
    }

holds_run : (a n : ℕ) (who from : Option ℕ) (r : Node) (said : List Said) → NoneBelow a n said → Holds a n who from r
    → Holds a n (who_said a who said) (from_where n from said) (record_after_all said a r)
holds_run a n who from r [] b h = h
holds_run a n who from r (nothing ∷ said) b h = holds_run a n who from r said b h
holds_run a n who from r (claims c ∷ said) b h =
    holds_run a n (if c.source =? a then some c.name else who) (if c.name =? n then some c.source else from)
    (claimed_at c a r) said b.1 (claim_holds a n who from r c.source c.name h b.0)
holds_run a n who from r (pauses ms ∷ said) b h =
    holds_run a n who from (paused_at ms r) said b (pause_holds a n ms who from r h)

nobody_stands : (m : ℕ) → stands m absent ≡ true → ⊥
unfolding stands has_name has_challenger is_challenged
nobody_stands m e = true_false (sym e)

pub holder_is : (a n : ℕ) (said : List Said) → NoneBelow a n said → who_said a none said ≡ some n → from_where n none said ≡ some a
    → record_after_all said a absent ≡ held n
holder_is a n said b p q =
    (holds_run a n none none absent said b
    (record {
      facts = absent_facts;
      none_below = λ m z. absurd (nobody_stands m z);
      holds = λ x y. let z : ◌≡◌ {A = ℕ} 0 1 = cc in absurd (omega arith);
    })).holds p q

-- ---- whoever stands in a record claimed from its address last

record Came (a n : ℕ) (from : Option ℕ) (r : Node) : Type 0 where
  facts : Facts r
  came : stands n r ≡ true → from ≡ some a

claim_came : (a n : ℕ) (from : Option ℕ) (r : Node) (source name : ℕ) → Came a n from r
    → Came a n (if name =? n then some (source) else from) (claimed_at (record { source = source; name = name }) a r)
claim_came a n from r source name h =
    record { facts = claimed_facts (record { source = source; name = name }) a r h.facts; came = λ z. go (claimed_stands (record { source = source; name = name }) a r h.facts n z) }
  where
    go : ((n ≡ name) × (a ≡ source)) ⊎ ((n ≡ name → ⊥) × (stands n r ≡ true))
        → (if name =? n then some (source) else from) ≡ some a
    go (inl z) = rw (eq-eqb (name) n (sym z.0)) (ap some (sym z.1))
    go (inr z) = rw (ne_eqb (name) n (λ e. z.0 (sym e))) (h.came z.1)

came_run : (a n : ℕ) (from : Option ℕ) (r : Node) (said : List Said) → Came a n from r
    → Came a n (from_where n from said) (record_after_all said a r)
came_run a n from r [] h = h
came_run a n from r (nothing ∷ said) h = came_run a n from r said h
came_run a n from r (claims c ∷ said) h =
    came_run a n (if c.name =? n then some c.source else from) (claimed_at c a r) said (claim_came a n from r c.source c.name h)
came_run a n from r (pauses ms ∷ said) h =
    came_run a n from (paused_at ms r) said
    (record { facts = paused_facts ms r h.facts; came = λ z. h.came (paused_stands ms r n z) })

pub shown_came : (a n : ℕ) (said : List Said) → stands n (record_after_all said a absent) ≡ true → from_where n none said ≡ some a
shown_came a n said z =
    (came_run a n none absent said (record { facts = absent_facts; came = λ y. absurd (nobody_stands n y) })).came z

pub record_facts : (a : ℕ) (said : List Said) → Facts (record_after_all said a absent)
record_facts a said =
    (came_run a 0 none absent said (record { facts = absent_facts; came = λ y. absurd (nobody_stands 0 y) })).facts
