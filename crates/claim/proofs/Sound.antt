-- What a state that keeps its rules and holds its list is, in plain facts.
-- Assumes nothing.
use Rattle.std.specs.Prelude.{if◌then◌else◌}
use mathlib.Core.Path.{◌≡◌, ◌∙◌}
use mathlib.Core.Bool.{true, false}
use Prim.Native.Nat.{ℕ, ◌+◌, ◌≤◌, ◌<◌, min}
use native.Mathlib.Omega.{arith}
use borrow.Author.Tests.{eq-eqb, lt-ltb, le-leb, ltb-true, leb-true, eqb-true}
use lib.ListN.{take}
use lib.Seq.{get_or-take}
use Rattle.words.specs.Words.{◌<?◌, ◌≤?◌, ◌=?◌, ◌and◌}
use Rattle.frame.specs.Standard.{greatest_address}
use Rattle.words.proofs.Words.{both_true, by_test}
use Rattle.claim.specs.Candidates.{longest_list, is_well_formed}
use Rattle.claim.specs.Claim.{held_after, losses_at, keeps_rules, holds_list, address, waited, pause}
use Rattle.claim.specs.declared.Claim.{Claim}
use Rattle.claim.proofs.Candidates.{well_formed, address_at}

pub record Rules (c : Claim) : Type 0 where
  pub inside : c.position < c.candidates
  pub short : c.wait ≤ held_after
  pub still : c.silent ≡ true → (c.position ≡ 0) × (c.wait ≡ 0)
  pub count : c.losses ≡ losses_at c

pub rules_of : (c : Claim) → keeps_rules c ≡ true → Rules c
unfolding keeps_rules
rules_of c e =
    let a = both_true (c.position <? c.candidates) _ e in
    let b = both_true (c.wait ≤? held_after) _ a.1 in
    let g = both_true (if c.silent then (c.position =? 0) and (c.wait =? 0) else true) _ b.1 in
    record {
      inside = ltb-true _ _ a.0;
      short = leb-true _ _ b.0;
      still = λ s.
          let d : (c.position =? 0) and (c.wait =? 0) ≡ true = rw s at g.0 in
          let f = both_true (c.position =? 0) _ d in
          (eqb-true _ _ f.0, eqb-true _ _ f.1);
      count = eqb-true _ _ g.1;
    }

pub of_rules : (c : Claim) → Rules c → keeps_rules c ≡ true
unfolding keeps_rules
of_rules c k =
    rw (lt-ltb _ _ k.inside, le-leb _ _ k.short, eq-eqb _ _ k.count)
    (by_test c.silent
    (λ s. let f = k.still s in rw (s, eq-eqb c.position 0 f.0, eq-eqb c.wait 0 f.1))
    (λ s. rw s))

-- the count of a state that keeps its rules

pub count_awake : (c : Claim) → Rules c → c.silent ≡ false → c.losses ≡ c.position
count_awake c k s = k.count ∙ rw s

pub count_silent : (c : Claim) → Rules c → c.silent ≡ true → c.losses ≡ c.candidates
count_silent c k s = k.count ∙ rw s

pub count_bounded : (c : Claim) → Rules c → c.losses ≤ c.candidates
count_bounded c k =
    by_test c.silent
    (λ s. omega (arith, count_silent c k s))
    (λ s. omega (arith, count_awake c k s, k.inside))

pub record Holds (c : Claim) : Type 0 where
  pub few : c.candidates ≤ longest_list
  pub formed : is_well_formed (take c.candidates c.list) ≡ true

pub holds_of : (c : Claim) → holds_list c ≡ true → Holds c
unfolding holds_list
holds_of c e =
    let a = both_true (c.candidates ≤? longest_list) _ e in
    record { few = leb-true _ _ a.0; formed = a.1 }

-- the address that a sound state stands at is one of its list, so neither 254 nor 255
pub address_low : (c : Claim) → Rules c → Holds c → address c ≤ greatest_address
address_low c k h =
    let w = well_formed (take c.candidates c.list) h.formed in
    rw (← get_or-take c.candidates c.list c.position 0 k.inside) (address_at (take c.candidates c.list) c.position w.low)

-- a pause in its two cases

pub pause_silent : (ms : ℕ) (c : Claim) → c.silent ≡ true → pause ms c ≡ c
unfolding pause
pause_silent ms c s = rw s

pub pause_awake : (ms : ℕ) (c : Claim) → c.silent ≡ false → pause ms c ≡ waited (min held_after (c.wait + ms)) c
unfolding pause
pause_awake ms c s = rw s
