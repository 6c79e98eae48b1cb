-- What 50 ms make of a place: an empty one, a due one, and one that is not due yet; and how long a fault has been due.
-- Assumes nothing.
use mathlib.Core.Path.{◌≡◌, refl, sym, ap, ◌∙◌}
use mathlib.Core.Bool.{Bool, true, false}
use mathlib.Core.List.{List}
use Prim.Native.Nat.{ℕ, zero, suc, ◌+◌, ◌-◌, ◌≤◌, ◌<◌, min}
use native.Mathlib.Omega.{arith}
use borrow.Author.Tests.{eqb-true, eqb-false, leb-true, not-true, eq-eqb, ne_eqb, le-leb}
use Rattle.words.specs.Words.{◌=?◌, ◌≤?◌, ◌and◌}
use Rattle.words.proofs.Words.{by_test, both_true}
use Rattle.faults.specs.Fault.{step_time, oldest, older, no_fault, is_empty, is_active, is_due, passed, added, sent}
use Rattle.faults.specs.declared.Fault.{Fault}

-- tests and what they say

pub active_true : (f : Fault) → (f.period ≡ 0 → ⊥) → is_active f ≡ true
active_true f n = rw (ne_eqb f.period 0 n)

pub active_says : (f : Fault) → is_active f ≡ true → f.period ≡ 0 → ⊥
active_says f e z = eqb-false f.period 0 (not-true (f.period =? 0) e) z

pub due_true : (f : Fault) → (f.period ≡ 0 → ⊥) → f.until_due ≡ 0 → is_due f ≡ true
due_true f n z = rw (active_true f n) (eq-eqb f.until_due 0 z)

pub due_says : (f : Fault) → is_due f ≡ true → (f.period ≡ 0 → ⊥) × (f.until_due ≡ 0)
due_says f e =
    let t = both_true (is_active f) (f.until_due =? 0) e in
    (active_says f t.0, eqb-true f.until_due 0 t.1)

-- the three cases of a place, and what 50 ms make of each

abbrev pub due_longer : Fault → Fault
due_longer f = record { bytes = f.bytes; period = f.period; until_due = 0; age = older f.age }

abbrev pub due_sooner : Fault → Fault
due_sooner f = record { bytes = f.bytes; period = f.period; until_due = f.until_due - step_time; age = 0 }

pub data Phase (f : Fault) : Type 0 where
  vacant : f.period ≡ 0 → passed f ≡ f → Phase f
  ready : (f.period ≡ 0 → ⊥) → f.until_due ≡ 0 → passed f ≡ due_longer f → Phase f
  coming : (f.period ≡ 0 → ⊥) → 0 < f.until_due → passed f ≡ due_sooner f → Phase f

passed_vacant : (f : Fault) → is_empty f ≡ true → passed f ≡ f
unfolding passed
passed_vacant f e = rw e

passed_ready : (f : Fault) → is_empty f ≡ false → (f.until_due =? 0) ≡ true → passed f ≡ due_longer f
unfolding passed
passed_ready f e k = rw (e, k)

passed_coming : (f : Fault) → is_empty f ≡ false → (f.until_due =? 0) ≡ false → passed f ≡ due_sooner f
unfolding passed
passed_coming f e k = rw (e, k)

pub phase : (f : Fault) → Phase f
phase f =
    by_test (is_empty f)
    (λ e. vacant (eqb-true f.period 0 e) (passed_vacant f e))
    (λ e. by_test (f.until_due =? 0)
    (λ k. ready (eqb-false f.period 0 e) (eqb-true f.until_due 0 k) (passed_ready f e k))
    (λ k.
    let n = eqb-false f.until_due 0 k in
    let h : 0 < f.until_due = omega (arith, n) in
    coming (eqb-false f.period 0 e) h (passed_coming f e k)))

-- bytes and period stay

same_bytes : (f : Fault) → Phase f → (passed f).bytes ≡ f.bytes
same_bytes f (vacant z e) = ap (λ (g : Fault). g.bytes) e
same_bytes f (ready n z e) = ap (λ (g : Fault). g.bytes) e
same_bytes f (coming n z e) = ap (λ (g : Fault). g.bytes) e

pub passed_bytes : (f : Fault) → (passed f).bytes ≡ f.bytes
passed_bytes f = same_bytes f (phase f)

same_period : (f : Fault) → Phase f → (passed f).period ≡ f.period
same_period f (vacant z e) = ap (λ (g : Fault). g.period) e
same_period f (ready n z e) = ap (λ (g : Fault). g.period) e
same_period f (coming n z e) = ap (λ (g : Fault). g.period) e

pub passed_period : (f : Fault) → (passed f).period ≡ f.period
passed_period f = same_period f (phase f)

-- the time until due falls by 50
same_until : (f : Fault) → Phase f → (f.period ≡ 0 → ⊥) → (passed f).until_due ≡ f.until_due - step_time
same_until f (vacant z e) k = absurd (k z)
same_until f (ready n z e) k = ap (λ (g : Fault). g.until_due) e ∙ omega (arith, z)
same_until f (coming n z e) k = ap (λ (g : Fault). g.until_due) e

pub passed_until : (f : Fault) → (f.period ≡ 0 → ⊥) → (passed f).until_due ≡ f.until_due - step_time
passed_until f k = same_until f (phase f) k

pub passed_none : passed no_fault ≡ no_fault
passed_none = passed_vacant no_fault refl

-- How long a fault will have been due at the next step: `ripe j` if it is due then and has been so for j steps.
abbrev pub ripe : ℕ → Fault → Bool
ripe zero f = is_active f and (f.until_due ≤? step_time)
ripe (suc k) f = is_due f and (k ≤? f.age)

pub ripe_zero : (f : Fault) → (f.period ≡ 0 → ⊥) → f.until_due ≤ step_time → ripe 0 f ≡ true
ripe_zero f n h = rw (active_true f n) (le-leb f.until_due step_time h)

pub ripe_zero_says : (f : Fault) → ripe 0 f ≡ true → f.until_due ≤ step_time
ripe_zero_says f e =
    leb-true f.until_due step_time (both_true (is_active f) (f.until_due ≤? step_time) e).1

pub ripe_suc : (k : ℕ) (f : Fault) → is_due f ≡ true → k ≤ f.age → ripe (suc k) f ≡ true
ripe_suc k f e h = rw e (le-leb k f.age h)

pub ripe_says : (k : ℕ) (f : Fault) → ripe (suc k) f ≡ true → (is_due f ≡ true) × (k ≤ f.age)
ripe_says k f e = let t = both_true (is_due f) (k ≤? f.age) e in (t.0, leb-true k f.age t.1)

-- what is due at the next step for j steps is ripe now

ripened : (j : ℕ) (f : Fault) → Phase f → is_due (passed f) ≡ true → j ≤ (passed f).age → ripe j f ≡ true
ripened j f (vacant z e) d h = absurd ((due_says (passed f) d).0 (passed_period f ∙ z))
ripened zero f (ready n z e) d h = ripe_zero f n (omega (arith, z))
ripened (suc k) f (ready n z e) d h =
    let a : (passed f).age ≡ min oldest (f.age + 1) = ap (λ (g : Fault). g.age) e in
    let l : suc k ≤ min oldest (f.age + 1) = rw a at h in
    ripe_suc k f (due_true f n z) (omega arith)
ripened zero f (coming n p e) d h =
    let u : (passed f).until_due ≡ f.until_due - step_time = ap (λ (g : Fault). g.until_due) e in
    let z = (due_says (passed f) d).1 in
    ripe_zero f n (omega (arith, u, z))
ripened (suc k) f (coming n p e) d h =
    let a : (passed f).age ≡ 0 = ap (λ (g : Fault). g.age) e in
    absurd (omega (arith, a, h))

pub ripe_of_due : (j : ℕ) (f : Fault) → is_due (passed f) ≡ true → j ≤ (passed f).age → ripe j f ≡ true
ripe_of_due j f d h = ripened j f (phase f) d h

-- and what is ripe now is due at the next step for so long, up to where ages stop

falls_due : (j : ℕ) (f : Fault) → Phase f → ripe j f ≡ true → j ≤ oldest
    → (is_due (passed f) ≡ true) × (j ≤ (passed f).age)
falls_due zero f (vacant z e) r h = absurd (active_says f (both_true (is_active f) (f.until_due ≤? step_time) r).0 z)
falls_due zero f (ready n z e) r h =
    (due_true (passed f) (λ y. n (sym (passed_period f) ∙ y)) (ap (λ (g : Fault). g.until_due) e), omega arith)
falls_due zero f (coming n p e) r h =
    let l = leb-true f.until_due step_time (both_true (is_active f) (f.until_due ≤? step_time) r).1 in
    let u : (passed f).until_due ≡ f.until_due - step_time = ap (λ (g : Fault). g.until_due) e in
    (due_true (passed f) (λ y. n (sym (passed_period f) ∙ y)) (omega (arith, u, l)), omega arith)
falls_due (suc k) f (vacant z e) r h = absurd ((due_says f (ripe_says k f r).0).0 z)
falls_due (suc k) f (ready n z e) r h =
    let l = (ripe_says k f r).1 in
    let a : (passed f).age ≡ min oldest (f.age + 1) = ap (λ (g : Fault). g.age) e in (
      due_true (passed f) (λ y. n (sym (passed_period f)
          ∙ y)) (ap (λ (g : Fault). g.until_due) e),
      omega (arith, a, l),
    )
falls_due (suc k) f (coming n p e) r h =
    let z = (due_says f (ripe_says k f r).0).1 in
    absurd (omega (arith, z, p))

pub due_of_ripe : (j : ℕ) (f : Fault) → ripe j f ≡ true → j ≤ oldest → (is_due (passed f) ≡ true) × (j ≤ (passed f).age)
due_of_ripe j f r h = falls_due j f (phase f) r h

-- one step later
pub ripe_later : (j : ℕ) (f : Fault) → ripe (suc j) (passed f) ≡ true → ripe j f ≡ true
ripe_later j f r = let t = ripe_says j (passed f) r in ripe_of_due j f t.0 t.1

-- a sent fault, a new one and an empty place have not been due at all

not_due : (f : Fault) → 0 < f.until_due → is_due f ≡ false
not_due f h = by_test (is_due f) (λ e. absurd (omega (arith, (due_says f e).1))) (λ e. e)

pub sent_unripe : (j : ℕ) (f : Fault) → is_active f ≡ true → ripe (suc j) (sent f) ≡ false
sent_unripe j f e = let n = active_says f e in rw (not_due (sent f) (omega (arith, n)))

pub added_unripe : (j : ℕ) (bytes : List ℕ) (period : ℕ) → ripe (suc j) (added bytes period) ≡ false
added_unripe j bytes period = rw (not_due (added bytes period) (omega arith))

pub none_unripe : (j : ℕ) → ripe j no_fault ≡ false
none_unripe zero = refl
none_unripe (suc j) = refl
