-- The statements of specs/WrongPauses.antt: two pauses and the one in their place, which each wrong call tells apart.
-- Assumes nothing.
use Rattle.std.specs.Prelude.{if◌then◌else◌}
use mathlib.Core.Path.{◌≡◌, refl, sym, ◌∙◌}
use mathlib.Core.Bool.{true}
use mathlib.Core.Option.{some, none}
use Prim.Native.Nat.{ℕ, ◌+◌, ◌<◌, ◌≤◌}
use native.Mathlib.Omega.{arith}
use borrow.Author.Tests.{ltb-true, ltb-false, leb-true, lt-ltb, le-ltb, le-leb}
use Rattle.words.specs.Words.{given◌then◌, ◌<?◌, Told, refused, gives, Done, done}
use Rattle.words.specs.WrongPauses.{Waiting, is_within, call, idles, closed, IdleAddsUp}
use Rattle.words.specs.WrongPauses.{RestartsDoNot, CappedDoNot, WrapsDoNot, PlacesDoNot}
use Rattle.words.proofs.Words.{by_test, gives_same, before_refusal}
use Rattle.words.proofs.Pauses.{standing, computed_add_up}

-- what is open is not closed
open_closed : {idle : ℕ} → some idle ≡ none → ⊥
open_closed e = let z : ◌≡◌ {A = ℕ} 0 1 = cc in absurd (omega arith)

-- the right one

idle_none : (s : Waiting) → is_within s ≡ true → (idles 0 s ≡ s) × (closed 0 s ≡ 0)
idle_none none k = (refl, refl)
idle_none (some idle) k =
    let l : idle + 0 ≤ 750 = omega (arith, leb-true idle 750 k) in
    let z : idle + 0 ≡ idle = omega arith in
    (rw (le-ltb _ _ l, z), rw (le-ltb _ _ l))

idle_keeps : (ms : ℕ) (s : Waiting) → is_within (idles ms s) ≡ true
idle_keeps ms none = refl
idle_keeps ms (some idle) =
    by_test (750 <? idle + ms) (λ t. rw t) (λ t. rw t (le-leb (idle + ms) 750 (ltb-false 750 (idle + ms) t)))

idle_sum : (a b : ℕ) (s : Waiting)
    → (idles b (idles a s) ≡ idles (a + b) s) × (closed a s + closed b (idles a s) ≡ closed (a + b) s)
idle_sum a b none = (refl, refl)
idle_sum a b (some idle) =
    by_test (750 <? idle + a)
    (λ t. let h : 750 < idle + (a + b) = omega (arith, ltb-true 750 (idle + a) t) in
    (rw (t, lt-ltb _ _ h), rw (t, lt-ltb _ _ h)))
    (λ t. let z : idle + a + b ≡ idle + (a + b) = omega arith in (rw (t, z), rw (t, z) (omega arith)))

abbrev verdict : Waiting → Told Done
verdict s = if is_within s then gives done else refused 2

told_by_lem : (s : Waiting) (n : ℕ) → (if is_within s then gives n else refused 2) ≡ (given verdict s then λ _. gives n)
told_by_lem s n = by_test (is_within s) (λ k. rw k) (λ k. rw k)

left_by_lem : (s t : Waiting) → (if is_within s then t else s) ≡ standing (verdict s) s t
left_by_lem s t = by_test (is_within s) (λ k. rw k) (λ k. rw k)

pub idle_adds_up : IdleAddsUp
idle_adds_up = computed_add_up (call idles closed) (record {
  verdict = verdict;
  next = idles;
  number = closed;
  told_so = λ ms s t told p. p.told_so ∙ told_by_lem s (closed ms s);
  left_so = λ ms s t told p. p.left ∙ left_by_lem s (idles ms s);
  some = λ ms s. (
    (if is_within s then gives (closed ms s) else refused 2),
    (if is_within s then idles ms s else s),
    record { told_so = refl; left = refl },
  );
  sound = λ s k. rw k;
  unsound = λ s e. (before_refusal (is_within s) 2 (gives done) e).0;
  next_keeps = λ ms s k. idle_keeps ms s;
  next_none = λ s k. (idle_none s k).0;
  number_none = λ s k. (idle_none s k).1;
  next_sum = λ a b s k. (idle_sum a b s).0;
  number_sum = λ a b s k. (idle_sum a b s).1;
})

-- 400 ms twice, and 800 ms

pub restarts_do_not : RestartsDoNot
restarts_do_not h =
    open_closed
    (h.two_as_one 400 400 (some 0) (some 400) (some 400) none (gives 0) (gives 0) (gives 1)
    (record { told_so = refl; left = refl }) (record { told_so = refl; left = refl })
    (record { told_so = refl; left = refl })).0

pub capped_do_not : CappedDoNot
capped_do_not h =
    open_closed
    (h.two_as_one 400 400 (some 0) (some 400) (some 750) none (gives 0) (gives 0) (gives 1)
    (record { told_so = refl; left = refl }) (record { told_so = refl; left = refl })
    (record { told_so = refl; left = refl })).0

-- 760 and 64,775 ms, which come to 65,535, after 1 ms
pub wraps_do_not : WrapsDoNot
wraps_do_not h =
    open_closed
    (sym
    (h.two_as_one 760 64775 (some 1) none none (some 0) (gives 1) (gives 0) (gives 0)
    (record { told_so = refl; left = refl }) (record { told_so = refl; left = refl })
    (record { told_so = refl; left = refl })).0)

-- 1 ms twice, and 2 ms
pub places_do_not : PlacesDoNot
places_do_not h =
    let x = (h.two_as_one 1 1 (some 0) (some 1) (some 2) (some 2) (gives 1) (gives 1) (gives 1)
    (record { told_so = refl; left = refl }) (record { told_so = refl; left = refl })
    (record { told_so = refl; left = refl })).1 in
    let n : 1 ≡ x.0 = gives_same x.1 in
    let e : 1 ≡ 1 + x.0 = gives_same x.2 in
    omega (arith, n, e)
