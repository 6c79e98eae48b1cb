-- Halving: what it finds in any list of rows, and that in a list whose DGNs never fall it is how many rows have a lower DGN.
-- Assumes nothing.
use mathlib.Core.Path.{◌≡◌, refl, sym, ◌∙◌}
use mathlib.Core.List.{List}
use Prim.Native.Nat.{ℕ, zero, suc, ◌+◌, ◌-◌, ◌≤◌, ◌<◌}
use native.Mathlib.Nat.{not-suc-le-zero, le_refl}
use native.Mathlib.Omega.{arith}
use borrow.Author.Tests.{ltb-true, ltb-false, lt-ltb, le-ltb}
use lib.ListN.{length}
use Rattle.words.specs.Words.{◌<?◌}
use Rattle.words.proofs.Words.{by_test}
use Rattle.catalogue.specs.Table.{nth, below, having, KeepsRule}
use Rattle.catalogue.specs.Packed.{middle, halve, halved}
use Rattle.catalogue.specs.declared.Row.{Row}
use Rattle.catalogue.proofs.Rule.{rising_dgn, below_is, below_next}

module _ (list : List Row) (key : ℕ) where
  -- a turn
  stop : (t low high : ℕ) → high ≤ low → halve t list key low high ≡ low
  unfolding halve
  stop zero low high h = refl
  stop (suc t) low high h = rw (le-ltb low high h)

  go_up : (t low high : ℕ) → low < high → (nth list (middle low high)).dgn < key
      → halve (suc t) list key low high ≡ halve t list key (middle low high + 1) high
  unfolding halve
  go_up t low high h g = rw (lt-ltb low high h, lt-ltb (nth list (middle low high)).dgn key g)

  go_down : (t low high : ℕ) → low < high → key ≤ (nth list (middle low high)).dgn
      → halve (suc t) list key low high ≡ halve t list key low (middle low high)
  unfolding halve
  go_down t low high h g = rw (lt-ltb low high h, le-ltb (nth list (middle low high)).dgn key g)

  -- for the code: so many turns are left, and they find what all find
  abbrev pub Left : ℕ → ℕ → Type 0
  Left low high = (t : ℕ) × (high - low ≤ t) × (halve t list key low high ≡ halved list key)

  pub left_first : Left 0 (length list)
  unfolding halved
  left_first = (length list, omega arith, refl)

  pub left_up : (low high : ℕ) → low < high → (nth list (middle low high)).dgn < key → Left low high → Left (middle low high + 1) high
  left_up low high h g (zero, b, e) = absurd (not-suc-le-zero (few low high h b))
    where
      few : (low high : ℕ) → low < high → high - low ≤ 0 → 0 < 0
      few low high h b = omega arith
  left_up low high h g (suc t, b, e) = (t, omega arith, sym (go_up t low high h g) ∙ e)

  pub left_down : (low high : ℕ) → low < high → key ≤ (nth list (middle low high)).dgn → Left low high → Left low (middle low high)
  left_down low high h g (zero, b, e) = absurd (not-suc-le-zero (few low high h b))
    where
      few : (low high : ℕ) → low < high → high - low ≤ 0 → 0 < 0
      few low high h b = omega arith
  left_down low high h g (suc t, b, e) = (t, omega arith, sym (go_down t low high h g) ∙ e)

  pub left_last : (low high : ℕ) → high ≤ low → Left low high → low ≡ halved list key
  left_last low high h (t, b, e) = sym (stop t low high h) ∙ e

  -- between its ends
  bounds : (t low high : ℕ) → low ≤ high → (low ≤ halve t list key low high) × (halve t list key low high ≤ high)
  unfolding halve
  bounds zero low high h = (le_refl low, h)
  bounds (suc t) low high h =
      by_test (low <? high)
      (λ a. let l = ltb-true low high a in
      by_test ((nth list (middle low high)).dgn <? key)
      (λ b. let i = bounds t (middle low high + 1) high (omega arith) in rw (a, b) (omega arith, omega arith))
      (λ b. let i = bounds t low (middle low high) (omega arith) in rw (a, b) (omega arith, omega arith)))
      (λ a. rw a (le_refl low, h))

  -- in a list that keeps the rule
  finds : KeepsRule list → (t low high : ℕ) → high - low ≤ t → low ≤ high → high ≤ length list
      → ((k : ℕ) → k < low → (nth list k).dgn < key) → ((k : ℕ) → high ≤ k → k < length list → key ≤ (nth list k).dgn)
      → halve t list key low high ≡ below list key
  finds rule zero low high b l h p q =
      stop 0 low high (omega arith) ∙ below_is list key low (omega arith) p (λ k g m. q k (omega arith) m)
  finds rule (suc t) low high b l h p q =
      by_test (low <? high)
      (λ a. let m = middle low high in
      let i : low < high = ltb-true low high a in
      let in_list : m < length list = omega arith in
      by_test ((nth list m).dgn <? key)
      (λ c. let g : (nth list m).dgn < key = ltb-true _ key c in
      go_up t low high i g
      ∙ finds rule t (m + 1) high (omega arith) (omega arith) h (λ k u. omega (arith, rising_dgn list rule k m (omega arith) in_list)) q)
      (λ c. let g : key ≤ (nth list m).dgn = ltb-false _ key c in
      go_down t low high i g
      ∙ finds rule t low m (omega arith) (omega arith) (omega arith) p (λ k u v. omega (arith, rising_dgn list rule m k u v))))
      (λ a. let g : high ≤ low = ltb-false low high a in
      stop (suc t) low high g ∙ below_is list key low (omega arith) p (λ k u v. q k (omega arith) v))

  pub halved_below : KeepsRule list → halved list key ≡ below list key
  unfolding halved
  halved_below rule =
      finds rule (length list) 0 (length list) (omega arith) (omega arith) (le_refl _) (λ k h. absurd (not-suc-le-zero h)) (λ k h g. omega arith)

  pub halved_within : halved list key ≤ length list
  unfolding halved
  halved_within = (bounds (length list) 0 (length list) (omega arith)).1

-- a greater key is found no earlier
rises : (list : List Row) (key t low high : ℕ) → low ≤ high → halve t list key low high ≤ halve t list (key + 1) low high
unfolding halve
rises list key zero low high h = le_refl low
rises list key (suc t) low high h =
    by_test (low <? high)
    (λ a. let l = ltb-true low high a in
    let m = middle low high in
    by_test ((nth list m).dgn <? key)
    (λ b. let g : (nth list m).dgn < key + 1 = omega (arith, ltb-true (nth list m).dgn key b) in
    rw (a, b, lt-ltb (nth list m).dgn (key + 1) g) (rises list key t (m + 1) high (omega arith)))
    (λ b. by_test ((nth list m).dgn <? key + 1)
    (λ d. let i = bounds list key t low m (omega arith) in
    let j = bounds list (key + 1) t (m + 1) high (omega arith) in
    rw (a, b, d) (omega arith))
    (λ d. rw (a, b, d) (rises list key t low m (omega arith)))))
    (λ a. rw a (le_refl low))

pub halved_rises : (list : List Row) (key : ℕ) → halved list key ≤ halved list (key + 1)
unfolding halved
halved_rises list key = rises list key (length list) 0 (length list) (omega arith)

pub halved_having : (list : List Row) (dgn : ℕ) → KeepsRule list → halved list (dgn + 1) - halved list dgn ≡ having list dgn
halved_having list dgn rule =
    let a = halved_below list dgn rule in
    let b = halved_below list (dgn + 1) rule in
    let c = below_next list dgn in
    omega arith
