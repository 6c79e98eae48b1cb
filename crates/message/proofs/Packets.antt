-- The splitter, case by case, and the bytes of a packet.
-- Assumes nothing.
use mathlib.Core.Path.{◌≡◌, sym, ◌∙◌}
use mathlib.Core.List.{List}
use mathlib.Core.Logic.{◌⊎◌, inl, inr}
use Prim.Native.Nat.{ℕ, ◌≤◌, ◌<◌}
use native.Mathlib.Omega.{arith}
use borrow.Author.Tests.{eq-eqb, ne_eqb, lt-ltb, le-ltb, ltb-true, ltb-false}
use lib.ListN.{length}
use Rattle.words.specs.Words.{◌<?◌, refused, gives}
use Rattle.frame.specs.Identifier.{greatest_dgn}
use Rattle.words.proofs.Words.{refused_gives, gives_same, by_test}
use Rattle.words.proofs.Tests.{tests}
use Rattle.message.specs.LongMessage.{shortest, longest, packets_of}
use Rattle.message.specs.Splitter.{splits, numbered, announcement_bytes, packet_bytes_of}
use Rattle.message.specs.Splitter.{announcement_of, packet_of}

-- What the splitter says of a length and a DGN, case by case.

module _ (size dgn : ℕ) where
  pub splits_within : dgn ≤ greatest_dgn → shortest ≤ size → size ≤ longest → splits size dgn ≡ gives (packets_of size)
  unfolding splits
  splits_within d l h = search tests

  pub splits_above : greatest_dgn < dgn → splits size dgn ≡ refused 12
  unfolding splits
  splits_above d = search tests

  pub splits_outside : dgn ≤ greatest_dgn → (size < shortest) ⊎ (longest < size) → splits size dgn ≡ refused 13
  unfolding splits
  splits_outside d (inl h) = search tests
  splits_outside d (inr h) = let l : shortest ≤ size = omega arith in search tests

  -- there is no other case
  pub by_limits : {P : Type 0} → (greatest_dgn < dgn → P)
      → (dgn ≤ greatest_dgn → (size < shortest) ⊎ (longest < size) → P)
      → (dgn ≤ greatest_dgn → shortest ≤ size → size ≤ longest → P) → P
  by_limits above outside within =
      by_test (greatest_dgn <? dgn) (λ t. above (ltb-true greatest_dgn dgn t))
      (λ t.
      let d = ltb-false greatest_dgn dgn t in
      by_test (size <? shortest) (λ u. outside d (inl (ltb-true size shortest u)))
      (λ u. by_test (longest <? size) (λ v. outside d (inr (ltb-true longest size v)))
      (λ v. within d (ltb-false size shortest u) (ltb-false longest size v))))

-- a message that is split keeps its limits, and the count is that of its packets
pub record Splittable (size dgn count : ℕ) : Type 0 where
  pub counted : count ≡ packets_of size
  pub long : shortest ≤ size
  pub short : size ≤ longest
  pub about : dgn ≤ greatest_dgn

pub splits_given : (size dgn count : ℕ) → splits size dgn ≡ gives count → Splittable size dgn count
splits_given size dgn count e =
    by_limits size dgn
    (λ d. refused_gives (sym (splits_above size dgn d) ∙ e))
    (λ d h. refused_gives (sym (splits_outside size dgn d h) ∙ e))
    (λ d l h. record { counted = gives_same (sym e ∙ splits_within size dgn d l h); long = l; short = h; about = d })

module _ (message : List ℕ) (dgn : ℕ) where
  pub announcement_refused : {n : ℕ} → splits (length message) dgn ≡ refused n → announcement_of message dgn ≡ refused n
  unfolding announcement_of
  announcement_refused e = rw e

  pub announcement_given : {count : ℕ} → splits (length message) dgn ≡ gives count → announcement_of message dgn ≡ gives (announcement_bytes (length message) dgn)
  unfolding announcement_of
  announcement_given e = rw e

  pub packet_refused : {n : ℕ} (number : ℕ) → splits (length message) dgn ≡ refused n → packet_of message dgn number ≡ refused n
  unfolding packet_of
  packet_refused number e = rw e

  pub packet_numbered : {count : ℕ} (number : ℕ) → splits (length message) dgn ≡ gives count → packet_of message dgn number ≡ numbered message number count
  unfolding packet_of
  packet_numbered number e = rw e

module _ (message : List ℕ) (number count : ℕ) where
  pub numbered_zero : number ≡ 0 → numbered message number count ≡ refused 15
  unfolding numbered
  numbered_zero e = rw (eq-eqb _ _ e)

  pub numbered_above : (number ≡ 0 → ⊥) → count < number → numbered message number count ≡ refused 15
  unfolding numbered
  numbered_above n h = rw (ne_eqb _ _ n, lt-ltb _ _ h)

  pub numbered_given : (number ≡ 0 → ⊥) → number ≤ count → numbered message number count ≡ gives (packet_bytes_of message number)
  unfolding numbered
  numbered_given n h = rw (ne_eqb _ _ n, le-ltb _ _ h)
