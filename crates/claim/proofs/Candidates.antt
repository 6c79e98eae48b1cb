-- What a well formed candidate list is, in plain facts.
-- Assumes nothing.
use mathlib.Core.Path.{◌≡◌}
use mathlib.Core.Bool.{true}
use mathlib.Core.List.{List, [], ◌∷◌}
use Prim.Native.Nat.{ℕ, zero, suc, ◌≤◌, ◌<◌}
use native.Mathlib.Omega.{arith}
use borrow.Author.Tests.{leb-true}
use lib.ListN.{length, get_or}
use Rattle.words.specs.Words.{◌≤?◌}
use Rattle.words.specs.Lists.{every}
use Rattle.frame.specs.Standard.{greatest_address}
use Rattle.words.proofs.Words.{both_true}
use Rattle.claim.specs.Candidates.{longest_list, is_address, is_well_formed}

pub record WellFormed (l : List ℕ) : Type 0 where
  pub some_one : 0 < length l
  pub short : length l ≤ longest_list
  pub low : every is_address l ≡ true

pub well_formed : (l : List ℕ) → is_well_formed l ≡ true → WellFormed l
unfolding is_well_formed
well_formed l e =
    let a = both_true (1 ≤? length l) _ e in
    let b = both_true (length l ≤? longest_list) _ a.1 in
    record {
      some_one = leb-true 1 (length l) a.0;
      short = leb-true (length l) longest_list b.0;
      low = (both_true (every is_address l) _ b.1).0;
    }

-- every element of it is an address, and so is the default past its end
pub address_at : (l : List ℕ) (i : ℕ) → every is_address l ≡ true → get_or l i 0 ≤ greatest_address
address_at [] i e = omega arith
address_at (a ∷ l) zero e = leb-true _ _ (both_true (is_address a) _ e).0
address_at (a ∷ l) (suc i) e = address_at l i (both_true (is_address a) _ e).1
