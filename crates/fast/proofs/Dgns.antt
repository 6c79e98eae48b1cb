-- A list of DGNs that is taken or held.
-- Assumes nothing.
use mathlib.Core.Path.{◌≡◌}
use mathlib.Core.Bool.{true}
use mathlib.Core.List.{List}
use Prim.Native.Nat.{ℕ, ◌≤◌}
use borrow.Author.Tests.{leb-true}
use lib.ListN.{length}
use Rattle.words.specs.Words.{◌≤?◌}
use Rattle.words.proofs.Words.{both_true}
use Rattle.fast.specs.Names.{most_named, is_well_formed}

-- a list that a start takes has at most 16 DGNs
pub few_named : (names : List ℕ) → is_well_formed names ≡ true → length names ≤ most_named
unfolding is_well_formed
few_named names e = leb-true _ _ (both_true (length names ≤? most_named) _ e).0
