-- Lines of a stream: where the first newline is, the line has so many bytes before it.
-- Assumes nothing.
use mathlib.Core.Path.{◌≡◌, refl, sym}
use mathlib.Core.List.{List, [], ◌∷◌}
use Prim.Native.Nat.{ℕ, ◌+◌, ◌≤◌}
use native.Mathlib.Omega.{arith}
use lib.ListN.{length}
use Rattle.std.specs.Prelude.{Option, Some, None}
use Rattle.words.specs.Words.{◌=?◌}
use Rattle.words.specs.Lists.{first_from, first}
use Rattle.words.proofs.Words.{by_test}
use Rattle.capture.specs.Stream.{newline, line_in}

some_same : {m n : ℕ} → ◌≡◌ {A = Option ℕ} (Some m) (Some n) → m ≡ n
some_same e = cc

some_none : {P : Type 0} {m : ℕ} → ◌≡◌ {A = Option ℕ} (Some m) None → P
some_none e = let z : ◌≡◌ {A = ℕ} 0 1 = cc in absurd (omega arith)

found_from : (n i : ℕ) (part : List ℕ) → first_from (λ byte. byte =? newline) i part ≡ Some n → n ≡ i + length (line_in part)
unfolding line_in
found_from n i [] e = some_none (sym e)
found_from n i (b ∷ part) e =
    by_test (b =? newline)
    (λ t. rw t (omega (arith, some_same (rw t at e))))
    (λ t. rw t (omega (arith, found_from n (i + 1) part (rw t at e))))

pub newline_found : (n : ℕ) (part : List ℕ) → first (λ byte. byte =? newline) part ≡ Some n → n ≡ length (line_in part)
newline_found n part e = omega (arith, found_from n 0 part e)

-- and a line is no longer than the part that it begins
pub line_within : (part : List ℕ) → length (line_in part) ≤ length part
unfolding line_in
line_within [] = omega arith
line_within (b ∷ part) = by_test (b =? newline) (λ t. rw t (omega arith)) (λ t. rw t (omega (arith, line_within part)))

missed_from : (i : ℕ) (part : List ℕ) → first_from (λ byte. byte =? newline) i part ≡ None → length (line_in part) ≡ length part
unfolding line_in
missed_from i [] e = refl
missed_from i (b ∷ part) e =
    by_test (b =? newline)
    (λ t. some_none (rw t at e))
    (λ t. rw t (omega (arith, missed_from (i + 1) part (rw t at e))))

pub newline_missed : (part : List ℕ) → first (λ byte. byte =? newline) part ≡ None → length (line_in part) ≡ length part
newline_missed part e = missed_from 0 part e
