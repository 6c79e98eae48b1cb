-- What `next` answers, by cases.
-- Assumes nothing.
use mathlib.Core.Path.{◌≡◌, refl, ap}
use mathlib.Core.Bool.{false}
use mathlib.Core.List.{List, [], ◌∷◌}
use Prim.Native.Nat.{ℕ, ◌+◌, ◌-◌, ◌≤◌, ◌<◌}
use native.Mathlib.Omega.{arith}
use borrow.Author.Tests.{ltb-false, ne_eqb, lt-ltb, le-ltb, le-leb, lt-leb}
use lib.ListN.{length, take, drop, length-drop}
use Rattle.words.specs.Words.{◌=?◌}
use Rattle.words.proofs.Words.{by_test}
use Rattle.capture.specs.Stream.{newline, longest_line, most_lines, line_in}
use Rattle.capture.specs.Cutter.{is_too_long, carried_on, closed, line_at, cutting_of, cutter_after, read_to}
use Rattle.capture.specs.declared.Cutter.{Cutter}
use Rattle.capture.specs.declared.Cutting.{Cutting}

-- answer, cutter and position
pub record CutIs (c : Cutter) (at : ℕ) (rest : List ℕ) (answer : Cutting) (after : Cutter) (to : ℕ) : Type 0 where
  pub answer_is : answer ≡ cutting_of c at rest
  pub cutter_is : after ≡ cutter_after c rest
  pub read_to_is : to ≡ read_to c at rest

module _ (c : Cutter) (at : ℕ) (rest : List ℕ) where
  pub all_read_lem : most_lines ≤ c.lines → CutIs c at rest Cutting.AllRead c at
  unfolding cutting_of cutter_after read_to
  all_read_lem h =
      let e = le-leb most_lines c.lines h in
      record { answer_is = rw e; cutter_is = rw e; read_to_is = rw e }

  pub none_left : c.lines < most_lines → rest ≡ [] → CutIs c at rest Cutting.BlockUsed c at
  unfolding cutting_of cutter_after read_to line_in
  none_left h z =
      let e = lt-leb most_lines c.lines h in
      let n : at ≡ at + 0 = omega arith in
      record { answer_is = rw (e, z); cutter_is = rw (e, z); read_to_is = rw (e, z) n }

  pub no_newline : c.lines < most_lines → length rest ≤ length (line_in rest) → (length rest ≡ 0 → ⊥)
      → CutIs c at rest Cutting.BlockUsed (carried_on c rest) (at + length rest)
  unfolding cutting_of cutter_after read_to
  no_newline h l z =
      let e = lt-leb most_lines c.lines h in
      let n = le-ltb (length (line_in rest)) (length rest) l in
      record { answer_is = rw (e, n); cutter_is = rw (e, n, ne_eqb (length rest) 0 z); read_to_is = rw (e, n) }

  pub a_line : c.lines < most_lines → length (line_in rest) < length rest
      → CutIs c at rest (line_at c.length at (at + length (line_in rest))) (closed c (line_in rest)) (at + length (line_in rest) + 1)
  unfolding cutting_of cutter_after read_to
  a_line h l =
      let e = lt-leb most_lines c.lines h in
      let n = lt-ltb (length (line_in rest)) (length rest) l in
      record { answer_is = rw (e, n); cutter_is = rw (e, n); read_to_is = rw (e, n) }

-- the line begins the rest
pub line_length : (rest : List ℕ) → length (line_in rest) ≤ length rest
unfolding line_in
line_length [] = omega arith
line_length (b ∷ rest) = by_test (b =? newline) (λ e. rw e (omega arith)) (λ e. let l = line_length rest in rw e (omega arith))

pub line_take : (rest : List ℕ) → line_in rest ≡ take (length (line_in rest)) rest
unfolding line_in
line_take [] = refl
line_take (b ∷ rest) = by_test (b =? newline) (λ e. rw e) (λ e. rw e (ap (λ (l : List ℕ). b ∷ l) (line_take rest)))

pub newline_within : (block : List ℕ) (at : ℕ) → at ≤ length block → at + length (line_in (drop at block)) ≤ length block
newline_within block at h =
    let l = line_length (drop at block) in
    let d : length (drop at block) ≡ length block - at = length-drop at block in
    omega arith

pub not_too_long : (size more : ℕ) → is_too_long size more ≡ false → size + more ≤ longest_line
unfolding is_too_long
not_too_long size more e = ltb-false longest_line (size + more) e
