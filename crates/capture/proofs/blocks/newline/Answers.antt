-- `capture::blocks::newline` meets its contract. Assumes nothing.
use mathlib.Core.Path.{◌≡◌, sym, ap, ◌∙◌}
use mathlib.Core.List.{List}
use Prim.Native.Nat.{ℕ, ◌+◌, ◌-◌, ◌≤◌}
use native.Mathlib.Omega.{arith}
use borrow.Author.Rules.{rules}
use lib.ListN.{length, take, drop, length-drop}
use lib.Seq.{take_all}
use Rattle.capture.specs.Stream.{line_in}
use Rattle.capture.proofs.Stream.{newline_found, newline_missed, line_within}
use Rattle.capture.proofs.blocks.newline.Goals as goal

-- the part that is looked through
rest : (block : List ℕ) (from : ℕ) → take (length block - from) (drop from block) ≡ drop from block
rest block from = let l = length-drop from block in take_all (length block - from) (drop from block) (omega (arith, l))

found : (c : goal.In-Some) → c.in-Some.count ≡ length (line_in (drop c.args.from c.args.block.now))
found c =
    let a = c.args in
    newline_found c.in-Some.count _ (sym c.first_newline.ensures ∙ c.in-Some.is) ∙ ap (λ (part : List ℕ). length (line_in part)) (rest a.block.now a.from)

pub overflow_add-result : goal.overflow_add-result
overflow_add-result c =
    let a = c.args in
    let f = found c in
    let w = line_within (drop a.from a.block.now) in
    let l = length-drop a.from a.block.now in
    let h : a.from + c.in-Some.count ≤ length a.block.now = omega (arith, f, w, l) in
    search rules

pub returns-in-Some : goal.returns-in-Some
returns-in-Some c = ap (λ (n : ℕ). c.args.from + n) (found c)

pub returns-in-None : goal.returns-in-None
returns-in-None c =
    let a = c.args in
    let e = rest a.block.now a.from in
    let m = newline_missed (take (length a.block.now - a.from) (drop a.from a.block.now)) (sym c.first_newline.ensures ∙ c.in-None.is) in
    let n : length (line_in (drop a.from a.block.now)) ≡ length (drop a.from a.block.now) = rw e at m in
    let l = length-drop a.from a.block.now in
    omega (arith, n, l)
