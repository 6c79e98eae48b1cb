-- `capture::Cutter::next` meets its contract. Assumes nothing.
use mathlib.Core.Path.{◌≡◌, sym, ◌∙◌}
use Prim.Native.Nat.{◌≤◌, ◌<◌, ◌-◌}
use native.Mathlib.Omega.{arith}
use borrow.Author.Rules.{rules}
use lib.Arith.{lt_of_le-ne}
use lib.Seq.{take_all}
use lib.ListN.{length, take, drop, length-drop, drop_of_length-le}
use Rattle.capture.specs.Stream.{line_in}
use Rattle.capture.proofs.Cuts.{line_length, all_read_lem, none_left, no_newline, a_line, newline_within, line_take}
use Rattle.capture.proofs.Cutter.next.Goals as goal

pub returns-then-self-ge-MOST_LINES : goal.returns-then-self-ge-MOST_LINES
returns-then-self-ge-MOST_LINES c =
    let a = c.args in
    let r = all_read_lem a.self a.at (drop a.at a.block.now) c.if-self-ge-MOST_LINES.true in
    record { answer = r.answer_is; cutter = r.cutter_is; read_to = r.read_to_is }

pub returns-then-block-at : goal.returns-then-block-at
returns-then-block-at c =
    let a = c.args in
    let r = none_left a.self a.at (drop a.at a.block.now) (omega arith) (drop_of_length-le a.block.now c.if-block-at.true) in
    record { answer = r.answer_is; cutter = r.cutter_is; read_to = r.read_to_is }

pub returns-then-end-block : goal.returns-then-end-block
returns-then-end-block c =
    let a = c.args in
    let n = c.newline-end in
    let rest = drop a.at a.block.now in
    let d : length rest ≡ length a.block.now - a.at = length-drop a.at a.block.now in
    let z : 0 < length rest = omega arith in
    let l : length rest ≤ length (line_in rest) = omega arith in
    let s : take (length a.block.now - a.at) rest ≡ rest = take_all (length a.block.now - a.at) rest (omega arith) in
    let r = no_newline a.self a.at rest (omega arith) l (λ e. omega arith) in
    record { answer = r.answer_is; cutter = c.carry_on.ensures ∙ rw s r.cutter_is; read_to = omega arith ∙ r.read_to_is }

pub slice_bounds-close-end : goal.slice_bounds-close-end
slice_bounds-close-end c =
    let a = c.args in
    let w = newline_within a.block.now a.at (omega arith) in
    search rules

pub overflow_add-result : goal.overflow_add-result
overflow_add-result c =
    let a = c.args in
    let w = newline_within a.block.now a.at (omega arith) in
    search rules

pub returns : goal.returns
returns c =
    let a = c.args in
    let n = c.newline-end in
    let rest = drop a.at a.block.now in
    let d : length rest ≡ length a.block.now - a.at = length-drop a.at a.block.now in
    let w = newline_within a.block.now a.at (omega arith) in
    let l : length (line_in rest) < length rest = lt_of_le-ne (line_length rest) (λ e. c.if-end-block.false (omega arith)) in
    let m : n.result - a.at ≡ length (line_in rest) = omega arith in
    let t : take (n.result - a.at) rest ≡ line_in rest = rw m (sym (line_take rest)) in
    let r = a_line a.self a.at rest (omega arith) l in
    record { answer = c.line.ensures ∙ rw n.ensures r.answer_is; cutter = c.close.ensures ∙ rw t r.cutter_is; read_to = rw n.ensures r.read_to_is }
