-- `capture::spelled` meets its contract. Assumes nothing.
use Rattle.std.proofs.Common.{List, ◌≡◌, sym, ◌∙◌, ap, ℕ, ◌+◌, ◌-◌, arith, rules, length, take, drop}
use lib.ListN.{length-take, length-drop}
use lib.Seq.{take_all}
use Rattle.capture.specs.Private.{told_spelled}
use Rattle.capture.specs.Line.{gap_read, bytes_read, gap_in, id_in, data_in}
use Rattle.capture.specs.Digits.{number_read}
use Rattle.capture.proofs.Lines.{no_shape, no_gap, no_id, no_data, a_frame, shape_length}
use Rattle.capture.proofs.spelled.Goals as goal

-- the three parts of a line, as the code cuts them and as the definitions do

gap_whole : (line : List ℕ) → gap_read (take (length line - 38 + 4 - 4) (drop 4 line)) ≡ gap_read (gap_in line)
gap_whole line =
    let w : length line - 38 + 4 - 4 ≡ length line - 38 = omega arith in
    ap (λ (k : ℕ). gap_read (take k (drop 4 line))) w

id_whole : (line : List ℕ) → number_read 16 (take (length line - 38 + 16 - (length line - 38 + 8)) (drop (length line - 38 + 8) line)) ≡ number_read 16 (id_in line)
id_whole line =
    let w : length line - 38 + 16 - (length line - 38 + 8) ≡ 8 = omega arith in
    ap (λ (k : ℕ). number_read 16 (take k (drop (length line - 38 + 8) line))) w

data_whole : (line : List ℕ) → bytes_read 8 (take (length line - (length line - 38 + 22)) (data_in line)) ≡ bytes_read 8 (data_in line)
data_whole line =
    let n : ℕ = length line - 38 + 22 in
    ap (λ (l : List ℕ). bytes_read 8 l) (take_all (length line - n) (drop n line) (rw length-drop (omega arith)))

pub returns-then-not-has_shape : goal.returns-then-not-has_shape
returns-then-not-has_shape c =
    let line = c.args.line.now in
    record { read = sym (no_shape line (sym c.has_shape.ensures ∙ c.if-not-has_shape.true)); answer = search rules }

pub overflow_sub-width : goal.overflow_sub-width
overflow_sub-width c =
    let h = shape_length c.args.line.now (sym c.has_shape.ensures ∙ c.if-not-has_shape.false) in
    search rules

pub slice_bounds-gap-end : goal.slice_bounds-gap-end
slice_bounds-gap-end c =
    let h = shape_length c.args.line.now (sym c.has_shape.ensures ∙ c.if-not-has_shape.false) in
    search rules

pub gap-requires : goal.gap-requires
gap-requires c =
    let h = shape_length c.args.line.now (sym c.has_shape.ensures ∙ c.if-not-has_shape.false) in
    rw length-take (omega arith)

pub returns-in_err-gap-clause-read : goal.returns-in_err-gap-clause-read
returns-in_err-gap-clause-read c =
    let line = c.args.line.now in
    let s = sym c.has_shape.ensures ∙ c.if-not-has_shape.false in
    let g = c.gap.ensures ∙ gap_whole line in
    rw c.from_residual.ensures (sym (no_gap line s (sym g ∙ ap told_spelled c.in_err-gap.was)))

pub slice_bounds-number-end : goal.slice_bounds-number-end
slice_bounds-number-end c =
    let h = shape_length c.args.line.now (sym c.has_shape.ensures ∙ c.if-not-has_shape.false) in
    search rules

pub slice_bounds-eight_bytes-count : goal.slice_bounds-eight_bytes-count
slice_bounds-eight_bytes-count c =
    let h = shape_length c.args.line.now (sym c.has_shape.ensures ∙ c.if-not-has_shape.false) in
    search rules

pub slice_bounds-eight_bytes-start : goal.slice_bounds-eight_bytes-start
slice_bounds-eight_bytes-start c =
    let h = shape_length c.args.line.now (sym c.has_shape.ensures ∙ c.if-not-has_shape.false) in
    search rules

pub eight_bytes-requires : goal.eight_bytes-requires
eight_bytes-requires c =
    let h = shape_length c.args.line.now (sym c.has_shape.ensures ∙ c.if-not-has_shape.false) in
    rw (length-take, length-drop) (omega arith)

pub returns-in_err-id-clause-read : goal.returns-in_err-id-clause-read
returns-in_err-id-clause-read c =
    let line = c.args.line.now in
    let s = sym c.has_shape.ensures ∙ c.if-not-has_shape.false in
    let g = sym (c.gap.ensures ∙ gap_whole line) ∙ ap told_spelled c.in_ok-gap.was in
    let n = c.number.ensures ∙ id_whole line in
    rw c.from_residual-in_err-id.ensures (sym (no_id line c.in_ok-gap.gap s g (sym n ∙ ap told_spelled c.in_err-id.was)))

pub returns-in_err-bytes-clause-read : goal.returns-in_err-bytes-clause-read
returns-in_err-bytes-clause-read c =
    let line = c.args.line.now in
    let s = sym c.has_shape.ensures ∙ c.if-not-has_shape.false in
    let g = sym (c.gap.ensures ∙ gap_whole line) ∙ ap told_spelled c.in_ok-gap.was in
    let n = sym (c.number.ensures ∙ id_whole line) ∙ ap told_spelled c.in_ok-id.was in
    let d = c.eight_bytes.ensures ∙ data_whole line in
    rw c.from_residual-in_err-bytes.ensures
    (sym (no_data line c.in_ok-gap.gap c.in_ok-id.id s g n (sym d ∙ ap told_spelled c.in_err-bytes.was)))

pub returns-clause-read : goal.returns-clause-read
returns-clause-read c =
    let line = c.args.line.now in
    let s = sym c.has_shape.ensures ∙ c.if-not-has_shape.false in
    let g = sym (c.gap.ensures ∙ gap_whole line) ∙ ap told_spelled c.in_ok-gap.was in
    let n = sym (c.number.ensures ∙ id_whole line) ∙ ap told_spelled c.in_ok-id.was in
    let d = sym (c.eight_bytes.ensures ∙ data_whole line) ∙ ap told_spelled c.in_ok-bytes.was in
    sym (a_frame line c.in_ok-gap.gap c.in_ok-id.id c.in_ok-bytes.bytes s g n d)
