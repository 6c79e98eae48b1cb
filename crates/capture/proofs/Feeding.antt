-- A stream fed to the cutter block by block: the pieces that come are those of the stream, however it was cut into blocks.
-- Assumes nothing.
use mathlib.Core.Path.{◌≡◌, refl, sym, ap, subst, ◌∙◌}
use mathlib.Core.List.{List, [], ◌∷◌, ◌++◌, map, append_assoc, append-nil}
use Prim.Native.Nat.{ℕ, zero, suc, ◌+◌, ◌-◌, ◌≤◌, ◌<◌}
use native.Mathlib.Omega.{arith}
use borrow.Author.Tests.{ltb-true, ltb-false, leb-true, leb-false, eqb-true, eqb-false, lt-ltb, le-ltb, eq-eqb, ne_eqb}
use lib.ListN.{length, take, drop, length-append, length-drop}
use lib.Seq.{take_all, take-nil, drop-drop}
use Rattle.words.specs.Words.{◌<?◌, ◌≤?◌, ◌=?◌}
use Rattle.words.proofs.Words.{by_test}
use Rattle.capture.specs.Stream.{newline, longest_line, most_lines, lines_from, line_in, Piece, whole, too_long}
use Rattle.capture.specs.Stream.{piece_of, lines_of}
use Rattle.text.specs.Pieces.{placed}
use Rattle.text.proofs.Pieces.{placed_head, length_placed}
use Rattle.capture.specs.Cutter.{fresh, is_too_long, carried_on, closed, line_at, has_newline, cutting_of, cutter_after}
use Rattle.capture.specs.Cutter.{read_to, ending_of}
use Rattle.capture.specs.Promises.{Next}
use Rattle.capture.specs.Feeding.{joined, Yield, brings, used, over, yield_in, yield_of, last_pieces, Place, between}
use Rattle.capture.specs.Feeding.{inside, Fed, a_piece, a_block_used, all_lines_read, a_block, the_end}
use Rattle.capture.specs.Laws.{BlocksDoNotMatter, NextAdvances, WithinBlock, CarriedFits, LastFits}
use Rattle.capture.specs.Laws.{EveryStreamIsFed}
use Rattle.capture.specs.declared.Cutter.{Cutter}
use Rattle.capture.specs.declared.Cut.{Cut}
use Rattle.capture.specs.declared.Cutting.{Cutting}
use Rattle.capture.specs.declared.Ending.{Ending}
use Rattle.capture.proofs.Cuts.{CutIs, all_read_lem, none_left, no_newline, a_line, line_take, not_too_long}

-- Lines of a stream.

-- bytes without a newline lengthen the line that has begun
lines_through : (x begun s : List ℕ) → lines_from begun (line_in x ++ s) ≡ lines_from (begun ++ line_in x) s
unfolding lines_from line_in
lines_through [] begun s = rw append-nil
lines_through (b ∷ x) begun s =
    by_test (b =? newline) (λ e. rw (e, append-nil)) (λ e. rw (e, e) (lines_through x (begun ++ (b ∷ [])) s ∙ rw append_assoc))

-- the newline behind them ends it
line_split : (x : List ℕ) → length (line_in x) < length x → x ≡ line_in x ++ newline ∷ drop (suc (length (line_in x))) x
unfolding line_in
line_split [] h = absurd (omega arith)
line_split (b ∷ x) h =
    by_test (b =? newline)
    (λ e. let n = eqb-true b newline e in rw (e, n))
    (λ e.
    let h' : suc (length (line_in x)) < suc (length x) = rw e at h in
    let l : length (line_in x) < length x = omega arith in
    rw e (ap (λ (l : List ℕ). b ∷ l) (line_split x l)))

lines_ended : (x begun s : List ℕ) → length (line_in x) < length x
    → lines_from begun (x ++ s) ≡ (begun ++ line_in x) ∷ lines_from [] (drop (suc (length (line_in x))) x ++ s)
unfolding lines_from
lines_ended x begun s h =
    ap (λ (l : List ℕ). lines_from begun (l ++ s)) (line_split x h)
    ∙ ap (λ (l : List ℕ). lines_from begun l) (append_assoc (line_in x) (newline ∷ drop (suc (length (line_in x))) x) s)
    ∙ lines_through x begun (newline ∷ (drop (suc (length (line_in x))) x ++ s))

-- What a cutter keeps of the line that has begun.

record Holds (c : Cutter) (begun : List ℕ) : Type 0 where
  room : length c.carry ≡ longest_line
  short : length begun ≤ longest_line → (c.length ≡ length begun) × (take (length begun) c.carry ≡ begun)
  long : longest_line < length begun → longest_line < c.length

holds_nothing : (c : Cutter) → length c.carry ≡ longest_line → c.length ≡ 0 → Holds c []
holds_nothing c r e = record { room = r; short = λ h. (e, refl); long = λ h. absurd (omega arith) }

-- the line is too long exactly when the cutter says so
too_long_line : (c : Cutter) (begun part : List ℕ) → Holds c begun → (length begun ≤ longest_line → c.length + length part ≡ length (begun ++ part))
too_long_line c begun part h s = let a = (h.short s).0 in rw length-append (omega arith)

is_too_long_lem : (c : Cutter) (begun part : List ℕ) → Holds c begun → longest_line < c.length + length part → longest_line < length (begun ++ part)
is_too_long_lem c begun part h t =
    by_test (length begun ≤? longest_line)
    (λ e. let s = too_long_line c begun part h (leb-true (length begun) longest_line e) in omega arith)
    (λ e. let l = leb-false (length begun) longest_line e in rw length-append (omega arith))

-- what fits was kept from its first byte on
is_short : (c : Cutter) (begun part : List ℕ) → Holds c begun → c.length + length part ≤ longest_line
    → (c.length ≡ length begun) × (take c.length c.carry ≡ begun) × (length (begun ++ part) ≤ longest_line)
is_short c begun part h t =
    by_test (length begun ≤? longest_line)
    (λ e.
    let l = leb-true (length begun) longest_line e in
    let s = h.short l in
    let n = too_long_line c begun part h l in
    (s.0, rw s.0 s.1, omega arith))
    (λ e. let l = h.long (leb-false (length begun) longest_line e) in absurd (omega arith))

-- and a part put behind it goes on
kept_on : (c : Cutter) (begun part : List ℕ) → Holds c begun → c.length + length part ≤ longest_line
    → take (c.length + length part) (placed c.carry c.length part) ≡ begun ++ part
kept_on c begun part h t =
    let s = is_short c begun part h t in
    let r = h.room in
    placed_head c.carry part c.length (omega arith) ∙ rw s.1

kept_room : (c : Cutter) (begun part : List ℕ) → Holds c begun → c.length + length part ≤ longest_line
    → length (placed c.carry c.length part) ≡ longest_line
kept_room c begun part h t =
    let r = h.room in
    length_placed c.carry part c.length (omega arith) ∙ r

holds_more : (c : Cutter) (begun part : List ℕ) → Holds c begun → Holds (carried_on c part) (begun ++ part)
unfolding carried_on is_too_long
holds_more c begun part h =
    by_test (longest_line <? c.length + length part)
    (λ e.
    let l = is_too_long_lem c begun part h (ltb-true longest_line (c.length + length part) e) in
    rw e (record { room = h.room; short = λ s. absurd (omega arith); long = λ s. omega arith }))
    (λ e.
    let t = ltb-false longest_line (c.length + length part) e in
    let s = is_short c begun part h t in
    let n : c.length + length part ≡ length (begun ++ part) = rw length-append (omega arith) in
    rw e (record { room = kept_room c begun part h t; short = λ s. (n, rw (← n) (kept_on c begun part h t)); long = λ l. omega arith }))

same_lines : (c : Cutter) (part : List ℕ) → (carried_on c part).lines ≡ c.lines
unfolding carried_on
same_lines c part = by_test (is_too_long c.length (length part)) (λ e. rw e) (λ e. rw e)

holds_closed : (c : Cutter) (begun part : List ℕ) → Holds c begun → Holds (closed c part) []
unfolding closed
holds_closed c begun part h =
    by_test (c.length =? 0)
    (λ e. rw e (holds_nothing _ h.room refl))
    (λ e. rw e (holds_nothing _ (holds_more c begun part h).room refl))

-- The pieces still to come, of a stream of which `begun` came before `s` without a newline.
abbrev to_come : Cutter → List ℕ → List ℕ → List Piece
to_come c begun s = take (most_lines - c.lines) (map piece_of (lines_from begun s))

-- The brings that a newline ends.
ended_piece : (c : Cutter) (begun part block : List ℕ) (at : ℕ) → Holds c begun → take (length part) (drop at block) ≡ part
    → yield_in block (closed c part) (line_at c.length at (at + length part)) ≡ brings (piece_of (begun ++ part))
unfolding closed line_at carried_on piece_of is_too_long
ended_piece c begun part block at h p =
    let w : at + length part - at ≡ length part = omega arith in
    by_test (longest_line <? c.length + length part)
    (λ e.
    let l = is_too_long_lem c begun part h (ltb-true longest_line (c.length + length part) e) in
    rw (w, e, lt-ltb longest_line (length (begun ++ part)) l))
    (λ e.
    let t = ltb-false longest_line (c.length + length part) e in
    let s = is_short c begun part h t in
    let f = le-ltb longest_line (length (begun ++ part)) s.2 in
    by_test (c.length =? 0)
    (λ z.
    let n : c.length ≡ 0 = eqb-true c.length 0 z in
    let b : begun ≡ [] = sym s.1 ∙ ap (λ (k : ℕ). take k c.carry) n in
    rw (w, e, z, f, w, p, b))
    (λ z. rw (w, e, z, f, kept_on c begun part h t)))

-- What a call brings, and what is still to come after it.
abbrev Outcome : Cutter → List ℕ → List ℕ → Cut → List ℕ → List ℕ → Yield → Type 0
Outcome c begun rest r block s (brings line) =
    (to_come c begun (rest ++ s) ≡ line ∷ to_come r.cutter [] (drop r.read_to block ++ s)) × Holds r.cutter []
Outcome c begun rest r block s used =
    (to_come c begun (rest ++ s) ≡ to_come r.cutter (begun ++ rest) s) × Holds r.cutter (begun ++ rest)
Outcome c begun rest r block s over = to_come c begun (rest ++ s) ≡ []

-- a cut by its three parts
cut_is : (block : List ℕ) (at : ℕ) (c : Cutter) (r : Cut) (answer : Cutting) (after : Cutter) (to : ℕ)
    → Next block at c r → CutIs c at (drop at block) answer after to → r ≡ record { cutter = after; answer = answer; read_to = to }
cut_is block at c r answer after to p q =
    let a : r.answer ≡ answer = p.answer ∙ sym q.answer_is in
    let b : r.cutter ≡ after = p.cutter ∙ sym q.cutter_is in
    let d : r.read_to ≡ to = p.read_to ∙ sym q.read_to_is in
    rw (← a, ← b, ← d)

module _ (block : List ℕ) (at : ℕ) (c : Cutter) (begun s : List ℕ) (h : Holds c begun) where
  outcome_over : most_lines ≤ c.lines → Outcome c begun (drop at block) (record { cutter = c; answer = Cutting.AllRead; read_to = at }) block s over
  outcome_over l = let z : most_lines - c.lines ≡ 0 = omega arith in rw z

  outcome_nothing : drop at block ≡ [] → Outcome c begun (drop at block) (record { cutter = c; answer = Cutting.BlockUsed; read_to = at }) block s used
  outcome_nothing z = rw (z, append-nil) (refl, h)

  outcome_used : c.lines < most_lines → length (drop at block) ≤ length (line_in (drop at block))
      → Outcome c begun (drop at block) (record { cutter = carried_on c (drop at block); answer = Cutting.BlockUsed; read_to = at + length (drop at block) }) block s used
  outcome_used l n =
      let rest = drop at block in
      let e : line_in rest ≡ rest = line_take rest ∙ take_all (length (line_in rest)) rest n in
      let t : lines_from begun (rest ++ s) ≡ lines_from (begun ++ rest) s = rw e at (lines_through rest begun s) in
      let k : (carried_on c rest).lines ≡ c.lines = same_lines c rest in
      (rw (t, k), holds_more c begun rest h)

  outcome_line : c.lines < most_lines → length (line_in (drop at block)) < length (drop at block)
      → Outcome c begun (drop at block) (record { cutter = closed c (line_in (drop at block)); answer = line_at c.length at (at + length (line_in (drop at block))); read_to = at + length (line_in (drop at block)) + 1 }) block s (brings (piece_of (begun ++ line_in (drop at block))))
  unfolding closed
  outcome_line l n =
      let rest = drop at block in
      let m : most_lines - c.lines ≡ suc (most_lines - (c.lines + 1)) = omega arith in
      let k : at + length (line_in rest) + 1 ≡ at + suc (length (line_in rest)) = omega arith in
      let d : drop (at + length (line_in rest) + 1) block ≡ drop (suc (length (line_in rest))) rest =
      rw k (sym (drop-drop (suc (length (line_in rest))) at block)) in
      (rw (lines_ended rest begun s n, m, d), holds_closed c begun (line_in rest) h)

step : (block : List ℕ) (at : ℕ) (c : Cutter) (begun s : List ℕ) → Holds c begun → (r : Cut) → Next block at c r
    → Outcome c begun (drop at block) r block s (yield_of block r)
step block at c begun s h r p =
    let rest = drop at block in
    let part = line_in rest in
    let by : (answer : Cutting) (after : Cutter) (to : ℕ) → CutIs c at rest answer after to
    → Outcome c begun rest (record { cutter = after; answer = answer; read_to = to }) block s (yield_in block after answer)
    → Outcome c begun rest r block s (yield_of block r) =
    λ answer after to q o. subst (λ (x : Cut). Outcome c begun rest x block s (yield_of block x)) (sym (cut_is block at c r answer after to p q)) o in
    by_test (most_lines ≤? c.lines)
    (λ e.
    let l = leb-true most_lines c.lines e in
    by Cutting.AllRead c at (all_read_lem c at rest l) (outcome_over block at c begun s h l))
    (λ e.
    let l = leb-false most_lines c.lines e in
    by_test (has_newline rest)
    (λ n.
    let k = ltb-true (length part) (length rest) n in
    by (line_at c.length at (at + length part)) (closed c part) (at + length part + 1) (a_line c at rest l k)
    (subst (λ (y : Yield). Outcome c begun rest (record { cutter = closed c part; answer = line_at c.length at (at + length part); read_to = at + length part + 1 }) block s y)
    (sym (ended_piece c begun part block at h (sym (line_take rest))))
    (outcome_line block at c begun s h l k)))
    (λ n.
    let k = ltb-false (length part) (length rest) n in
    by_test (length rest =? 0)
    (λ z.
    let nil : rest ≡ [] = sym (take_all 0 rest (omega (arith, eqb-true (length rest) 0 z))) in
    by Cutting.BlockUsed c at (none_left c at rest l nil) (outcome_nothing block at c begun s h nil))
    (λ z.
    by Cutting.BlockUsed (carried_on c rest) (at + length rest) (no_newline c at rest l k (eqb-false (length rest) 0 z)) (outcome_used block at c begun s h l k))))

-- the end of the stream

take_one : (k : ℕ) (x : Piece) → x ∷ [] ≡ take (suc k) (x ∷ [])
take_one k x = ap (λ (l : List Piece). x ∷ l) (sym (take-nil k))

ending : (c : Cutter) (begun : List ℕ) → Holds c begun → last_pieces c (ending_of c) ≡ to_come c begun []
unfolding ending_of lines_from piece_of
ending c begun h =
    by_test (most_lines ≤? c.lines)
    (λ e.
    let l = leb-true most_lines c.lines e in
    let z : most_lines - c.lines ≡ 0 = omega arith in
    rw (e, z))
    (λ e.
    let l = leb-false most_lines c.lines e in
    let m : most_lines - c.lines ≡ suc (most_lines - (c.lines + 1)) = omega arith in
    by_test (longest_line <? c.length)
    (λ t.
    let k = ltb-true longest_line c.length t in
    let b = is_too_long_lem c begun [] h (omega arith) in
    let b' : longest_line < length begun = rw append-nil at b in
    rw (e, ne_eqb c.length 0 (λ z. omega arith), t, ne_eqb (length begun) 0 (λ z. omega arith), lt-ltb longest_line (length begun) b', m) (take_one (most_lines - (c.lines + 1)) too_long))
    (λ t.
    let k = ltb-false longest_line c.length t in
    let s = is_short c begun [] h (omega arith) in
    let n : c.length ≡ length begun = s.0 in
    let w : length begun ≤ longest_line = omega arith in
    by_test (c.length =? 0)
    (λ z. rw (e, z, eq-eqb (length begun) 0 (sym n ∙ eqb-true c.length 0 z), take-nil))
    (λ z. rw (e, z, t, ne_eqb (length begun) 0 (λ y. eqb-false c.length 0 z (n ∙ y)), le-ltb longest_line (length begun) w, s.1, m) (take_one (most_lines - (c.lines + 1)) (whole begun)))))

abbrev rest_of : Place → List ℕ
rest_of between = []
rest_of (inside block at) = drop at block

fed_pieces : {c : Cutter} {place : Place} {blocks : List (List ℕ)} {pieces : List Piece} → Fed c place blocks pieces → (begun : List ℕ) → Holds c begun
    → pieces ≡ to_come c begun (rest_of place ++ joined blocks)
fed_pieces (a_piece c block at blocks r line pieces p y f) begun h =
    let o = rw y at (step block at c begun (joined blocks) h r p) in
    ap (λ (l : List Piece). line ∷ l) (fed_pieces f [] o.1) ∙ sym o.0
fed_pieces (a_block_used c block at blocks r pieces p y f) begun h =
    let o = rw y at (step block at c begun (joined blocks) h r p) in
    fed_pieces f (begun ++ drop at block) o.1 ∙ sym o.0
fed_pieces (all_lines_read c block at blocks r p y) begun h = sym (rw y at (step block at c begun (joined blocks) h r p))
fed_pieces (a_block c block blocks pieces f) begun h = fed_pieces f begun h
fed_pieces (the_end c e p) begun h = rw p.answer (ending c begun h)

pub blocks_do_not_matter : BlocksDoNotMatter
unfolding lines_of
blocks_do_not_matter blocks pieces f = fed_pieces f [] (holds_nothing fresh refl refl)

-- A call by its cases: done, nothing left, no newline, a line.
by_cut : {P : Type 0} (block : List ℕ) (at : ℕ) (c : Cutter) (r : Cut) → Next block at c r
    → (r.answer ≡ Cutting.AllRead → P)
    → (r.answer ≡ Cutting.BlockUsed → P)
    → (length (line_in (drop at block)) < length (drop at block) → r.answer ≡ line_at c.length at (at + length (line_in (drop at block)))
    → r.read_to ≡ at + length (line_in (drop at block)) + 1 → P)
    → P
by_cut block at c r p done none line =
    let rest = drop at block in
    by_test (most_lines ≤? c.lines)
    (λ e. done (p.answer ∙ sym (all_read_lem c at rest (leb-true most_lines c.lines e)).answer_is))
    (λ e.
    let l = leb-false most_lines c.lines e in
    by_test (has_newline rest)
    (λ n.
    let k = ltb-true (length (line_in rest)) (length rest) n in
    let q = a_line c at rest l k in
    line k (p.answer ∙ sym q.answer_is) (p.read_to ∙ sym q.read_to_is))
    (λ n.
    let k = ltb-false (length (line_in rest)) (length rest) n in
    by_test (length rest =? 0)
    (λ z.
    let nil : rest ≡ [] = sym (take_all 0 rest (omega (arith, eqb-true (length rest) 0 z))) in
    none (p.answer ∙ sym (none_left c at rest l nil).answer_is))
    (λ z. none (p.answer ∙ sym (no_newline c at rest l k (eqb-false (length rest) 0 z)).answer_is))))

-- A call that brings a line goes on in the block.

over_brings : {P : Type 0} {piece : Piece} → over ≡ brings piece → P
over_brings e = let z : ◌≡◌ {A = ℕ} 0 1 = cc in absurd (omega arith)

used_brings : {P : Type 0} {piece : Piece} → used ≡ brings piece → P
used_brings e = let z : ◌≡◌ {A = ℕ} 0 1 = cc in absurd (omega arith)

pub next_advances : NextAdvances
next_advances block at c r piece p y =
    let d : length (drop at block) ≡ length block - at = length-drop at block in
    by_cut block at c r p
    (λ a. over_brings (sym (ap (yield_in block r.cutter) a) ∙ y))
    (λ a. used_brings (sym (ap (yield_in block r.cutter) a) ∙ y))
    (λ k a n. (omega arith, omega arith))

-- Where an answer says that a line lies, it lies.

line_at_within : (size from to a b : ℕ) → line_at size from to ≡ Cutting.Within a b → (a ≡ from) × (b ≡ to) × (size + (to - from) ≤ longest_line)
unfolding line_at
line_at_within size from to a b e =
    by_test (is_too_long size (to - from))
    (λ t. let z : ◌≡◌ {A = ℕ} 0 1 = apart (rw t at e) in absurd (omega arith))
    (λ t.
    by_test (size =? 0)
    (λ n. let w : Cutting.Within from to ≡ Cutting.Within a b = rw (t, n) at e in (cc, cc, not_too_long size (to - from) t))
    (λ n. let z : ◌≡◌ {A = ℕ} 0 1 = apart' (rw (t, n) at e) in absurd (omega arith)))
  where
    apart : Cutting.TooLong ≡ Cutting.Within a b → ◌≡◌ {A = ℕ} 0 1
    apart p = cc

    apart' : Cutting.Carried (size + (to - from)) ≡ Cutting.Within a b → ◌≡◌ {A = ℕ} 0 1
    apart' p = cc

line_at_carried : (size from to n : ℕ) → line_at size from to ≡ Cutting.Carried n → n ≤ longest_line
unfolding line_at
line_at_carried size from to n e =
    by_test (is_too_long size (to - from))
    (λ t. let z : ◌≡◌ {A = ℕ} 0 1 = apart (rw t at e) in absurd (omega arith))
    (λ t.
    by_test (size =? 0)
    (λ z. let y : ◌≡◌ {A = ℕ} 0 1 = apart' (rw (t, z) at e) in absurd (omega arith))
    (λ z. let s : size + (to - from) ≡ n = same (rw (t, z) at e) in let l = not_too_long size (to - from) t in omega arith))
  where
    apart : Cutting.TooLong ≡ Cutting.Carried n → ◌≡◌ {A = ℕ} 0 1
    apart p = cc

    apart' : Cutting.Within from to ≡ Cutting.Carried n → ◌≡◌ {A = ℕ} 0 1
    apart' p = cc

    same : Cutting.Carried (size + (to - from)) ≡ Cutting.Carried n → size + (to - from) ≡ n
    same p = cc

pub within_block : WithinBlock
within_block block at from to c r p e =
    let d : length (drop at block) ≡ length block - at = length-drop at block in
    by_cut block at c r p
    (λ a. let z : ◌≡◌ {A = ℕ} 0 1 = cc in absurd (omega arith))
    (λ a. let z : ◌≡◌ {A = ℕ} 0 1 = cc in absurd (omega arith))
    (λ k a n. let w = line_at_within c.length at (at + length (line_in (drop at block))) from to (sym a ∙ e) in (omega arith, omega arith, omega arith))

pub carried_fits : CarriedFits
carried_fits block at n c r p e =
    by_cut block at c r p
    (λ a. let z : ◌≡◌ {A = ℕ} 0 1 = cc in absurd (omega arith))
    (λ a. let z : ◌≡◌ {A = ℕ} 0 1 = cc in absurd (omega arith))
    (λ k a x. line_at_carried c.length at (at + length (line_in (drop at block))) n (sym a ∙ e))

ending_carried : (c : Cutter) (n : ℕ) → ending_of c ≡ Ending.Carried n → n ≤ longest_line
unfolding ending_of
ending_carried c n e =
    by_test (most_lines ≤? c.lines)
    (λ l. nothing (rw l at e))
    (λ l.
    by_test (c.length =? 0)
    (λ z. nothing (rw (l, z) at e))
    (λ z.
    by_test (longest_line <? c.length)
    (λ t. let y : ◌≡◌ {A = ℕ} 0 1 = apart (rw (l, z, t) at e) in absurd (omega arith))
    (λ t. let s : c.length ≡ n = same (rw (l, z, t) at e) in let k = ltb-false longest_line c.length t in omega arith)))
  where
    nothing : Ending.Nothing ≡ Ending.Carried n → n ≤ longest_line
    nothing p = let z : ◌≡◌ {A = ℕ} 0 1 = cc in absurd (omega arith)

    apart : Ending.TooLong ≡ Ending.Carried n → ◌≡◌ {A = ℕ} 0 1
    apart p = cc

    same : Ending.Carried c.length ≡ Ending.Carried n → c.length ≡ n
    same p = cc

pub last_fits : LastFits
last_fits n c r p e = ending_carried c n (sym p.answer ∙ e)

-- Every stream can be fed.

cut_of : List ℕ → ℕ → Cutter → Cut
cut_of block at c = record { cutter = cutter_after c (drop at block); answer = cutting_of c at (drop at block); read_to = read_to c at (drop at block) }

cut_kept : (block : List ℕ) (at : ℕ) (c : Cutter) → Next block at c (cut_of block at c)
unfolding cut_of
cut_kept block at c = record { answer = refl; cutter = refl; read_to = refl }

abbrev IsFed : Cutter → Place → List (List ℕ) → Type 0
IsFed c place blocks = (pieces : List Piece) × Fed c place blocks pieces

module _ (block : List ℕ) (blocks : List (List ℕ)) (later : (c : Cutter) → IsFed c between blocks) where
  feed_step : (c : Cutter) (at : ℕ) (r : Cut) (y : Yield) → Next block at c r → yield_of block r ≡ y
      → ((line : Piece) → y ≡ brings line → IsFed r.cutter (inside block r.read_to) blocks) → IsFed c (inside block at) blocks
  feed_step c at r (brings line) p e more = let m = more line refl in (line ∷ m.0, a_piece c block at blocks r line m.0 p e m.1)
  feed_step c at r used p e more = let m = later r.cutter in (m.0, a_block_used c block at blocks r m.0 p e m.1)
  feed_step c at r over p e more = ([], all_lines_read c block at blocks r p e)

  feed_inside : (left : ℕ) (c : Cutter) (at : ℕ) → length block - at ≤ left → IsFed c (inside block at) blocks
  feed_inside zero c at h =
      let p = cut_kept block at c in
      feed_step c at (cut_of block at c) (yield_of block (cut_of block at c)) p refl
      (λ line e. let a = next_advances block at c (cut_of block at c) line p e in absurd (omega arith))
  feed_inside (suc left) c at h =
      let p = cut_kept block at c in
      feed_step c at (cut_of block at c) (yield_of block (cut_of block at c)) p refl
      (λ line e. let a = next_advances block at c (cut_of block at c) line p e in feed_inside left (cut_of block at c).cutter (cut_of block at c).read_to (omega arith))

feed : (blocks : List (List ℕ)) (c : Cutter) → IsFed c between blocks
feed [] c = (last_pieces c (ending_of c), the_end c (ending_of c) (record { answer = refl }))
feed (block ∷ blocks) c =
    let f = feed_inside block blocks (feed blocks) (length block) c 0 (omega arith) in
    (f.0, a_block c block blocks f.0 f.1)

pub every_stream_is_fed : EveryStreamIsFed
every_stream_is_fed blocks = feed blocks fresh
