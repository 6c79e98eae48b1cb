-- What a call of `next` brings, and a stream read in runs: what is printed is what is said of the stream's lines.
-- Assumes nothing.
use mathlib.Core.Path.{◌≡◌, refl, sym, ap, subst, ◌∙◌}
use mathlib.Core.Bool.{true}
use mathlib.Core.List.{List, [], ◌∷◌, ◌++◌, append_assoc, append-nil}
use Prim.Native.Nat.{ℕ, ◌+◌, ◌-◌, ◌≤◌, ◌<◌}
use native.Mathlib.Omega.{arith}
use borrow.Author.Tests.{leb-true, leb-false}
use lib.ListN.{length, take, drop}
use Rattle.words.specs.Words.{◌≤?◌, ◌=?◌}
use Rattle.words.proofs.Words.{by_test}
use Rattle.words.proofs.Tests.{tests}
use Rattle.capture.specs.Stream.{most_lines, line_in, Piece, whole, too_long}
use Rattle.capture.specs.Cutter.{has_newline, is_too_long, cutting_of, cutter_after, carried_on, closed, line_at, ending_of}
use Rattle.capture.specs.Promises.{Next}
use Rattle.capture.specs.Feeding.{brings, used, over, yield_in, yield_of, last_pieces, Place, inside, Fed}
use Rattle.capture.specs.Feeding as Feeding
use Rattle.capture.specs.Runs.{Stop, goes_on, Ran, begun, a_line, all_used, no_more_lines, Prints, InTurn}
use Rattle.capture.specs.Runs as Runs
use Rattle.capture.specs.declared.Cutter.{Cutter}
use Rattle.capture.specs.declared.Cut.{Cut}
use Rattle.capture.specs.declared.Cutting.{Cutting}
use Rattle.capture.specs.declared.Ending.{Ending}
use Rattle.capture.proofs.Feeding.{blocks_do_not_matter}

-- What a call of `next` cuts: nothing, for all the lines that are read are cut; one line more; or nothing, for no newline is left.

pub data Cuts (block : List ℕ) (read_to : ℕ) (c : Cutter) (r : Cut) : Type 0 where
  all : yield_of block r ≡ over → r.cutter ≡ c → most_lines ≤ c.lines → Cuts block read_to c r
  one : (piece : Piece) → yield_of block r ≡ brings piece → c.lines < most_lines → r.cutter.lines ≡ c.lines + 1 → Cuts block read_to c r
  none : yield_of block r ≡ used → r.cutter.lines ≡ c.lines → Cuts block read_to c r

carried_lines : (c : Cutter) (part : List ℕ) → (carried_on c part).lines ≡ c.lines
unfolding carried_on
carried_lines c part = by_test (is_too_long c.length (length part)) (λ e. rw e) (λ e. rw e)

line_brings : (block : List ℕ) (c : Cutter) (size from to : ℕ) → (piece : Piece) × (yield_in block c (line_at size from to) ≡ brings piece)
unfolding line_at
line_brings block c size from to =
    by_test (is_too_long size (to - from)) (λ e. (too_long, rw e)) (λ e.
    by_test (size =? 0) (λ f. (whole (take (to - from) (drop from block)), rw (e, f))) (λ f. (whole (take (size + (to - from)) c.carry), rw (e, f))))

yields : {block : List ℕ} {read_to : ℕ} {c : Cutter} {r : Cut} {answer : Cutting} → Next block read_to c r → cutting_of c read_to (drop read_to block) ≡ answer
    → yield_of block r ≡ yield_in block r.cutter answer
yields {block} {r = r} n e = ap (yield_in block r.cutter) (n.answer ∙ e)

pub cuts : {block : List ℕ} {read_to : ℕ} {c : Cutter} {r : Cut} → Next block read_to c r → Cuts block read_to c r
unfolding cutting_of cutter_after closed
cuts {block} {read_to} {c} {r} n =
    let rest = drop read_to block in
    by_test (most_lines ≤? c.lines) (λ e. all (yields {answer = Cutting.AllRead} n (rw e)) (n.cutter ∙ rw e) (omega (arith, leb-true))) (λ e.
    let h : c.lines < most_lines = omega (arith, leb-false) in
    by_test (has_newline rest)
    (λ f.
    let p = line_brings block r.cutter c.length read_to (read_to + length (line_in rest)) in
    one p.0 (yields {answer = line_at c.length read_to (read_to + length (line_in rest))} n (rw (e, f)) ∙ p.1) h (ap (λ (x : Cutter). x.lines) n.cutter ∙ rw (e, f)))
    (λ f. none (yields {answer = Cutting.BlockUsed} n (rw (e, f))) (ap (λ (x : Cutter). x.lines) n.cutter ∙
    by_test (length rest =? 0) (λ g. rw (e, f, g)) (λ g. rw (e, f, g) (carried_lines c rest)))))

pub brought : {block : List ℕ} {read_to : ℕ} {c : Cutter} {r : Cut} {piece : Piece} → Next block read_to c r → yield_of block r ≡ brings piece
    → (c.lines < most_lines) × (r.cutter.lines ≡ c.lines + 1)
brought n y = go (cuts n) y
  where
    go : {block : List ℕ} {read_to : ℕ} {c : Cutter} {r : Cut} {piece : Piece} → Cuts block read_to c r → yield_of block r ≡ brings piece → (c.lines < most_lines) × (r.cutter.lines ≡ c.lines + 1)
    go (all e f g) y = let z : ◌≡◌ {A = ℕ} 0 1 = cc in absurd (omega arith)
    go (one piece e h l) y = (h, l)
    go (none e f) y = let z : ◌≡◌ {A = ℕ} 0 1 = cc in absurd (omega arith)

pub used_lines : {block : List ℕ} {read_to : ℕ} {c : Cutter} {r : Cut} → Next block read_to c r → yield_of block r ≡ used → r.cutter.lines ≡ c.lines
used_lines n y = go (cuts n) y
  where
    go : {block : List ℕ} {read_to : ℕ} {c : Cutter} {r : Cut} → Cuts block read_to c r → yield_of block r ≡ used → r.cutter.lines ≡ c.lines
    go (all e f g) y = let z : ◌≡◌ {A = ℕ} 0 1 = cc in absurd (omega arith)
    go (one piece e h l) y = let z : ◌≡◌ {A = ℕ} 0 1 = cc in absurd (omega arith)
    go (none e f) y = f

pub over_same : {block : List ℕ} {read_to : ℕ} {c : Cutter} {r : Cut} → Next block read_to c r → yield_of block r ≡ over → (r.cutter ≡ c) × (most_lines ≤ c.lines)
over_same n y = go (cuts n) y
  where
    go : {block : List ℕ} {read_to : ℕ} {c : Cutter} {r : Cut} → Cuts block read_to c r → yield_of block r ≡ over → (r.cutter ≡ c) × (most_lines ≤ c.lines)
    go (all e f g) y = (f, g)
    go (one piece e h l) y = let z : ◌≡◌ {A = ℕ} 0 1 = cc in absurd (omega arith)
    go (none e f) y = let z : ◌≡◌ {A = ℕ} 0 1 = cc in absurd (omega arith)

-- A line that the end of the capture ends is not one too many.
pub not_ended : (c : Cutter) → (ending_of c ≡ Ending.Nothing → ⊥) → c.lines < most_lines
unfolding ending_of
not_ended c f = by_test (most_lines ≤? c.lines) (λ e. absurd (f (rw e))) (λ e. omega (arith, leb-false))

-- and where all lines are read it ends none
pub ended : (c : Cutter) → most_lines ≤ c.lines → ending_of c ≡ Ending.Nothing
unfolding ending_of
ended c h = let t : most_lines ≤? c.lines ≡ true = search tests in rw t

-- Two runs, the one behind the other.
pub ran_join : {block : List ℕ} {at mid : ℕ} {c c' : Cutter} {to : ℕ} {c'' : Cutter} {pieces more : List Piece} {stop : Stop}
    → Ran block at c pieces mid c' goes_on → Ran block mid c' more to c'' stop → Ran block at c (pieces ++ more) to c'' stop
ran_join {pieces = pieces} a begun = rw append-nil a
ran_join {pieces = pieces} a (a_line {pieces = before} r piece b n y) =
    rw (← append_assoc pieces before (piece ∷ [])) (a_line r piece (ran_join a b) n y)
ran_join a (all_used r b n y) = all_used r (ran_join a b) n y
ran_join a (no_more_lines r b n y) = no_more_lines r (ran_join a b) n y

-- A run in front of what is fed behind it.
fed_run : {block : List ℕ} {at : ℕ} {c : Cutter} {at' : ℕ} {c' : Cutter} {pieces more : List Piece} {blocks : List (List ℕ)}
    → Ran block at c pieces at' c' goes_on → Fed c' (inside block at') blocks more
    → Fed c (inside block at) blocks (pieces ++ more)
fed_run begun f = f
fed_run {block} {at} {c = c} {more = more} {blocks = blocks} (a_line {pieces = pieces} {at' = at₁} {c' = c₁} r piece ran n y) f =
    subst (λ (l : List Piece). Fed c (inside block at) blocks l) (sym (append_assoc pieces (piece ∷ []) more))
    (fed_run ran (Feeding.a_piece c₁ block at₁ blocks r piece more n y f))

module _ (say : List Piece → List Piece → List ℕ) (close : List Piece → List ℕ) (turn : InTurn say) where
  -- pieces that are fed, of which the text is said
  record Told (c : Cutter) (before : List Piece) (place : Place) (blocks : List (List ℕ)) (words : List ℕ) : Type 0 where
    pieces : List Piece
    fed : Fed c place blocks pieces
    said : words ≡ say before pieces ++ close (before ++ pieces)

  in_front : (before pieces more : List Piece) {rest : List ℕ} → rest ≡ say (before ++ pieces) more ++ close ((before ++ pieces) ++ more)
      → say before pieces ++ rest ≡ say before (pieces ++ more) ++ close (before ++ (pieces ++ more))
  in_front before pieces more e =
      rw (e, turn before pieces more, ← append_assoc before pieces more)
      (sym (append_assoc (say before pieces) (say (before ++ pieces) more) (close ((before ++ pieces) ++ more))))

  told : {c : Cutter} {before : List Piece} {place : Place} {blocks : List (List ℕ)} {words : List ℕ}
      → Prints say close c before place blocks words → Told c before place blocks words
  told (Runs.a_run {before = before} {pieces = pieces} ran p) =
      let t = told p in
      record { pieces = pieces ++ t.pieces; fed = fed_run ran t.fed; said = in_front before pieces t.pieces t.said }
  told (Runs.a_block_used {before = before} {pieces = pieces} {block = block} {blocks = blocks} (all_used {at' = at₁} {c' = c₁} r ran n y) p) =
      let t = told p in
      record {
        pieces = pieces ++ t.pieces;
        fed = fed_run ran (Feeding.a_block_used c₁ block at₁ blocks r t.pieces n y t.fed);
        said = in_front before pieces t.pieces t.said;
      }
  told (Runs.all_lines_read {before = before} {pieces = pieces} {block = block} {blocks = blocks} (no_more_lines {at' = at₁} {c' = c₁} r ran n y)) =
      let o = over_same n y in
      let e : ending_of r.cutter ≡ Ending.Nothing = ap ending_of o.0 ∙ ended c₁ o.1 in
      record {
        pieces = pieces ++ [];
        fed = fed_run ran (Feeding.all_lines_read c₁ block at₁ blocks r n y);
        said = in_front before pieces [] (ap (λ (x : Ending). say (before ++ pieces) (last_pieces r.cutter x) ++ close ((before ++ pieces) ++ last_pieces r.cutter x)) e);
      }
  told {c} (Runs.a_block {block = block} {blocks = blocks} p) =
      let t = told p in record { pieces = t.pieces; fed = Feeding.a_block c block blocks t.pieces t.fed; said = t.said }
  told {c} Runs.the_end =
      record { pieces = last_pieces c (ending_of c); fed = Feeding.the_end c (ending_of c) (record { answer = refl }); said = refl }

pub runs_do_not_matter : Runs.RunsDoNotMatter
runs_do_not_matter say close turn blocks words p =
    let t = told say close turn p in
    let e = blocks_do_not_matter blocks t.pieces t.fed in
    t.said ∙ ap (λ (l : List Piece). say [] l ++ close l) e
