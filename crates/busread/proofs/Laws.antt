-- The laws of this program.
-- Assumes nothing.
use mathlib.Core.Path.{◌≡◌, refl, ap, ◌∙◌}
use mathlib.Core.List.{List, [], ◌∷◌, ◌++◌, append_assoc}
use Prim.Native.Nat.{ℕ}
use native.Mathlib.Omega.{arith}
use Rattle.text.specs.Text.{text, decimal_width, decimal}
use Rattle.text.proofs.Laws.{no_leading_zeros}
use Rattle.capture.specs.Stream.{Piece, piece_read, lines_of}
use Rattle.capture.specs.Cutter.{ending_of}
use Rattle.capture.specs.Promises.{Next}
use Rattle.capture.specs.Feeding.{joined, Place, between, inside, last_pieces, Fed, yield_of, brings}
use Rattle.capture.specs.Feeding as Feeding
use Rattle.capture.specs.declared.Cutter.{Cutter}
use Rattle.capture.specs.declared.Cut.{Cut}
use Rattle.capture.specs.declared.Ending.{Ending}
use Rattle.capture.proofs.Laws.{number_back}
use Rattle.capture.proofs.Feeding.{blocks_do_not_matter}
use Rattle.capture.proofs.Runs.{over_same, ended}
use Rattle.busread.specs.Report.{Kept, line_text, kept_after, lines_text, at_start, report}
use Rattle.busread.specs.Reader.{Ran, begun, a_line, all_used, all_read, end_text}
use Rattle.busread.specs.Laws as Laws
use Rattle.busread.specs.declared.reader.Going.TheVariants.{On, Used, Over}

-- Reading what was printed: pieces that are fed, whose text it is.
record Told (c : Cutter) (k : Kept) (place : Place) (blocks : List (List ℕ)) (words : List ℕ) : Type 0 where
  pieces : List Piece
  fed : Fed c place blocks pieces
  said : words ≡ lines_text k pieces

one_piece : {c : Cutter} {k : Kept} {block rest : List ℕ} {read_to : ℕ} {blocks : List (List ℕ)} (r : Cut) (piece : Piece)
    → Next block read_to c r → yield_of block r ≡ brings piece → Told r.cutter (kept_after k (piece_read piece)) (inside block r.read_to) blocks rest
    → Told c k (inside block read_to) blocks (line_text k (piece_read piece) ++ rest)
unfolding lines_text
one_piece {c} {k} {block} {rest} {read_to} {blocks} r piece n y t =
    record {
      pieces = piece ∷ t.pieces;
      fed = Feeding.a_piece c block read_to blocks r piece t.pieces n y t.fed;
      said = ap (λ (l : List ℕ). line_text k (piece_read piece) ++ l) t.said;
    }

-- a run in front of what is told of the rest of the block
in_front : {block : List ℕ} {read_to : ℕ} {c : Cutter} {k : Kept} {words : List ℕ} {read_to' : ℕ} {c' : Cutter} {k' : Kept} {rest : List ℕ} {blocks : List (List ℕ)}
    → Ran block read_to c k words read_to' c' k' On → Told c' k' (inside block read_to') blocks rest → Told c k (inside block read_to) blocks (words ++ rest)
in_front begun t = t
in_front {rest = rest} (a_line {words = words} {k' = k₁} r piece ran n y) t =
    let u = in_front ran (one_piece r piece n y t) in
    record { pieces = u.pieces; fed = u.fed; said = append_assoc words (line_text k₁ (piece_read piece)) rest ∙ u.said }

used_up : {c c' : Cutter} {k k' : Kept} {block words rest : List ℕ} {read_to read_to' : ℕ} {blocks : List (List ℕ)}
    → Ran block read_to c k words read_to' c' k' Used → Told c' k' between blocks rest → Told c k (inside block read_to) blocks (words ++ rest)
used_up {block = block} {blocks = blocks} (all_used {read_to' = readTo₁} {c' = c₁} r ran n y) t =
    in_front ran (record { pieces = t.pieces; fed = Feeding.a_block_used c₁ block readTo₁ blocks r t.pieces n y t.fed; said = t.said })

read_up : {c c' : Cutter} {k k' : Kept} {block words : List ℕ} {read_to read_to' : ℕ} {blocks : List (List ℕ)}
    → Ran block read_to c k words read_to' c' k' Over → Told c k (inside block read_to) blocks (words ++ end_text c' k')
read_up {k' = k'} {block = block} {blocks = blocks} (all_read {read_to' = readTo₁} {c' = c₁} r ran n y) =
    let o = over_same n y in
    let e : ending_of r.cutter ≡ Ending.Nothing = ap ending_of o.0 ∙ ended c₁ o.1 in
    in_front ran
    (record {
      pieces = [];
      fed = Feeding.all_lines_read c₁ block readTo₁ blocks r n y;
      said = ap (λ (x : Ending). lines_text k' (last_pieces r.cutter x)) e;
    })

told : {c : Cutter} {k : Kept} {place : Place} {blocks : List (List ℕ)} {words : List ℕ} → Laws.Prints c k place blocks words → Told c k place blocks words
told (Laws.a_run ran p) = in_front ran (told p)
told (Laws.a_block_used ran p) = used_up ran (told p)
told (Laws.all_lines_read ran) = read_up ran
told {c} (Laws.a_block {block = block} {blocks = blocks} p) =
    let t = told p in record { pieces = t.pieces; fed = Feeding.a_block c block blocks t.pieces t.fed; said = t.said }
told {c} (Laws.the_end) =
    record { pieces = last_pieces c (ending_of c); fed = Feeding.the_end c (ending_of c) (record { answer = refl }); said = refl }

pub report_printed : Laws.ReportPrinted
unfolding report
report_printed blocks words p =
    let t = told p in
    let e : lines_text at_start t.pieces ≡ lines_text at_start (lines_of (joined blocks)) = ap (lines_text at_start) (blocks_do_not_matter blocks t.pieces t.fed) in
    ap (λ (l : List ℕ). text "format=1\n" ++ l) (t.said ∙ e)

-- numbers in decimal

pub decimal_back : Laws.DecimalBack
unfolding decimal
decimal_back n = number_back 10 (omega arith) (omega arith) (decimal_width n) n (no_leading_zeros n).0
