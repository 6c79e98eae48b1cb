-- The lines of a block and the end of the capture: the turns of the reader.
-- Assumes nothing.
use mathlib.Core.Path.{◌≡◌, sym, ap, ◌∙◌}
use mathlib.Core.List.{List, [], ◌∷◌}
use Prim.Native.Nat.{ℕ, ◌+◌, ◌≤◌, ◌<◌}
use native.Mathlib.Omega.{arith}
use lib.ListN.{length, take}
use Rattle.capture.specs.Stream.{most_lines, Piece, piece_read}
use Rattle.capture.specs.Promises.{Next, Last}
use Rattle.capture.specs.Feeding.{brings, used, over, yield_of}
use Rattle.capture.specs.declared.Cutter.{Cutter}
use Rattle.capture.specs.declared.Cut.{Cut}
use Rattle.capture.specs.declared.Cutting.{Cutting}
use Rattle.capture.specs.declared.Ending.{Ending}
use Rattle.capture.proofs.Feeding.{next_advances, within_block, carried_fits}
use Rattle.capture.proofs.Runs.{brought, used_lines, over_same, not_ended}
use Rattle.text.specs.Pieces.{Wrote}
use Rattle.busread.specs.Report.{Kept, closing_text, lines_text}
use Rattle.busread.specs.Step.{Took}
use Rattle.busread.specs.Reader.{kept_by, Ready, Ran, a_line, all_used, all_read, OneMore, stayed, Went, Turned}
use Rattle.busread.specs.Reader.{Runs}
use Rattle.busread.specs.declared.step.Step.{Step}
use Rattle.busread.specs.declared.reader.Reader.{Reader}
use Rattle.busread.specs.declared.reader.Run.{Run}
use Rattle.busread.specs.declared.reader.Going.{Going}
use Rattle.busread.specs.declared.reader.Going.TheVariants.{On, Used, Over}
use Rattle.text.proofs.Pieces.{behind}

-- A turn that takes a line, and one that takes none.

pub turned : {block storage storage' out out' : List ℕ} {read_to written_to : ℕ} {reader : Reader} {r : Cut} {piece : Piece} {run : Run}
    → Ready reader → Next block read_to reader.cutter r → yield_of block r ≡ brings piece
    → Went reader r.cutter r.read_to (piece_read piece) storage out written_to run storage' out'
    → Turned block read_to reader storage out written_to run storage' out'
turned {block} {read_to = read_to} {reader = reader} {r = r} {piece = piece} ok n y w =
    let t = w.took in
    rw w.left
    (record {
      runs = λ from c k ran. rw (t.printed.written, t.kept) (a_line r piece ran n y);
      ready = record { lines = (brought n y).1 ∙ ap (λ (l : ℕ). l + 1) ok.lines ∙ sym t.counted; counting = t.counting };
      fits = t.printed.fits;
      advances = λ e. next_advances block read_to reader.cutter r piece n y;
    })

pub used_up : {block storage out : List ℕ} {read_to written_to : ℕ} {reader : Reader} {r : Cut}
    → Ready reader → Next block read_to reader.cutter r → yield_of block r ≡ used → written_to ≤ length out
    → Turned block read_to reader storage out written_to (stayed reader r.cutter r.read_to written_to Used) storage out
used_up {r = r} ok n y h =
    record {
      runs = λ from c k ran. all_used r ran n y;
      ready = record { lines = used_lines n y ∙ ok.lines; counting = ok.counting };
      fits = h;
      advances = λ e. let z : ◌≡◌ {A = ℕ} 0 1 = cc in absurd (omega arith);
    }

pub read_up : {block storage out : List ℕ} {read_to written_to : ℕ} {reader : Reader} {r : Cut}
    → Ready reader → Next block read_to reader.cutter r → yield_of block r ≡ over → written_to ≤ length out
    → Turned block read_to reader storage out written_to (stayed reader r.cutter r.read_to written_to Over) storage out
read_up {r = r} ok n y h =
    record {
      runs = λ from c k ran. all_read r ran n y;
      ready = record { lines = ap (λ (x : Cutter). x.lines) (over_same n y).0 ∙ ok.lines; counting = ok.counting };
      fits = h;
      advances = λ e. let z : ◌≡◌ {A = ℕ} 0 1 = cc in absurd (omega arith);
    }

-- Where a line lies, and that one more may be counted.

pub within : {block : List ℕ} {read_to from to : ℕ} {c : Cutter} {r : Cut} → Next block read_to c r → r.answer ≡ Cutting.Within from to
    → (from ≤ to) × (to ≤ length block)
within {block} {read_to} {from} {to} {c} {r} n e = let w = within_block block read_to from to c r n e in (w.0, w.1)

pub carried : {block : List ℕ} {read_to count : ℕ} {c : Cutter} {r : Cut} → Next block read_to c r → r.answer ≡ Cutting.Carried count → count ≤ 80
carried {block} {read_to} {count} {c} {r} n e = carried_fits block read_to count c r n e

pub one_more : {block : List ℕ} {read_to : ℕ} {reader : Reader} {r : Cut} {piece : Piece} → Ready reader → Next block read_to reader.cutter r → yield_of block r ≡ brings piece
    → OneMore reader.counts
one_more ok n y = record { fewer = rw (← ok.lines) (brought n y).0; counting = ok.counting }

pub one_more_last : {reader : Reader} {e : Ending} → Ready reader → Last reader.cutter e → (e ≡ Ending.Nothing → ⊥) → reader.counts.frames < most_lines
one_more_last {reader} ok l f = rw (← ok.lines) (not_ended reader.cutter (λ n. f (l.answer ∙ n)))

-- A run that its last turn ends, and one that fills the output.

pub stopped : {block storage₀ storage storage' out out' : List ℕ} {from read_to written_to : ℕ} {reader₀ reader : Reader} {r : Run}
    → Ran block from reader₀.cutter (kept_by reader₀ storage₀) (take written_to out) read_to reader.cutter (kept_by reader storage) On
    → Turned block read_to reader storage out written_to r storage' out' → (r.going ≡ On → ⊥) → Runs block from reader₀ storage₀ r storage' out'
stopped {storage₀ = storage₀} {from = from} {reader₀ = reader₀} ran t f =
    record {
      runs = t.runs from reader₀.cutter (kept_by reader₀ storage₀) ran;
      ready = t.ready;
      fits = t.fits;
      advances = λ e. absurd (f e);
    }

-- A run goes on, or is used up, or over.

pub used_not_on : {g : Going} → g ≡ Used → g ≡ On → ⊥
used_not_on e f = let z : ◌≡◌ {A = ℕ} 0 1 = cc in omega arith

pub over_not_on : {g : Going} → g ≡ Over → g ≡ On → ⊥
over_not_on e f = let z : ◌≡◌ {A = ℕ} 0 1 = cc in omega arith

-- The last line and the closing line.
pub last_line : {k : Kept} {out out' out'' storage' : List ℕ} {end : ℕ} {step : Step} (piece : Piece)
    → Took k (piece_read piece) out 0 step storage' out' → Wrote out' step.written_to (closing_text step.counts) out'' end
    → Wrote out 0 (lines_text k (piece ∷ [])) out'' end
unfolding lines_text
last_line piece t w = behind t.printed (rw (← ap (λ (x : Kept). x.counts) t.kept) w)
