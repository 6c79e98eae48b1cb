-- The lines of a block and the end of the capture: the turns of the reader, in either pass.
-- Assumes nothing.
use mathlib.Core.Path.{◌≡◌, refl, sym, ap, ◌∙◌}
use mathlib.Core.List.{List, [], ◌∷◌, ◌++◌, append_assoc, append-nil}
use Prim.Native.Nat.{ℕ, ◌+◌, ◌≤◌}
use native.Mathlib.Omega.{arith}
use lib.ListN.{length, take, length-append}
use Rattle.text.specs.Pieces.{Wrote}
use Rattle.capture.specs.Stream.{Piece}
use Rattle.capture.specs.Promises.{Next, Last}
use Rattle.capture.specs.Feeding.{brings, used, over, yield_of, last_pieces}
use Rattle.capture.specs.Runs.{Stop, Ran, begun, a_line, all_used, no_more_lines}
use Rattle.capture.specs.declared.Cutter.{Cutter}
use Rattle.capture.specs.declared.Cut.{Cut}
use Rattle.capture.specs.declared.Ending.{Ending}
use Rattle.capture.proofs.Feeding.{next_advances}
use Rattle.capture.proofs.Runs.{brought, used_lines, over_same}
use Rattle.mend.specs.Report.{piece_mended, written_of, report_of, capture_text, report_text}
use Rattle.mend.specs.Reader.{say, piece_text, left_at, Done, Turned, Runs, Finished}
use Rattle.mend.specs.declared.reader.Pass.{Pass}
use Rattle.mend.specs.declared.reader.Pass.TheVariants.{Capture, Report}
use Rattle.mend.specs.declared.reader.Run.{Run}
use Rattle.mend.specs.declared.reader.Going.{Going}
use Rattle.mend.specs.declared.reader.Going.TheVariants.{On, Used, Over}

-- What is said of lines is said of each in its turn.

pub capture_join : (a b : List Piece) → capture_text (a ++ b) ≡ capture_text a ++ capture_text b
unfolding capture_text
capture_join [] b = refl
capture_join (p ∷ a) b = rw (capture_join a b) (sym (append_assoc (written_of (piece_mended p)) (capture_text a) (capture_text b)))

pub report_join : (n : ℕ) (a b : List Piece) → report_text n (a ++ b) ≡ report_text n a ++ report_text (n + length a) b
unfolding report_text
report_join n [] b = let e : n ≡ n + 0 = omega arith in ap (λ (k : ℕ). report_text k b) e
report_join n (p ∷ a) b =
    let e : n + 1 + length a ≡ n + length (p ∷ a) = omega arith in
    rw (report_join (n + 1) a b, e) (sym (append_assoc (report_of n (piece_mended p)) (report_text (n + 1) a) (report_text (n + length (p ∷ a)) b)))

say_nothing : (pass : Pass) (before : List Piece) → say pass before [] ≡ []
unfolding capture_text report_text
say_nothing Capture before = refl
say_nothing Report before = refl

say_more : (pass : Pass) (before pieces : List Piece) (piece : Piece) (n : ℕ) → n ≡ length before + length pieces + 1
    → say pass before pieces ++ piece_text pass n piece ≡ say pass before (pieces ++ (piece ∷ []))
unfolding capture_text report_text
say_more Capture before pieces piece n e = rw (capture_join pieces (piece ∷ []), append-nil)
say_more Report before pieces piece n e =
    let k : length before + 1 + length pieces ≡ n = omega arith in
    rw (report_join (length before + 1) pieces (piece ∷ []), k, append-nil)

-- A run counts its lines.
pub ran_lines : {block : List ℕ} {at : ℕ} {c : Cutter} {at' : ℕ} {c' : Cutter} {pieces : List Piece} {stop : Stop} → Ran block at c pieces at' c' stop
    → c'.lines ≡ c.lines + length pieces
ran_lines begun = omega arith
ran_lines (a_line {pieces = pieces} r piece ran n y) = omega (arith, (brought n y).1, ran_lines ran, length-append pieces (piece ∷ []))
ran_lines (all_used r ran n y) = used_lines n y ∙ ran_lines ran
ran_lines (no_more_lines r ran n y) = ap (λ (x : Cutter). x.lines) (over_same n y).0 ∙ ran_lines ran

-- A turn that takes a line, and one that takes none.

pub turned : {pass : Pass} {block out out' : List ℕ} {read_to written_to end : ℕ} {c : Cutter} {r : Cut} {piece : Piece}
    → Next block read_to c r → yield_of block r ≡ brings piece → Wrote out written_to (piece_text pass r.cutter.lines piece) out' end
    → Turned pass block read_to c out written_to (left_at r.cutter r.read_to end On) out'
turned {pass} {block} {read_to = read_to} {c = c} {r = r} {piece = piece} n y w =
    record {
      does = λ from first d.
          record {
            pieces = d.pieces ++ (piece ∷ []);
            ran = a_line r piece d.ran n y;
            written = λ before h.
                w.written ∙ rw (d.written before h)
                (say_more pass before d.pieces piece r.cutter.lines (omega (arith, (brought n y).1, ran_lines d.ran, h)));
          };
      fits = w.fits;
      advances = λ e. next_advances block read_to c r piece n y;
    }

pub used_up : {pass : Pass} {block out : List ℕ} {read_to written_to : ℕ} {c : Cutter} {r : Cut}
    → Next block read_to c r → yield_of block r ≡ used → written_to ≤ length out
    → Turned pass block read_to c out written_to (left_at r.cutter r.read_to written_to Used) out
used_up {r = r} n y h =
    record {
      does = λ from first d. record { pieces = d.pieces; ran = all_used r d.ran n y; written = d.written };
      fits = h;
      advances = λ e. let z : ◌≡◌ {A = ℕ} 0 1 = cc in absurd (omega arith);
    }

pub read_up : {pass : Pass} {block out : List ℕ} {read_to written_to : ℕ} {c : Cutter} {r : Cut}
    → Next block read_to c r → yield_of block r ≡ over → written_to ≤ length out
    → Turned pass block read_to c out written_to (left_at r.cutter r.read_to written_to Over) out
read_up {r = r} n y h =
    record {
      does = λ from first d. record { pieces = d.pieces; ran = no_more_lines r d.ran n y; written = d.written };
      fits = h;
      advances = λ e. let z : ◌≡◌ {A = ℕ} 0 1 = cc in absurd (omega arith);
    }

-- A run that has only begun, and one that its last turn ends.

pub begins : {pass : Pass} {block out : List ℕ} {from : ℕ} {c : Cutter} → Done pass block from c 0 from c On out
begins {pass} = record { pieces = []; ran = begun; written = λ before h. sym (say_nothing pass before) }

pub stopped : {pass : Pass} {block out out' : List ℕ} {from read_to written_to : ℕ} {first c : Cutter} {r : Run}
    → Done pass block from first written_to read_to c On out → Turned pass block read_to c out written_to r out' → (r.going ≡ On → ⊥)
    → Runs pass block from first r out'
stopped {from = from} {first = first} d t f = record { done = t.does from first d; fits = t.fits; advances = λ e. absurd (f e) }

pub used_not_on : {g : Going} → g ≡ Used → g ≡ On → ⊥
used_not_on e f = let z : ◌≡◌ {A = ℕ} 0 1 = cc in omega arith

pub over_not_on : {g : Going} → g ≡ Over → g ≡ On → ⊥
over_not_on e f = let z : ◌≡◌ {A = ℕ} 0 1 = cc in omega arith

-- The end.

finished : {pass : Pass} {c : Cutter} {out' : List ℕ} {r : ℕ} {e : Ending} (pieces : List Piece) → Last c e → last_pieces c e ≡ pieces
    → ((before : List Piece) → length before ≡ c.lines → take r out' ≡ say pass before pieces) → r ≤ length out' → Finished pass c r out'
finished pieces l p w f = record { written = λ before h. rw (← l.answer, p) (w before h ∙ sym (append-nil _)); fits = f }

pub finished_line : {pass : Pass} {c : Cutter} {out out' : List ℕ} {r : ℕ} {e : Ending} {piece : Piece} → Last c e
    → last_pieces c e ≡ piece ∷ [] → Wrote out 0 (piece_text pass (c.lines + 1) piece) out' r → Finished pass c r out'
finished_line {pass} {c} {piece = piece} l p w =
    finished (piece ∷ []) l p
    (λ before h.
    w.written
    ∙ rw (say_nothing pass before) at (say_more pass before [] piece (c.lines + 1) (omega (arith, h))))
    w.fits

pub finished_empty : {pass : Pass} {c : Cutter} {out : List ℕ} {e : Ending} → Last c e → last_pieces c e ≡ [] → Finished pass c 0 out
finished_empty {pass} l p = finished [] l p (λ before h. sym (say_nothing pass before)) (omega arith)
