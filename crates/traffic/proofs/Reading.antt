-- The lines of a block and the end of the capture: the turns of the reader.
-- Assumes nothing.
use mathlib.Core.Path.{◌≡◌, refl, sym, ap, ◌∙◌}
use mathlib.Core.List.{List, [], ◌∷◌, ◌++◌, map, append_assoc, append-nil}
use Prim.Native.Nat.{ℕ, ◌+◌, ◌≤◌}
use native.Mathlib.Omega.{arith}
use lib.ListN.{length, length-append, length-map}
use Rattle.words.specs.Words.{refused}
use Rattle.text.specs.Pieces.{Wrote}
use Rattle.text.proofs.Pieces.{behind}
use Rattle.capture.specs.Line.{line_read}
use Rattle.capture.specs.Stream.{Piece, whole, too_long, piece_read}
use Rattle.capture.specs.Promises.{Next, Last}
use Rattle.capture.specs.Feeding.{brings, used, over, yield_of, last_pieces}
use Rattle.capture.specs.Runs.{Stop, goes_on, begun, a_line, all_used, no_more_lines}
use Rattle.capture.specs.declared.Cutter.{Cutter}
use Rattle.capture.specs.declared.Cut.{Cut}
use Rattle.capture.specs.declared.Cutting.TheVariants as Cutting
use Rattle.capture.specs.declared.Ending.{Ending}
use Rattle.capture.proofs.Feeding.{next_advances, within_block, carried_fits}
use Rattle.capture.proofs.Runs.{brought, used_lines, over_same, not_ended, ran_join}
use Rattle.traffic.specs.Figures.{Seen, seen_in, seen_of}
use Rattle.traffic.specs.Report.{refusal_text, refusals_text}
use Rattle.traffic.specs.Counters.{table_size, Holds, Held, OneMore, Counted}
use Rattle.traffic.specs.Reader.{say, close, Ready, Took, stayed, Went, Taken, Done, Turned, Runs, Closed, ClosedBehind, Finished, Starts}
use Rattle.traffic.specs.declared.counters.Totals.{Totals}
use Rattle.traffic.specs.declared.reader.Step.{Step}
use Rattle.traffic.specs.declared.reader.Reader.{Reader}
use Rattle.traffic.specs.declared.reader.Run.{Run}
use Rattle.traffic.specs.declared.reader.Going.{Going}
use Rattle.traffic.specs.declared.reader.Going.TheVariants.{On, Used, Over}
use Rattle.traffic.proofs.Printing.{refusals_join, map_join}

-- Pieces seen, one more at the end.

pub seen_more : (before pieces : List Piece) (piece : Piece)
    → map seen_of (before ++ (pieces ++ (piece ∷ []))) ≡ map seen_of (before ++ pieces) ++ (seen_of piece ∷ [])
seen_more before pieces piece = rw (← append_assoc before pieces (piece ∷ [])) (map_join (before ++ pieces) (piece ∷ []))

pub say_more : (before pieces : List Piece) (piece : Piece) (n : ℕ) → n ≡ length (map seen_of (before ++ pieces))
    → say before pieces ++ refusal_text (n + 1) (seen_of piece).says ≡ say before (pieces ++ (piece ∷ []))
unfolding refusals_text
say_more before pieces piece n e =
    let l = length-map (before ++ pieces) seen_of in
    let m = length-map pieces seen_of in
    let k : length before + 1 + length (map seen_of pieces) ≡ n + 1 = omega (arith, e, l, m, length-append before pieces) in
    rw (map_join pieces (piece ∷ []), refusals_join (length before + 1) (map seen_of pieces) (seen_of piece ∷ []), k, append-nil)

-- A counter that holds what it held, and one line more.
held_more : {t r : Totals} {table after : List ℕ} {line : Seen} → Held t table → Counted t table line r after → Held r after
held_more {line = line} h c = record { lines = h.lines ++ (line ∷ []); holds = c.holds h.lines h.holds }

pub held_after_lem : {t : Totals} {table out table' out' : List ℕ} {line : Seen} {written_to : ℕ} {step : Step}
    → Held t table → Took t table line out written_to step table' out' → Held step.totals table'
held_after_lem h k = held_more h k.counted

-- A turn that takes a line, and one that takes none.

pub turned : {block table table' out out' : List ℕ} {read_to written_to : ℕ} {reader : Reader} {r : Cut} {piece : Piece} {line : Seen} {run : Run}
    → Ready reader table → Next block read_to reader.cutter r → yield_of block r ≡ brings piece → line ≡ seen_of piece
    → Went reader.totals table line r.cutter r.read_to out written_to run table' out'
    → Turned block read_to reader table out written_to run table' out'
turned {block} {read_to = read_to} {reader = reader} {r = r} {piece = piece} {line = line} ok n y s w =
    let k = w.took in
    rw w.left
    (record {
      does = λ from first table₀ d.
          let before_it = d.taken in
          record {
            taken = record {
              pieces = before_it.pieces ++ (piece ∷ []);
              ran = a_line r piece before_it.ran n y;
              counted = λ before h.
                  rw (seen_more before before_it.pieces piece, ← s)
                  (k.counted.holds (map seen_of (before ++ before_it.pieces)) (before_it.counted before h));
            };
            printed = λ before h.
                k.printed.written ∙ rw (d.printed before h, s)
                (say_more before before_it.pieces piece reader.totals.lines (before_it.counted before h).lines);
          };
      ready = record { lines = (brought n y).1 ∙ ap (λ (l : ℕ). l + 1) ok.lines ∙ sym k.counted.one; held = held_more ok.held k.counted };
      fits = k.printed.fits;
      advances = λ e. next_advances block read_to reader.cutter r piece n y;
    })

pub used_up : {block table out : List ℕ} {read_to written_to : ℕ} {reader : Reader} {r : Cut}
    → Ready reader table → Next block read_to reader.cutter r → yield_of block r ≡ used → written_to ≤ length out
    → Turned block read_to reader table out written_to (stayed reader r.cutter r.read_to written_to Used) table out
used_up {r = r} ok n y h =
    record {
      does = λ from first table₀ d.
          let before_it = d.taken in
          record {
            taken = record { pieces = before_it.pieces; ran = all_used r before_it.ran n y; counted = before_it.counted };
            printed = d.printed;
          };
      ready = record { lines = used_lines n y ∙ ok.lines; held = ok.held };
      fits = h;
      advances = λ e. let z : ◌≡◌ {A = ℕ} 0 1 = cc in absurd (omega arith);
    }

pub read_up : {block table out : List ℕ} {read_to written_to : ℕ} {reader : Reader} {r : Cut}
    → Ready reader table → Next block read_to reader.cutter r → yield_of block r ≡ over → written_to ≤ length out
    → Turned block read_to reader table out written_to (stayed reader r.cutter r.read_to written_to Over) table out
read_up {r = r} ok n y h =
    record {
      does = λ from first table₀ d.
          let before_it = d.taken in
          record {
            taken = record { pieces = before_it.pieces; ran = no_more_lines r before_it.ran n y; counted = before_it.counted };
            printed = d.printed;
          };
      ready = record { lines = ap (λ (x : Cutter). x.lines) (over_same n y).0 ∙ ok.lines; held = ok.held };
      fits = h;
      advances = λ e. let z : ◌≡◌ {A = ℕ} 0 1 = cc in absurd (omega arith);
    }

-- a line that lies in the block or in the carry, and one that is too long
pub whole_seen : {line : Seen} (text : List ℕ) → line ≡ seen_in (line_read text) → line ≡ seen_of (whole text)
unfolding seen_of piece_read
whole_seen text e = e

pub too_long_seen : {line : Seen} → line ≡ seen_in (refused 19) → line ≡ seen_of too_long
unfolding seen_of piece_read
too_long_seen e = e

-- Where a line lies, and that one more may be counted.

pub within : {block : List ℕ} {read_to from to : ℕ} {c : Cutter} {r : Cut} → Next block read_to c r → r.answer ≡ Cutting.Within from to
    → (from ≤ to) × (to ≤ length block)
within {block} {read_to} {from} {to} {c} {r} n e = let w = within_block block read_to from to c r n e in (w.0, w.1)

pub carried : {block : List ℕ} {read_to count : ℕ} {c : Cutter} {r : Cut} → Next block read_to c r → r.answer ≡ Cutting.Carried count → count ≤ 80
carried {block} {read_to} {count} {c} {r} n e = carried_fits block read_to count c r n e

pub one_more : {block table : List ℕ} {read_to : ℕ} {reader : Reader} {r : Cut} {piece : Piece} → Ready reader table → Next block read_to reader.cutter r
    → yield_of block r ≡ brings piece → OneMore reader.totals table
one_more ok n y = record { fewer = rw (← ok.lines) (brought n y).0; held = ok.held }

pub one_more_last : {table : List ℕ} {reader : Reader} {e : Ending} → Ready reader table → Last reader.cutter e → (e ≡ Ending.Nothing → ⊥)
    → OneMore reader.totals table
one_more_last {reader = reader} ok l f = record { fewer = rw (← ok.lines) (not_ended reader.cutter (λ n. f (l.answer ∙ n))); held = ok.held }

-- What is taken in two parts.

pub nothing_taken : {block table : List ℕ} {from : ℕ} {reader : Reader} → Taken block from reader table from reader goes_on table
nothing_taken = record { pieces = []; ran = begun; counted = λ before h. rw append-nil h }

pub taken_join : {block table table' table'' : List ℕ} {from at read_to : ℕ} {reader reader' reader'' : Reader} {stop : Stop}
    → Taken block from reader table at reader' goes_on table' → Taken block at reader' table' read_to reader'' stop table''
    → Taken block from reader table read_to reader'' stop table''
taken_join a b =
    record {
      pieces = a.pieces ++ b.pieces;
      ran = ran_join a.ran b.ran;
      counted = λ before h. rw (← append_assoc before a.pieces b.pieces) (b.counted (before ++ a.pieces) (a.counted before h));
    }

-- A run that has only begun, and one that its last turn ends.

pub begins : {block table out : List ℕ} {from : ℕ} {reader : Reader} → Done block from reader table 0 from reader On table out
unfolding refusals_text
begins =
    record { taken = record { pieces = []; ran = begun; counted = λ before h. rw append-nil h }; printed = λ before h. refl }

pub stopped : {block table₀ table table' out out' : List ℕ} {from read_to written_to : ℕ} {reader₀ reader : Reader} {r : Run}
    → Done block from reader₀ table₀ written_to read_to reader On table out
    → Turned block read_to reader table out written_to r table' out' → (r.going ≡ On → ⊥) → Runs block from reader₀ table₀ r table' out'
stopped {table₀ = table₀} {from = from} {reader₀ = reader₀} d t f =
    record { done = t.does from reader₀ table₀ d; ready = t.ready; fits = t.fits; advances = λ e. absurd (f e) }

pub used_not_on : {g : Going} → g ≡ Used → g ≡ On → ⊥
used_not_on e f = let z : ◌≡◌ {A = ℕ} 0 1 = cc in omega arith

pub over_not_on : {g : Going} → g ≡ Over → g ≡ On → ⊥
over_not_on e f = let z : ◌≡◌ {A = ℕ} 0 1 = cc in omega arith

-- The last line, and the figures.

say_one : (n : ℕ) (before : List Piece) (piece : Piece) → n ≡ length (map seen_of before)
    → refusal_text (n + 1) (seen_of piece).says ≡ say before (piece ∷ [])
unfolding refusals_text
say_one n before piece e =
    let l : n ≡ length before = e ∙ length-map before seen_of in
    rw (l, append-nil)

pub closed_behind : {t : Totals} {table table' out out' out'' : List ℕ} {line : Seen} {step : Step} {r : ℕ}
    → Took t table line out 0 step table' out' → Closed step.totals table' out' step.written_to r out''
    → ClosedBehind t table line out r out''
closed_behind {t} {table} {line = line} k w =
    record {
      printed = λ before piece s h.
          let p = rw (say_one t.lines before piece h.lines) at (rw s at k.printed) in
          behind p (w.printed (before ++ (piece ∷ [])) (rw (map_join before (piece ∷ []), ← s) (k.counted.holds (map seen_of before) h)));
      fits = w.fits;
    }

pub finished : {reader : Reader} {table out out' : List ℕ} {r : ℕ} {e : Ending} (pieces : List Piece) → Last reader.cutter e
    → last_pieces reader.cutter e ≡ pieces
    → ((before : List Piece) → Holds (map seen_of before) reader.totals table
    → Wrote out 0 (say before pieces ++ close (before ++ pieces)) out' r)
    → r ≤ length out' → Finished reader table out r out'
finished pieces l p w f = record { printed = λ before h. rw (← l.answer, p) (w before h); fits = f }

pub closed_alone_lem : {t : Totals} {table out out' : List ℕ} {r : ℕ} (before : List Piece) → Closed t table out 0 r out'
    → Holds (map seen_of before) t table → Wrote out 0 (say before [] ++ close (before ++ [])) out' r
unfolding refusals_text
closed_alone_lem before w h = rw append-nil (w.printed before h)

-- At the start.
pub ready_at_start : {reader : Reader} {table : List ℕ} → Starts reader → length table ≡ table_size → Ready reader table
ready_at_start {reader} {table} s n =
    let h = s.holds table n in
    record { lines = ap (λ (c : Cutter). c.lines) s.cutter ∙ sym h.lines; held = record { lines = []; holds = h } }
