-- The laws of this program.
-- Assumes nothing.
use mathlib.Core.Path.{◌≡◌, refl, sym, ap, subst, ◌∙◌}
use mathlib.Core.Bool.{Bool, true, false}
use mathlib.Core.List.{List, [], ◌∷◌, ◌++◌, map, append_assoc, append-nil}
use mathlib.Core.Logic.{◌⊎◌, inl, inr}
use Prim.Native.Nat.{ℕ, zero, suc, ◌+◌, ◌*◌, ◌≤◌, ◌<◌, max}
use native.Mathlib.Omega.{arith}
use borrow.Author.Tests.{eq-eqb, le-leb, leb-true, leb-false}
use lib.ListN.{length, take, drop, get_or, length-append, length-take, length-drop, length-map}
use lib.Seq.{drop-append-le, take_all, take-length, take-take}
use Rattle.words.specs.Words.{◌≤?◌, ◌=?◌, ◌or◌, Told, refused, gives}
use Rattle.words.specs.Lists.{any, every, count}
use Rattle.words.proofs.Words.{by_test, true_false, both_true, refused_same, refused_gives}
use Rattle.text.specs.Text.{text}
use Rattle.frame.specs.Identifier.{source_of, dgn_of, identifiers, reserved_of}
use Rattle.frame.specs.Frame.{checked_of, source_allowed, frame_bytes}
use Rattle.capture.specs.Line.{Frame, line_read, IsLineOf}
use Rattle.capture.specs.Stream.{Piece, whole, too_long, piece_read}
use Rattle.capture.specs.Feeding.{joined, Place}
use Rattle.capture.specs.Runs.{Prints, a_run, a_block_used, all_lines_read, a_block, the_end}
use Rattle.capture.proofs.Laws.{sound_exactly, only_nineteen}
use Rattle.capture.proofs.Runs.{runs_do_not_matter}
use Rattle.traffic.specs.Figures.{Seen, seen_in, seen_of, pair_of, lines_in, pairs_in, is_pair, waits_from, time_of}
use Rattle.traffic.specs.Figures.{least, greatest, once_each, most_pairs, named, is_other}
use Rattle.traffic.specs.Report.{report, refusals_text, figures_text}
use Rattle.traffic.specs.Counters.{since_from, Holds}
use Rattle.traffic.specs.Reader.{say, close}
use Rattle.traffic.specs.Laws as Laws
use Rattle.traffic.specs.declared.reader.Reader.{Reader}
use Rattle.traffic.proofs.Figures.{waits_frame, waits_other, waits_length, since_frame, since_other, pairs_snoc}
use Rattle.traffic.proofs.Figures.{frames_and_refused, all_frames, once_any, once_old, once_new, once_distinct, distinct_take}
use Rattle.traffic.proofs.Holding.{any_at, named_most}
use Rattle.traffic.proofs.Printing.{refusals_join, map_join}

either : (b : Bool) {c : Bool} → c ≡ true → b or c ≡ true
either true e = refl
either false e = e

-- The report.

in_turn : (before pieces more : List Piece) → say before (pieces ++ more) ≡ say before pieces ++ say (before ++ pieces) more
in_turn before pieces more =
    let e : length before + 1 + length (map seen_of pieces) ≡ length (before ++ pieces) + 1 =
    omega (arith, length-append before pieces, length-map pieces seen_of) in
    rw (map_join pieces more, refusals_join (length before + 1) (map seen_of pieces) (map seen_of more), e)

-- what the program's functions promise, as what is said of the pieces that its runs take
printed : {reader : Reader} {table : List ℕ} {place : Place} {blocks : List (List ℕ)} {words : List ℕ} (before : List Piece)
    → Holds (map seen_of before) reader.totals table → Laws.Prints reader table place blocks words
    → Prints say close reader.cutter before place blocks words
printed before h (Laws.a_run r u on p) =
    let d = u.done in
    let t = rw on at d.taken.ran in
    rw (d.printed before h) (a_run t (printed (before ++ d.taken.pieces) (d.taken.counted before h) p))
printed before h (Laws.a_block_used r u on p) =
    let d = u.done in
    let t = rw on at d.taken.ran in
    rw (d.printed before h) (a_block_used t (printed (before ++ d.taken.pieces) (d.taken.counted before h) p))
printed before h (Laws.all_lines_read r u on f) =
    let d = u.done in
    let t = rw on at d.taken.ran in
    let w = f.printed (before ++ d.taken.pieces) (d.taken.counted before h) in
    rw (d.printed before h, w.written) (all_lines_read t)
printed before h (Laws.a_block p) = a_block (printed before h p)
printed before h (Laws.the_end f) = rw (f.printed before h).written the_end

pub report_printed : Laws.ReportPrinted
unfolding report
report_printed reader table blocks words s n p =
    let q = rw s.cutter at (printed [] (s.holds table n) p) in
    ap (λ (l : List ℕ). text "format=1\n" ++ l) (runs_do_not_matter say close in_turn blocks words q)
    ∙ sym (append_assoc (text "format=1\n") (refusals_text 1 (lines_in (joined blocks))) (figures_text (lines_in (joined blocks))))

pub adds_up : Laws.AddsUp
adds_up stream =
    let lines = lines_in stream in
    omega (
      arith,
      all_frames (named lines) (pairs_in lines) (distinct_take most_pairs (once_each (pairs_in lines)) (once_distinct (pairs_in lines))),
      frames_and_refused lines,
    )

-- Pairs.

pub pair_shows : Laws.PairShows
unfolding pair_of source_of dgn_of
pair_shows id = (omega arith, omega arith)

parts : (id : ℕ) → pair_of id ≡ dgn_of id * 256 + source_of id
unfolding pair_of source_of dgn_of
parts id = omega arith

pub pair_exactly : Laws.PairExactly
unfolding pair_of source_of dgn_of
pair_exactly a b = (
  λ e. (omega arith, omega arith),
  λ e. parts a ∙ ap (λ (n : ℕ). n * 256 + source_of a) e.1 ∙ ap (λ (n : ℕ). dgn_of b * 256 + n) e.0 ∙ sym (parts b),
)

-- Refusals.

pub only_these : Laws.OnlyThese
unfolding seen_of piece_read seen_in checked_of
only_these too_long n e = inr (inr (inr (sym (refused_same e))))
only_these (whole line) n e = said (line_read line) (λ f. (sound_exactly line f).0) (only_nineteen line) e
  where
    said : (t : Told Frame) → ((f : Frame) → t ≡ gives f → IsLineOf f line) → ((m : ℕ) → t ≡ refused m → m ≡ 19)
        → (seen_in t).says ≡ refused n → (n ≡ 3) ⊎ (n ≡ 5) ⊎ (n ≡ 6) ⊎ (n ≡ 19)
    said (refused m) s o e = inr (inr (inr (sym (refused_same e) ∙ o m refl)))
    said (gives f) s o e =
        let z : (length f.bytes =? frame_bytes) ≡ true = eq-eqb (length f.bytes) frame_bytes (s f refl).frame.eight in
        by_test (identifiers ≤? f.id)
        (λ a. inl (sym (refused_same (rw a at e))))
        (λ a.
        by_test (reserved_of f.id =? 1)
        (λ b. inr (inl (sym (refused_same (rw (a, z, b) at e)))))
        (λ b.
        by_test (source_allowed (source_of f.id) (dgn_of f.id))
        (λ d. refused_gives (sym (rw (a, z, b, d) at e)))
        (λ d. inr (inr (inl (sym (refused_same (rw (a, z, b, d) at e))))))))

-- Gaps.

waits_none : (pair : ℕ) (lines others : List Seen) → any (λ l. is_pair pair l.says) others ≡ false
    → (waits_from pair 0 (lines ++ others) ≡ waits_from pair 0 lines)
    × (since_from pair 0 (lines ++ others) ≡ since_from pair 0 lines + time_of others)
waits_none pair lines [] e = (rw append-nil, rw append-nil (omega arith))
waits_none pair lines (m ∷ others) e =
    by_test (is_pair pair m.says)
    (λ t. true_false (rw t at e))
    (λ t.
    let i = waits_none pair (lines ++ (m ∷ [])) others (rw t at e) in
    let a : lines ++ (m ∷ others) ≡ lines ++ (m ∷ []) ++ others = sym (append_assoc lines (m ∷ []) others) in
    (rw a (i.0 ∙ waits_other pair 0 lines m t), rw a (omega (arith, i.1, since_other pair 0 lines m t))))

pub gap_exactly : Laws.GapExactly
gap_exactly pair before others f g tf tg e =
    let lines = before ++ (f ∷ []) in
    let n = waits_none pair lines others e in
    let s : since_from pair 0 (lines ++ others) ≡ time_of others = omega (arith, n.1, since_frame pair 0 before f tf) in
    let w : waits_from pair 0 (lines ++ others ++ (g ∷ [])) ≡ waits_from pair 0 lines ++ ((time_of others + g.pause) ∷ []) =
    waits_frame pair 0 (lines ++ others) g tg ∙ rw (n.0, s) in
    let l : length (waits_from pair 0 lines) ≡ length (waits_from pair 0 before) + 1 =
    ap length (waits_frame pair 0 before f tf) ∙ length-append (waits_from pair 0 before) ((since_from pair 0 before + f.pause) ∷ []) in
    ap (drop 1) w ∙ drop-append-le 1 (waits_from pair 0 lines) ((time_of others + g.pause) ∷ []) (omega (arith, l))

pub one_gap_less : Laws.OneGapLess
one_gap_less pair lines h = omega (arith, length-drop 1 (waits_from pair 0 lines), waits_length pair 0 lines)

-- the least and the greatest

below_all : (a b : ℕ) (ns : List ℕ) → a ≤ b → every (λ n. b ≤? n) ns ≡ true → every (λ n. a ≤? n) ns ≡ true
below_all a b [] h e = refl
below_all a b (n ∷ ns) h e =
    let t = both_true (b ≤? n) (every (λ m. b ≤? m) ns) e in
    rw (le-leb a n (omega (arith, leb-true b n t.0)), below_all a b ns h t.1)

pub least_exactly : Laws.LeastExactly
least_exactly g [] = (rw (eq-eqb g g refl), rw (le-leb g g (omega arith)))
least_exactly g (m ∷ gaps) =
    let i = least_exactly m gaps in
    let l = least (m ∷ gaps) in
    let least_of_all = least (g ∷ m ∷ gaps) in
    let below_g : least_of_all ≤ g = omega arith in
    let below_l : least_of_all ≤ l = omega arith in
    let below : every (λ n. least_of_all ≤? n) (m ∷ gaps) ≡ true = below_all least_of_all l (m ∷ gaps) below_l i.1 in
    by_test (g ≤? l)
    (λ e.
    let h : g ≤ l = leb-true g l e in
    let q : least_of_all =? g ≡ true = eq-eqb least_of_all g (omega arith) in
    (rw q, rw (le-leb least_of_all g below_g) below))
    (λ e.
    let h : l < g = leb-false g l e in
    let q : least_of_all ≡ l = omega arith in
    (subst (λ (x : ℕ). any (◌=?◌ x) (g ∷ m ∷ gaps) ≡ true) (sym q) (either (l =? g) i.0), rw (le-leb least_of_all g below_g) below))

above_all : (a b : ℕ) (ns : List ℕ) → a ≤ b → every (λ n. n ≤? a) ns ≡ true → every (λ n. n ≤? b) ns ≡ true
above_all a b [] h e = refl
above_all a b (n ∷ ns) h e =
    let t = both_true (n ≤? a) (every (λ m. m ≤? a) ns) e in
    rw (le-leb n b (omega (arith, leb-true n a t.0)), above_all a b ns h t.1)

pub greatest_exactly : Laws.GreatestExactly
greatest_exactly g [] =
    let q : max g 0 ≡ g = omega arith in
    rw q (rw (eq-eqb g g refl), rw (le-leb g g (omega arith)))
greatest_exactly g (m ∷ gaps) =
    let i = greatest_exactly m gaps in
    let l = greatest (m ∷ gaps) in
    let greatest_of_all = greatest (g ∷ m ∷ gaps) in
    let above_g : g ≤ greatest_of_all = omega arith in
    let above_l : l ≤ greatest_of_all = omega arith in
    let above : every (λ n. n ≤? greatest_of_all) (m ∷ gaps) ≡ true = above_all l greatest_of_all (m ∷ gaps) above_l i.1 in
    by_test (l ≤? g)
    (λ e.
    let h : l ≤ g = leb-true l g e in
    let q : greatest_of_all =? g ≡ true = eq-eqb greatest_of_all g (omega arith) in
    (rw q, rw (le-leb g greatest_of_all above_g) above))
    (λ e.
    let h : g < l = leb-false l g e in
    let q : greatest_of_all ≡ l = omega arith in
    (subst (λ (x : ℕ). any (◌=?◌ x) (g ∷ m ∷ gaps) ≡ true) (sym q) (either (l =? g) i.0), rw (le-leb g greatest_of_all above_g) above))

-- Named pairs.

pub named_once : Laws.NamedOnce
named_once lines = (distinct_take most_pairs (once_each (pairs_in lines)) (once_distinct (pairs_in lines)), named_most lines)

front : (n : ℕ) (xs ys : List ℕ) → take (length (take n xs)) (take n (xs ++ ys)) ≡ take n xs
front zero xs ys = refl
front (suc n) [] ys = refl
front (suc n) (x ∷ xs) ys = ap (λ (l : List ℕ). x ∷ l) (front n xs ys)

front_most : (n : ℕ) (xs ys : List ℕ) → length (take n xs) ≤ length (take n (xs ++ ys))
front_most n xs ys = omega (arith, length-take n xs, length-take n (xs ++ ys), length-append xs ys)

named_front : (lines : List Seen) (m : Seen) (says : Told ℕ) → m.says ≡ says
    → (take (length (named lines)) (named (lines ++ (m ∷ []))) ≡ named lines) × (length (named lines) ≤ length (named (lines ++ (m ∷ []))))
named_front lines m (refused n) e =
    let p : pairs_in (lines ++ (m ∷ [])) ≡ pairs_in lines = pairs_snoc lines m ∙ rw e (append-nil (pairs_in lines)) in
    rw p (take-length (named lines), omega arith)
named_front lines m (gives q) e =
    let p : pairs_in (lines ++ (m ∷ [])) ≡ pairs_in lines ++ (q ∷ []) = pairs_snoc lines m ∙ rw e in
    by_test (any (◌=?◌ q) (pairs_in lines))
    (λ t. rw (p, once_old q (pairs_in lines) t) (take-length (named lines), omega arith))
    (λ t.
    rw (p, once_new q (pairs_in lines) t)
    (front most_pairs (once_each (pairs_in lines)) (q ∷ []), front_most most_pairs (once_each (pairs_in lines)) (q ∷ [])))

pub stays_named : Laws.StaysNamed
stays_named lines [] = rw append-nil (take-length (named lines))
stays_named lines (m ∷ more) =
    let f = named_front lines m m.says refl in
    let i = stays_named (lines ++ (m ∷ [])) more in
    let a : lines ++ (m ∷ more) ≡ lines ++ (m ∷ []) ++ more = sym (append_assoc lines (m ∷ []) more) in
    rw a
    (sym (take-take (length (named lines)) (length (named (lines ++ (m ∷ [])))) (named (lines ++ (m ∷ []) ++ more)) f.1)
    ∙ ap (take (length (named lines))) i ∙ f.0)

none_passes : (f : ℕ → Bool) (ps : List ℕ) → ((i : ℕ) → i < length ps → f (get_or ps i 0) ≡ false) → count f ps ≡ 0
none_passes f [] h = refl
none_passes f (p ∷ ps) h = rw (h 0 (omega arith)) (omega (arith, none_passes f ps (λ i l. h (suc i) (omega arith))))

pub no_others : Laws.NoOthers
no_others lines h =
    let ps = pairs_in lines in
    rw (take_all most_pairs (once_each ps) h)
    (none_passes (is_other (once_each ps)) ps
    (λ i l. let a = any_at (◌=?◌ (get_or ps i 0)) ps i 0 l (eq-eqb (get_or ps i 0) (get_or ps i 0) refl) in rw (once_any (get_or ps i 0) ps, a)))
