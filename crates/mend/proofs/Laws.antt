-- What the two passes write: the statements of specs/Laws.antt about the calls, proved.
-- Assumes nothing.
use mathlib.Core.Path.{◌≡◌, sym, ap, ◌∙◌}
use mathlib.Core.List.{List, [], ◌++◌, append-nil}
use Prim.Native.Nat.{ℕ, ◌+◌}
use native.Mathlib.Omega.{arith}
use lib.ListN.{length, length-append}
use Rattle.capture.specs.Stream.{Piece, lines_of}
use Rattle.capture.specs.Cutter.{fresh}
use Rattle.capture.specs.Feeding.{joined, Place, between}
use Rattle.capture.specs.Runs.{Prints, a_run, a_block_used, all_lines_read, a_block, the_end}
use Rattle.capture.specs.declared.Cutter.{Cutter}
use Rattle.capture.proofs.Runs.{runs_do_not_matter}
use Rattle.mend.specs.Report.{capture_of, report_in}
use Rattle.mend.specs.Reader.{say, close}
use Rattle.mend.specs.Laws as Laws
use Rattle.mend.specs.declared.reader.Pass.{Pass}
use Rattle.mend.specs.declared.reader.Pass.TheVariants.{Capture, Report}
use Rattle.mend.proofs.Again.{mended_once}
use Rattle.mend.proofs.Reading.{capture_join, report_join, ran_lines}

in_turn : (pass : Pass) (before pieces more : List Piece)
    → say pass before (pieces ++ more) ≡ say pass before pieces ++ say pass (before ++ pieces) more
in_turn Capture before pieces more = capture_join pieces more
in_turn Report before pieces more =
    let e : length before + 1 + length pieces ≡ length (before ++ pieces) + 1 = omega (arith, length-append before pieces) in
    rw (report_join (length before + 1) pieces more, e)

-- what the calls promise, as what is said of the pieces that their runs take
said : {pass : Pass} {c : Cutter} {place : Place} {blocks : List (List ℕ)} {words : List ℕ} (before : List Piece)
    → length before ≡ c.lines → Laws.Writes pass c place blocks words → Prints (say pass) close c before place blocks words
said before h (Laws.a_run r u on p) =
    let d = u.done in
    let t = rw on at d.ran in
    let l = ran_lines t in
    rw (d.written before h) (a_run t (said (before ++ d.pieces) (omega (arith, l, h, length-append before d.pieces)) p))
said before h (Laws.a_block_used r u on p) =
    let d = u.done in
    let t = rw on at d.ran in
    let l = ran_lines t in
    rw (d.written before h) (a_block_used t (said (before ++ d.pieces) (omega (arith, l, h, length-append before d.pieces)) p))
said before h (Laws.all_lines_read r u on f) =
    let d = u.done in
    let t = rw on at d.ran in
    let l = ran_lines t in
    let w = f.written (before ++ d.pieces) (omega (arith, l, h, length-append before d.pieces)) in
    rw (d.written before h, w) (all_lines_read t)
said before h (Laws.a_block p) = a_block (said before h p)
said before h (Laws.the_end f) = rw (f.written before h) the_end

pass_written : (pass : Pass) (blocks : List (List ℕ)) (words : List ℕ) → Laws.Writes pass fresh between blocks words
    → words ≡ say pass [] (lines_of (joined blocks))
pass_written pass blocks words p =
    let lines = lines_of (joined blocks) in
    runs_do_not_matter (say pass) close (in_turn pass) blocks words (said [] (omega arith) p) ∙ append-nil (say pass [] lines)

pub mending_written : Laws.MendingWritten
unfolding capture_of report_in
mending_written file once again words more a b p q =
    rw (pass_written Capture once words p, pass_written Report again more q, a, b)

pub written_stays : Laws.WrittenStays
unfolding capture_of report_in
written_stays once again next words same said w a v b r =
    let e : words ≡ capture_of (joined once) = pass_written Capture once words w in
    let m = mended_once (joined once) in
    let f : same ≡ capture_of words = pass_written Capture again same v ∙ ap capture_of a in
    let g : said ≡ report_in words = pass_written Report next said r ∙ ap report_in b in
    (f ∙ ap capture_of e ∙ m.0 ∙ sym e, g ∙ ap report_in e ∙ m.1)
