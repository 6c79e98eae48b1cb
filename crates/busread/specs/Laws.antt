-- The laws of this program (RULES 11.8 to 11.18), each a named statement. proofs/Laws.antt has a proof of each, under
-- the same name written small.
use Rattle.std.specs.Prelude.{◌≡◌, List, [], ◌∷◌, ◌++◌, ℕ}
use Rattle.words.specs.Words.{gives}
use Rattle.text.specs.Text.{text, decimal}
use Rattle.capture.specs.Digits.{number_read}
use Rattle.capture.specs.Cutter.{fresh}
use Rattle.capture.specs.Feeding.{joined, Place, between, inside}
use Rattle.capture.specs.declared.Cutter.{Cutter}
use Rattle.busread.specs.Report.{Kept, at_start, report}
use Rattle.busread.specs.Reader.{Ran, end_text}
use Rattle.busread.specs.declared.reader.Going.TheVariants.{On, Used, Over}

-- No digit is lost: what is written of a number reads as that number. That it has no leading zeros is a law of text.
abbrev pub DecimalBack : Type 0
DecimalBack = (n : ℕ) → number_read 10 (decimal n) ≡ gives n

-- What the program prints after its first line, told by nothing but what its runs and its end promise: from a cutter,
-- what is kept, the place of the reading and the blocks to come, the text. Each run goes on where the one before it
-- stopped, and the next block is taken up at its start.
pub data Prints : Cutter → Kept → Place → List (List ℕ) → List ℕ → Type 0 where
  a_run : {c c' : Cutter} {k k' : Kept} {block words rest : List ℕ} {read_to read_to' : ℕ} {blocks : List (List ℕ)}
      → Ran block read_to c k words read_to' c' k' On → Prints c' k' (inside block read_to') blocks rest
      → Prints c k (inside block read_to) blocks (words ++ rest)
  a_block_used : {c c' : Cutter} {k k' : Kept} {block words rest : List ℕ} {read_to read_to' : ℕ} {blocks : List (List ℕ)}
      → Ran block read_to c k words read_to' c' k' Used → Prints c' k' between blocks rest
      → Prints c k (inside block read_to) blocks (words ++ rest)
  all_lines_read : {c c' : Cutter} {k k' : Kept} {block words : List ℕ} {read_to read_to' : ℕ} {blocks : List (List ℕ)}
      → Ran block read_to c k words read_to' c' k' Over
      → Prints c k (inside block read_to) blocks (words ++ end_text c' k')
  a_block : {c : Cutter} {k : Kept} {block words : List ℕ} {blocks : List (List ℕ)}
      → Prints c k (inside block 0) blocks words
      → Prints c k between (block ∷ blocks) words
  the_end : {c : Cutter} {k : Kept}
      → Prints c k between [] (end_text c k)

-- However a capture came in blocks, and wherever the output was full, what is printed is the report of the capture.
abbrev pub ReportPrinted : Type 0
ReportPrinted =
    (blocks : List (List ℕ)) (words : List ℕ) → Prints fresh at_start between blocks words
    → text "format=1\n" ++ words ≡ report (joined blocks)
