-- `traffic::report::put_figures` meets its contract. Assumes nothing.
use native.Mathlib.Omega.{arith}
use Rattle.text.proofs.Pieces.{behind}
use Rattle.traffic.proofs.Holding.{bounds}
use Rattle.traffic.proofs.Printing.{figures_said}
use Rattle.traffic.proofs.report.put_figures.Goals as goal

pub put_pairs-pairs_end-requires : goal.put_pairs-pairs_end-requires
put_pairs-pairs_end-requires c = let b = bounds c.requires.1 in (omega arith, b.pairs, b.room)

pub returns : goal.returns
returns c =
    let w₁ = c.put_pairs-pairs_end.ensures in
    let w₂ = c.put_closing.ensures in
    record {
      printed = λ before h. rw (← figures_said h) (behind w₁.0 w₂);
      fits = w₂.fits;
    }
