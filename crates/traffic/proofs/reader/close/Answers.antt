-- `traffic::reader::close` meets its contract. Assumes nothing.
use native.Mathlib.Omega.{arith}
use Rattle.traffic.proofs.Reading.{held_after_lem, closed_behind}
use Rattle.traffic.proofs.reader.close.Goals as goal

pub put_figures-requires : goal.put_figures-requires
put_figures-requires c =
    let k = c.take-step.ensures in
    (omega (arith, k.short, k.printed.room), held_after_lem c.requires.1.held k)

pub returns : goal.returns
returns c = closed_behind c.take-step.ensures c.put_figures.ensures
