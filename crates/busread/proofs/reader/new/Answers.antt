-- `busread::reader::new` meets its contract. Assumes nothing.
use mathlib.Core.Path.{ap}
use native.Mathlib.Omega.{arith}
use Rattle.capture.specs.declared.Cutter.{Cutter}
use Rattle.busread.proofs.reader.new.Goals as goal

pub returns : goal.returns
returns c = (c.new.ensures.cutter, rw c.new-2.ensures.places, record { lines = ap (λ (x : Cutter). x.lines) c.new.ensures.cutter; counting = record { refused = omega arith; messages = omega arith } })
