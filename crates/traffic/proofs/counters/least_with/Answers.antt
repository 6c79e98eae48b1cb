-- `traffic::counters::least_with` meets its contract. Assumes nothing.
use Rattle.traffic.proofs.Holding.{least_first, least_further}
use native.Mathlib.Omega.{arith}
use Rattle.traffic.proofs.counters.least_with.Goals as goal

pub returns-then-frames-eq1 : goal.returns-then-frames-eq1
returns-then-frames-eq1 c = least_first c.args.frames c.args.least c.args.gap c.if-frames-eq1.true

pub returns-then-gap-least : goal.returns-then-gap-least
returns-then-gap-least c = least_further c.args.frames c.args.least c.args.gap c.if-frames-eq1.false (omega arith)

pub returns : goal.returns
returns c = least_further c.args.frames c.args.least c.args.gap c.if-frames-eq1.false (omega arith)
