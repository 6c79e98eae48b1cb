-- `busread::step::hear` meets its contract. Assumes nothing.
use mathlib.Core.Path.{◌∙◌, ap}
use Rattle.capture.specs.Promises.{frame_in}
use Rattle.busread.specs.Report.{counted}
use Rattle.busread.proofs.Printing.{took}
use Rattle.busread.proofs.step.hear.Goals as goal

pub returns : goal.returns
returns c = took {f = frame_in c.args.line} c.pause-paused.ensures c.hear-heard.ensures c.put_answer-end.ensures.0 c.put_answer-end.ensures.1 (c.count.ensures.0 ∙ ap (counted c.args.counts) c.print_of.ensures) c.count.ensures.1
