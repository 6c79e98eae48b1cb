-- `traffic::counters::count` meets its contract. Assumes nothing.
use mathlib.Core.Path.{refl}
use native.Mathlib.Omega.{arith}
use Rattle.traffic.proofs.Holding.{bounds, holds_refused}
use borrow.Author.Rules.{rules}
use Rattle.traffic.proofs.counters.count.Goals as goal

pub count_refused-requires : goal.count_refused-requires
count_refused-requires c = (search rules, (bounds c.requires.held).refusals)

pub returns-in-Refused : goal.returns-in-Refused
returns-in-Refused c =
    rw (c.in-Refused.is, c.count_refused.ensures)
    (record {
      holds = λ lines h. holds_refused c.args.seen.pause _ (omega arith) h;
      one = refl;
    })

pub returns-in-Frame : goal.returns-in-Frame
returns-in-Frame c =
    let f = c.count_frame.ensures in
    rw c.in-Frame.is
    (record {
      holds = λ lines h. f.holds lines c.args.seen.pause h refl (omega arith);
      one = f.one;
    })
