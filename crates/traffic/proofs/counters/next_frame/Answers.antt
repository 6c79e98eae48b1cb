-- `traffic::counters::next_frame` meets its contract. Assumes nothing.
use Rattle.traffic.proofs.counters.next_frame.Goals as goal

pub returns : goal.returns
returns c = rw (c.least_with.ensures, c.greatest_with.ensures)
