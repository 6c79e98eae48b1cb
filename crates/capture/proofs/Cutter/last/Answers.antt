-- `capture::Cutter::last` meets its contract. Assumes nothing.
use Rattle.capture.specs.Cutter.{ending_of}
use Rattle.words.proofs.Tests.{tests}
use Rattle.capture.proofs.Cutter.last.Goals as goal

pub returns-then-self-ge-MOST_LINES : goal.returns-then-self-ge-MOST_LINES
unfolding ending_of
returns-then-self-ge-MOST_LINES c = record { answer = search tests }

pub returns-then-self-eq0 : goal.returns-then-self-eq0
unfolding ending_of
returns-then-self-eq0 c = record { answer = search tests }

pub returns-then-self-gt-LONGEST_LINE : goal.returns-then-self-gt-LONGEST_LINE
unfolding ending_of
returns-then-self-gt-LONGEST_LINE c = record { answer = search tests }

pub returns : goal.returns
unfolding ending_of
returns c = record { answer = search tests }
