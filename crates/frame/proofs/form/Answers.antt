-- `frame::form` meets its contract. Assumes nothing.
use Rattle.frame.specs.Frame.{formed_of}
use Rattle.frame.specs.Identifier.{identifier_of}
use Rattle.words.proofs.Tests.{tests}
use Rattle.frame.proofs.form.Goals as goal
use Rattle.frame.proofs.form.Goals.{then-priority-gt-LOWEST_PRIORITY-via-then-priority-gt-LOWEST_PRIORITY, then-priority-gt-LOWEST_PRIORITY-via-else-priority-gt-LOWEST_PRIORITY+then-dgn-gt-GREATEST_DGN}

pub returns-then-priority-gt-LOWEST_PRIORITY : goal.returns-then-priority-gt-LOWEST_PRIORITY
unfolding formed_of
returns-then-priority-gt-LOWEST_PRIORITY c =
    record {
      answer = elim c.then-priority-gt-LOWEST_PRIORITY.branch [
        | then-priority-gt-LOWEST_PRIORITY-via-then-priority-gt-LOWEST_PRIORITY w ↦ search tests
        | then-priority-gt-LOWEST_PRIORITY-via-else-priority-gt-LOWEST_PRIORITY+then-dgn-gt-GREATEST_DGN w ↦ search tests
      ];
    }

pub returns : goal.returns
unfolding formed_of identifier_of
returns c = record { answer = search (tests, c.from.ensures, c.from-2.ensures) }
