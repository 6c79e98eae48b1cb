-- `catalogue::rows` meets its contract. Assumes nothing.
use mathlib.Core.Path.{sym}
use Rattle.catalogue.proofs.Rule.{row_count_lem}
use Rattle.catalogue.proofs.rows.Goals as goal

pub returns : goal.returns
returns c = record { answer = sym row_count_lem }
