-- `catalogue::nth` meets its contract. Assumes nothing.
use Rattle.catalogue.proofs.Found.{row_or_none}
use Rattle.catalogue.proofs.nth.Goals as goal

pub returns : goal.returns
returns c = row_or_none c.args.n c.row_at.result c.unwrap_or_default.result c.row_at.ensures.answer c.unwrap_or_default.ensures
