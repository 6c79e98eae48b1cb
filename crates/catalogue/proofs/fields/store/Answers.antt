-- `catalogue::fields::store` meets its contract. Assumes nothing.
use mathlib.Core.Path.{◌∙◌}
use Rattle.frame.proofs.Library.{written_low_first}
use Rattle.catalogue.proofs.fields.store.Goals as goal

pub returns : goal.returns
returns c = c.copy_from_slice.ensures.after ∙ c.to_le_bytes.ensures ∙ written_low_first c.args.number
