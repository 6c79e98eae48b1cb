-- `mend::line::put_gap` meets its contract. Assumes nothing.
use Rattle.mend.proofs.Putting.{gap_put}
use Rattle.mend.proofs.line.put_gap.Goals as goal

pub returns : goal.returns
returns c =
    gap_put c.args.part.now c.put-key_end.ensures c.leading_zeros-zeros.ensures.0 c.leading_zeros-zeros.ensures.1 c.put.ensures c.requires
