-- `mend::line::put_id` meets its contract. Assumes nothing.
use Rattle.mend.proofs.Putting.{id_room, id_put}
use Rattle.mend.proofs.line.put_id.Goals as goal

pub put_capitals-requires : goal.put_capitals-requires
put_capitals-requires c =
    id_room c.args.part.now c.lacking.ensures c.put_hex-from.ensures c.requires

pub returns : goal.returns
returns c =
    id_put c.args.part.now c.lacking.ensures c.put_hex-from.ensures c.requires c.put_capitals.ensures.0
