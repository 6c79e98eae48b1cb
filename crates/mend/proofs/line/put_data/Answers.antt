-- `mend::line::put_data` meets its contract. Assumes nothing.
use Rattle.mend.proofs.Putting.{key_room, data_put}
use Rattle.mend.proofs.line.put_data.Goals as goal

pub put_capitals-requires : goal.put_capitals-requires
put_capitals-requires c =
    key_room c.args.part.now c.put-key_end.ensures c.requires

pub returns : goal.returns
returns c =
    data_put c.args.part.now c.put-key_end.ensures c.requires c.put_capitals.ensures.0
