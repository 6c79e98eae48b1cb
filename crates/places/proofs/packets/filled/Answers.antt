-- `places::packets::filled` meets its contract. Assumes nothing.
use Rattle.std.proofs.Common.{◌∙◌, arith}
use Rattle.places.proofs.Filling.{put_together}
use Rattle.places.proofs.packets.filled.Goals as goal

pub returns : goal.returns
returns c =
    let a = c.args in
    c.put-2.ensures ∙ rw c.put.ensures (put_together a.head.now a.message.now c.min-count.result c.requires (omega arith))
