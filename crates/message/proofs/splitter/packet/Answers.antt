-- `message::splitter::packet` meets its contract. Assumes nothing.
use Rattle.std.proofs.Common.{sym, ap, ◌∙◌, length, arith}
use Rattle.words.specs.Words.{told}
use Rattle.message.specs.Promises.{refusal_why}
use Rattle.message.proofs.Packets.{splits_given}
use Rattle.message.proofs.splitter.packet.Goals as goal

pub packet_bytes-requires : goal.packet_bytes-requires
packet_bytes-requires c =
    let a = c.args in
    let k = splits_given (length a.message.now) a.dgn _ (sym c.splittable.ensures ∙ ap (told refusal_why) c.in_ok-count.was) in
    (omega arith, omega (arith, k.counted), k.short)
