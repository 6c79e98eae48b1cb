-- `message::splitter::announcement` meets its contract. Assumes nothing.
use Rattle.std.proofs.Common.{sym, ap, ◌∙◌, length, arith}
use Rattle.words.specs.Words.{told}
use Rattle.message.specs.Promises.{refusal_why}
use Rattle.message.proofs.Packets.{splits_given}
use Rattle.message.proofs.splitter.announcement.Goals as goal

pub overflow_cast-message : goal.overflow_cast-message
overflow_cast-message c =
    let a = c.args in
    let k = splits_given (length a.message.now) a.dgn _ (sym c.splittable.ensures ∙ ap (told refusal_why) c.in_ok-count.was) in
    record { fits = omega (arith, k.short) }

pub announcement_bytes-requires : goal.announcement_bytes-requires
announcement_bytes-requires c =
    let a = c.args in
    (splits_given (length a.message.now) a.dgn _ (sym c.splittable.ensures ∙ ap (told refusal_why) c.in_ok-count.was)).counted
