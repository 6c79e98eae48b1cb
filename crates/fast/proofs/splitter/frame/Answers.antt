-- `fast::splitter::frame` meets its contract. Assumes nothing.
use Rattle.std.proofs.Common.{◌<◌, sym, ap, ◌∙◌, length, arith, rules}
use Rattle.fast.specs.Promises.{splitting_number}
use Rattle.fast.proofs.Splits.{splittable}
use Rattle.fast.proofs.splitter.frame.Goals as goal

pub overflow_cast-number : goal.overflow_cast-number
overflow_cast-number c =
    let a = c.args in
    let k = splittable (length a.message.now) a.sequence a.number (sym c.splittable.ensures ∙ ap splitting_number c.in_ok-splittable.was) in
    let h : a.number < 256 = omega (arith, k.short, k.within) in
    search (rules, h)

pub frame_bytes-requires : goal.frame_bytes-requires
frame_bytes-requires c =
    let a = c.args in
    let k = splittable (length a.message.now) a.sequence a.number (sym c.splittable.ensures ∙ ap splitting_number c.in_ok-splittable.was) in
    (k.short, k.low, k.within)
