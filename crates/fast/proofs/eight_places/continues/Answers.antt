-- `fast::eight_places::continues` meets its contract. Assumes nothing.
use Rattle.std.proofs.Common.{◌≡◌, sym, ◌∙◌, length, Some}
use Rattle.words.specs.Lists.{first}
use Rattle.fast.specs.Receiver.{is_open_by}
use Rattle.words.proofs.Lists.{length_field}
use Rattle.fast.proofs.Steps.{found_below, live_at}
use Rattle.fast.proofs.eight_places.continues.Goals as goal

pub frame_at-requires : goal.frame_at-requires
frame_at-requires c =
    let a = c.args in
    let q = c.requires in
    let at = c.in-Some.at in
    let n : length a.r.places ≡ 8 = search length_field in
    let e : first (is_open_by a.pair) a.r.places ≡ Some at = sym c.open_by.ensures ∙ c.in-Some.is in
    (found_below (is_open_by a.pair) a.r.places at n e, q.1, live_at a.pair at a.r q.0 e)
