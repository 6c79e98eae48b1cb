-- `message::eight_places::packet` meets its contract. Assumes nothing.
use Rattle.std.proofs.Common.{◌≡◌, sym, ◌∙◌, length, Some}
use Rattle.message.specs.Receiver.{is_open_by}
use Rattle.words.specs.Lists.{first}
use Rattle.words.proofs.Lists.{length_field}
use Rattle.message.proofs.Steps.{found_below, live_at}
use Rattle.message.proofs.eight_places.packet.Goals as goal

pub packet_at-requires : goal.packet_at-requires
packet_at-requires c =
    let a = c.args in
    let q = c.requires in
    let at = c.in-Some.at in
    let n : length a.r.places ≡ 8 = search length_field in
    let e : first (is_open_by a.sender) a.r.places ≡ Some at = sym (rw c.from.ensures at c.open_by.ensures) ∙ c.in-Some.is in
    (found_below (is_open_by a.sender) a.r.places at n e, q.1, live_at a.sender at a.r.places q.0 e)
