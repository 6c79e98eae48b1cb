-- `message::eight_places::announce` meets its contract. Assumes nothing.
use Rattle.std.proofs.Common.{◌≡◌, sym, ◌∙◌, length, Some}
use Rattle.message.specs.Receiver.{place_for}
use Rattle.words.proofs.Lists.{length_field}
use Rattle.message.proofs.Steps.{place_for_below}
use Rattle.message.proofs.eight_places.announce.Goals as goal

pub replace-requires : goal.replace-requires
unfolding place_for
replace-requires c =
    let a = c.args in
    let n : length a.r.places ≡ 8 = search length_field in
    let e : place_for a.sender a.r.places ≡ Some c.in-Some.at = sym (rw c.from.ensures at c.place_for.ensures) ∙ c.in-Some.is in
    place_for_below a.sender a.r.places c.in-Some.at n e
