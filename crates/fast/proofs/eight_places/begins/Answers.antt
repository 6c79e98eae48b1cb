-- `fast::eight_places::begins` meets its contract. Assumes nothing.
use Rattle.std.proofs.Common.{◌≡◌, sym, ◌∙◌, length, Some}
use Rattle.fast.specs.FastPacket.{pair_of}
use Rattle.fast.specs.Receiver.{place_for}
use Rattle.words.proofs.Lists.{length_field}
use Rattle.fast.proofs.Steps.{left_as, place_for_below, begins_at}
use Rattle.fast.proofs.eight_places.begins.Goals as goal

pub enters_at-requires : goal.enters_at-requires
unfolding place_for
enters_at-requires c =
    let a = c.args in
    let n : length a.r.places ≡ 8 = search length_field in
    let e : place_for (pair_of a.p.sender a.p.dgn) a.r.places ≡ Some c.in-Some.at = sym (rw c.key.ensures at c.place_for.ensures) ∙ c.in-Some.is in
    (place_for_below (pair_of a.p.sender a.p.dgn) a.r.places c.in-Some.at n e, c.requires)

pub returns-in-Some : goal.returns-in-Some
unfolding place_for
returns-in-Some c =
    let a = c.args in
    let e : place_for (pair_of a.p.sender a.p.dgn) a.r.places ≡ Some c.in-Some.at = sym (rw c.key.ensures at c.place_for.ensures) ∙ c.in-Some.is in
    left_as (begins_at a.p a.bytes a.r a.storage.now c.in-Some.at e) c.enters_at.ensures
