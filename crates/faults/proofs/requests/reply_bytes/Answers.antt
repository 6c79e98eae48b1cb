-- `faults::requests::reply_bytes` meets its contract. Assumes nothing.
use mathlib.Core.Path.{◌≡◌, sym, ◌∙◌}
use lib.ListN.{length}
use Rattle.words.proofs.Lists.{length_field}
use Rattle.faults.specs.Fault.{is_active}
use Rattle.faults.specs.Requests.{reply_bytes}
use Rattle.faults.proofs.Steps.{found_below}
use Rattle.faults.proofs.requests.reply_bytes.Goals as goal

pub bytes_at-requires : goal.bytes_at-requires
bytes_at-requires c =
    let fs = c.args.s.faults in
    let n : length fs ≡ 32 = search length_field in
    found_below is_active fs _ n (sym c.lowest_active.ensures ∙ c.in-Some.is)

pub returns-in-Some : goal.returns-in-Some
unfolding reply_bytes
returns-in-Some c =
    let e = sym c.lowest_active.ensures ∙ c.in-Some.is in
    c.bytes_at.ensures ∙ sym (rw e)

pub returns-in-None : goal.returns-in-None
unfolding reply_bytes
returns-in-None c =
    let e = sym c.lowest_active.ensures ∙ c.in-None.is in
    c.none_active.ensures ∙ sym (rw e)
