-- `faults::requests::meant_by` meets its contract. Assumes nothing.
use mathlib.Core.Path.{sym, ◌∙◌}
use native.Mathlib.Nat.{div-one}
use borrow.Author.Tests.{le-ltb}
use Rattle.frame.specs.Identifier.{greatest_dgn, destination_of}
use Rattle.words.proofs.Tests.{tests}
use Rattle.faults.specs.Requests.{meant_by}
use Rattle.frame.proofs.Frame.{dgn_read}
use Rattle.faults.proofs.requests.meant_by.Goals as goal

pub returns-then-catalogue_form-ne-REQUEST : goal.returns-then-catalogue_form-ne-REQUEST
unfolding meant_by
returns-then-catalogue_form-ne-REQUEST c = rw (sym c.catalogue_form.ensures.answer) (search tests)

pub returns-then-asked-gt-GREATEST_DGN : goal.returns-then-asked-gt-GREATEST_DGN
unfolding meant_by
returns-then-asked-gt-GREATEST_DGN c =
    let a = c.args in
    let f = c.catalogue_form.ensures.answer in
    let n = c.dgn_of-asked.ensures.answer ∙ dgn_read a.bytes in
    rw (sym f, sym n) (search tests)

pub returns-then-asked-ne-DM_RV : goal.returns-then-asked-ne-DM_RV
unfolding meant_by
returns-then-asked-ne-DM_RV c =
    let a = c.args in
    let f = c.catalogue_form.ensures.answer in
    let n = c.dgn_of-asked.ensures.answer ∙ dgn_read a.bytes in
    rw (sym f, sym n, le-ltb greatest_dgn c.dgn_of-asked.result c.if-asked-gt-GREATEST_DGN.false) (search tests)

pub returns : goal.returns
unfolding meant_by destination_of
returns c =
    let a = c.args in
    let f = c.catalogue_form.ensures.answer in
    let n = c.dgn_of-asked.ensures.answer ∙ dgn_read a.bytes in
    rw (sym f, sym n, div-one, le-ltb greatest_dgn c.dgn_of-asked.result c.if-asked-gt-GREATEST_DGN.false) (search tests)
