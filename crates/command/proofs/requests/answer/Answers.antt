-- `command::requests::answer` meets its contract. Assumes nothing.
use Rattle.std.specs.Prelude.{Ok, Err}
use mathlib.Core.Path.{refl, sym, ◌∙◌}
use Rattle.command.specs.declared.Response.TheVariants.{NothingToDo}
use Rattle.command.specs.declared.NotAnswered.TheVariants.{DgnTooLarge}
use Rattle.command.specs.Requests.{nothing_to_do}
use Rattle.words.specs.Words.{refused, gives}
use Rattle.command.proofs.Answers.{bare_requested_lem, answer_other, answer_large, answer_reply}
use Rattle.command.proofs.requests.answer.Goals as goal

pub returns-then-catalogue_form-ne-REQUEST : goal.returns-then-catalogue_form-ne-REQUEST
returns-then-catalogue_form-ne-REQUEST c =
    let a = c.args in
    let f = c.catalogue_form.ensures.answer in
    rw (answer_other a.host.edition a.parts _ _ _ (λ e. c.if-catalogue_form-ne-REQUEST.true (f ∙ e))) (bare_requested_lem (gives nothing_to_do) (Ok NothingToDo) _ refl refl refl c.bare.ensures)

pub returns-then-asked-gt-GREATEST_DGN : goal.returns-then-asked-gt-GREATEST_DGN
returns-then-asked-gt-GREATEST_DGN c =
    let a = c.args in
    let f = c.catalogue_form.ensures.answer in
    rw (answer_large a.host.edition a.parts _ _ _ _ (sym f ∙ c.if-catalogue_form-ne-REQUEST.false) c.asked_of-asked.ensures c.if-asked-gt-GREATEST_DGN.true) (bare_requested_lem (refused 17) (Err DgnTooLarge) _ refl refl refl c.bare-then-asked-gt-GREATEST_DGN.ensures)

pub returns : goal.returns
returns c =
    let a = c.args in
    let f = c.catalogue_form.ensures.answer in
    rw (answer_reply a.host.edition a.parts _ _ _ _ (sym f ∙ c.if-catalogue_form-ne-REQUEST.false) c.asked_of-asked.ensures c.if-asked-gt-GREATEST_DGN.false) c.reply.ensures
