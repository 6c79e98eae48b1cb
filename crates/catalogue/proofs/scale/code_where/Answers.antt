-- `catalogue::scale::code_where` meets its contract. Assumes nothing.
use mathlib.Core.Path.{◌∙◌, sym}
use borrow.Author.Rules.{rules}
use denote.Enum.Bare.{same_true, same_false}
use Rattle.catalogue.specs.contracts.Class.{the_type}
use Rattle.catalogue.proofs.Codes.{where_not, where_so}
use Rattle.catalogue.proofs.scale.code_where.Goals as goal

pub returns-then-eq : goal.returns-then-eq
returns-then-eq c =
    let a = c.args in
    where_so a.row a.class a.code (sym c.class_in.ensures ∙ same_true the_type (search rules) _ _ (sym c.if-eq.ensures))

pub returns-else-eq : goal.returns-else-eq
returns-else-eq c =
    let a = c.args in
    where_not a.row a.class a.code (λ e. same_false the_type _ _ (sym c.if-eq.ensures) (c.class_in.ensures ∙ e))
