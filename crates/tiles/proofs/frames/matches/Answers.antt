-- `tiles::frames::matches` meets its contract. Assumes nothing.
use mathlib.Core.Path.{sym, ◌∙◌}
use Rattle.tiles.proofs.Steps.{looked_row, matches_blank, matches_other, matches_by}
use Rattle.tiles.proofs.frames.matches.Goals as goal
use Rattle.tiles.proofs.frames.matches.Goals.{then-is_blank-via-then-is_blank, then-is_blank-via-else-is_blank+then-not-is_of_instance}

pub returns-then-is_blank : goal.returns-then-is_blank
returns-then-is_blank c =
    let a = c.args in
    elim c.then-is_blank.branch [
      | then-is_blank-via-then-is_blank w ↦ matches_blank a.frame.dgn a.frame.instance a.t (sym c.is_blank.ensures ∙ w.if-is_blank.true)
      | then-is_blank-via-else-is_blank+then-not-is_of_instance w ↦
          matches_other a.frame.dgn a.frame.instance a.t (sym w.is_of_instance.ensures ∙ w.if-not-is_of_instance.true)
    ]

pub returns : goal.returns
returns c =
    let a = c.args in
    let l = looked_row a.frame.rows.now a.t.row _ c.requires c.row_in.ensures in
    matches_by a.frame.dgn a.frame.instance a.t _ _ (sym c.is_blank.ensures ∙ c.if-is_blank.false)
    (sym c.is_of_instance.ensures ∙ c.if-not-is_of_instance.false) l c.is_of_dgn.ensures
