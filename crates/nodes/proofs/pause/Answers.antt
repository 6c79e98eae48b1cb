-- `nodes::pause` meets its contract. Assumes nothing.
use mathlib.Core.Path.{sym, ap, ◌∙◌}
use native.Mathlib.Omega.{arith}
use lib.Seq.{length-take-le}
use Rattle.words.specs.Words.{gives}
use Rattle.nodes.specs.Table.{addresses}
use Rattle.nodes.proofs.Call.{judged_sound, pause_told_lem, pause_left}
use Rattle.nodes.proofs.Kept.{paused_whole}
use Rattle.nodes.proofs.pause.Goals as goal

pub slice_bounds-replaced-end-2 : goal.slice_bounds-replaced-end-2
slice_bounds-replaced-end-2 c = omega (arith, length-take-le addresses c.args.table.now (judged_sound _ c.in_ok-judge.ensures).0)

pub replaced-count-requires : goal.replaced-count-requires
replaced-count-requires c = length-take-le addresses c.args.table.now (judged_sound _ c.in_ok-judge.ensures).0

pub slice_bounds-pause_all-end-2 : goal.slice_bounds-pause_all-end-2
slice_bounds-pause_all-end-2 c = omega (arith, length-take-le addresses c.args.table.now (judged_sound _ c.in_ok-judge.ensures).0)

pub pause_all-requires : goal.pause_all-requires
pause_all-requires c = length-take-le addresses c.args.table.now (judged_sound _ c.in_ok-judge.ensures).0

pub returns : goal.returns
returns c =
    let a = c.args in
    let s = judged_sound a.table.now c.in_ok-judge.ensures in
    record {
      answer = ap gives c.replaced-count.ensures ∙ sym (pause_told_lem a.table.now a.ms s.0 s.1);
      table_after = rw c.pause_all.ensures (paused_whole a.ms a.table.now) ∙ sym (pause_left a.table.now a.ms s.0 s.1);
    }
