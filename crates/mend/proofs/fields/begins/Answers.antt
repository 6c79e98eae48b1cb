-- `mend::fields::begins` meets its contract. Assumes nothing.
use mathlib.Core.Path.{ap, ◌∙◌}
use mathlib.Core.List.{List}
use Prim.Native.Nat.{ℕ, ◌-◌}
use native.Mathlib.Omega.{arith}
use lib.ListN.{length, drop, length-drop}
use lib.Seq.{take_all}
use Rattle.capture.specs.Line.{begins_with}
use Rattle.capture.proofs.Lines.{begins_is}
use Rattle.mend.proofs.fields.begins.Goals as goal

pub returns : goal.returns
returns c =
    let a = c.args in
    let l = length-drop a.at a.line.now in
    c.starts_with.ensures.value ∙ begins_is a.key.now _
    ∙ ap (λ (part : List ℕ). begins_with a.key.now part) (take_all (length a.line.now - a.at) (drop a.at a.line.now) (omega (arith, l)))
