-- `catalogue::scale::minus` meets its contract. Assumes nothing.
use lib.IntN.{sub_ℕ}
use mir.ValLaws.{to_z-of_z}
use mir.Syntax.{w64}
use Rattle.catalogue.proofs.Scales.{word_minus, sub_fits}
use Rattle.catalogue.proofs.scale.minus.Goals as goal

pub overflow_sub-result : goal.overflow_sub-result
overflow_sub-result c = rw (word_minus c.args.a c.args.b c.requires.0 c.requires.1) (sub_fits c.args.a c.args.b c.requires.0 c.requires.1)

pub returns : goal.returns
returns c =
    let e = word_minus c.args.a c.args.b c.requires.0 c.requires.1 in
    let f = sub_fits c.args.a c.args.b c.requires.0 c.requires.1 in
    rw e (to_z-of_z w64 (sub_ℕ c.args.a c.args.b) f)
