-- `frame::check` meets its contract. Assumes nothing.
use mathlib.Core.Path.{◌≡◌, sym, ◌∙◌}
use mathlib.Core.Bool.{true}
use Prim.Native.Nat.{ℕ}
use Rattle.std.specs.Prelude.{Ok, Err}
use Rattle.std.specs.Result.{is_ok}
use lib.ListN.{length}
use Rattle.words.proofs.Words.{true_false}
use Rattle.frame.specs.Frame.{checked_of}
use Rattle.frame.specs.Promises.{Verdict, told_verdict}
use Rattle.frame.proofs.Frame.{checked_given}
use Rattle.frame.proofs.check.Goals as goal

-- a frame that is given has eight bytes
eight : (id size : ℕ) (v : Verdict) → told_verdict v ≡ checked_of id size → is_ok v ≡ true → size ≡ 8
eight id size (Ok parts) e t = (checked_given id size parts (sym e)).0
eight id size (Err why) e t = true_false (sym t)

pub copy_from_slice-requires : goal.copy_from_slice-requires
copy_from_slice-requires c = sym (eight c.args.id (length c.args.bytes.now) c.judge-verdict.result c.judge-verdict.ensures (sym c.is_ok.ensures.value ∙ c.if-is_ok.true))
