-- `catalogue::has_instance` meets its contract. Assumes nothing.
use mathlib.Core.Path.{ap, ◌∙◌}
use Prim.Native.Nat.{ℕ}
use Rattle.words.specs.Words.{◌=?◌}
use Rattle.words.specs.Lists.{any}
use Rattle.catalogue.specs.Instances.{instance_dgns, has_instance}
use Rattle.catalogue.proofs.has_instance.Goals as goal

pub returns : goal.returns
unfolding has_instance
returns c =
    record {
      answer =
          c.is_marked.ensures
          ∙ ap (λ (d : ℕ). any (◌=?◌ d) instance_dgns) c.catalogue_form.ensures.answer;
    }
