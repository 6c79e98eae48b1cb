-- `tiles::frames::hear` meets its contract. Assumes nothing.
use mathlib.Core.Path.{sym, subst}
use Prim.Native.Nat.{ℕ}
use Rattle.tiles.specs.Private.{IsSound}
use Rattle.tiles.proofs.Steps.{all_heard}
use Rattle.tiles.proofs.frames.hear.Goals as goal

pub mask-mask-requires : goal.mask-mask-requires
mask-mask-requires c = c.packed_rows-table.ensures.answer

pub heard_by_all-requires : goal.heard_by_all-requires
heard_by_all-requires c =
    let a = c.args in record {
      rows_held = c.packed_rows-table.ensures.answer;
      frame_sound = subst (λ (d : ℕ). IsSound a.id a.bytes.now d a.instance) (sym c.catalogue_form.ensures.answer) c.requires.frame_sound;
      panel_sound = c.requires.panel_sound;
    }

pub returns : goal.returns
returns c =
    let a = c.args in
    all_heard _ _ a.instance _ a.bytes.now a.p _
    c.catalogue_form.ensures.answer c.requires.frame_sound.of_instance
    c.heard_by_all.ensures c.mask-mask.ensures
