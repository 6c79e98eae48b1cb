-- `claim::Claim::hear` meets its contract. Assumes nothing.
use Rattle.std.specs.Prelude.{Ok}
use mathlib.Core.Path.{refl, sym, ap}
use mathlib.Core.Logic.{inl, inr}
use native.Mathlib.Omega.{arith}
use Rattle.claim.specs.Claim.{repeated, moved, fell_silent, at_next, after, is_sent}
use Rattle.claim.proofs.Calls.{hear_room, hear_count, hear_sends, hear_keeps}
use Rattle.claim.proofs.Claim.hear.Goals as goal

pub sends-requires : goal.sends-requires
unfolding after
sends-requires c =
    hear_room _ _ _ _ _ c.in-Ok.ensures (ap Ok c.in-SendClaimAgain.is) c.args.self repeated refl refl

pub at_next-requires : goal.at_next-requires
unfolding after
at_next-requires c =
    let h = hear_room _ _ _ _ _ c.in-Ok.ensures (ap Ok c.in-SendNextClaim.is) (at_next c.args.self) moved refl refl in
    record { position_bound = omega arith; losses_bound = hear_count _ _ _ _ _ c.in-Ok.ensures (ap Ok c.in-SendNextClaim.is) moved refl }

pub sends-requires-in-SendNextClaim : goal.sends-requires-in-SendNextClaim
unfolding after
sends-requires-in-SendNextClaim c =
    hear_room _ _ _ _ _ c.in-Ok.ensures (ap Ok c.in-SendNextClaim.is) _ moved refl c.at_next.ensures

pub fallen-requires : goal.fallen-requires
fallen-requires c =
    hear_count _ _ _ _ _ c.in-Ok.ensures (ap Ok c.in-SendCannotClaim.is) fell_silent refl

pub sends-requires-in-SendCannotClaim : goal.sends-requires-in-SendCannotClaim
unfolding after
sends-requires-in-SendCannotClaim c =
    hear_room _ _ _ _ _ c.in-Ok.ensures (ap Ok c.in-SendCannotClaim.is) _ fell_silent refl c.fallen.ensures

pub returns-in-SendClaimAgain : goal.returns-in-SendClaimAgain
unfolding after is_sent
returns-in-SendClaimAgain c =
    hear_sends _ _ _ _ _ c.in-Ok.ensures (ap Ok c.in-SendClaimAgain.is) _ _ refl refl c.sends.ensures

pub returns-in-SendNextClaim : goal.returns-in-SendNextClaim
unfolding after is_sent
returns-in-SendNextClaim c =
    hear_sends _ _ _ _ _ c.in-Ok.ensures (ap Ok c.in-SendNextClaim.is) _ _ refl (sym c.at_next.ensures) c.sends-in-SendNextClaim.ensures

pub returns-in-SendCannotClaim : goal.returns-in-SendCannotClaim
unfolding after is_sent
returns-in-SendCannotClaim c =
    hear_sends _ _ _ _ _ c.in-Ok.ensures (ap Ok c.in-SendCannotClaim.is) _ _ refl (sym c.fallen.ensures) c.sends-in-SendCannotClaim.ensures

pub returns-in-NothingToDo : goal.returns-in-NothingToDo
unfolding after is_sent
returns-in-NothingToDo c = elim c.in-NothingToDo.is [
  | inl e ↦ hear_keeps _ _ _ _ _ c.in-Ok.ensures (ap Ok e) _ refl refl c.keeps-in-NothingToDo.ensures
  | inr e ↦ hear_keeps _ _ _ _ _ c.in-Ok.ensures (ap Ok e) _ refl refl c.keeps-in-NothingToDo.ensures
]
