-- The acknowledgment, and the frames that this crate sends (RULES 10.21 to 10.26; 000 and 001, 3.2.4.4; 000, table
-- 7.5).
use Rattle.std.specs.Prelude.{not, List, ◌∷◌, ℕ, ◌+◌, if◌then◌else◌}
use Rattle.words.specs.Words.{◌<?◌, Told, refused, gives, given◌then◌}
use Rattle.frame.specs.Identifier.{identifier_of, greatest_dgn}
use Rattle.frame.specs.Standard.{Frame, acknowledgment_dgn, dgn_bytes, greatest_address, unused}
use Rattle.claim.specs.Claim.{keeps_rules, holds_list, stand_of}
use Rattle.claim.specs.declared.Claim.{Claim}
use Rattle.command.specs.Handed.{address_held}
use Rattle.command.specs.declared.Acknowledgment.{Acknowledgment}

abbrev pub acknowledgment_priority : ℕ
acknowledgment_priority = 6

unfoldable pub acknowledgment_id : ℕ → ℕ → ℕ
acknowledgment_id address requester = identifier_of acknowledgment_priority (acknowledgment_dgn + requester) address

-- byte 0 the code, 1 the instance, 2 and 3 FFh, 4 the requester, 5 to 7 the DGN, low byte first
unfoldable pub acknowledgment_bytes : Acknowledgment → List ℕ
acknowledgment_bytes a = a.code ∷ a.instance ∷ unused ∷ unused ∷ a.requester ∷ dgn_bytes a.dgn

-- the frame of an acknowledgment, from this address to its requester
abbrev pub acknowledgment_frame : ℕ → Acknowledgment → Frame
acknowledgment_frame address a =
    record { id = acknowledgment_id address a.requester; bytes = acknowledgment_bytes a }

-- an acknowledgment formed: 2, then 6, 16, 17, 18
unfoldable pub acknowledged_of : Claim → Acknowledgment → Told Frame
acknowledged_of c a =
    if not (keeps_rules c) then refused 2 else
    if greatest_address <? a.requester then refused 6 else
    if not (holds_list c) then refused 16 else
    if greatest_dgn <? a.dgn then refused 17 else
    given address_held (stand_of c) then λ address.
    gives (acknowledgment_frame address a)
