-- A request for DM_RV (RULES 14.15 to 14.19).
use Rattle.std.specs.Prelude.{Option, Some, None}
use Rattle.std.specs.Prelude.{Bool, not, List, [], ◌∷◌, ℕ, length, get_or, if◌then◌else◌}
use Rattle.words.specs.Words.{given◌then◌, ◌<?◌, ◌=?◌, ◌and◌, ◌or◌, Told, refused, gives}
use Rattle.words.specs.Lists.{first}
use Rattle.frame.specs.Identifier.{catalogue_form, destination_of, greatest_dgn}
use Rattle.frame.specs.Frame.{checked_of}
use Rattle.frame.specs.Standard.{Frame, everyone, unused, request_dgn, dgn_at}
use Rattle.claim.specs.Claim as Claim
use Rattle.claim.specs.Claim.{Stand, held, claiming, silent}
use Rattle.claim.specs.declared.Claim as Claims
use Rattle.faults.specs.Rows.{dm_rv}
use Rattle.faults.specs.Fault.{is_active}
use Rattle.faults.specs.Sender.{dm_rv_frame, keeps_rules, standing, fault_at}
use Rattle.faults.specs.declared.Sender.{Sender}

-- what a sound frame asks for: the DM_RV of a destination, or anything else
pub data Asks : Type 0 where
  other : Asks
  faults_of : ℕ → Asks

-- a frame EAxxh asks for the DGN in its bytes 0 to 2; one above 1FFFFh is 17
unfoldable pub meant_by : ℕ → List ℕ → Told Asks
meant_by dgn bytes =
    if not (catalogue_form dgn =? request_dgn) then gives other else
    if greatest_dgn <? dgn_at 0 bytes then refused 17 else
    if dgn_at 0 bytes =? dm_rv then gives (faults_of (destination_of dgn)) else
    gives other

-- a request to everyone is for us, and one to the address that we hold
unfoldable pub is_for_us : ℕ → ℕ → Bool
is_for_us destination address = destination =? everyone or destination =? address

-- the DM_RV of no fault: bytes 2 to 5 are FFh
abbrev pub none_active : List ℕ → List ℕ
none_active bytes =
    get_or bytes 0 0 ∷ get_or bytes 1 0 ∷ unused ∷ unused ∷ unused ∷ unused ∷ get_or bytes 6 0 ∷ get_or bytes 7 0 ∷ []

-- the lowest active place answers a request
abbrev pub reply_from : Option ℕ → Sender → List ℕ
reply_from (Some at) s = (fault_at at s).bytes
reply_from None s = none_active s.no_fault

unfoldable pub reply_bytes : Sender → List ℕ
reply_bytes s = reply_from (first is_active s.faults) s

-- what a request comes to
pub data Reply : Type 0 where
  nothing_to_do : Reply
  sends : Frame → Reply

-- without a held address a request to everyone is 18, and none to one destination is for us
unfoldable pub answer_at : Stand → Asks → Sender → Told Reply
answer_at stand other s = gives nothing_to_do
answer_at (held address) (faults_of destination) s =
    if is_for_us destination address then gives (sends (dm_rv_frame address (reply_bytes s))) else gives nothing_to_do
answer_at (claiming address) (faults_of destination) s =
    if destination =? everyone then refused 18 else gives nothing_to_do
answer_at silent (faults_of destination) s =
    if destination =? everyone then refused 18 else gives nothing_to_do

-- a sound frame: 16, then 17, then 18
unfoldable pub heard_of : ℕ → List ℕ → Claims.Claim → Sender → Told Reply
heard_of dgn bytes c s =
    given standing c then λ stand.
    given meant_by dgn bytes then λ asks.
    answer_at stand asks s

-- 2 of either state, then 3 to 6 of the frame
unfoldable pub requested_of : ℕ → List ℕ → Claims.Claim → Sender → Told Reply
requested_of id bytes c s =
    if not (keeps_rules s and Claim.keeps_rules c) then refused 2 else
    given checked_of id (length bytes) then λ parts.
    heard_of parts.dgn bytes c s
