-- Commands by instance (RULES 10.5 to 10.10; 000, 3.2.4.1 and 3.2.4.5).
use Rattle.std.specs.Prelude.{Bool, false, not, List, ℕ, get_or, if◌then◌else◌}
use Rattle.words.specs.Words.{◌=?◌, ◌and◌, Told, gives, given◌then◌}
use Rattle.words.specs.Lists.{any}
use Rattle.frame.specs.Identifier.{catalogue_form}
use Rattle.frame.specs.Promises.{destined}
use Rattle.frame.specs.declared.Destination.{Destination}
use Rattle.frame.specs.declared.Destination.TheVariants.{NotAddressed, All, One}
use Rattle.claim.specs.Claim.{Stand, stand_of}
use Rattle.claim.specs.declared.Claim.{Claim}
use Rattle.command.specs.Hosted.{hosted}
use Rattle.command.specs.Positions.{positions_where}
use Rattle.command.specs.Handed.{handed_in, address_held}
use Rattle.command.specs.declared.Entry.{Entry}
use Rattle.command.specs.declared.Host.{Host}

-- an entry with this command DGN
abbrev pub has_command : ℕ → Entry → Bool
has_command dgn e = e.command =? dgn

-- the instance that a command names in byte 0, where zero is the marked entries'
abbrev pub is_named : ℕ → Entry → Bool
is_named instance e = if instance =? 0 then e.zero_is_all else e.instance =? instance

-- an entry that a command is for
unfoldable pub is_meant : ℕ → ℕ → Entry → Bool
is_meant dgn instance e = has_command dgn e and is_named instance e

-- a destination that is one address, and not ours
unfoldable pub is_elsewhere : Destination → ℕ → Bool
is_elsewhere NotAddressed address = false
is_elsewhere All address = false
is_elsewhere (One to) address = not (to =? address)

-- what a frame comes to: it is no command of ours, or it picks entries, perhaps none
pub data Outcome : Type 0 where
  nothing_to_do : Outcome
  picks : List ℕ → Outcome

-- a frame with this DGN and byte 0
unfoldable pub route_of : ℕ → ℕ → List Entry → Stand → Told Outcome
route_of dgn instance es stand =
    if not (any (has_command (catalogue_form dgn)) es) then gives nothing_to_do else
    given address_held stand then λ address.
    if is_elsewhere (destined dgn) address then gives nothing_to_do else
    gives (picks (positions_where (is_meant (catalogue_form dgn) instance) es))

unfoldable pub routed_of : ℕ → List ℕ → Host → Claim → Told Outcome
routed_of id bytes h c =
    given handed_in id bytes h c then λ parts.
    route_of parts.dgn (get_or bytes 0 0) (hosted h) (stand_of c)
