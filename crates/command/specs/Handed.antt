-- What is handed in: the claim's state, a frame, the two lists (RULES 10.4); and the address that we hold (RULES 10.9
-- and 10.17).
use Rattle.std.specs.Prelude.{not, List, ℕ, length, if◌then◌else◌}
use Rattle.words.specs.Words.{◌and◌, Told, refused, gives, given◌then◌}
use Rattle.frame.specs.Frame.{checked_of}
use Rattle.frame.specs.declared.Parts.{Parts}
use Rattle.claim.specs.Claim.{keeps_rules, holds_list, Stand, held, claiming, silent}
use Rattle.claim.specs.declared.Claim.{Claim}
use Rattle.command.specs.Hosted.{is_well_formed}
use Rattle.command.specs.declared.Host.{Host}

-- a frame handed in with a host and a claim: 2, then 3 to 6 of the frame, then 16 where either list is malformed
unfoldable pub handed_in : ℕ → List ℕ → Host → Claim → Told Parts
handed_in id bytes h c =
    if not (keeps_rules c) then refused 2 else
    given checked_of id (length bytes) then λ parts.
    if not (holds_list c and is_well_formed h) then refused 16 else
    gives parts

-- the address that we hold; an address that is only claimed is not held
unfoldable pub address_held : Stand → Told ℕ
address_held (held address) = gives address
address_held (claiming address) = refused 18
address_held silent = refused 18
