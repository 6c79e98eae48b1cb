-- A frame looked at by itself (RULES 3.8 to 3.10): what refusals 3, 4, 5, 6 and 12 say of identifier and data, the
-- lowest number first.
use Rattle.std.specs.Prelude.{Bool, true, false, not, ℕ, if◌then◌else◌}
use Rattle.words.specs.Words.{◌<?◌, ◌≤?◌, ◌=?◌, ◌or◌, bits, Told, refused, gives}
use Rattle.frame.specs.Identifier.{reserved_of, source_of, dgn_of, parts_of, identifier_of, identifiers, greatest_dgn}
use Rattle.frame.specs.Identifier.{lowest_priority}
use Rattle.frame.specs.declared.Parts.{Parts}

-- every frame carries eight bytes (000, 3.1)
abbrev pub frame_bytes : ℕ
frame_bytes = 8

-- 255 is nobody's source; 254 is that of a node without an address, which may only request (EAh) and claim (EEh)
unfoldable pub source_allowed : ℕ → ℕ → Bool
source_allowed source dgn =
    if source =? 255 then false else
    if source =? 254 then (bits 16 8 dgn =? 0xEA) or (bits 16 8 dgn =? 0xEE) else
    true

-- an identifier taken apart
unfoldable pub apart_of : ℕ → Told Parts
apart_of id =
    if identifiers ≤? id then refused 3 else
    if reserved_of id =? 1 then refused 5 else
    gives (parts_of id)

-- an identifier formed; any source fits
unfoldable pub formed_of : ℕ → ℕ → ℕ → Told ℕ
formed_of priority dgn source =
    if lowest_priority <? priority then refused 12 else
    if greatest_dgn <? dgn then refused 12 else
    gives (identifier_of priority dgn source)

-- a frame checked: its identifier, and how many bytes of data came with it
unfoldable pub checked_of : ℕ → ℕ → Told Parts
checked_of id size =
    if identifiers ≤? id then refused 3 else
    if not (size =? frame_bytes) then refused 4 else
    if reserved_of id =? 1 then refused 5 else
    if source_allowed (source_of id) (dgn_of id) then gives (parts_of id) else
    refused 6
