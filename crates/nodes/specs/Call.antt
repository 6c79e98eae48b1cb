-- What a call on the node table is told, and what it leaves (RULES 9.2, 9.7, 9.8, 9.10, 9.11, 9.18 and 9.19). It goes
-- by the length of the table and the records of the addresses; no other record is read.
use Rattle.std.specs.Prelude.{not, List, ℕ, length, get_or, take, Option, if◌then◌else◌}
use Rattle.words.specs.Words.{given◌then◌, ◌<?◌, ◌=?◌, Told, refused, gives}
use Rattle.words.specs.Lists.{first}
use Rattle.frame.specs.Bytes.{number_of}
use Rattle.frame.specs.Frame.{checked_of}
use Rattle.frame.specs.Standard.{greatest_address, claim_dgn}
use Rattle.frame.specs.declared.Parts.{Parts}
use Rattle.nodes.specs.Table.{addresses, absent, has_name, is_challenged, gives_way, may_challenge, cleared_of}
use Rattle.nodes.specs.Table.{claimed_of, paused_of, replaced_in, keeps_rules}
use Rattle.nodes.specs.declared.Node.{Node}
use Rattle.nodes.specs.declared.Claim.{Claim}

-- ---- Every call: refusals 1 and 2, which the table alone earns, and the table that a refusal leaves.

abbrev pub table_or : {A : Type 0} → List Node → Told A → Told A
table_or table told =
    if length table <? addresses then refused 1 else
    if not (keeps_rules (take addresses table)) then refused 2 else
    told

abbrev pub leaves : List Node → Told (List Node) → List Node
leaves table (refused n) = table
leaves table (gives after) = after

-- ---- hear

-- the claim in a frame: its NAME is in the eight bytes, low byte first
abbrev pub claim_in : Parts → List ℕ → Claim
claim_in parts bytes = record { source = parts.source; name = number_of bytes }

-- what comes of a frame: the record of this address has taken the NAME; stays with a lower one, which the NAME
-- challenges; or which another challenges, and the NAME stands nowhere; or the claim came from 254, whose sender has no
-- address
pub data Outcome : Type 0 where
  nothing_to_do : Outcome
  taken : ℕ → Outcome
  challenges : ℕ → Outcome
  held_by_lower : ℕ → Outcome
  silent : Outcome

-- the record of the claim's source, from which the NAME is cleared
abbrev pub source_record : List Node → Claim → Node
source_record records claim = cleared_of claim.name (get_or records claim.source absent)

unfoldable pub claim_outcome : List Node → Claim → Outcome
claim_outcome records claim =
    if greatest_address <? claim.source then silent else
    if gives_way claim.name (source_record records claim) then taken claim.source else
    if may_challenge claim.name (source_record records claim) then challenges claim.source else
    held_by_lower claim.source

-- what comes of a sound frame, and the table that it leaves; EExxh to one destination is no claim to all
unfoldable pub heard_by : Parts → List ℕ → List Node → Outcome
heard_by parts bytes records =
    if parts.dgn =? claim_dgn then claim_outcome records (claim_in parts bytes) else
    nothing_to_do

unfoldable pub left_by : Parts → List ℕ → List Node → List Node
left_by parts bytes table =
    if parts.dgn =? claim_dgn then claimed_of (claim_in parts bytes) table else
    table

-- 1, then 2, then 3 to 6 of the frame, then what comes of it
abbrev pub heard_of : List Node → ℕ → List ℕ → Told Outcome
heard_of table id bytes =
    table_or table
    (given checked_of id (length bytes) then λ parts.
    gives (heard_by parts bytes (take addresses table)))

abbrev pub table_after : List Node → ℕ → List ℕ → List Node
table_after table id bytes =
    leaves table
    (table_or table
    (given checked_of id (length bytes) then λ parts.
    gives (left_by parts bytes table)))

-- ---- pause: in how many records the challenger takes the address

abbrev pub pause_told : List Node → ℕ → Told ℕ
pause_told table ms = table_or table (gives (replaced_in ms (take addresses table)))

abbrev pub table_paused : List Node → ℕ → List Node
table_paused table ms = leaves table (table_or table (gives (paused_of ms table)))

-- ---- look_up: who has an address; above 253 nobody has one

pub data Holder : Type 0 where
  nobody : Holder
  holder : ℕ → Holder

unfoldable pub holder_of : Node → Holder
holder_of n = if n.present then holder n.name else nobody

unfoldable pub holder_at : ℕ → List Node → Holder
holder_at address records = if greatest_address <? address then nobody else holder_of (get_or records address absent)

abbrev pub looked_up_of : List Node → ℕ → Told Holder
looked_up_of table address = table_or table (gives (holder_at address (take addresses table)))

-- ---- find_address: where a NAME is, at the address of the first record that has it

abbrev pub found_of : List Node → ℕ → Told (Option ℕ)
found_of table name = table_or table (gives (first (has_name name) (take addresses table)))

-- ---- find_challenger: who challenges the holder of an address, and for how long it has; above 253 nobody does

pub record Challenger : Type 0 where
  pub name : ℕ
  pub wait : ℕ

pub data Rival : Type 0 where
  no_rival : Rival
  rival : Challenger → Rival

unfoldable pub rival_of : Node → Rival
rival_of n = if is_challenged n then rival (record { name = n.challenger; wait = n.wait }) else no_rival

unfoldable pub rival_at : ℕ → List Node → Rival
rival_at address records = if greatest_address <? address then no_rival else rival_of (get_or records address absent)

abbrev pub challenger_of : List Node → ℕ → Told Rival
challenger_of table address = table_or table (gives (rival_at address (take addresses table)))
