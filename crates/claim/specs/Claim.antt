-- Claiming an address as a machine on what was heard and waited (RULES 8; J1939-81's contest of NAMEs; 000, 3.3). A
-- state is built in two places only, `begun` and `placed`.
use Rattle.std.specs.Prelude.{Bool, true, false, not, List, ℕ, ◌+◌, min, length, get_or, take, if◌then◌else◌}
use Rattle.words.specs.Words.{◌<?◌, ◌≤?◌, ◌=?◌, ◌and◌}
use Rattle.frame.specs.Bytes.{bytes_of}
use Rattle.frame.specs.Identifier.{identifier_of}
use Rattle.frame.specs.Frame.{frame_bytes}
use Rattle.frame.specs.Standard.{claim_dgn, no_address, Frame}
use Rattle.claim.specs.Candidates.{longest_list, is_well_formed, padded}
use Rattle.claim.specs.declared.Claim.{Claim}

-- an address is held after 250 ms of pauses
abbrev pub held_after : ℕ
held_after = 250

abbrev pub claim_priority : ℕ
claim_priority = 6

-- the addresses that a node has given up where it stands: those before its position, and all of them when silent
abbrev pub losses_at : Claim → ℕ
losses_at c = if c.silent then c.candidates else c.position

-- a state that breaks its rules is refused with 2 (RULES 8.14)
unfoldable pub keeps_rules : Claim → Bool
keeps_rules c =
    (c.position <? c.candidates) and (c.wait ≤? held_after)
    and (if c.silent then (c.position =? 0) and (c.wait =? 0) else true) and (c.losses =? losses_at c)

-- a state whose list is malformed is refused with 16
unfoldable pub holds_list : Claim → Bool
holds_list c = (c.candidates ≤? longest_list) and is_well_formed (take c.candidates c.list)

-- the address that we claim or hold
abbrev pub address : Claim → ℕ
address c = get_or c.list c.position 0

-- the source of our claim: our address, or 254 when silent
unfoldable pub claim_source : Claim → ℕ
claim_source c = if c.silent then no_address else address c

-- the frame of our claim, from our address, or from 254 when silent: its identifier, and its bytes, the NAME low byte
-- first
unfoldable pub claim_id : Claim → ℕ
claim_id c = identifier_of claim_priority claim_dgn (claim_source c)

unfoldable pub claim_bytes : Claim → List ℕ
claim_bytes c = bytes_of frame_bytes c.name

abbrev pub claim_frame : Claim → Frame
claim_frame c = record { id = claim_id c; bytes = claim_bytes c }

-- where we stand
pub data Stand : Type 0 where
  held : ℕ → Stand
  claiming : ℕ → Stand
  silent : Stand

unfoldable pub stand_of : Claim → Stand
stand_of c =
    if c.silent then silent else
    if c.wait =? held_after then held (address c) else
    claiming (address c)

-- starting: the first address is claimed
abbrev pub begun : ℕ → List ℕ → Claim
begun name list =
    record {
      name = name;
      list = padded list;
      candidates = length list;
      position = 0;
      wait = 0;
      silent = false;
      losses = 0;
    }

-- the same NAME and list, elsewhere: the position, the wait, whether silent, and how many addresses were given up
abbrev pub placed : ℕ → ℕ → Bool → ℕ → Claim → Claim
placed position wait is_silent losses c =
    record {
      name = c.name;
      list = c.list;
      candidates = c.candidates;
      position = position;
      wait = wait;
      silent = is_silent;
      losses = losses;
    }

-- an address is given up, the next one of the list is claimed, and the wait begins anew
abbrev pub at_next : Claim → Claim
at_next c = placed (c.position + 1) 0 false (c.losses + 1) c

-- the last address is given up, and none is left
abbrev pub fallen : Claim → Claim
fallen c = placed 0 0 true (c.losses + 1) c

abbrev pub waited : ℕ → Claim → Claim
waited wait c = placed c.position wait c.silent c.losses c

-- how a claim that we hear ends for us: no contest, an equal NAME, a contest won, or one lost with an address left or
-- with none
pub data Outcome : Type 0 where
  nothing_to_do : Outcome
  own_name : Outcome
  repeated : Outcome
  moved : Outcome
  fell_silent : Outcome

-- a contest is lost
unfoldable pub lost_by : Claim → Outcome
lost_by c = if c.position + 1 <? c.candidates then moved else fell_silent

-- a claim is heard, from this source and with this NAME: it is a contest at our address only, and silent ignores claims
unfoldable pub outcome_of : ℕ → ℕ → Claim → Outcome
outcome_of source name c =
    if c.silent then nothing_to_do else
    if not (source =? address c) then nothing_to_do else
    if name <? c.name then lost_by c else
    if c.name <? name then repeated else
    own_name

-- the state that it leaves: only a lost contest changes it
unfoldable pub after : Outcome → Claim → Claim
after nothing_to_do c = c
after own_name c = c
after repeated c = c
after moved c = at_next c
after fell_silent c = fallen c

-- whether our claim is sent then: the frame of the state that it leaves
unfoldable pub is_sent : Outcome → Bool
is_sent nothing_to_do = false
is_sent own_name = false
is_sent repeated = true
is_sent moved = true
is_sent fell_silent = true

-- a pause: the wait stops at 250, and silent does not wait
unfoldable pub pause : ℕ → Claim → Claim
pause ms c = if c.silent then c else waited (min held_after (c.wait + ms)) c
