-- Requests for a DGN (RULES 10.11 to 10.20, 10.27 and 10.28; 000 and 001, 3.2.4.3 and 3.2.4.4), in two editions. They
-- differ in one definition, `instance_asked`: byte 3 of a request is looked at in edition two alone, byte 4 in neither.
use Rattle.std.specs.Prelude.{Bool, false, not, List, ℕ, get_or, if◌then◌else◌}
use Rattle.words.specs.Words.{◌<?◌, ◌=?◌, ◌and◌, ◌or◌, Told, refused, gives, given◌then◌}
use Rattle.words.specs.Lists.{any}
use Rattle.frame.specs.Identifier.{greatest_dgn, destination_of, catalogue_form}
use Rattle.frame.specs.Standard.{Frame, address_claimed, dgn_at, everyone, no_address, request_dgn}
use Rattle.frame.specs.declared.Parts.{Parts}
use Rattle.claim.specs.Claim.{Stand, held, claiming, silent, stand_of, claim_frame}
use Rattle.claim.specs.declared.Claim.{Claim}
use Rattle.command.specs.Hosted.{hosted}
use Rattle.command.specs.Positions.{positions_where}
use Rattle.command.specs.Handed.{handed_in, address_held}
use Rattle.command.specs.Acknowledgment.{acknowledgment_frame}
use Rattle.command.specs.declared.Acknowledgment.{Acknowledgment}
use Rattle.command.specs.declared.Edition.{Edition}
use Rattle.command.specs.declared.Edition.TheVariants.{One, Two}
use Rattle.command.specs.declared.Entry.{Entry}
use Rattle.command.specs.declared.Host.{Host}

-- the DGN in its bytes 0 to 2, low byte first
unfoldable pub requested_dgn : List ℕ → ℕ
requested_dgn bytes = dgn_at 0 bytes

-- FFh stands for all instances
abbrev pub all_instances : ℕ
all_instances = 0xFF

-- the instance that is asked for: in edition one all of them, whatever byte 3 holds; in edition two the one in byte 3
unfoldable pub instance_asked : Edition → List ℕ → ℕ
instance_asked One bytes = all_instances
instance_asked Two bytes = get_or bytes 3 0

-- a request: to which destination, from which source, for which DGN and which instance
pub record Asked : Type 0 where
  pub destination : ℕ
  pub source : ℕ
  pub dgn : ℕ
  pub instance : ℕ

-- the request in a frame with these parts and bytes
abbrev pub asked_of : Edition → Parts → List ℕ → Asked
asked_of edition parts bytes =
    record {
      destination = destination_of parts.dgn;
      source = parts.source;
      dgn = requested_dgn bytes;
      instance = instance_asked edition bytes;
    }

-- an entry of the instance that is asked for
abbrev pub is_of_instance : ℕ → Entry → Bool
is_of_instance instance e = (instance =? all_instances) or (e.instance =? instance)

-- an entry that supports a request, and is picked by it
unfoldable pub supports : Asked → Entry → Bool
supports asked e = (e.status =? asked.dgn) and is_of_instance asked.instance e

-- an address at which we are asked: the held one, or, for EE00h only, the one that we claim; none when silent
unfoldable pub is_our_address : Asked → Stand → Bool
is_our_address asked (held address) = asked.destination =? address
is_our_address asked (claiming address) = (asked.dgn =? address_claimed) and (asked.destination =? address)
is_our_address asked silent = false

-- a destination that is ours
unfoldable pub is_ours : Asked → Stand → Bool
is_ours asked stand = (asked.destination =? everyone) or is_our_address asked stand

-- the code for an unsupported DGN: table 7.5 names none, so it is J1939-21's negative answer
abbrev pub nak_code : ℕ
nak_code = 1

-- the NAK to a request, with the instance that was asked for
abbrev pub nak_to : Asked → Acknowledgment
nak_to asked = record { code = nak_code; instance = asked.instance; requester = asked.source; dgn = asked.dgn }

-- what a request comes to
pub data Reply : Type 0 where
  nothing_to_do : Reply
  claims : Frame → Reply
  supported : List ℕ → Reply
  nak : Frame → Reply
  unsupported : Reply

-- a request for any DGN but EE00h, when we hold an address: a global one is never refused on the bus, nor one from 254
unfoldable pub status_of : Asked → List Entry → ℕ → Reply
status_of asked es address =
    if any (supports asked) es then supported (positions_where (supports asked) es) else
    if asked.destination =? everyone then unsupported else
    if asked.source =? no_address then unsupported else
    nak (acknowledgment_frame address (nak_to asked))

-- a request for a DGN of 17 bits
unfoldable pub reply_of : Asked → List Entry → Claim → Told Reply
reply_of asked es c =
    if not (is_ours asked (stand_of c)) then gives nothing_to_do else
    if asked.dgn =? address_claimed then gives (claims (claim_frame c)) else
    given address_held (stand_of c) then λ address.
    gives (status_of asked es address)

-- a sound frame
unfoldable pub answer_of : Edition → Parts → List ℕ → List Entry → Claim → Told Reply
answer_of edition parts bytes es c =
    if not (catalogue_form parts.dgn =? request_dgn) then gives nothing_to_do else
    if greatest_dgn <? requested_dgn bytes then refused 17 else
    reply_of (asked_of edition parts bytes) es c

unfoldable pub requested_of : ℕ → List ℕ → Host → Claim → Told Reply
requested_of id bytes h c =
    given handed_in id bytes h c then λ parts.
    answer_of h.edition parts bytes (hosted h) c
