-- What the private functions of this crate promise, where it is no definition of the others (for RULES 10).
use Rattle.std.specs.Prelude.{◌≡◌, Bool, List, [], ℕ, ◌+◌, ◌<◌, length, get_or, set}
use Rattle.words.specs.Words.{Told, gives, given◌then◌}
use Rattle.frame.specs.Standard.{no_frame}
use Rattle.claim.specs.declared.Claim.{Claim}
use Rattle.command.specs.Hosted.{blank_entry, hosted}
use Rattle.command.specs.Positions.{positions_where, filled}
use Rattle.command.specs.Handed.{handed_in}
use Rattle.command.specs.Requests.{Asked}
use Rattle.command.specs.Promises.{Routing, Requesting, Acknowledging}
use Rattle.command.specs.declared.Entry.{Entry}
use Rattle.command.specs.declared.Host.{Host}
use Rattle.command.specs.declared.Positions.{Positions}
use Rattle.command.specs.declared.Routed.{Routed}
use Rattle.command.specs.declared.Requested.{Requested}
use Rattle.command.specs.declared.Acknowledged.{Acknowledged}
use Rattle.command.specs.declared.requests.Asked as requests
use Rattle.command.specs.declared.handed.Handed.{Handed}

-- the request that the code hands on
abbrev pub asked_by : requests.Asked → Asked
asked_by asked =
    record {
      destination = asked.destination;
      source = asked.source;
      dgn = asked.dgn;
      instance = asked.instance;
    }

-- one position more
abbrev pub added : ℕ → Positions → Positions
added i p = record { at = set p.at p.count i; count = p.count + 1 }

-- The positions of the entries that pass a test, which is known by what it may answer: the test that it computes, of
-- each entry of the list.

abbrev pub Computes : (Entry → Bool → Type 0) → (Entry → Bool) → List Entry → Type 0
Computes answers passes es =
    (k : ℕ) (b : Bool) → k < length es → answers (get_or es k blank_entry) b → b ≡ passes (get_or es k blank_entry)

abbrev pub Picks : (Entry → Bool → Type 0) → Host → Positions → Type 0
Picks answers h r =
    (passes : Entry → Bool) → Computes answers passes (hosted h) → r ≡ filled (positions_where passes (hosted h))

-- what is handed in, with the frame's bytes
unfoldable pub handed_of : ℕ → List ℕ → Host → Claim → Told Handed
handed_of id bytes h c =
    given handed_in id bytes h c then λ parts.
    gives (record { parts = parts; bytes = bytes })

-- an answer with nothing beside it

abbrev pub bare_routed : Routing → Routed
bare_routed answer = record { answer = answer; positions = filled [] }

abbrev pub bare_requested : Requesting → Requested
bare_requested answer = record { answer = answer; positions = filled []; id = no_frame.id; bytes = no_frame.bytes }

abbrev pub bare_acknowledged : Acknowledging → Acknowledged
bare_acknowledged answer = record { answer = answer; id = no_frame.id; bytes = no_frame.bytes }
