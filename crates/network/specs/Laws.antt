-- The laws of a network (RULES 16.10 to 16.17), each a named statement. proofs/Laws.antt has a proof of each, under the
-- same name written small.
use Rattle.std.specs.Prelude.{◌≡◌, List, [], ◌∷◌, ◌⊎◌, ℕ, ◌+◌, ◌-◌, ◌*◌, ◌^◌, ◌≤◌, ◌<◌, length, drop, if◌then◌else◌}
use Rattle.std.proofs.Math.Option.{Option, some, none}
use Rattle.words.specs.Words.{◌=?◌, refused}
use Rattle.frame.specs.Identifier.{source_of}
use Rattle.claim.specs.Candidates.{longest_list}
use Rattle.claim.specs.Claim.{held_after}
use Rattle.claim.specs.Promises.{Hear, Pause, Stands, OurClaim, told_hearing, told_pausing, told_sending}
use Rattle.claim.specs.declared.Claim.{Claim}
use Rattle.claim.specs.declared.Heard.{Heard}
use Rattle.claim.specs.declared.Paused.{Paused}
use Rattle.claim.specs.declared.ClaimFrame.{ClaimFrame}
use Rattle.claim.specs.Promises.{Standing}
use Rattle.std.specs.Prelude.{Ok}
use Rattle.claim.specs.declared.Place.TheVariants.{Held, Claiming, Silent}
use Rattle.network.specs.Network.{Sent, off, on, Network, node_at, Differ, Fit, fresh, Act, starts, comes}
use Rattle.network.specs.Network.{reads, pauses, asked, Step, Ran}

-- ---- No two nodes have one address (RULES 16.10 and 16.11)

-- a node that has started claims or holds an address: its call `stands` says so
pub record At (w : Network) (i a : ℕ) : Type 0 where
  pub claim : Claim
  pub read : ℕ
  pub started : node_at w i ≡ on claim read
  pub stands : Stands claim (Ok (Held a)) ⊎ Stands claim (Ok (Claiming a))

-- every claim of a list is the node's own
abbrev pub Own : ℕ → List Sent → Type 0
Own i [] = Unit
Own i (x ∷ xs) = (x.by ≡ i) × Own i xs

-- no claim is still undelivered: none of another waits, or is on the bus and unread, for a node that has started
abbrev pub AtRest : Network → Type 0
AtRest w = (i : ℕ) (c : Claim) (k : ℕ) → node_at w i ≡ on c k → Own i w.waiting × Own i (drop k w.bus)

abbrev pub NoTwo : Type 0
NoTwo =
    (names : List ℕ) (acts : List Act) (w : Network) → Differ names → Fit names
    → Ran names (fresh names) acts w → AtRest w
    → (i j a : ℕ) → At w i a → At w j a → i ≡ j

-- Why it is so (RULES 16.12): whoever has an address at rest has the last word on it. The last claim from that address
-- on the bus is its own, and two nodes cannot both have the last word.

-- who sent the last claim from an address, where `who` did before
abbrev pub last_by : ℕ → Option ℕ → List Sent → Option ℕ
last_by a who [] = who
last_by a who (x ∷ xs) = last_by a (if source_of x.id =? a then some x.by else who) xs

abbrev pub LastWord : Type 0
LastWord =
    (names : List ℕ) (acts : List Act) (w : Network) → Differ names → Fit names
    → Ran names (fresh names) acts w → AtRest w → w.waiting ≡ []
    → (i a : ℕ) → At w i a → last_by a none w.bus ≡ some i

-- ---- The network comes to rest (RULES 16.14 and 16.15)

-- how often somebody is asked for its claim

abbrev pub asks : Act → ℕ
asks (starts i list older) = 0
asks (comes n) = 0
asks (reads i) = 0
asks (pauses i ms) = 0
asks (asked i) = 1

abbrev pub asks_in : List Act → ℕ
asks_in [] = 0
asks_in (act ∷ acts) = asks act + asks_in acts

-- n nodes send no more claims than this: each sends at most 17 of its own accord, one for each address of its list and
-- one from 254, and again where it is asked; and a claim is repeated by lower NAMEs alone
abbrev pub most_claims : ℕ → ℕ → ℕ
most_claims n requests = (longest_list + 1) * (2 ^ n - 1) + 2 ^ n * requests

-- however long a run is, and however often nodes pause and claims pass each other
abbrev pub FewClaims : Type 0
FewClaims =
    (names : List ℕ) (acts : List Act) (w : Network) → Differ names → Fit names
    → Ran names (fresh names) acts w
    → length w.bus + length w.waiting ≤ most_claims (length names) (asks_in acts)

-- the deliveries in a run: a claim comes on the bus, or a node reads one

abbrev pub deliveries : Act → ℕ
deliveries (starts i list older) = 0
deliveries (comes n) = 1
deliveries (reads i) = 1
deliveries (pauses i ms) = 0
deliveries (asked i) = 0

abbrev pub deliveries_in : List Act → ℕ
deliveries_in [] = 0
deliveries_in (act ∷ acts) = deliveries act + deliveries_in acts

-- so no run has more deliveries than this: every claim comes on the bus once, and every node reads it once
abbrev pub FewDeliveries : Type 0
FewDeliveries =
    (names : List ℕ) (acts : List Act) (w : Network) → Differ names → Fit names
    → Ran names (fresh names) acts w
    → deliveries_in acts ≤ (length names + 1) * most_claims (length names) (asks_in acts)

-- and as long as the network is not at rest there is one more to make: who goes on delivering brings it to rest
abbrev pub DeliversOn : Type 0
DeliversOn =
    (names : List ℕ) (acts : List Act) (w : Network) → Differ names → Fit names
    → Ran names (fresh names) acts w
    → AtRest w ⊎ ((act : Act) × (v : Network) × (deliveries act ≡ 1) × Step names w act v)

-- from wherever a run has come to, deliveries alone lead to rest
abbrev pub DeliversOnly : List Act → Type 0
DeliversOnly [] = Unit
DeliversOnly (act ∷ acts) = (deliveries act ≡ 1) × DeliversOnly acts

abbrev pub ComesToRest : Type 0
ComesToRest =
    (names : List ℕ) (acts : List Act) (w : Network) → Differ names → Fit names
    → Ran names (fresh names) acts w
    → (more : List Act) × (v : Network) × DeliversOnly more × Ran names w more v × AtRest v

-- ---- Every call answers, and none refuses (RULES 16.16)

-- What else may happen can happen at any time, so that runs are not said of nothing: a node that has not started can
-- start, with any list; for one that has started time can pass, and it can be asked for its claim.
pub record AnyTime (names : List ℕ) (w : Network) : Type 0 where
  pub start : (i : ℕ) (list : List ℕ) (older : ℕ) → i < length names → node_at w i ≡ off
      → (v : Network) × Step names w (starts i list older) v
  pub pause : (i ms : ℕ) (c : Claim) (k : ℕ) → node_at w i ≡ on c k → (v : Network) × Step names w (pauses i ms) v
  pub ask : (i : ℕ) (c : Claim) (k : ℕ) → node_at w i ≡ on c k → (v : Network) × Step names w (asked i) v

abbrev pub EveryActCan : Type 0
EveryActCan =
    (names : List ℕ) (acts : List Act) (w : Network) → Differ names → Fit names
    → Ran names (fresh names) acts w → AnyTime names w

-- A start is refused for its list alone. After it no call of a node is refused: its state keeps its rules, and every
-- frame on the bus is a sound claim.
pub record Unrefused (w : Network) (i : ℕ) (c : Claim) (k : ℕ) : Type 0 where
  pub hear : (x : Sent) (rest : List Sent) (r : Heard) (n : ℕ) → drop k w.bus ≡ x ∷ rest
      → Hear x.id x.bytes c r → told_hearing r.answer ≡ refused n → ⊥
  pub pause : (ms : ℕ) (r : Paused) (n : ℕ) → Pause ms c r → told_pausing r.answer ≡ refused n → ⊥
  pub ask : (r : ClaimFrame) (n : ℕ) → OurClaim c r → told_sending r.answer ≡ refused n → ⊥

abbrev pub NoneRefuses : Type 0
NoneRefuses =
    (names : List ℕ) (acts : List Act) (w : Network) → Differ names → Fit names
    → Ran names (fresh names) acts w
    → (i : ℕ) (c : Claim) (k : ℕ) → node_at w i ≡ on c k → Unrefused w i c k

-- ---- Every node holds an address, or is silent (RULES 16.17)

-- no node starts, and none is asked for its claim
abbrev pub LeftAlone : List Act → Type 0
LeftAlone [] = Unit
LeftAlone (starts i list older ∷ acts) = ⊥
LeftAlone (comes n ∷ acts) = LeftAlone acts
LeftAlone (reads i ∷ acts) = LeftAlone acts
LeftAlone (pauses i ms ∷ acts) = LeftAlone acts
LeftAlone (asked i ∷ acts) = ⊥

-- the milliseconds that pass for a node

abbrev pub passes : ℕ → Act → ℕ
passes i (starts j list older) = 0
passes i (comes n) = 0
passes i (reads j) = 0
passes i (pauses j ms) = if j =? i then ms else 0
passes i (asked j) = 0

abbrev pub passes_in : ℕ → List Act → ℕ
passes_in i [] = 0
passes_in i (act ∷ acts) = passes i act + passes_in i acts

-- the address at which it was when the network came to rest
abbrev pub HeldAtLast : Type 0
HeldAtLast =
    (names : List ℕ) (acts more : List Act) (w v : Network) → Differ names → Fit names
    → Ran names (fresh names) acts w → AtRest w → Ran names w more v → LeftAlone more
    → (i : ℕ) (c : Claim) (k : ℕ) → node_at v i ≡ on c k → held_after ≤ passes_in i more
    → (r : Standing) → Stands c r → ((a : ℕ) × (r ≡ Ok (Held a)) × At w i a) ⊎ (r ≡ Ok Silent)
