-- A network: nodes that claim addresses on one bus (RULES 16.1 to 16.9). What a node does is told by the promises of
-- `Claim::start`, `hear`, `pause` and `our_claim` (crates/claim) alone, and what it sends is the frame that the call
-- hands it. All that is added here is the bus.
--
-- A claim that is sent waits for the bus. From there the claims come on the bus, in any order, and that is the one
-- order for all. Each node reads the bus from one claim to the next, whenever it likes; its own claims it passes by.
use Rattle.std.specs.Prelude.{◌≡◌, Bool, true, false, List, [], ◌∷◌, ◌++◌, map, ℕ, suc, ◌-◌, ◌<◌, ◌^◌, length, get_or, set, take, drop}
use Rattle.words.specs.Words.{Told, refused, gives, Done}
use Rattle.frame.specs.Frame.{frame_bytes}
use Rattle.claim.specs.Promises.{Start, Hear, Pause, OurClaim, told_starting, told_hearing, told_sending, is_sent_told}
use Rattle.claim.specs.declared.Claim.{Claim}
use Rattle.claim.specs.declared.Started.{Started}
use Rattle.claim.specs.declared.Heard.{Heard}
use Rattle.claim.specs.declared.Paused.{Paused}
use Rattle.claim.specs.declared.ClaimFrame.{ClaimFrame}

-- ---- The network

-- a frame on its way: the number of the node that sent it, identifier and bytes
pub record Sent : Type 0 where
  pub by : ℕ
  pub id : ℕ
  pub bytes : List ℕ

-- a node has not started, and neither receives nor holds; or it has: its claim, and how many claims of the bus it has
-- read
pub data Node : Type 0 where
  off : Node
  on : Claim → ℕ → Node

-- the nodes, of which there may be any number; the claims that wait for the bus; and those that came on it, in the one
-- order for all
pub record Network : Type 0 where
  pub nodes : List Node
  pub waiting : List Sent
  pub bus : List Sent

abbrev pub node_at : Network → ℕ → Node
node_at w i = get_or w.nodes i off

-- every node has a NAME
abbrev pub name_of : List ℕ → ℕ → ℕ
name_of names i = get_or names i 0

-- all NAMEs differ, and each has 64 bits

abbrev pub Differ : List ℕ → Type 0
Differ names = (i j : ℕ) → i < length names → j < length names → name_of names i ≡ name_of names j → i ≡ j

abbrev pub Fit : List ℕ → Type 0
Fit names = (i : ℕ) → i < length names → name_of names i < 256 ^ frame_bytes

-- at first no node has started, and nothing is sent
abbrev pub fresh : List ℕ → Network
fresh names = record { nodes = map (λ n. off) names; waiting = []; bus = [] }

-- ---- What happens

pub data Act : Type 0 where
  -- a node starts, with a list; of the claims that came on the bus before, so many of the last are still before it
  starts : ℕ → List ℕ → ℕ → Act
  -- of the claims that wait, the one with this number comes on the bus
  comes : ℕ → Act
  -- a node reads its next claim of the bus
  reads : ℕ → Act
  -- milliseconds pass for a node
  pauses : ℕ → ℕ → Act
  -- a node is asked for its claim, and sends it
  asked : ℕ → Act

-- a node becomes what a call has made of it, and what it sends waits for the bus
abbrev pub becomes : ℕ → Node → List Sent → Network → Network
becomes i node out w = record { nodes = set w.nodes i node; waiting = w.waiting ++ out; bus = w.bus }

-- the frame beside an answer is sent, or none is
abbrev pub sent_if : Bool → ℕ → ℕ → List ℕ → List Sent
sent_if true i id bytes = record { by = i; id = id; bytes = bytes } ∷ []
sent_if false i id bytes = []

-- a node that starts; a list that is refused starts nothing
abbrev pub started_by : Told Done → ℕ → ℕ → Started → Network → Network
started_by (gives d) i older r w =
    becomes i (on r.claim (length w.bus - older)) (sent_if true i r.id r.bytes) w
started_by (refused n) i older r w = w

-- whether an answer says that the frame beside it is our claim
abbrev pub is_ours : Told Done → Bool
is_ours (gives d) = true
is_ours (refused n) = false

pub data Step (names : List ℕ) : Network → Act → Network → Type 0 where
  -- a node starts once at most
  start : (w : Network) (i : ℕ) (list : List ℕ) (older : ℕ) (r : Started)
      → i < length w.nodes → node_at w i ≡ off → Start (name_of names i) list r
      → Step names w (starts i list older) (started_by (told_starting r.answer) i older r w)
  come : (w : Network) (n : ℕ) (x : Sent) (rest : List Sent)
      → drop n w.waiting ≡ x ∷ rest
      → Step names w (comes n)
      (record { nodes = w.nodes; waiting = take n w.waiting ++ rest; bus = w.bus ++ (x ∷ []) })
  -- the next claim is another's, and is heard; or it is the node's own, and is passed by
  hear : (w : Network) (i : ℕ) (c : Claim) (k : ℕ) (x : Sent) (rest : List Sent) (r : Heard)
      → node_at w i ≡ on c k → drop k w.bus ≡ x ∷ rest → (x.by ≡ i → ⊥) → Hear x.id x.bytes c r
      → Step names w (reads i)
      (becomes i (on r.claim (suc k)) (sent_if (is_sent_told (told_hearing r.answer)) i r.id r.bytes) w)
  pass : (w : Network) (i : ℕ) (c : Claim) (k : ℕ) (x : Sent) (rest : List Sent)
      → node_at w i ≡ on c k → drop k w.bus ≡ x ∷ rest → x.by ≡ i
      → Step names w (reads i) (becomes i (on c (suc k)) [] w)
  pause : (w : Network) (i ms : ℕ) (c : Claim) (k : ℕ) (r : Paused)
      → node_at w i ≡ on c k → Pause ms c r
      → Step names w (pauses i ms) (becomes i (on r.claim k) [] w)
  ask : (w : Network) (i : ℕ) (c : Claim) (k : ℕ) (r : ClaimFrame)
      → node_at w i ≡ on c k → OurClaim c r
      → Step names w (asked i) (becomes i (on c k) (sent_if (is_ours (told_sending r.answer)) i r.id r.bytes) w)

-- a run, from one network to another
pub data Ran (names : List ℕ) : Network → List Act → Network → Type 0 where
  no_act : (w : Network) → Ran names w [] w
  an_act : (w v end : Network) (act : Act) (acts : List Act)
      → Step names w act v → Ran names v acts end → Ran names w (act ∷ acts) end
