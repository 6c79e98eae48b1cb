-- A network in which every node has an order of its own (RULES 16.13): a claim that is sent is at once on its way to
-- each other node that has started by then, and a node reads what is on its way to it in any order. Here too no two
-- nodes have one address at rest. So for that the one order for all is not needed; a listener's table needs it.
use Rattle.std.specs.Prelude.{◌≡◌, true, List, [], ◌∷◌, ◌++◌, ◌⊎◌, ℕ, ◌<◌, length, take, drop, if◌then◌else◌}
use Rattle.words.specs.Words.{◌=?◌, Told, refused, gives, Done}
use Rattle.claim.specs.Promises.{Start, Hear, Pause, Stands, OurClaim, told_starting, told_hearing, told_sending}
use Rattle.claim.specs.Promises.{is_sent_told}
use Rattle.claim.specs.declared.Claim.{Claim}
use Rattle.claim.specs.declared.Started.{Started}
use Rattle.claim.specs.declared.Heard.{Heard}
use Rattle.claim.specs.declared.Paused.{Paused}
use Rattle.claim.specs.declared.ClaimFrame.{ClaimFrame}
use Rattle.std.specs.Prelude.{Ok}
use Rattle.claim.specs.declared.Place.TheVariants.{Held, Claiming}
use Rattle.network.specs.Network.{Sent, name_of, Differ, Fit, sent_if, is_ours}

-- a node has not started; or it has: its claim, and the claims that are on their way to it
pub data Node : Type 0 where
  off : Node
  on : Claim → List Sent → Node

-- the nodes by their numbers
abbrev pub Nodes : Type 0
Nodes = ℕ → Node

abbrev pub fresh : Nodes
fresh i = off

-- more claims are on their way to a node that has started
abbrev pub reached : List Sent → Node → Node
reached out off = off
reached out (on c unread) = on c (unread ++ out)

-- a node becomes what a call has made of it, and what it sends is on its way to all others
abbrev pub becomes : ℕ → Node → List Sent → Nodes → Nodes
becomes i node out w = λ j. if j =? i then node else reached out (w j)

abbrev pub started_by : Told Done → ℕ → Started → Nodes → Nodes
started_by (gives d) i r w = becomes i (on r.claim []) (sent_if true i r.id r.bytes) w
started_by (refused n) i r w = w

pub data Step (names : List ℕ) : Nodes → Nodes → Type 0 where
  start : (w : Nodes) (i : ℕ) (list : List ℕ) (r : Started)
      → i < length names → w i ≡ off → Start (name_of names i) list r
      → Step names w (started_by (told_starting r.answer) i r w)
  -- of the claims on their way to it a node reads any one
  hear : (w : Nodes) (i : ℕ) (c : Claim) (unread : List Sent) (n : ℕ) (x : Sent) (rest : List Sent) (r : Heard)
      → w i ≡ on c unread → drop n unread ≡ x ∷ rest → Hear x.id x.bytes c r
      → Step names w
      (becomes i (on r.claim (take n unread ++ rest))
      (sent_if (is_sent_told (told_hearing r.answer)) i r.id r.bytes) w)
  pause : (w : Nodes) (i ms : ℕ) (c : Claim) (unread : List Sent) (r : Paused)
      → w i ≡ on c unread → Pause ms c r
      → Step names w (becomes i (on r.claim unread) [] w)
  ask : (w : Nodes) (i : ℕ) (c : Claim) (unread : List Sent) (r : ClaimFrame)
      → w i ≡ on c unread → OurClaim c r
      → Step names w
      (becomes i (on c unread) (sent_if (is_ours (told_sending r.answer)) i r.id r.bytes) w)

pub data Ran (names : List ℕ) : Nodes → Nodes → Type 0 where
  no_step : (w : Nodes) → Ran names w w
  a_step : (w v end : Nodes) → Step names w v → Ran names v end → Ran names w end

-- nothing is on its way to a node that has started
abbrev pub AtRest : Nodes → Type 0
AtRest w = (i : ℕ) (c : Claim) (unread : List Sent) → w i ≡ on c unread → unread ≡ []

-- it claims or holds an address
pub record At (w : Nodes) (i a : ℕ) : Type 0 where
  pub claim : Claim
  pub unread : List Sent
  pub started : w i ≡ on claim unread
  pub stands : Stands claim (Ok (Held a)) ⊎ Stands claim (Ok (Claiming a))

abbrev pub NoTwoInAnyOrder : Type 0
NoTwoInAnyOrder =
    (names : List ℕ) (w : Nodes) → Differ names → Fit names → Ran names fresh w → AtRest w
    → (i j a : ℕ) → At w i a → At w j a → i ≡ j
