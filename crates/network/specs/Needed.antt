-- What the laws need (RULES 16.21): with any of these taken away there is a network at rest of which they are false.
-- proofs/Needed.antt has it, run by run.
use Rattle.std.specs.Prelude.{◌≡◌, List, [], ◌∷◌, ◌++◌, ℕ, suc, ◌<◌, length, take, drop}
use Rattle.claim.specs.Promises.{Start}
use Rattle.claim.specs.declared.Started.{Started}
use Rattle.nodes.specs.Runs.{Said}
use Rattle.nodes.specs.declared.Node as Record
use Rattle.network.specs.Network.{off, on, Network, node_at, name_of, Differ, Fit, fresh, Act, becomes, Step, Ran}
use Rattle.network.specs.Laws.{At, AtRest}
use Rattle.network.specs.Listener.{InTurn, said_on, Listened, Shows}

-- ---- Two equal NAMEs: to each the other's claim is its own

abbrev pub NamesDiffer : Type 0
NamesDiffer =
    ((names : List ℕ) (acts : List Act) (w : Network) → Fit names → Ran names (fresh names) acts w → AtRest w
    → (i j a : ℕ) → At w i a → At w j a → i ≡ j)
    → ⊥

-- ---- Networks of another kind, given by their steps

pub data Runs (Steps : Network → Network → Type 0) : Network → Network → Type 0 where
  stops : (w : Network) → Runs Steps w w
  goes : (w v end : Network) → Steps w v → Runs Steps v end → Runs Steps w end

-- no two nodes have one address in them
abbrev pub NoTwoIn : (List ℕ → Network → Network → Type 0) → Type 0
NoTwoIn Steps =
    (names : List ℕ) (w : Network) → Differ names → Fit names → Runs (Steps names) (fresh names) w → AtRest w
    → (i j a : ℕ) → At w i a → At w j a → i ≡ j

-- a claim that waits for the bus may be lost
pub data Losing (names : List ℕ) : Network → Network → Type 0 where
  steps : (w v : Network) (act : Act) → Step names w act v → Losing names w v
  loses : (w : Network) (n : ℕ)
      → Losing names w
      (record { nodes = w.nodes; waiting = take n w.waiting ++ drop (suc n) w.waiting; bus = w.bus })

abbrev pub NoneLost : Type 0
NoneLost = NoTwoIn Losing → ⊥

-- a node may listen with the state that `start` gave it before it starts, which is when the frame beside it is sent
pub data Listening (names : List ℕ) : Network → Network → Type 0 where
  steps : (w v : Network) (act : Act) → Step names w act v → Listening names w v
  listens : (w : Network) (i : ℕ) (list : List ℕ) (r : Started)
      → i < length w.nodes → node_at w i ≡ off → Start (name_of names i) list r
      → Listening names w (becomes i (on r.claim (length w.bus)) [] w)

abbrev pub StartFirst : Type 0
StartFirst = NoTwoIn Listening → ⊥

-- ---- A listener that heard the same claims in another order: two neighbours changed places

pub record Swapped (said other : List Said) : Type 0 where
  pub before : List Said
  pub one : Said
  pub two : Said
  pub after : List Said
  pub so : said ≡ before ++ one ∷ two ∷ after
  pub otherwise : other ≡ before ++ two ∷ one ∷ after

abbrev pub OneOrder : Type 0
OneOrder =
    ((names : List ℕ) (acts : List Act) (w : Network) → Differ names → Fit names
    → (ran : Ran names (fresh names) acts w) → InTurn ran → AtRest w → w.waiting ≡ []
    → (heard : List Said) → Swapped (said_on w.bus) heard
    → (table : List Record.Node) → Listened heard table
    → (a : ℕ) → Shows names w table a)
    → ⊥

-- ---- A node whose own claims come on the bus in another order than it sent them

abbrev pub OwnOrder : Type 0
OwnOrder =
    ((names : List ℕ) (acts : List Act) (w : Network) → Differ names → Fit names
    → Ran names (fresh names) acts w → AtRest w → w.waiting ≡ []
    → (table : List Record.Node) → Listened (said_on w.bus) table
    → (a : ℕ) → Shows names w table a)
    → ⊥
