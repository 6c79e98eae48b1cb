-- A listener: a node table (crates/nodes) on the bus of a network (RULES 16.18 to 16.20). It began empty, heard every
-- claim in the order of the bus, and whatever other frames there were, with pauses anywhere. At rest it shows just the
-- nodes that are not silent, each at its address, and no challenger.
use Rattle.std.specs.Prelude.{◌≡◌, List, [], ◌∷◌, ◌++◌, map, ◌⊎◌, ℕ, take, drop}
use Rattle.frame.specs.Identifier.{source_of}
use Rattle.nodes.specs.Promises.{Empty, LookUp, FindChallenger}
use Rattle.nodes.specs.Runs as Table
use Rattle.nodes.specs.Runs.{Said, nothing, claims, pauses, said_by, hearing}
use Rattle.nodes.specs.declared.Node as Record
use Rattle.std.specs.Prelude.{Some, None, Ok}
use Rattle.network.specs.Network.{Sent, Network, name_of, Differ, Fit, fresh, Act, starts, comes, reads, asked}
use Rattle.network.specs.Network.{Ran, no_act, an_act}
use Rattle.network.specs.Network as Network
use Rattle.network.specs.Laws.{At, AtRest}

-- ---- A node's own claims come on the bus in the order in which it sent them: none of it waits before the one that
-- comes.

abbrev pub NoneBy : ℕ → List Sent → Type 0
NoneBy i [] = Unit
NoneBy i (x ∷ xs) = (x.by ≡ i → ⊥) × NoneBy i xs

abbrev pub FirstOfIts : Network → Act → Type 0
FirstOfIts w (starts i list older) = Unit
FirstOfIts w (comes n) =
    (x : Sent) (rest : List Sent) → drop n w.waiting ≡ x ∷ rest → NoneBy x.by (take n w.waiting)
FirstOfIts w (reads i) = Unit
FirstOfIts w (Network.pauses i ms) = Unit
FirstOfIts w (asked i) = Unit

abbrev pub InTurn : {names : List ℕ} {w end : Network} {acts : List Act} → Ran names w acts end → Type 0
InTurn (no_act w) = Unit
InTurn (an_act w v end act acts step ran) = FirstOfIts w act × InTurn ran

-- ---- What a listener heard

-- what the claims of the bus say to it
abbrev pub said_on : List Sent → List Said
said_on bus = map (λ x. said_by (hearing x.id x.bytes)) bus

-- the claims among all that calls said to it
abbrev pub claims_in : List Said → List Said
claims_in [] = []
claims_in (nothing ∷ said) = claims_in said
claims_in (claims claim ∷ said) = claims claim ∷ claims_in said
claims_in (pauses ms ∷ said) = claims_in said

-- calls from an empty table on, whatever records stand behind it, that heard so many claims
pub record Listened (heard : List Said) (table : List Record.Node) : Type 0 where
  pub empty : List Record.Node
  pub behind : List Record.Node
  pub calls : List Table.Call
  pub is_empty : Empty empty
  pub ran : Table.Ran (empty ++ behind) calls table
  pub in_order : claims_in (map said_by calls) ≡ heard

-- ---- What it shows: at an address the node that is there, and nobody where no node is

pub record Shows (names : List ℕ) (w : Network) (table : List Record.Node) (a : ℕ) : Type 0 where
  pub shown : ((i : ℕ) × At w i a × LookUp table a (Ok (Some (name_of names i))))
      ⊎ (((i : ℕ) → At w i a → ⊥) × LookUp table a (Ok None))
  pub no_challenger : FindChallenger table a (Ok None)

abbrev pub TableAgrees : Type 0
TableAgrees =
    (names : List ℕ) (acts : List Act) (w : Network) → Differ names → Fit names
    → (ran : Ran names (fresh names) acts w) → InTurn ran → AtRest w → w.waiting ≡ []
    → (table : List Record.Node) → Listened (said_on w.bus) table
    → (a : ℕ) → Shows names w table a

-- ---- A listener that was switched on later, when so many claims had passed, shows the same as soon as each of these
-- nodes has claimed its address since; every node does so when it is asked for its claim (RULES 16.9).

-- a node claimed an address
abbrev pub ClaimedFrom : ℕ → ℕ → List Sent → Type 0
ClaimedFrom i a [] = ⊥
ClaimedFrom i a (x ∷ xs) = ((x.by ≡ i) × (source_of x.id ≡ a)) ⊎ ClaimedFrom i a xs

abbrev pub LateTableAgrees : Type 0
LateTableAgrees =
    (names : List ℕ) (acts : List Act) (w : Network) → Differ names → Fit names
    → (ran : Ran names (fresh names) acts w) → InTurn ran → AtRest w → w.waiting ≡ []
    → (passed : ℕ) → ((i a : ℕ) → At w i a → ClaimedFrom i a (drop passed w.bus))
    → (table : List Record.Node) → Listened (said_on (drop passed w.bus)) table
    → (a : ℕ) → Shows names w table a
