-- Runs of calls on one table (RULES 9.16, 9.21 and 13.6): each call is told by its promise, and is lent the table that
-- the one before it left. What a run makes of a record goes by the claims and pauses, by that record and its address.
use Rattle.std.specs.Prelude.{◌≡◌, List, [], ◌∷◌, ◌++◌, map, true, ◌⊎◌, ℕ, ◌+◌, ◌≤◌, ◌<◌, length, get_or, take, drop, Some, None, Ok, if◌then◌else◌}
use Rattle.words.specs.Words.{◌=?◌, Told, refused, gives}
use Rattle.frame.specs.Bytes.{number_of}
use Rattle.frame.specs.Frame.{checked_of}
use Rattle.frame.specs.Standard.{claim_dgn}
use Rattle.frame.specs.declared.Parts.{Parts}
use Rattle.nodes.specs.Table.{addresses, takes_after, absent, claimed_at, paused_at, keeps_rules}
use Rattle.nodes.specs.Call.{claim_in}
use Rattle.nodes.specs.Promises.{Hearing, Pausing}
use Rattle.nodes.specs.Promises.{Empty, Hear, Pause, LookUp, FindChallenger}
use Rattle.nodes.specs.declared.Node.{Node}
use Rattle.nodes.specs.declared.Claim.{Claim}
use Rattle.nodes.specs.declared.Effect.TheVariants.{Challenges}

-- A call that may change the table, and what its promise allows.
pub data Call : Type 0 where
  hearing : ℕ → List ℕ → Call
  pausing : ℕ → Call

abbrev pub Leads : List Node → Call → List Node → Type 0
Leads table (hearing id bytes) after = (r : Hearing) × Hear table id bytes r after
Leads table (pausing ms) after = (r : Pausing) × Pause table ms r after

-- A run of calls from one table to another.
pub data Ran : List Node → List Call → List Node → Type 0 where
  no_call : (table : List Node) → Ran table [] table
  a_call : (table after end : List Node) (call : Call) (calls : List Call)
      → Leads table call after → Ran after calls end → Ran table (call ∷ calls) end

-- What a call says, whatever the table is: a claim, a pause, or nothing. A frame that is refused says nothing, and so
-- does one that is no claim to all.
pub data Said : Type 0 where
  nothing : Said
  claims : Claim → Said
  pauses : ℕ → Said

unfoldable pub said_of : Parts → List ℕ → Said
said_of parts bytes = if parts.dgn =? claim_dgn then claims (claim_in parts bytes) else nothing

abbrev pub said_in : Told Parts → List ℕ → Said
said_in (refused n) bytes = nothing
said_in (gives parts) bytes = said_of parts bytes

abbrev pub said_by : Call → Said
said_by (hearing id bytes) = said_in (checked_of id (length bytes)) bytes
said_by (pausing ms) = pauses ms

-- The record of one address alone: what one such saying makes of it, and a list of them.
abbrev pub record_after : Said → ℕ → Node → Node
record_after nothing a n = n
record_after (claims claim) a n = claimed_at claim a n
record_after (pauses ms) a n = paused_at ms n

abbrev pub record_after_all : List Said → ℕ → Node → Node
record_after_all [] a n = n
record_after_all (s ∷ ss) a n = record_after_all ss a (record_after s a n)

-- a table that is not refused
pub record Sound (table : List Node) : Type 0 where
  pub enough : addresses ≤ length table
  pub rules : keeps_rules (take addresses table) ≡ true

-- After a run of calls a table that was not refused is not refused, each record of an address is what was said makes of
-- it, and what stands past them is untouched.
pub record RunLeft (table : List Node) (calls : List Call) (end : List Node) : Type 0 where
  pub sound : Sound end
  pub records : (a : ℕ) → a < addresses → get_or end a absent ≡ record_after_all (map said_by calls) a (get_or table a absent)
  pub past : drop addresses end ≡ drop addresses table

abbrev pub RunByRecord : Type 0
RunByRecord = (table end : List Node) (calls : List Call) → Sound table → Ran table calls end → RunLeft table calls end

-- Whatever calls are made, there is a run of them: what is said of runs is not said of nothing.
abbrev pub EveryRunRuns : Type 0
EveryRunRuns = (table : List Node) (calls : List Call) → Sound table → (end : List Node) × Ran table calls end

-- ---- A challenge.

-- What leaves it alone: no claim by the holder p or by the challenger c, and at their address a none below c.
abbrev pub Quiet : ℕ → ℕ → ℕ → Said → Type 0
Quiet p c a nothing = Unit
Quiet p c a (pauses ms) = Unit
Quiet p c a (claims claim) =
    (claim.name ≡ p → ⊥) × (claim.name ≡ c → ⊥) × (claim.source ≡ a → claim.name < c → ⊥)

abbrev pub AllQuiet : ℕ → ℕ → ℕ → List Said → Type 0
AllQuiet p c a [] = Unit
AllQuiet p c a (s ∷ ss) = Quiet p c a s × AllQuiet p c a ss

-- the milliseconds of all pauses
abbrev pub waited : Said → ℕ
waited nothing = 0
waited (claims claim) = 0
waited (pauses ms) = ms

abbrev pub waited_in : List Said → ℕ
waited_in [] = 0
waited_in (s ∷ ss) = waited s + waited_in ss

-- A claim at the address a by the NAME c was answered `Challenges`; p holds the address then; and after it a run of
-- calls, in which nothing disturbed the challenge and the pauses came to w, fewer than 250 ms, led to the table end.
pub record Challenge (a p c w : ℕ) (end : List Node) : Type 0 where
  pub table : List Node
  pub id : ℕ
  pub bytes : List ℕ
  pub after : List Node
  pub since : List Call
  pub entered : Hear table id bytes (Ok (Challenges a)) after
  pub challenger : number_of bytes ≡ c
  pub holder : LookUp after a (Ok (Some p))
  pub ran : Ran after since end
  pub quiet : AllQuiet p c a (map said_by since)
  pub ms : waited_in (map said_by since) ≡ w
  pub below : w < takes_after

-- Until 249 ms the holder is shown, and the challenger as such.
abbrev pub ChallengeWaits : Type 0
ChallengeWaits =
    (a p c w : ℕ) (end : List Node) → Challenge a p c w end
    → LookUp end a (Ok (Some p)) × FindChallenger end a (Ok (Some (record { name = c; wait = w })))

-- The pause that brings the sum to 250 ms shows the challenger as the holder.
abbrev pub ChallengeTakes : Type 0
ChallengeTakes =
    (a p c w : ℕ) (end : List Node) → Challenge a p c w end
    → (ms : ℕ) (r : Pausing) (next : List Node) → Pause end ms r next → takes_after ≤ w + ms
    → LookUp next a (Ok (Some c)) × FindChallenger next a (Ok None)

-- So does a claim of the holder from any other source, at once.
abbrev pub HolderLeaves : Type 0
HolderLeaves =
    (a p c w : ℕ) (end : List Node) → Challenge a p c w end
    → (id : ℕ) (bytes : List ℕ) (r : Hearing) (next : List Node) (claim : Claim) → Hear end id bytes r next
    → said_by (hearing id bytes) ≡ claims claim → claim.name ≡ p → (claim.source ≡ a → ⊥)
    → LookUp next a (Ok (Some c)) × FindChallenger next a (Ok None)

-- And nothing else does: a call after which the challenger is shown as the holder was one of these two.
abbrev pub TakesOnlySo : Type 0
TakesOnlySo =
    (a p c w : ℕ) (end : List Node) → Challenge a p c w end
    → (call : Call) (next : List Node) → Leads end call next → LookUp next a (Ok (Some c))
    → ((ms : ℕ) × (said_by call ≡ pauses ms) × (takes_after ≤ w + ms))
    ⊎ ((claim : Claim) × (said_by call ≡ claims claim) × (claim.name ≡ p) × (claim.source ≡ a → ⊥))

-- After a run from an empty table whoever challenges has such a challenge behind it: entered by a call that was
-- answered so, and left alone since, for as long as is shown.
abbrev pub ChallengeEntered : Type 0
ChallengeEntered =
    (r behind end : List Node) (calls : List Call) → Empty r → Ran (r ++ behind) calls end
    → (a c w : ℕ) → FindChallenger end a (Ok (Some (record { name = c; wait = w }))) → (p : ℕ) × Challenge a p c w end

-- A holder whom nobody challenges stays as long as nobody claims its address and it claims nothing elsewhere.
abbrev pub Undisputed : ℕ → ℕ → Said → Type 0
Undisputed p a nothing = Unit
Undisputed p a (pauses ms) = Unit
Undisputed p a (claims claim) = (claim.source ≡ a → ⊥) × (claim.name ≡ p → ⊥)

abbrev pub AllUndisputed : ℕ → ℕ → List Said → Type 0
AllUndisputed p a [] = Unit
AllUndisputed p a (s ∷ ss) = Undisputed p a s × AllUndisputed p a ss

abbrev pub HolderStays : Type 0
HolderStays =
    (a p : ℕ) (table end : List Node) (calls : List Call)
    → LookUp table a (Ok (Some p)) → FindChallenger table a (Ok None) → Ran table calls end
    → AllUndisputed p a (map said_by calls) → LookUp end a (Ok (Some p)) × FindChallenger end a (Ok None)
