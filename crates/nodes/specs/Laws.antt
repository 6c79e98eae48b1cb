-- The laws of this crate (RULES 9), each a named statement. proofs/Laws.antt has a proof of each, under the same name
-- written small.
use Rattle.std.specs.Prelude.{◌≡◌, true, false, List, ◌++◌, map, ◌⊎◌, ℕ, ◌≤◌, ◌<◌, ◌%◌, ◌^◌, length, get_or, set, take, drop, Some, None, Ok, if◌then◌else◌}
use Rattle.words.specs.Words.{◌≤?◌, Told, refused, gives, number_of_answer}
use Rattle.frame.specs.Bytes.{number_of}
use Rattle.frame.specs.Identifier.{identifiers}
use Rattle.frame.specs.Frame.{checked_of}
use Rattle.frame.specs.Standard.{claim_dgn, greatest_address}
use Rattle.frame.specs.declared.Parts.{Parts}
use Rattle.nodes.specs.Table.{addresses, takes_after, absent, held, challenged, unchallenged_of, has_name}
use Rattle.nodes.specs.Table.{is_challenged, has_challenger, stands, cleared_of, entered_of, claimed_at, paused_at}
use Rattle.nodes.specs.Table.{is_replaced, replaced_in, keeps_rules, sound_record, claimed_of, paused_of}
use Rattle.nodes.specs.Call.{claim_in, nothing_to_do, taken, challenges, held_by_lower, claim_outcome, heard_of}
use Rattle.nodes.specs.Call.{table_after, pause_told, table_paused, Holder, nobody, holder, looked_up_of, found_of}
use Rattle.nodes.specs.Call.{Rival, no_rival, rival, challenger_of}
use Rattle.nodes.specs.Promises.{NotHeardRefusal, BadTableRefusal}
use Rattle.nodes.specs.Promises.{Hearing, Pausing, LookedUp, FoundAddress, FoundChallenger}
use Rattle.nodes.specs.Promises.{number_of_bad_table, number_of_not_heard}
use Rattle.nodes.specs.Promises.{Empty, Hear, Pause, LookUp, FindAddress, FindChallenger, HearingRefusal}
use Rattle.nodes.specs.Promises.{PausingRefusal, LookedUpRefusal, FoundAddressRefusal, FoundChallengerRefusal}
use Rattle.nodes.specs.Promises.{told_hearing, told_pausing, told_looked_up, told_found_address, told_found_challenger}
use Rattle.nodes.specs.declared.Node.{Node}
use Rattle.nodes.specs.declared.Claim.{Claim}
use Rattle.nodes.specs.declared.Effect.TheVariants.{NothingToDo}
use Rattle.nodes.specs.declared.NotHeard.{NotHeard}
use Rattle.nodes.specs.declared.BadTable.{BadTable}

-- An answer read as number and values loses nothing (RULES 2.10).

abbrev pub ToldHearingSame : Type 0
ToldHearingSame = (r s : Hearing) → told_hearing r ≡ told_hearing s → r ≡ s

abbrev pub ToldPausingSame : Type 0
ToldPausingSame = (r s : Pausing) → told_pausing r ≡ told_pausing s → r ≡ s

abbrev pub ToldLookedUpSame : Type 0
ToldLookedUpSame = (r s : LookedUp) → told_looked_up r ≡ told_looked_up s → r ≡ s

abbrev pub ToldFoundAddressSame : Type 0
ToldFoundAddressSame = (r s : FoundAddress) → told_found_address r ≡ told_found_address s → r ≡ s

abbrev pub ToldFoundChallengerSame : Type 0
ToldFoundChallengerSame = (r s : FoundChallenger) → told_found_challenger r ≡ told_found_challenger s → r ≡ s

-- No second answer and no second table keep a promise.

abbrev pub EmptyOnly : Type 0
EmptyOnly = (r s : List Node) → Empty r → Empty s → r ≡ s

abbrev pub HearOnly : Type 0
HearOnly =
    (table : List Node) (id : ℕ) (bytes : List ℕ) (r s : Hearing) (after after' : List Node)
    → Hear table id bytes r after → Hear table id bytes s after' → (r ≡ s) × (after ≡ after')

abbrev pub PauseOnly : Type 0
PauseOnly =
    (table : List Node) (ms : ℕ) (r s : Pausing) (after after' : List Node)
    → Pause table ms r after → Pause table ms s after' → (r ≡ s) × (after ≡ after')

abbrev pub LookUpOnly : Type 0
LookUpOnly =
    (table : List Node) (address : ℕ) (r s : LookedUp) → LookUp table address r → LookUp table address s → r ≡ s

abbrev pub FindAddressOnly : Type 0
FindAddressOnly =
    (table : List Node) (name : ℕ) (r s : FoundAddress) → FindAddress table name r → FindAddress table name s → r ≡ s

abbrev pub FindChallengerOnly : Type 0
FindChallengerOnly =
    (table : List Node) (address : ℕ) (r s : FoundChallenger)
    → FindChallenger table address r → FindChallenger table address s → r ≡ s

abbrev pub NotHeardRefusalOnly : Type 0
NotHeardRefusalOnly = (why : NotHeard) (r s : ℕ) → NotHeardRefusal why r → NotHeardRefusal why s → r ≡ s

abbrev pub HearingRefusalOnly : Type 0
HearingRefusalOnly = (answer : Hearing) (r s : ℕ) → HearingRefusal answer r → HearingRefusal answer s → r ≡ s

abbrev pub BadTableRefusalOnly : Type 0
BadTableRefusalOnly = (why : BadTable) (r s : ℕ) → BadTableRefusal why r → BadTableRefusal why s → r ≡ s

abbrev pub PausingRefusalOnly : Type 0
PausingRefusalOnly = (answer : Pausing) (r s : ℕ) → PausingRefusal answer r → PausingRefusal answer s → r ≡ s

abbrev pub LookedUpRefusalOnly : Type 0
LookedUpRefusalOnly = (answer : LookedUp) (r s : ℕ) → LookedUpRefusal answer r → LookedUpRefusal answer s → r ≡ s

abbrev pub FoundAddressRefusalOnly : Type 0
FoundAddressRefusalOnly =
    (answer : FoundAddress) (r s : ℕ) → FoundAddressRefusal answer r → FoundAddressRefusal answer s → r ≡ s

abbrev pub FoundChallengerRefusalOnly : Type 0
FoundChallengerRefusalOnly =
    (answer : FoundChallenger) (r s : ℕ) → FoundChallengerRefusal answer r → FoundChallengerRefusal answer s → r ≡ s

-- The number that an answer gives for its refusal is the one that is told of it, and 0 where there is none.

abbrev pub HearingRefusalTold : Type 0
HearingRefusalTold = (answer : Hearing) → HearingRefusal answer (number_of_answer number_of_not_heard answer)

abbrev pub PausingRefusalTold : Type 0
PausingRefusalTold = (answer : Pausing) → PausingRefusal answer (number_of_answer number_of_bad_table answer)

abbrev pub LookedUpRefusalTold : Type 0
LookedUpRefusalTold = (answer : LookedUp) → LookedUpRefusal answer (number_of_answer number_of_bad_table answer)

abbrev pub FoundAddressRefusalTold : Type 0
FoundAddressRefusalTold =
    (answer : FoundAddress) → FoundAddressRefusal answer (number_of_answer number_of_bad_table answer)

abbrev pub FoundChallengerRefusalTold : Type 0
FoundChallengerRefusalTold =
    (answer : FoundChallenger) → FoundChallengerRefusal answer (number_of_answer number_of_bad_table answer)

-- A refusal keeps the table, and so does a frame that asks nothing.

abbrev pub HearRefusedKeeps : Type 0
HearRefusedKeeps =
    (table : List Node) (id : ℕ) (bytes : List ℕ) (r : Hearing) (after : List Node) (n : ℕ)
    → Hear table id bytes r after → told_hearing r ≡ refused n → after ≡ table

abbrev pub PauseRefusedKeeps : Type 0
PauseRefusedKeeps =
    (table : List Node) (ms : ℕ) (r : Pausing) (after : List Node) (n : ℕ)
    → Pause table ms r after → told_pausing r ≡ refused n → after ≡ table

abbrev pub HearNothingKeeps : Type 0
HearNothingKeeps =
    (table : List Node) (id : ℕ) (bytes : List ℕ) (after : List Node)
    → Hear table id bytes (Ok NothingToDo) after → after ≡ table

-- The lowest number wins: 1, then 2, then 3 to 6; then a frame of another DGN is nothing to do, and a claim is heard.
pub record LowestWins (table : List Node) (id : ℕ) (bytes : List ℕ) : Type 0 where
  pub one : length table < addresses → heard_of table id bytes ≡ refused 1
  pub two : addresses ≤ length table → keeps_rules (take addresses table) ≡ false → heard_of table id bytes ≡ refused 2
  pub three_to_six : addresses ≤ length table → keeps_rules (take addresses table) ≡ true
      → (n : ℕ) → checked_of id (length bytes) ≡ refused n → heard_of table id bytes ≡ refused n
  pub nothing : addresses ≤ length table → keeps_rules (take addresses table) ≡ true
      → (p : Parts) → checked_of id (length bytes) ≡ gives p → (p.dgn ≡ claim_dgn → ⊥)
      → heard_of table id bytes ≡ gives nothing_to_do
  pub claim : addresses ≤ length table → keeps_rules (take addresses table) ≡ true
      → (p : Parts) → checked_of id (length bytes) ≡ gives p → p.dgn ≡ claim_dgn
      → (heard_of table id bytes
      ≡ gives (claim_outcome (take addresses table) (claim_in p bytes)))
      × (table_after table id bytes ≡ claimed_of (claim_in p bytes) table)

-- A pause: 1, then 2; otherwise time passes.
pub record PauseLowestWins (table : List Node) (ms : ℕ) : Type 0 where
  pub one : length table < addresses → pause_told table ms ≡ refused 1
  pub two : addresses ≤ length table → keeps_rules (take addresses table) ≡ false → pause_told table ms ≡ refused 2
  pub passes : addresses ≤ length table → keeps_rules (take addresses table) ≡ true
      → (pause_told table ms ≡ gives (replaced_in ms (take addresses table)))
      × (table_paused table ms ≡ paused_of ms table)

-- Priority is ignored: identifiers that differ only above bit 25 are heard alike.
abbrev pub PriorityIgnored : Type 0
PriorityIgnored =
    (table : List Node) (id id' : ℕ) (bytes : List ℕ)
    → id < identifiers → id' < identifiers → id % 2 ^ 26 ≡ id' % 2 ^ 26
    → (heard_of table id bytes ≡ heard_of table id' bytes) × (table_after table id bytes ≡ table_after table id' bytes)

-- What stands past record 253 is neither written nor read: tables that differ only there are answered alike, and left
-- alike.

abbrev pub PastUntouched : Type 0
PastUntouched =
    (table : List Node) (id : ℕ) (bytes : List ℕ) → drop addresses (table_after table id bytes) ≡ drop addresses table

abbrev pub PausePastUntouched : Type 0
PausePastUntouched = (table : List Node) (ms : ℕ) → drop addresses (table_paused table ms) ≡ drop addresses table

pub record Alike (table other : List Node) (id : ℕ) (bytes : List ℕ) : Type 0 where
  pub heard : heard_of table id bytes ≡ heard_of other id bytes
  pub left : take addresses (table_after table id bytes) ≡ take addresses (table_after other id bytes)
  pub looked_up : (address : ℕ) (r : LookedUp) → LookUp table address r → LookUp other address r
  pub found : (name : ℕ) (r : FoundAddress) → FindAddress table name r → FindAddress other name r
  pub challenger : (address : ℕ) (r : FoundChallenger) → FindChallenger table address r → FindChallenger other address r
  pub paused : (ms : ℕ) → pause_told table ms ≡ pause_told other ms
  pub left_paused : (ms : ℕ) → take addresses (table_paused table ms) ≡ take addresses (table_paused other ms)

abbrev pub PastUnread : Type 0
PastUnread =
    (table other : List Node) (id : ℕ) (bytes : List ℕ)
    → length table ≡ length other → take addresses table ≡ take addresses other
    → Alike table other id bytes

-- The table stays as long as it is.
abbrev pub LengthKept : Type 0
LengthKept = (table : List Node) (id : ℕ) (bytes : List ℕ) → length (table_after table id bytes) ≡ length table

abbrev pub PauseLengthKept : Type 0
PauseLengthKept = (table : List Node) (ms : ℕ) → length (table_paused table ms) ≡ length table

-- The rules of a table, said of its records one by one: the computed test says just this.
pub record Rules (records : List Node) : Type 0 where
  -- an absent record is all zeros
  pub absent_zeros : (a : ℕ) → a < length records
      → (get_or records a absent).present ≡ false → get_or records a absent ≡ absent
  -- a challenger is above the holder, and has waited less than 250 ms
  pub challenger_above : (a : ℕ) → a < length records
      → is_challenged (get_or records a absent) ≡ true → (get_or records a absent).name < (get_or records a absent).challenger
  pub wait_below : (a : ℕ) → a < length records → (get_or records a absent).wait < takes_after
  -- a missing challenger is all zeros
  pub missing_zeros : (a : ℕ) → a < length records
      → is_challenged (get_or records a absent) ≡ false → (get_or records a absent).wait ≡ 0
  -- no NAME stands twice: not in two records, and by the second rule not in one
  pub one_each : (name a b : ℕ) → a < length records → b < length records
      → stands name (get_or records a absent) ≡ true → stands name (get_or records b absent) ≡ true → a ≡ b

abbrev pub RulesRead : Type 0
RulesRead =
    (records : List Node) → (keeps_rules records ≡ true → Rules records) × (Rules records → keeps_rules records ≡ true)

-- A table to start from has all the addresses and keeps the rules, whatever records stand behind it; nobody has an
-- address in it, and no NAME is found.

abbrev pub EmptyKeepsRules : Type 0
EmptyKeepsRules =
    (r behind : List Node) → Empty r
    → (addresses ≤ length (r ++ behind)) × (keeps_rules (take addresses (r ++ behind)) ≡ true)

abbrev pub EmptyHasNobody : Type 0
EmptyHasNobody =
    (r behind : List Node) (address : ℕ) → Empty r
    → looked_up_of (r ++ behind) address ≡ gives nobody

abbrev pub EmptyHasNoName : Type 0
EmptyHasNoName =
    (r behind : List Node) (name : ℕ) → Empty r
    → found_of (r ++ behind) name ≡ gives None

abbrev pub EmptyHasNoChallenger : Type 0
EmptyHasNoChallenger =
    (r behind : List Node) (address : ℕ) → Empty r
    → challenger_of (r ++ behind) address ≡ gives no_rival

-- A table that keeps the rules leads to one that keeps them, whatever is heard and however long the pause.
abbrev pub RulesKept : Type 0
RulesKept =
    (table : List Node) (id : ℕ) (bytes : List ℕ)
    → keeps_rules (take addresses table) ≡ true → keeps_rules (take addresses (table_after table id bytes)) ≡ true

abbrev pub PauseRulesKept : Type 0
PauseRulesKept =
    (table : List Node) (ms : ℕ)
    → keeps_rules (take addresses table) ≡ true → keeps_rules (take addresses (table_paused table ms)) ≡ true

-- After a claim its NAME stands at most once, as holder or as challenger: at its source.
abbrev pub NameOnce : Type 0
NameOnce =
    (claim : Claim) (table : List Node) → addresses ≤ length table → keeps_rules (take addresses table) ≡ true
    → (a : ℕ) → a < addresses → stands claim.name (get_or (claimed_of claim table) a absent) ≡ true → a ≡ claim.source

-- A table that keeps the rules after a claim, in two steps: the NAME is cleared from every record, and then entered in
-- that of its source, where the source is an address.

abbrev pub cleared_all : ℕ → List Node → List Node
cleared_all name table = map (cleared_of name) (take addresses table) ++ drop addresses table

abbrev pub entered_at : ℕ → ℕ → List Node → List Node
entered_at source name table =
    if source ≤? greatest_address then set table source (entered_of name (get_or table source absent)) else table

abbrev pub ClearedThenEntered : Type 0
ClearedThenEntered =
    (claim : Claim) (table : List Node) → keeps_rules (take addresses table) ≡ true
    → claimed_of claim table ≡ entered_at claim.source claim.name (cleared_all claim.name table)

-- A holder loses its record by somebody else's claim only to a lower NAME, and only at the claim's source; otherwise it
-- keeps it.
abbrev pub TakenByLower : Type 0
TakenByLower =
    (claim : Claim) (table : List Node) → addresses ≤ length table → (a : ℕ) → a < addresses
    → (get_or table a absent).present ≡ true → ((get_or table a absent).name ≡ claim.name → ⊥)
    → (((get_or (claimed_of claim table) a absent).present ≡ true)
    × ((get_or (claimed_of claim table) a absent).name ≡ (get_or table a absent).name))
    ⊎ ((a ≡ claim.source) × (claim.name < (get_or table a absent).name)
    × (get_or (claimed_of claim table) a absent ≡ held claim.name))

-- What a claim makes of a sound record, a case for each sentence of the rules (RULES 9.3 to 9.5, 9.13 to 9.16).
pub record ClaimAt (claim : Claim) (a : ℕ) (n : Node) : Type 0 where
  -- the holder claims its address again: the challenger goes
  pub repeats : a ≡ claim.source → has_name claim.name n ≡ true → claimed_at claim a n ≡ held claim.name
  -- the holder claims from any other source: the challenger takes the record at once, or nobody has it
  pub handed_over : (a ≡ claim.source → ⊥) → has_name claim.name n ≡ true → is_challenged n ≡ true
      → claimed_at claim a n ≡ held n.challenger
  pub left : (a ≡ claim.source → ⊥) → has_name claim.name n ≡ true → is_challenged n ≡ false
      → claimed_at claim a n ≡ absent
  -- the challenger claims elsewhere, and challenges no more; or here again, and waits from 0
  pub withdrawn : (a ≡ claim.source → ⊥) → has_challenger claim.name n ≡ true
      → claimed_at claim a n ≡ unchallenged_of n
  pub anew : a ≡ claim.source → has_challenger claim.name n ≡ true
      → claimed_at claim a n ≡ challenged claim.name 0 n
  -- a NAME that does not stand here: it takes an absent record, or that of a higher NAME, whose challenger goes
  pub takes_absent : a ≡ claim.source → n.present ≡ false → claimed_at claim a n ≡ held claim.name
  pub takes : a ≡ claim.source → claim.name < n.name → claimed_at claim a n ≡ held claim.name
  -- it challenges a lower holder whom nobody challenges; or in place of a higher challenger; and not of a lower one
  pub first : a ≡ claim.source → n.present ≡ true → n.name < claim.name → is_challenged n ≡ false
      → claimed_at claim a n ≡ challenged claim.name 0 n
  pub instead : a ≡ claim.source → n.present ≡ true → n.name < claim.name → is_challenged n ≡ true
      → claim.name < n.challenger → claimed_at claim a n ≡ challenged claim.name 0 n
  pub ignored : a ≡ claim.source → n.present ≡ true → n.name < claim.name → is_challenged n ≡ true
      → n.challenger < claim.name → claimed_at claim a n ≡ n
  -- and from elsewhere it changes nothing
  pub untouched : (a ≡ claim.source → ⊥) → stands claim.name n ≡ false → claimed_at claim a n ≡ n

abbrev pub EverySentence : Type 0
EverySentence = (claim : Claim) (a : ℕ) (n : Node) → sound_record n ≡ true → ClaimAt claim a n

-- What a pause counts is what it makes of a sound record: one where the challenger has it now, and none where the
-- holder is who it was.
abbrev pub ReplacedCounts : Type 0
ReplacedCounts =
    (ms : ℕ) (n : Node) → sound_record n ≡ true
    → ((is_replaced ms n ≡ true) × (paused_at ms n ≡ held n.challenger) × (n.name < n.challenger))
    ⊎ ((is_replaced ms n ≡ false) × ((paused_at ms n).present ≡ n.present) × ((paused_at ms n).name ≡ n.name))

-- What `hear` tells, `look_up` and `find_challenger` show: after `taken` the claim's NAME is there and nobody
-- challenges it; after `challenges` a lower one is there, which it challenges since 0 ms; after `held_by_lower` two lower
-- ones are, the holder and its challenger.

abbrev pub looked_after : List Node → ℕ → List ℕ → ℕ → Told Holder
looked_after table id bytes a = looked_up_of (table_after table id bytes) a

abbrev pub rival_after : List Node → ℕ → List ℕ → ℕ → Told Rival
rival_after table id bytes a = challenger_of (table_after table id bytes) a

abbrev pub TakenShown : Type 0
TakenShown =
    (table : List Node) (id : ℕ) (bytes : List ℕ) (a : ℕ)
    → heard_of table id bytes ≡ gives (taken a)
    → (looked_after table id bytes a ≡ gives (holder (number_of bytes))) × (rival_after table id bytes a ≡ gives no_rival)

abbrev pub ChallengesShown : Type 0
ChallengesShown =
    (table : List Node) (id : ℕ) (bytes : List ℕ) (a : ℕ)
    → heard_of table id bytes ≡ gives (challenges a)
    → (m : ℕ) × (looked_after table id bytes a ≡ gives (holder m)) × (m < number_of bytes)
    × (rival_after table id bytes a ≡ gives (rival (record { name = number_of bytes; wait = 0 })))

abbrev pub HeldShown : Type 0
HeldShown =
    (table : List Node) (id : ℕ) (bytes : List ℕ) (a : ℕ)
    → heard_of table id bytes ≡ gives (held_by_lower a)
    → (m c w : ℕ) × (looked_after table id bytes a ≡ gives (holder m))
    × (rival_after table id bytes a ≡ gives (rival (record { name = c; wait = w })))
    × (m < c) × (c < number_of bytes)

-- In a table that keeps the rules a NAME is found exactly at the address whose record is present with it, so at one at
-- most; and nowhere exactly if no record is.

abbrev pub Holds : List Node → ℕ → ℕ → Type 0
Holds table name a = (a < addresses) × ((get_or table a absent).present ≡ true) × ((get_or table a absent).name ≡ name)

abbrev pub FoundThere : Type 0
FoundThere =
    (table : List Node) (name a : ℕ) → addresses ≤ length table → keeps_rules (take addresses table) ≡ true
    → (found_of table name ≡ gives (Some a) → Holds table name a)
    × (Holds table name a → found_of table name ≡ gives (Some a))

abbrev pub FoundNowhere : Type 0
FoundNowhere =
    (table : List Node) (name : ℕ) → addresses ≤ length table → keeps_rules (take addresses table) ≡ true
    → (found_of table name ≡ gives None → (a : ℕ) → Holds table name a → ⊥)
    × (((a : ℕ) → Holds table name a → ⊥) → found_of table name ≡ gives None)

-- `look_up` of the address found gives the NAME, and a NAME that is looked up is found there.
abbrev pub FoundShown : Type 0
FoundShown =
    (table : List Node) (name a : ℕ)
    → (found_of table name ≡ gives (Some a) → looked_up_of table a ≡ gives (holder name))
    × (looked_up_of table a ≡ gives (holder name) → found_of table name ≡ gives (Some a))

-- After `taken` the claim's NAME is found at its address.
abbrev pub TakenFound : Type 0
TakenFound =
    (table : List Node) (id : ℕ) (bytes : List ℕ) (a : ℕ)
    → heard_of table id bytes ≡ gives (taken a) → found_of (table_after table id bytes) (number_of bytes) ≡ gives (Some a)
