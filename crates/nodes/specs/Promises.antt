-- What each public call of this crate promises (RULES 9 and 13.7): one proposition over its answer and the whole table
-- at exit. The answers are read as numbers and values (RULES 2.10).
use Rattle.std.specs.Prelude.{◌≡◌, List, ℕ, Option, Some, None, Result, Ok, Err}
use Rattle.words.specs.Words.{Told, refused, gives, number_in, told}
use Rattle.frame.specs.Promises.{refusal_of}
use Rattle.nodes.specs.Table.{empty_table}
use Rattle.nodes.specs.Call.{Outcome, nothing_to_do, taken, challenges, held_by_lower, silent, heard_of, table_after}
use Rattle.nodes.specs.Call.{pause_told, table_paused, Holder, nobody, holder, looked_up_of, found_of}
use Rattle.nodes.specs.Call.{Rival, no_rival, rival, challenger_of}
use Rattle.nodes.specs.declared.Node.{Node}
use Rattle.nodes.specs.declared.Effect.{Effect}
use Rattle.nodes.specs.declared.Challenger as Declared
use Rattle.nodes.specs.declared.BadTable.{BadTable}
use Rattle.nodes.specs.declared.NotHeard.{NotHeard}

-- empty

pub record Empty (r : List Node) : Type 0 where
  pub answer : r ≡ empty_table

-- hear

abbrev pub Hearing : Type 0
Hearing = Result Effect NotHeard

abbrev pub number_of_not_heard : NotHeard → ℕ
number_of_not_heard NotHeard.TableTooShort = 1
number_of_not_heard NotHeard.BrokenState = 2
number_of_not_heard (NotHeard.BadFrame why) = refusal_of why

abbrev pub outcome_in : Effect → Outcome
outcome_in (Effect.Taken address) = taken address
outcome_in (Effect.Challenges address) = challenges address
outcome_in (Effect.HeldByLower address) = held_by_lower address
outcome_in Effect.Silent = silent
outcome_in Effect.NothingToDo = nothing_to_do

abbrev pub told_hearing : Hearing → Told Outcome
told_hearing (Ok effect) = gives (outcome_in effect)
told_hearing (Err why) = refused (number_of_not_heard why)

pub record Hear (table : List Node) (id : ℕ) (bytes : List ℕ) (r : Hearing) (after : List Node) : Type 0 where
  pub answer : told_hearing r ≡ heard_of table id bytes
  pub table_after : after ≡ table_after table id bytes

pub record NotHeardRefusal (why : NotHeard) (r : ℕ) : Type 0 where
  pub number : r ≡ number_of_not_heard why

pub record HearingRefusal (answer : Hearing) (r : ℕ) : Type 0 where
  pub number : r ≡ number_in (told_hearing answer)

-- pause

abbrev pub number_of_bad_table : BadTable → ℕ
number_of_bad_table BadTable.TableTooShort = 1
number_of_bad_table BadTable.BrokenState = 2

-- a frame is not heard with a table that is refused
abbrev pub not_heard_for : BadTable → NotHeard
not_heard_for BadTable.TableTooShort = NotHeard.TableTooShort
not_heard_for BadTable.BrokenState = NotHeard.BrokenState

abbrev pub Pausing : Type 0
Pausing = Result ℕ BadTable

abbrev pub told_pausing : Pausing → Told ℕ
told_pausing r = told number_of_bad_table r

pub record Pause (table : List Node) (ms : ℕ) (r : Pausing) (after : List Node) : Type 0 where
  pub answer : told_pausing r ≡ pause_told table ms
  pub table_after : after ≡ table_paused table ms

pub record BadTableRefusal (why : BadTable) (r : ℕ) : Type 0 where
  pub number : r ≡ number_of_bad_table why

pub record PausingRefusal (answer : Pausing) (r : ℕ) : Type 0 where
  pub number : r ≡ number_in (told_pausing answer)

-- look_up; the table is only read

abbrev pub LookedUp : Type 0
LookedUp = Result (Option ℕ) BadTable

abbrev pub holder_in : Option ℕ → Holder
holder_in (Some name) = holder name
holder_in None = nobody

abbrev pub told_looked_up : LookedUp → Told Holder
told_looked_up (Ok found) = gives (holder_in found)
told_looked_up (Err why) = refused (number_of_bad_table why)

pub record LookUp (table : List Node) (address : ℕ) (r : LookedUp) : Type 0 where
  pub answer : told_looked_up r ≡ looked_up_of table address

pub record LookedUpRefusal (answer : LookedUp) (r : ℕ) : Type 0 where
  pub number : r ≡ number_in (told_looked_up answer)

-- find_address; the table is only read

abbrev pub FoundAddress : Type 0
FoundAddress = Result (Option ℕ) BadTable

abbrev pub told_found_address : FoundAddress → Told (Option ℕ)
told_found_address r = told number_of_bad_table r

pub record FindAddress (table : List Node) (name : ℕ) (r : FoundAddress) : Type 0 where
  pub answer : told_found_address r ≡ found_of table name

pub record FoundAddressRefusal (answer : FoundAddress) (r : ℕ) : Type 0 where
  pub number : r ≡ number_in (told_found_address answer)

-- find_challenger; the table is only read

abbrev pub FoundChallenger : Type 0
FoundChallenger = Result (Option Declared.Challenger) BadTable

abbrev pub rival_in : Option Declared.Challenger → Rival
rival_in (Some c) = rival (record { name = c.name; wait = c.wait })
rival_in None = no_rival

abbrev pub told_found_challenger : FoundChallenger → Told Rival
told_found_challenger (Ok found) = gives (rival_in found)
told_found_challenger (Err why) = refused (number_of_bad_table why)

pub record FindChallenger (table : List Node) (address : ℕ) (r : FoundChallenger) : Type 0 where
  pub answer : told_found_challenger r ≡ challenger_of table address

pub record FoundChallengerRefusal (answer : FoundChallenger) (r : ℕ) : Type 0 where
  pub number : r ≡ number_in (told_found_challenger answer)
