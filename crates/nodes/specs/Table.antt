-- The node table (RULES 9.1, 9.3 to 9.6, 9.9 and 9.13 to 9.17): record a stands for address a, and says whether a node
-- holds it and with which NAME, which NAME challenges the holder, and for how long it has. What a claim and what a
-- pause make of a record goes by that record, its address and the event alone.
use Rattle.std.specs.Prelude.{Bool, true, false, not, List, [], ◌∷◌, ℕ, zero, suc, ◌+◌, replicate, if◌then◌else◌}
use Rattle.words.specs.Words.{◌<?◌, ◌≤?◌, ◌=?◌, ◌and◌, ◌or◌}
use Rattle.words.specs.Lists.{every, count, no_two}
use Rattle.nodes.specs.declared.Node.{Node}
use Rattle.nodes.specs.declared.Claim.{Claim}

-- the addresses are 0 to 253, and each has a record
abbrev pub addresses : ℕ
addresses = 254

-- a challenger takes its record after so many milliseconds
abbrev pub takes_after : ℕ
takes_after = 250

-- a record that nobody holds; one that a NAME holds and nobody challenges; and one whose holder is challenged
abbrev pub absent : Node
absent = record { present = false; name = 0; challenger = 0; wait = 0 }

abbrev pub held : ℕ → Node
held name = record { present = true; name = name; challenger = 0; wait = 0 }

abbrev pub challenged : ℕ → ℕ → Node → Node
challenged name wait n = record { present = n.present; name = n.name; challenger = name; wait = wait }

-- the same record without a challenger
unfoldable pub unchallenged_of : Node → Node
unchallenged_of n = challenged 0 0 n

-- a table to start from, in which nobody has an address
abbrev pub empty_table : List Node
empty_table = replicate addresses absent

-- the record has this NAME; an absent one has none
unfoldable pub has_name : ℕ → Node → Bool
has_name name n = n.present and (n.name =? name)

-- somebody challenges the holder, and who; 0 is no challenger
unfoldable pub is_challenged : Node → Bool
is_challenged n = 0 <? n.challenger

unfoldable pub has_challenger : ℕ → Node → Bool
has_challenger name n = is_challenged n and (n.challenger =? name)

-- the NAME stands in the record, as the holder or as the challenger
unfoldable pub stands : ℕ → Node → Bool
stands name n = has_name name n or has_challenger name n

-- ---- A claim: its NAME is cleared from the records of all other addresses.

-- what a holder that goes leaves behind: its challenger has the record now, or nobody
unfoldable pub vacated_of : Node → Node
vacated_of n = if is_challenged n then held n.challenger else absent

unfoldable pub cleared_of : ℕ → Node → Node
cleared_of name n =
    if has_name name n then vacated_of n else
    if has_challenger name n then unchallenged_of n else
    n

-- ---- It is entered in the record of its source.

-- the record is absent or has a higher NAME
unfoldable pub gives_way : ℕ → Node → Bool
gives_way name n = not n.present or (name <? n.name)

-- nobody challenges the holder, or a higher NAME does
unfoldable pub may_challenge : ℕ → Node → Bool
may_challenge name n = not (is_challenged n) or (name <? n.challenger)

-- a record that gives way takes the NAME; any other is challenged by it, from 0 on, or stays
unfoldable pub entered_of : ℕ → Node → Node
entered_of name n =
    if gives_way name n then held name else
    if may_challenge name n then challenged name 0 n else
    n

-- the holder claims again, and its challenger goes; or another NAME is entered, that of the challenger anew
unfoldable pub claimed_here : ℕ → Node → Node
claimed_here name n =
    if has_name name n then unchallenged_of n else
    entered_of name (cleared_of name n)

-- what a claim makes of the record of an address
unfoldable pub claimed_at : Claim → ℕ → Node → Node
claimed_at claim address n =
    if address =? claim.source then claimed_here claim.name n else
    cleared_of claim.name n

-- ---- A pause: a challenger that has waited long enough takes its record.

-- what a pause makes of a record
unfoldable pub paused_at : ℕ → Node → Node
paused_at ms n =
    if not (is_challenged n) then n else
    if n.wait + ms <? takes_after then challenged n.challenger (n.wait + ms) n else
    held n.challenger

-- the challenger takes the record in a pause
unfoldable pub is_replaced : ℕ → Node → Bool
is_replaced ms n = is_challenged n and (takes_after ≤? n.wait + ms)

-- ---- The table: each record of an address becomes what the event makes of it.

-- f of each of the first k records, the first of which has the address a; the rest as they are
unfoldable pub each_from : {A : Type 0} → (ℕ → A → A) → ℕ → ℕ → List A → List A
each_from f zero a xs = xs
each_from f (suc k) a [] = []
each_from f (suc k) a (x ∷ xs) = f a x ∷ each_from f k (suc a) xs

-- the table after a claim
unfoldable pub claimed_of : Claim → List Node → List Node
claimed_of claim table = each_from (claimed_at claim) addresses 0 table

-- the table after a pause, and in how many records a challenger takes over
unfoldable pub paused_of : ℕ → List Node → List Node
paused_of ms table = each_from (λ address. paused_at ms) addresses 0 table

unfoldable pub replaced_in : ℕ → List Node → ℕ
replaced_in ms table = count (is_replaced ms) table

-- ---- The rules of a table.

-- a challenger has a higher NAME than the holder, and has waited less than 250 ms; a missing one is all zeros
unfoldable pub sound_challenge : Node → Bool
sound_challenge n =
    if not (is_challenged n) then n.wait =? 0 else
    if n.challenger ≤? n.name then false else
    (n.wait <? takes_after)

-- an absent record is all zeros
unfoldable pub sound_record : Node → Bool
sound_record n =
    if n.present then sound_challenge n else
    ((n.name =? 0) and (n.challenger =? 0) and (n.wait =? 0))

-- a NAME of the one record, its holder's or its challenger's, stands in the other
unfoldable pub shares_name : Node → Node → Bool
shares_name n m = (n.present and stands n.name m) or (is_challenged n and stands n.challenger m)

-- every record is sound, and no NAME stands in two
unfoldable pub keeps_rules : List Node → Bool
keeps_rules table = every sound_record table and no_two shares_name table
