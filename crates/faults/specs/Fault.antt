-- One place of a sender, and what time makes of the fault in it (RULES 14.5 to 14.14; 000 and 001, 3.2.5.1).
use Rattle.std.specs.Prelude.{Bool, not, List, ℕ, ◌+◌, ◌-◌, ◌%◌, min, replicate, if◌then◌else◌}
use Rattle.words.specs.Words.{◌≤?◌, ◌=?◌, ◌and◌, ◌or◌}
use Rattle.frame.specs.Bytes.{number_of}
use Rattle.frame.specs.Frame.{frame_bytes}
use Rattle.faults.specs.declared.Fault.{Fault}

-- a sender is stepped every 50 ms
abbrev pub step_time : ℕ
step_time = 50

-- a period is 100 to 1,000 ms, in multiples of 50
unfoldable pub is_allowed : ℕ → Bool
is_allowed period = (100 ≤? period) and (period ≤? 1000) and (period % step_time =? 0)

-- an empty place
abbrev pub no_fault : Fault
no_fault = record { bytes = replicate frame_bytes 0; period = 0; until_due = 0; age = 0 }

-- a place is empty, or the fault in it is active
abbrev pub is_empty : Fault → Bool
is_empty f = f.period =? 0

abbrev pub is_active : Fault → Bool
is_active f = not (is_empty f)

abbrev pub is_due : Fault → Bool
is_due f = is_active f and (f.until_due =? 0)

-- the rules of a place: all zeros; or a period that is allowed, a time until due within it, and no age beside that time
unfoldable pub is_zero : Fault → Bool
is_zero f = (number_of f.bytes =? 0) and (f.until_due =? 0) and (f.age =? 0) and (f.period =? 0)

unfoldable pub place_keeps_rules : Fault → Bool
place_keeps_rules f =
    if is_empty f then is_zero f else
    is_allowed f.period and (f.until_due ≤? f.period) and (f.until_due =? 0 or f.age =? 0)

-- where an age stops
abbrev pub oldest : ℕ
oldest = 31

abbrev pub older : ℕ → ℕ
older age = min oldest (age + 1)

abbrev pub sooner : ℕ → ℕ
sooner until_due = until_due - step_time

-- 50 ms pass: a fault that was due is one step older, any other is due so much sooner
unfoldable pub passed : Fault → Fault
passed f =
    if is_empty f then f else
    if f.until_due =? 0 then record { bytes = f.bytes; period = f.period; until_due = 0; age = older f.age }
    else record { bytes = f.bytes; period = f.period; until_due = sooner f.until_due; age = 0 }

-- a new fault is due from the next step on
abbrev pub added : List ℕ → ℕ → Fault
added bytes period = record { bytes = bytes; period = period; until_due = step_time; age = 0 }

-- a fault that is sent is due a period later
abbrev pub sent : Fault → Fault
sent f = record { bytes = f.bytes; period = f.period; until_due = f.period; age = 0 }
