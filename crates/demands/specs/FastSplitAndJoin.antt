-- The second demand, of fast packets (RULES 13.2): what the splitter splits, the receiver joins to the same sender, DGN
-- and bytes, on any bus and in any run of calls. crates/fast/specs/Sending.antt says what a sender does.
use Rattle.std.specs.Prelude.{◌≡◌, List, [], ◌∷◌, ◌++◌, ℕ}
use Rattle.words.specs.Words.{Told, gives}
use Rattle.frame.specs.Standard.{Frame}
use Rattle.places.specs.Format.{Event}
use Rattle.places.specs.Places.{History, told_to, admitted, answered}
use Rattle.places.specs.Calls.{FromStart}
use Rattle.places.specs.Telling.{Tells, finished}
use Rattle.fast.specs.FastPacket.{pair_of}
use Rattle.fast.specs.OnePair.{fast_packets}
use Rattle.fast.specs.Calls.{Held, fast_calls}
use Rattle.fast.specs.Sending.{Sendable, Sent}

-- Where the pair's own frames without those answered 8, and the pauses, end with such a message, the last thing that it
-- is told is that message. Every length from 1 to 223 and every sequence number.
abbrev pub SplitAndJoin : Type 0
SplitAndJoin =
    (names message : List ℕ) (dgn sender sequence : ℕ) (h : History (fast_packets names)) (s : Held)
    (earlier own : List (Event Frame))
    → Sendable names message dgn sender sequence → FromStart (fast_calls names) h s
    → admitted (fast_packets names) (pair_of sender dgn) h ≡ earlier ++ own
    → Sent names message dgn sender sequence own
    → (answers : List (Told Tells))
    × (answered (told_to (fast_packets names) (pair_of sender dgn) h)
    ≡ answers ++ (gives (finished (record { sender = sender; dgn = dgn; bytes = message })) ∷ []))
