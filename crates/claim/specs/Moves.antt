-- How often a node moves (RULES 8.17 to 8.22): the addresses that it has given up since its start, over runs of calls.
-- proofs/Moves.antt has a proof of each law, under the same name written small.
use Rattle.std.specs.Prelude.{◌≡◌, Bool, true, false, List, ◌↔◌, ◌⊎◌, ℕ, ◌+◌, ◌≤◌, ◌<◌, ◌^◌, length, get_or, Ok}
use Rattle.words.specs.Words.{refused, gives, done}
use Rattle.frame.specs.Frame.{frame_bytes}
use Rattle.claim.specs.Claim.{losses_at, begun}
use Rattle.claim.specs.History.{history, losses_in}
use Rattle.claim.specs.Promises.{Standing}
use Rattle.claim.specs.Promises.{Start, Hear, Pause, Stands, OurClaim, KeepsRules, told_starting, told_hearing}
use Rattle.claim.specs.Promises.{told_pausing, told_standing, told_sending, is_sound}
use Rattle.claim.specs.Calls.{Call, Ran, events_in, answers_in, losses_told, repeats_told, frames_sent}
use Rattle.claim.specs.declared.Claim.{Claim}
use Rattle.claim.specs.declared.Started.{Started}
use Rattle.claim.specs.declared.Heard.{Heard}
use Rattle.claim.specs.declared.Paused.{Paused}
use Rattle.claim.specs.declared.Place.TheVariants.{Held, Claiming, Silent}
use Rattle.claim.specs.declared.ClaimFrame.{ClaimFrame}

-- There is a run for any calls, from any state, since every call answers.
abbrev pub EveryRunRuns : Type 0
EveryRunRuns = (c : Claim) (calls : List Call) → (d : Claim) × Ran c calls d

-- Whatever calls follow a start, the count is that of the contests lost in the history of what was heard and waited; it
-- is at most the length of the list, and is that exactly when `stands` answers that the node is silent. What was given
-- up stands first in the list: where `stands` answers an address, it is the one behind as many as are counted.
pub record Counts (name : ℕ) (list : List ℕ) (calls : List Call) (d : Claim) : Type 0 where
  pub lost : d.losses ≡ losses_in (history (begun name list) (events_in calls))
  pub bounded : d.losses ≤ length list
  pub all_when_silent : (r : Standing) → Stands d r → (d.losses ≡ length list) ↔ (r ≡ Ok Silent)
  pub next_claimed : (a : ℕ) → Stands d (Ok (Claiming a)) ⊎ Stands d (Ok (Held a)) → a ≡ get_or list d.losses 0

abbrev pub LossesExactly : Type 0
LossesExactly =
    (name : ℕ) (list : List ℕ) (r : Started) (calls : List Call) (d : Claim) → Start name list r
    → told_starting r.answer ≡ gives done → Ran r.claim calls d → Counts name list calls d

-- From any state the count rises by as many as the caller was told of contests lost: a repeat, a pause and a refusal
-- leave it as it was.
abbrev pub LossesAsTold : Type 0
LossesAsTold =
    (c d : Claim) (calls : List Call) (ran : Ran c calls d)
    → d.losses ≡ c.losses + losses_told (answers_in ran)

-- A state with another count than that of where it stands breaks its rules: the calls of this crate refuse it with 2.
pub record RefusedWithTwo (c : Claim) : Type 0 where
  pub hear : (id : ℕ) (bytes : List ℕ) (r : Heard) → Hear id bytes c r → told_hearing r.answer ≡ refused 2
  pub pause : (ms : ℕ) (r : Paused) → Pause ms c r → told_pausing r.answer ≡ refused 2
  pub stands : (r : Standing) → Stands c r → told_standing r ≡ refused 2
  pub our_claim : (r : ClaimFrame) → OurClaim c r → told_sending r.answer ≡ refused 2
  pub keeps_rules : (r : Bool) → KeepsRules c r → r ≡ false

abbrev pub WrongCountRefused : Type 0
WrongCountRefused = (c : Claim) → (c.losses ≡ losses_at c → ⊥) → RefusedWithTwo c

-- Repeats are no moves, and have no limit: whenever a node is not silent and some NAME is above its own, then for every
-- n there are calls that make it repeat its claim n times, lose nothing, and stand as it stood.
pub record Repeats (c : Claim) (n : ℕ) : Type 0 where
  pub calls : List Call
  pub ran : Ran c calls c
  pub repeats : repeats_told (answers_in ran) ≡ n
  pub no_loss : losses_told (answers_in ran) ≡ 0

abbrev pub RepeatsUnlimited : Type 0
RepeatsUnlimited =
    (c : Claim) → is_sound c ≡ true → c.silent ≡ false → c.name + 1 < 256 ^ frame_bytes → (n : ℕ) → Repeats c n

-- The bound is sharp: a node whose NAME is not the lowest of all can be made to give up any number of its addresses, up
-- to all of them.
pub record GivesUp (c : Claim) (n : ℕ) : Type 0 where
  pub calls : List Call
  pub after : Claim
  pub ran : Ran c calls after
  pub count : after.losses ≡ n

abbrev pub EveryCountReached : Type 0
EveryCountReached =
    (name : ℕ) (list : List ℕ) (r : Started) → Start name list r → told_starting r.answer ≡ gives done
    → 0 < name → (n : ℕ) → n ≤ length list → GivesUp r.claim n

-- What it costs: the frames that hearing gives to send are one for each contest lost and one for each repeat.
abbrev pub SentForEach : Type 0
SentForEach =
    (c d : Claim) (calls : List Call) (ran : Ran c calls d)
    → frames_sent ran ≡ losses_told (answers_in ran) + repeats_told (answers_in ran)
