-- The laws of this crate (RULES 8), each a named statement. proofs/Laws.antt and proofs/Machine.antt have a proof of
-- each, under the same name written small.
use Rattle.std.specs.Prelude.{◌≡◌, Bool, true, false, List, ◌↔◌, ℕ, ◌≤◌, ◌<◌, ◌%◌, ◌^◌, length, get_or}
use Rattle.words.specs.Words.{refused, gives, done, number_of_answer}
use Rattle.frame.specs.Bytes.{number_of, bytes_of}
use Rattle.frame.specs.Identifier.{identifier_of, identifiers}
use Rattle.frame.specs.Frame.{frame_bytes, checked_of}
use Rattle.frame.specs.Standard.{claim_dgn, greatest_address, no_address, no_frame}
use Rattle.frame.specs.declared.Parts.{Parts}
use Rattle.claim.specs.Claim.{held_after, claim_priority, keeps_rules, holds_list, address, claim_source, claim_id}
use Rattle.claim.specs.Claim.{claim_bytes, held, stand_of, begun, nothing_to_do, outcome_of, after}
use Rattle.claim.specs.History.{Event, run, history, waited_since}
use Rattle.claim.specs.Promises.{NotStartedRefusal, NotHeardRefusal, BadStateRefusal}
use Rattle.claim.specs.Promises.{Starting, Hearing, Pausing, Standing, Sending}
use Rattle.claim.specs.Promises.{number_of_not_started, number_of_not_heard, number_of_bad_state}
use Rattle.claim.specs.Promises.{Start, Hear, Pause, Stands, OurClaim, KeepsRules, HoldsList, StartingRefusal}
use Rattle.claim.specs.Promises.{HearingRefusal, PausingRefusal, StandingRefusal, SendingRefusal, told_starting}
use Rattle.claim.specs.Promises.{told_hearing, told_pausing, told_standing, told_sending, meets_frame, heard_of}
use Rattle.claim.specs.Promises.{is_sent_told, is_sound, blank}
use Rattle.claim.specs.Calls.{Call, Ran, events_in}
use Rattle.claim.specs.declared.Claim.{Claim}
use Rattle.claim.specs.declared.Started.{Started}
use Rattle.claim.specs.declared.Heard.{Heard}
use Rattle.claim.specs.declared.Paused.{Paused}
use Rattle.claim.specs.declared.ClaimFrame.{ClaimFrame}
use Rattle.claim.specs.declared.NotStarted.{NotStarted}
use Rattle.claim.specs.declared.NotHeard.{NotHeard}
use Rattle.claim.specs.declared.BadState.{BadState}

-- An answer read as number and values loses nothing (RULES 2.10).

abbrev pub ToldStartingSame : Type 0
ToldStartingSame = (r s : Starting) → told_starting r ≡ told_starting s → r ≡ s

abbrev pub ToldHearingSame : Type 0
ToldHearingSame = (r s : Hearing) → told_hearing r ≡ told_hearing s → r ≡ s

abbrev pub ToldPausingSame : Type 0
ToldPausingSame = (r s : Pausing) → told_pausing r ≡ told_pausing s → r ≡ s

abbrev pub ToldStandingSame : Type 0
ToldStandingSame = (r s : Standing) → told_standing r ≡ told_standing s → r ≡ s

abbrev pub ToldSendingSame : Type 0
ToldSendingSame = (r s : Sending) → told_sending r ≡ told_sending s → r ≡ s

-- No second answer, state or frame keeps a promise.

abbrev pub StartOnly : Type 0
StartOnly = (name : ℕ) (list : List ℕ) (r s : Started) → Start name list r → Start name list s → r ≡ s

abbrev pub HearOnly : Type 0
HearOnly = (id : ℕ) (bytes : List ℕ) (c : Claim) (r s : Heard) → Hear id bytes c r → Hear id bytes c s → r ≡ s

abbrev pub PauseOnly : Type 0
PauseOnly = (ms : ℕ) (c : Claim) (r s : Paused) → Pause ms c r → Pause ms c s → r ≡ s

abbrev pub StandsOnly : Type 0
StandsOnly = (c : Claim) (r s : Standing) → Stands c r → Stands c s → r ≡ s

abbrev pub OurClaimOnly : Type 0
OurClaimOnly = (c : Claim) (r s : ClaimFrame) → OurClaim c r → OurClaim c s → r ≡ s

abbrev pub KeepsRulesOnly : Type 0
KeepsRulesOnly = (c : Claim) (r s : Bool) → KeepsRules c r → KeepsRules c s → r ≡ s

abbrev pub HoldsListOnly : Type 0
HoldsListOnly = (c : Claim) (r s : Bool) → HoldsList c r → HoldsList c s → r ≡ s

abbrev pub NotStartedRefusalOnly : Type 0
NotStartedRefusalOnly = (why : NotStarted) (r s : ℕ) → NotStartedRefusal why r → NotStartedRefusal why s → r ≡ s

abbrev pub StartingRefusalOnly : Type 0
StartingRefusalOnly = (answer : Starting) (r s : ℕ) → StartingRefusal answer r → StartingRefusal answer s → r ≡ s

abbrev pub NotHeardRefusalOnly : Type 0
NotHeardRefusalOnly = (why : NotHeard) (r s : ℕ) → NotHeardRefusal why r → NotHeardRefusal why s → r ≡ s

abbrev pub HearingRefusalOnly : Type 0
HearingRefusalOnly = (answer : Hearing) (r s : ℕ) → HearingRefusal answer r → HearingRefusal answer s → r ≡ s

abbrev pub BadStateRefusalOnly : Type 0
BadStateRefusalOnly = (why : BadState) (r s : ℕ) → BadStateRefusal why r → BadStateRefusal why s → r ≡ s

abbrev pub PausingRefusalOnly : Type 0
PausingRefusalOnly = (answer : Pausing) (r s : ℕ) → PausingRefusal answer r → PausingRefusal answer s → r ≡ s

abbrev pub StandingRefusalOnly : Type 0
StandingRefusalOnly = (answer : Standing) (r s : ℕ) → StandingRefusal answer r → StandingRefusal answer s → r ≡ s

abbrev pub SendingRefusalOnly : Type 0
SendingRefusalOnly = (answer : Sending) (r s : ℕ) → SendingRefusal answer r → SendingRefusal answer s → r ≡ s

-- The number that an answer gives for its refusal is the one that is told of it, and 0 where there is none.

abbrev pub StartingRefusalTold : Type 0
StartingRefusalTold = (answer : Starting) → StartingRefusal answer (number_of_answer number_of_not_started answer)

abbrev pub HearingRefusalTold : Type 0
HearingRefusalTold = (answer : Hearing) → HearingRefusal answer (number_of_answer number_of_not_heard answer)

abbrev pub PausingRefusalTold : Type 0
PausingRefusalTold = (answer : Pausing) → PausingRefusal answer (number_of_answer number_of_bad_state answer)

abbrev pub StandingRefusalTold : Type 0
StandingRefusalTold = (answer : Standing) → StandingRefusal answer (number_of_answer number_of_bad_state answer)

abbrev pub SendingRefusalTold : Type 0
SendingRefusalTold = (answer : Sending) → SendingRefusal answer (number_of_answer number_of_bad_state answer)

-- A refusal gives nothing (RULES 2.4 and 2.6): the state stays, and no frame stands beside it.

abbrev pub NoFrame : ℕ → List ℕ → Type 0
NoFrame id bytes = (id ≡ no_frame.id) × (bytes ≡ no_frame.bytes)

abbrev pub StartRefusedKeeps : Type 0
StartRefusedKeeps =
    (name : ℕ) (list : List ℕ) (r : Started) (n : ℕ) → Start name list r → told_starting r.answer ≡ refused n
    → (r.claim ≡ blank) × NoFrame r.id r.bytes

abbrev pub HearRefusedKeeps : Type 0
HearRefusedKeeps =
    (id : ℕ) (bytes : List ℕ) (c : Claim) (r : Heard) (n : ℕ) → Hear id bytes c r → told_hearing r.answer ≡ refused n
    → (r.claim ≡ c) × NoFrame r.id r.bytes

abbrev pub PauseRefusedKeeps : Type 0
PauseRefusedKeeps =
    (ms : ℕ) (c : Claim) (r : Paused) (n : ℕ) → Pause ms c r → told_pausing r.answer ≡ refused n → r.claim ≡ c

abbrev pub OurClaimRefusedKeeps : Type 0
OurClaimRefusedKeeps =
    (c : Claim) (r : ClaimFrame) (n : ℕ) → OurClaim c r → told_sending r.answer ≡ refused n
    → NoFrame r.id r.bytes

-- The lowest number wins: 2, then 3 to 6, then 16; to a frame to which none applies the machine answers.
pub record LowestWins (id : ℕ) (bytes : List ℕ) (c : Claim) : Type 0 where
  pub two : keeps_rules c ≡ false → heard_of id bytes c ≡ refused 2
  pub three_to_six : (n : ℕ) → keeps_rules c ≡ true → checked_of id (length bytes) ≡ refused n
      → heard_of id bytes c ≡ refused n
  pub sixteen : (p : Parts) → keeps_rules c ≡ true → checked_of id (length bytes) ≡ gives p → holds_list c ≡ false
      → heard_of id bytes c ≡ refused 16
  pub heard : (p : Parts) → is_sound c ≡ true → checked_of id (length bytes) ≡ gives p
      → heard_of id bytes c ≡ gives (meets_frame p bytes c)

-- The priority of a frame that is heard makes no difference (RULES 3.3).
abbrev pub PriorityIgnored : Type 0
PriorityIgnored =
    (id id' : ℕ) (bytes : List ℕ) (c : Claim) → id < identifiers → id' < identifiers → id % 2 ^ 26 ≡ id' % 2 ^ 26
    → heard_of id bytes c ≡ heard_of id' bytes c

-- Any other DGN than EEFFh is nothing to do: EExxh to one destination, and 1EEFFh, which differs in its 17th bit.
abbrev pub OtherDgn : Type 0
OtherDgn = (p : Parts) (bytes : List ℕ) (c : Claim) → (p.dgn ≡ claim_dgn → ⊥) → meets_frame p bytes c ≡ nothing_to_do

-- A claim from 254 is at no address of ours.
abbrev pub NobodysClaim : Type 0
NobodysClaim =
    (source name : ℕ) (c : Claim) → is_sound c ≡ true → greatest_address < source → outcome_of source name c ≡ nothing_to_do

-- A state that keeps its rules leads to one that keeps them, and no call of ours refuses what another gave.

abbrev pub StartSound : Type 0
StartSound =
    (name : ℕ) (list : List ℕ) (r : Started) → Start name list r → told_starting r.answer ≡ gives done
    → is_sound r.claim ≡ true

abbrev pub HearSound : Type 0
HearSound =
    (id : ℕ) (bytes : List ℕ) (c : Claim) (r : Heard) → Hear id bytes c r → is_sound c ≡ true → is_sound r.claim ≡ true

abbrev pub PauseSound : Type 0
PauseSound = (ms : ℕ) (c : Claim) (r : Paused) → Pause ms c r → is_sound c ≡ true → is_sound r.claim ≡ true

abbrev pub RunSound : Type 0
RunSound = (c : Claim) (es : List Event) → is_sound c ≡ true → is_sound (run c es) ≡ true

-- The NAME and the list stay.
pub record SameNode (d c : Claim) : Type 0 where
  pub name : d.name ≡ c.name
  pub list : d.list ≡ c.list
  pub candidates : d.candidates ≡ c.candidates

abbrev pub NodeStays : Type 0
NodeStays = (c : Claim) (es : List Event) → SameNode (run c es) c

-- While we are not silent, the position only rises.
abbrev pub PositionRises : Type 0
PositionRises = (c : Claim) (es : List Event) → (run c es).silent ≡ false → c.position ≤ (run c es).position

-- Silent ignores claims, and is for good.

abbrev pub SilentIgnores : Type 0
SilentIgnores = (source name : ℕ) (c : Claim) → c.silent ≡ true → outcome_of source name c ≡ nothing_to_do

abbrev pub SilentForGood : Type 0
SilentForGood = (c : Claim) (es : List Event) → c.silent ≡ true → run c es ≡ c

-- Only a lower NAME changes the state: a claim repeated leaves it, and its wait, as it was.
abbrev pub OnlyLowerMoves : Type 0
OnlyLowerMoves = (source name : ℕ) (c : Claim) → c.name ≤ name → after (outcome_of source name c) c ≡ c

-- Held exactly when 250 ms have passed since the start or the move to the present address.
abbrev pub HeldExactly : Type 0
HeldExactly =
    (name : ℕ) (list : List ℕ) (es : List Event)
    → (stand_of (run (begun name list) es) ≡ held (address (run (begun name list) es)))
    ↔ (((run (begun name list) es).silent ≡ false) × (held_after ≤ waited_since 0 (history (begun name list) es)))

-- The frame of our claim is a sound frame, EEFFh with priority 6, from our address or from 254, and spells our NAME.
pub record OurFrame (c : Claim) : Type 0 where
  pub source : (c.silent ≡ false → claim_source c ≡ address c) × (c.silent ≡ true → claim_source c ≡ no_address)
  pub parts : checked_of (claim_id c) (length (claim_bytes c))
      ≡ gives (record { priority = claim_priority; dgn = claim_dgn; source = claim_source c })
  pub name : number_of (claim_bytes c) ≡ c.name

abbrev pub ClaimIsOurs : Type 0
ClaimIsOurs = (c : Claim) → is_sound c ≡ true → c.name < 256 ^ frame_bytes → OurFrame c

-- Every frame sent is the frame of our claim as the call leaves it.

abbrev pub OurFrameOf : Claim → ℕ → List ℕ → Type 0
OurFrameOf c id bytes = (id ≡ claim_id c) × (bytes ≡ claim_bytes c)

abbrev pub StartSendsOurs : Type 0
StartSendsOurs =
    (name : ℕ) (list : List ℕ) (r : Started) → Start name list r → told_starting r.answer ≡ gives done
    → OurFrameOf r.claim r.id r.bytes × (claim_source r.claim ≡ get_or list 0 0)

abbrev pub HearSendsOurs : Type 0
HearSendsOurs =
    (id : ℕ) (bytes : List ℕ) (c : Claim) (r : Heard) → Hear id bytes c r → is_sent_told (told_hearing r.answer) ≡ true
    → OurFrameOf r.claim r.id r.bytes × SameNode r.claim c

abbrev pub HearSendsNothing : Type 0
HearSendsNothing =
    (id : ℕ) (bytes : List ℕ) (c : Claim) (r : Heard) → Hear id bytes c r → is_sent_told (told_hearing r.answer) ≡ false
    → NoFrame r.id r.bytes

-- The frame of a claim is heard as that claim.
abbrev pub FrameIsHeard : Type 0
FrameIsHeard =
    (source name : ℕ) (c : Claim) → source ≤ no_address → name < 256 ^ frame_bytes → is_sound c ≡ true
    → heard_of (identifier_of claim_priority claim_dgn source) (bytes_of frame_bytes name) c ≡ gives (outcome_of source name c)

-- A run of calls is a run of the machine, so that every law of the machine is one of the calls.
abbrev pub CallsAreEvents : Type 0
CallsAreEvents = (c d : Claim) (calls : List Call) → is_sound c ≡ true → Ran c calls d → d ≡ run c (events_in calls)
