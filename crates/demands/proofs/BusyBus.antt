-- The statements of specs/BusyBus.antt: those of `places` at the receiver's calls, and the law of its pauses.
-- Assumes nothing.
use mathlib.Core.Path.{◌≡◌, ap}
use mathlib.Core.List.{List}
use Prim.Native.Nat.{ℕ, ◌+◌, ◌≤◌, ◌<◌}
use mathlib.Core.Option.{some, none}
use native.Mathlib.Omega.{arith}
use borrow.Author.Tests.{ltb-false, le-ltb, lt-ltb, ltb-true}
use Rattle.words.specs.Words.{◌=?◌, ◌<?◌, Told, refused, gives}
use Rattle.words.proofs.Words.{by_test}
use Rattle.places.specs.Format.{opens, goes, ends}
use Rattle.places.specs.OneKey.{pause_alone}
use Rattle.places.proofs.Calls as Calls
use Rattle.places.specs.Telling.{Tells}
use Rattle.message.specs.LongMessage.{idle_limit, packets_of, Meaning, other, announcement, packet, meaning_of}
use Rattle.message.specs.OneSender.{Open, Part, long_messages, announced_by, waits, fed_by, asks_by}
use Rattle.message.specs.Calls.{receiver_calls}
use Rattle.demands.specs.BusyBus.{BusyBus, OpenOnBus, ToldOnBus, NoPlaceFree, PauseCount, PausesOfMessages}
use Rattle.demands.specs.BusyBus.{SumsOfPauses, StartKept, RulesKept, EveryRunRuns, NoPlaceFreeAt, PauseCountAt}
use Rattle.demands.proofs.LongReceiver.{receiver_keeps}

pub busy_bus : BusyBus
busy_bus = Calls.busy_bus receiver_calls receiver_keeps

pub open_on_bus : OpenOnBus
open_on_bus = Calls.open_on_bus receiver_calls receiver_keeps

pub told_on_bus : ToldOnBus
told_on_bus = Calls.told_on_bus receiver_calls receiver_keeps

pub no_place_free : NoPlaceFree
no_place_free = Calls.no_place_free receiver_calls receiver_keeps

pub pause_count : PauseCount
pause_count = Calls.pause_count receiver_calls receiver_keeps

pub start_kept : StartKept
start_kept = Calls.start_kept receiver_calls receiver_keeps

pub rules_kept : RulesKept
rules_kept = Calls.rules_kept receiver_calls receiver_keeps

pub every_run_runs : EveryRunRuns
every_run_runs = Calls.every_run_runs receiver_calls receiver_keeps

pub no_place_free_at : NoPlaceFreeAt
no_place_free_at = Calls.full_at_any_state receiver_calls receiver_keeps

pub pause_count_at : PauseCountAt
pause_count_at = Calls.pause_at_any_state receiver_calls receiver_keeps

-- pauses

abbrev pub Within : Open → Type 0
Within m = m.idle ≤ idle_limit

never : {A B : Type 0} {a : A} → none ≡ some a → B
never e = let y : ◌≡◌ {A = ℕ} 0 1 = cc in absurd (omega arith)

opens_within : (t : Told Meaning) (bytes : List ℕ) (m : Open) (a : Told Tells) → asks_by t bytes ≡ opens m a → Within m
opens_within (refused n) bytes m a e = let y : ◌≡◌ {A = ℕ} 0 1 = cc in absurd (omega arith)
opens_within (gives other) bytes m a e = let y : ◌≡◌ {A = ℕ} 0 1 = cc in absurd (omega arith)
opens_within (gives (announcement n)) bytes m a e =
    let y : announced_by n.sender n.size n.dgn ≡ m = cc in
    let z : 0 ≡ m.idle = ap (λ (o : Open). o.idle) y in
    omega arith
opens_within (gives (packet p)) bytes m a e = let y : ◌≡◌ {A = ℕ} 0 1 = cc in absurd (omega arith)

goes_to : {m n : Open} {a b : Told Tells} → goes m a ≡ goes n b → m ≡ n
goes_to e = cc

ends_goes : {B : Type 0} {n : Open} {a b : Told Tells} → ends a ≡ goes n b → B
ends_goes e = let y : ◌≡◌ {A = ℕ} 0 1 = cc in absurd (omega arith)

feed_within : (m n : Open) (part : Part) (a : Told Tells) → fed_by m part ≡ goes n a → Within n
feed_within m n part a e =
    by_test (part.number =? m.expected)
    (λ t. by_test (m.expected =? packets_of m.size)
    (λ u. ends_goes (rw (t, u) at e))
    (λ u. let z : 0 ≡ n.idle = ap (λ (o : Open). o.idle) (goes_to (rw (t, u) at e)) in omega arith))
    (λ t. ends_goes (rw t at e))

some_is : {m n : Open} → some m ≡ some n → m ≡ n
some_is e = cc

wait_within : (m n : Open) (ms : ℕ) → waits ms m ≡ some n → Within n
wait_within m n ms e =
    by_test (idle_limit <? m.idle + ms)
    (λ t. never (rw t at e))
    (λ t.
    let z : m.idle + ms ≡ n.idle = ap (λ (o : Open). o.idle) (some_is (rw t at e)) in
    omega (arith, ltb-false idle_limit (m.idle + ms) t))

idle_is : (m : Open) (idle : ℕ) → idle ≡ m.idle
    → ◌≡◌ {A = Open} (record { sender = m.sender; size = m.size; dgn = m.dgn; expected = m.expected; idle = idle; collected = m.collected }) m
idle_is m idle e = λ i. record { sender = m.sender; size = m.size; dgn = m.dgn; expected = m.expected; idle = e i; collected = m.collected }

wait_none : (m : Open) → Within m → waits 0 m ≡ some m
wait_none m h =
    let l : m.idle + 0 ≤ idle_limit = omega arith in
    let z : m.idle + 0 ≡ m.idle = omega arith in
    rw (le-ltb _ _ l) (ap some (idle_is m (m.idle + 0) z))

wait_sum : (m : Open) (a b : ℕ) → pause_alone long_messages b (waits a m) ≡ waits (a + b) m
wait_sum m a b =
    by_test (idle_limit <? m.idle + a)
    (λ t. let h : idle_limit < m.idle + (a + b) = omega (arith, ltb-true idle_limit (m.idle + a) t) in rw (t, lt-ltb _ _ h))
    (λ t. rw t (let z : m.idle + a + b ≡ m.idle + (a + b) = omega arith in rw z))

-- idle time adds up
pub pauses_of_messages : PausesOfMessages
pauses_of_messages = record {
  Kept = Within;
  opens_kept = λ f m a e. opens_within (meaning_of f.id f.bytes) f.bytes m a e;
  feed_kept = λ m n part a h e. feed_within m n part a e;
  wait_kept = λ m n ms h e. wait_within m n ms e;
  wait_zero = wait_none;
  wait_more = λ m a b h. wait_sum m a b;
}

pub sums_of_pauses : SumsOfPauses
sums_of_pauses = Calls.sums_on_bus receiver_calls receiver_keeps pauses_of_messages
