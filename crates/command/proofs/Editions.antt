-- The laws of specs/Editions.antt, proved.
-- Assumes nothing.
use Rattle.std.specs.Prelude.{Ok}
use Rattle.std.specs.Prelude.{if◌then◌else◌}
use mathlib.Core.Path.{◌≡◌, refl, sym, ap, ◌∙◌}
use mathlib.Core.Bool.{Bool, true, false, not}
use mathlib.Core.List.{List, [], ◌∷◌}
use mathlib.Core.Logic.{◌⊎◌, inl, inr}
use Prim.Native.Nat.{ℕ, zero, suc, ◌≤◌, ◌<◌}
use native.Mathlib.Nat.{le_of_suc-le-suc, not-suc-le-zero}
use native.Mathlib.Omega.{arith}
use borrow.Author.Tests.{eq-eqb, eqb-true, eqb-false, leb-true}
use lib.ListN.{length, take, get_or}
use lib.Seq.{get_or-take, length-take-le}
use Rattle.words.specs.Words.{◌≤?◌, ◌<?◌, ◌=?◌, ◌and◌, Told, refused, gives, given◌then◌, done}
use Rattle.words.specs.Lists.{any, every, no_two}
use Rattle.frame.specs.Bytes.{number_of, bytes_of}
use Rattle.frame.specs.Identifier.{identifier_of, greatest_dgn, priority_of, reserved_of, dgn_of, source_of, parts_of}
use Rattle.frame.specs.Identifier.{is_addressed, destination_of, catalogue_form}
use Rattle.frame.specs.Frame.{source_allowed, checked_of}
use Rattle.frame.specs.Standard.{Frame, address_claimed, dgn_at, everyone, no_address, no_frame, request_dgn}
use Rattle.frame.specs.declared.Parts.{Parts}
use Rattle.words.proofs.Words.{by_test, both_true, true_false, before_refusal}
use Rattle.words.proofs.Lists.{every_at}
use Rattle.claim.specs.Claim.{keeps_rules, holds_list, Stand, held, claiming, silent, stand_of, claim_frame}
use Rattle.claim.specs.declared.Claim.{Claim}
use Rattle.command.specs.Hosted.{most_entries, blank_entry, is_hosted_dgn, is_entry, is_same_pair, hosted, is_well_formed}
use Rattle.command.specs.Positions.{positions_where, filled, listed}
use Rattle.command.specs.Handed.{handed_in, address_held}
use Rattle.command.specs.Commands.{route_of, routed_of}
use Rattle.command.specs.Acknowledgment.{acknowledgment_frame, acknowledgment_id, acknowledgment_bytes}
use Rattle.command.specs.Requests as Requests
use Rattle.command.specs.Requests.{requested_dgn, all_instances, instance_asked, Asked, asked_of, is_of_instance}
use Rattle.command.specs.Requests.{supports, is_our_address, is_ours, nak_to, Reply, claims, supported, nak}
use Rattle.command.specs.Requests.{unsupported, status_of, reply_of, answer_of, requested_of}
use Rattle.command.specs.Promises.{Requesting}
use Rattle.command.specs.Promises.{told_starting, started_of, told_requesting, supported_in, sent_in}
use Rattle.command.specs.Laws.{entry_at}
use Rattle.command.specs.Editions as the
use Rattle.command.specs.Editions.{Run, Ran, Hears, Supports, SupportsDgn, SupportsAs, Reports, SendsNak}
use Rattle.command.specs.Editions.{requester, destination, byte_three, has_status, former_status, formerly}
use Rattle.command.specs.declared.Edition.{Edition}
use Rattle.command.specs.declared.Edition.TheVariants.{One, Two}
use Rattle.command.specs.declared.Entry.{Entry}
use Rattle.command.specs.declared.Host.{Host}
use Rattle.command.specs.declared.Response.TheVariants.{Supported, SendNak, Unsupported}
use Rattle.command.proofs.Picks as Picks
use Rattle.command.proofs.Handing.{well_few}
use Rattle.command.proofs.Answers.{status_supported, status_global, status_nobody, status_nak, reply_held}
use Rattle.command.proofs.Answers.{answer_reply, requested_given}
use Rattle.command.proofs.PositionLaws.{positions_exact, positions_rise}
use Rattle.command.proofs.Laws.{told_requesting_same, route_only, request_only, lowest_wins, start_hosts}
use Rattle.command.proofs.Laws.{well_same, request_same, dgn_of_three}
use Rattle.command.proofs.ReplyLaws.{Heard, Came, Answered, answered, reported_by, unanswered_by, denied_by}
use Rattle.command.proofs.ReplyLaws.{our_address, acknowledgment_checked, held_low}

-- a test that some entry passes, or none

any_some : (f : Entry → Bool) (es : List Entry) (k : ℕ) → k < length es → f (entry_at es k) ≡ true → any f es ≡ true
any_some f [] k l e = absurd (not-suc-le-zero l)
any_some f (x ∷ es) zero l e = rw e
any_some f (x ∷ es) (suc k) l e =
    by_test (f x)
    (λ t. rw t)
    (λ t. rw t (any_some f es k (le_of_suc-le-suc l) e))

abbrev Passes : (Entry → Bool) → List Entry → Type 0
Passes f es = (k : ℕ) × (k < length es) × (f (entry_at es k) ≡ true)

some_any : (f : Entry → Bool) (es : List Entry) → any f es ≡ true → Passes f es
some_any f [] e = true_false (sym e)
some_any f (x ∷ es) e =
    by_test (f x)
    (λ t. (0, omega arith, t))
    (λ t.
    let s = some_any f es (rw t at e) in
    let l = s.1 in
    (suc s.0, omega arith, s.2))

-- an entry that supports a request

instance_by : (instance : ℕ) (e : Entry) → is_of_instance instance e ≡ true
    → (instance ≡ all_instances) ⊎ (e.instance ≡ instance)
instance_by instance e t =
    by_test (instance =? all_instances)
    (λ a. inl (eqb-true instance all_instances a))
    (λ a. inr (eqb-true e.instance instance (rw a at t)))

by_instance : (instance : ℕ) (e : Entry) → (instance ≡ all_instances) ⊎ (e.instance ≡ instance)
    → is_of_instance instance e ≡ true
by_instance instance e (inl a) = rw (eq-eqb instance all_instances a)
by_instance instance e (inr b) =
    by_test (instance =? all_instances)
    (λ t. rw t)
    (λ t. rw (t, eq-eqb e.instance instance b))

supports_by : (asked : Asked) (e : Entry) → supports asked e ≡ true
    → (e.status ≡ asked.dgn) × ((asked.instance ≡ all_instances) ⊎ (e.instance ≡ asked.instance))
unfolding supports
supports_by asked e t =
    let b = both_true (e.status =? asked.dgn) (is_of_instance asked.instance e) t in
    (eqb-true e.status asked.dgn b.0, instance_by asked.instance e b.1)

by_supports : (asked : Asked) (e : Entry) → e.status ≡ asked.dgn
    → (asked.instance ≡ all_instances) ⊎ (e.instance ≡ asked.instance) → supports asked e ≡ true
unfolding supports
by_supports asked e d n = rw (eq-eqb e.status asked.dgn d) (by_instance asked.instance e n)

-- a request to our address or to everyone is ours
is_ours_lem : (asked : Asked) (address : ℕ) → (asked.destination ≡ address) ⊎ (asked.destination ≡ everyone)
    → is_ours asked (held address) ≡ true
unfolding is_ours is_our_address
is_ours_lem asked address (inl e) =
    by_test (asked.destination =? everyone)
    (λ t. rw t)
    (λ t. rw (t, eq-eqb asked.destination address e))
is_ours_lem asked address (inr e) = rw (eq-eqb asked.destination everyone e)

source_low : (id : ℕ) → source_of id < 256
unfolding source_of
source_low id = omega arith

-- replies that are not "nothing to do"

supported_is_other : {ps : List ℕ} → supported ps ≡ Requests.nothing_to_do → ⊥
supported_is_other e = let z : ◌≡◌ {A = ℕ} 0 1 = cc in omega arith

nak_is_other : {frame : Frame} → nak frame ≡ Requests.nothing_to_do → ⊥
nak_is_other e = let z : ◌≡◌ {A = ℕ} 0 1 = cc in omega arith

unsupported_is_other : unsupported ≡ Requests.nothing_to_do → ⊥
unsupported_is_other e = let z : ◌≡◌ {A = ℕ} 0 1 = cc in omega arith

-- what a run hosts, what it is asked, and what it is told

abbrev lent : Run → Host
lent run = record { entries = run.entries; count = run.count; edition = run.edition }

abbrev list_of : Run → List Entry
list_of run = take run.count run.entries

abbrev asked_in : Run → Asked
asked_in run = asked_of run.edition (parts_of run.id) run.bytes

abbrev told_in : Run → Told Reply
told_in run = requested_of run.id run.bytes run.started.host run.claim

-- whether a hosted entry supports it, as a test, and that none does

abbrev is_supported : Run → Bool
is_supported run = any (supports (asked_in run)) (list_of run)

abbrev None : Run → Type 0
None run = (k : ℕ) → Supports run k → ⊥

module _ (run : Run) (ran : Ran run) where
  -- the host is of the entries and the edition that were given

  well : is_well_formed (lent run) ≡ true
  unfolding started_of
  well =
      let e = sym ran.start.answer ∙ ap told_starting ran.hosts in
      (before_refusal (is_well_formed (lent run)) 16 (gives done) e).0

  few : run.count ≤ length run.entries
  few = let w = well_few (lent run) well in let a = ran.array in omega arith

  long : length (list_of run) ≡ run.count
  long = length-take-le run.count run.entries few

  begun : (hosted run.started.host ≡ list_of run) × (run.started.host.edition ≡ run.edition)
      × (is_well_formed run.started.host ≡ true)
  begun =
      let e = ap told_starting ran.hosts in
      start_hosts run.entries run.count run.edition run.started ran.start e ran.array

  entry_given : (k : ℕ) → k < run.count → entry_at (list_of run) k ≡ entry_at run.entries k
  entry_given k l = get_or-take run.count run.entries k blank_entry l

  -- an entry that supports the request

  supporter : (k : ℕ) → k < length (list_of run) → supports (asked_in run) (entry_at (list_of run) k) ≡ true
      → Supports run k
  supporter k l t =
      let m : k < run.count = rw long at l in
      let b = supports_by (asked_in run) (entry_at run.entries k) (rw (entry_given k m) at t) in
      ((m, b.0), b.1)

  by_supporter : (k : ℕ) → Supports run k
      → (k < length (list_of run)) × (supports (asked_in run) (entry_at (list_of run) k) ≡ true)
  by_supporter k s =
      let t = by_supports (asked_in run) (entry_at run.entries k) s.0.1 s.1 in
      (rw long s.0.0, rw (entry_given k s.0.0) t)

  some : (k : ℕ) → Supports run k → is_supported run ≡ true
  some k s = let b = by_supporter k s in any_some (supports (asked_in run)) (list_of run) k b.0 b.1

  some_back : is_supported run ≡ true → (k : ℕ) × Supports run k
  some_back t =
      let p = some_any (supports (asked_in run)) (list_of run) t in
      (p.0, supporter p.0 p.1 p.2)

  none : None run → is_supported run ≡ false
  none n =
      by_test (is_supported run)
      (λ t. let p = some_back t in absurd (n p.0 p.1))
      (λ t. t)

  none_back : is_supported run ≡ false → None run
  none_back t k s = true_false (sym (some k s) ∙ t)

  -- what the call answered is what is told

  answer_told : (reply : Reply) (a : Requesting) (ps : List ℕ) (frame : Frame) → told_requesting a ps frame ≡ gives reply
      → told_in run ≡ gives reply → run.answered.answer ≡ a
  answer_told reply a ps frame e t =
      told_requesting_same run.answered.answer a (listed run.answered.positions) ps _ frame
      (ran.request.answer ∙ t ∙ sym e)

  positions_told : (t : Told Reply) → told_in run ≡ t → run.answered.positions ≡ filled (supported_in t)
  positions_told t e = ran.request.positions ∙ ap (λ (x : Told Reply). filled (supported_in x)) e

  id_told : (t : Told Reply) → told_in run ≡ t → run.answered.id ≡ (sent_in t).id
  id_told t e = ran.request.sent_id ∙ ap (λ (x : Told Reply). (sent_in x).id) e

  bytes_told : (t : Told Reply) → told_in run ≡ t → run.answered.bytes ≡ (sent_in t).bytes
  bytes_told t e = ran.request.sent_bytes ∙ ap (λ (x : Told Reply). (sent_in x).bytes) e

  -- a request that is heard is answered by what its status comes to
  heard_status : (address : ℕ) → Hears run address → told_in run ≡ gives (status_of (asked_in run) (list_of run) address)
  unfolding address_held
  heard_status address k =
      let host = run.started.host in
      let parts = parts_of run.id in
      let own = is_ours_lem (asked_in run) address k.ours in
      let first = lowest_wins run.id run.bytes host run.claim in
      let handed = first.fine parts k.claim k.frame begun.2 in
      requested_given run.id run.bytes host run.claim parts run.bytes handed refl
      ∙ rw (begun.0, begun.1)
      (answer_reply run.edition parts run.bytes (list_of run) run.claim (asked_in run) k.request refl k.dgn
      ∙ reply_held (asked_in run) (list_of run) run.claim (held address) (sym k.holds) address own k.status refl)

  -- the three answers of a request that is heard

  reports : (address : ℕ) → Hears run address → is_supported run ≡ true → Reports run (Supports run)
  reports address k n =
      let ps = positions_where (supports (asked_in run)) (list_of run) in
      let t = heard_status address k ∙ ap gives (status_supported (asked_in run) (list_of run) address n) in
      let l : listed run.answered.positions ≡ ps = ap listed (positions_told _ t) ∙ Picks.listed_filled ps in
      record {
        answer = answer_told (supported ps) (Ok Supported) ps no_frame refl t;
        exactly = λ j.
            let x = positions_exact (supports (asked_in run)) (list_of run) j in
            ((λ s. let y = x.0 (rw l at s) in supporter j y.0 y.1), (λ s. rw l (x.1 (by_supporter j s))));
        rise = rw l (positions_rise (supports (asked_in run)) (list_of run));
        no_nak = (id_told _ t, bytes_told _ t);
      }

  naks : (address : ℕ) → Hears run address → is_supported run ≡ false → (destination run ≡ everyone → ⊥)
      → (requester run ≡ no_address → ⊥)
      → SendsNak run address (instance_asked run.edition run.bytes)
  unfolding acknowledgment_bytes
  naks address k n d q =
      let reply = nak_to (asked_in run) in
      let frame = acknowledgment_frame address reply in
      let t = heard_status address k ∙ ap gives (status_nak (asked_in run) (list_of run) address n d q) in
      let low = held_low run.claim address k.claim k.holds in
      record {
        answer = answer_told (nak frame) (Ok SendNak) [] frame refl t;
        identifier = rw (id_told _ t, bytes_told _ t) (acknowledgment_checked address reply low (source_low run.id));
        data_bytes = bytes_told _ t;
        no_positions = positions_told _ t;
      }

  quiet_to_all : (address : ℕ) → Hears run address → is_supported run ≡ false → destination run ≡ everyone
      → run.answered.answer ≡ Ok Unsupported
  quiet_to_all address k n d =
      answer_told unsupported (Ok Unsupported) [] no_frame refl
      (heard_status address k ∙ ap gives (status_global (asked_in run) (list_of run) address n d))

  quiet_to_nobody : (address : ℕ) → Hears run address → is_supported run ≡ false → (destination run ≡ everyone → ⊥)
      → requester run ≡ no_address → run.answered.answer ≡ Ok Unsupported
  quiet_to_nobody address k n d q =
      answer_told unsupported (Ok Unsupported) [] no_frame refl
      (heard_status address k ∙ ap gives (status_nobody (asked_in run) (list_of run) address n d q))

  quiet : (address : ℕ) → Hears run address → is_supported run ≡ false
      → (destination run ≡ everyone) ⊎ (requester run ≡ no_address) → run.answered.answer ≡ Ok Unsupported
  quiet address k n (inl d) = quiet_to_all address k n d
  quiet address k n (inr q) =
      by_test (destination run =? everyone)
      (λ t. quiet_to_all address k n (eqb-true (destination run) everyone t))
      (λ t. quiet_to_nobody address k n (eqb-false (destination run) everyone t) q)

  -- and the other way round: how an answer came about

  abbrev frame_of : Frame
  frame_of = record { id = run.answered.id; bytes = run.answered.bytes }

  tells : (a : Requesting) (reply : Reply) → run.answered.answer ≡ a
      → told_requesting a (listed run.answered.positions) frame_of ≡ gives reply → told_in run ≡ gives reply
  tells a reply e g =
      let w = ap (λ (x : Requesting). told_requesting x (listed run.answered.positions) frame_of) e in
      sym ran.request.answer ∙ w ∙ g

  hears : (reply : Reply) → (reply ≡ Requests.nothing_to_do → ⊥)
      → Answered run.id run.bytes run.started.host run.claim reply
      → (address : ℕ) → Heard (asked_in run) run.claim address → Hears run address
  hears reply n a address k =
      record {
        claim = a.sound;
        holds = k.holds;
        frame = a.frame;
        request = (a.asks n).0;
        dgn = (a.asks n).1;
        status = k.status;
        ours = by_test (destination run =? everyone)
            (λ t. inr (eqb-true (destination run) everyone t))
            (λ t. inl (our_address (asked_in run) address k.ours (eqb-false (destination run) everyone t)));
      }

  came_by : (reply : Reply) → (reply ≡ Requests.nothing_to_do → ⊥) → told_in run ≡ gives reply
      → Came (asked_in run) (list_of run) run.claim reply
      × ((address : ℕ) → Heard (asked_in run) run.claim address → Hears run address)
  came_by reply n t =
      let a = answered run.id run.bytes run.started.host run.claim reply t in
      (rw (begun.0, begun.1) at a.came_about, hears reply n a)

  reported_run : run.answered.answer ≡ Ok Supported → (address : ℕ) × Hears run address × (is_supported run ≡ true)
  reported_run e =
      let reply = supported (listed run.answered.positions) in
      let c = came_by reply supported_is_other (tells (Ok Supported) reply e refl) in
      reported_by (asked_in run) (list_of run) run.claim reply _ refl c.0
      (λ address k n p. (address, c.1 address k, n))

  denied_run : run.answered.answer ≡ Ok SendNak
      → (address : ℕ) × Hears run address × (is_supported run ≡ false) × (destination run ≡ everyone → ⊥)
      × (requester run ≡ no_address → ⊥)
  denied_run e =
      let c = came_by (nak frame_of) nak_is_other (tells (Ok SendNak) (nak frame_of) e refl) in
      denied_by (asked_in run) (list_of run) run.claim (nak frame_of) frame_of refl c.0
      (λ address k n t q f. (address, c.1 address k, n, t, q))

  unanswered_run : run.answered.answer ≡ Ok Unsupported
      → (address : ℕ) × Hears run address × (is_supported run ≡ false)
      × ((destination run ≡ everyone) ⊎ (requester run ≡ no_address))
  unanswered_run e =
      let c = came_by unsupported unsupported_is_other (tells (Ok Unsupported) unsupported e refl) in
      unanswered_by (asked_in run) (list_of run) run.claim unsupported refl c.0
      (λ address k n w. (address, c.1 address k, n, w))

-- what the editions share

pub reports_exactly : the.ReportsExactly
reports_exactly run ran = (
  (λ e. let r = reported_run run ran e in (r.0, r.1, some_back run ran r.2)),
  (λ s. (reports run ran s.0 s.1 (some run ran s.2.0 s.2.1)).answer),
)

pub positions_exactly : the.PositionsExactly
positions_exactly run ran e = let r = reported_run run ran e in reports run ran r.0 r.1 r.2

-- an address that is held is not FFh, and is one

held_one : (run : Run) (address : ℕ) → Hears run address → destination run ≡ address → destination run ≡ everyone → ⊥
held_one run address k d e =
    let l = held_low run.claim address k.claim k.holds in
    omega arith

same_address : (run : Run) (a b : ℕ) → Hears run a → Hears run b → a ≡ b
same_address run a b k l = let e : held a ≡ held b = sym k.holds ∙ l.holds in cc

-- a request that is not to everyone is to us
directed : (run : Run) (address : ℕ) → Hears run address → (destination run ≡ everyone → ⊥) → destination run ≡ address
directed run address k n = go k.ours
  where
    go : (destination run ≡ address) ⊎ (destination run ≡ everyone) → destination run ≡ address
    go (inl e) = e
    go (inr e) = absurd (n e)

pub nak_exactly : the.NakExactly
nak_exactly run ran = (
  (λ e.
      let r = denied_run run ran e in
      (r.0, r.1, none_back run ran r.2, directed run r.0 r.1 r.3, r.4)),
  (λ s. (naks run ran s.0 s.1 (none run ran s.2) (held_one run s.0 s.1 s.3) s.4).answer),
)

pub nak_names : the.NakNames
nak_names run address ran k e =
    let r = denied_run run ran e in
    rw (same_address run address r.0 k r.1) (naks run ran r.0 r.1 r.2 r.3 r.4)

pub quiet_exactly : the.QuietExactly
quiet_exactly run ran = (
  (λ e. let r = unanswered_run run ran e in (r.0, r.1, none_back run ran r.2, r.3)),
  (λ s. quiet run ran s.0 s.1 (none run ran s.2) s.3),
)

pub global_no_nak : the.GlobalNoNak
global_no_nak run ran d e = (denied_run run ran e).3 d

pub nobody_no_nak : the.NobodyNoNak
nobody_no_nak run ran q e = (denied_run run ran e).4 q

-- edition two: the instance that is asked for is byte 3

instance_two : (run : Run) (instance : ℕ) → run.edition ≡ Two → byte_three run ≡ instance
    → instance_asked run.edition run.bytes ≡ instance
unfolding instance_asked
instance_two run instance t b = rw t b

-- the same entries support it under another name
reports_same : (run : Run) (who who' : ℕ → Type 0) → ((k : ℕ) → who k → who' k) → ((k : ℕ) → who' k → who k)
    → Reports run who → Reports run who'
reports_same run who who' f g r =
    record {
      answer = r.answer;
      exactly = λ k. ((λ s. f k ((r.exactly k).0 s)), (λ s. (r.exactly k).1 (g k s)));
      rise = r.rise;
      no_nak = r.no_nak;
    }

module _ (run : Run) (t : run.edition ≡ Two) where
  -- all instances
  all_supports : byte_three run ≡ 0xFF → (k : ℕ) → SupportsDgn run k → Supports run k
  all_supports b k s = (s, inl (instance_two run 0xFF t b))

  -- one instance

  one_supports : (instance : ℕ) → byte_three run ≡ instance → (k : ℕ) → SupportsAs instance run k → Supports run k
  one_supports instance b k s = (s.0, inr (s.1 ∙ sym (instance_two run instance t b)))

  supports_one : (instance : ℕ) → byte_three run ≡ instance → (instance ≡ 0xFF → ⊥) → (k : ℕ) → Supports run k
      → SupportsAs instance run k
  supports_one instance b n k (s, inl a) = absurd (n (sym (instance_two run instance t b) ∙ a))
  supports_one instance b n k (s, inr i) = (s, i ∙ instance_two run instance t b)

pub all_report : the.AllReport
all_report run address k ran t h b s =
    reports_same run (Supports run) (SupportsDgn run) (λ j x. x.0) (all_supports run t b)
    (reports run ran address h (some run ran k (all_supports run t b k s)))

pub all_nak : the.AllNak
all_nak run address ran t h b d q n =
    rw (instance_two run 0xFF t b) at
    (naks run ran address h (none run ran (λ k s. n k s.0)) (held_one run address h d) q)

pub all_nak_only : the.AllNakOnly
all_nak_only run ran t b e k s = none_back run ran (denied_run run ran e).2 k (all_supports run t b k s)

pub one_reports : the.OneReports
one_reports run address instance k ran t h b n s =
    let to = supports_one run t instance b n in
    let back = one_supports run t instance b in
    reports_same run (Supports run) (SupportsAs instance run) to back
    (reports run ran address h (some run ran k (back k s)))

pub one_nak : the.OneNak
one_nak run address instance ran t h b n d q f =
    rw (instance_two run instance t b) at
    (let no = none run ran (λ k s. f k (supports_one run t instance b n k s)) in
    naks run ran address h no (held_one run address h d) q)

pub one_nak_only : the.OneNakOnly
one_nak_only run instance ran t b e k s =
    none_back run ran (denied_run run ran e).2 k (one_supports run t instance b k s)

-- every hosted instance is 1 to 250

entry_instance : (e : Entry) → is_entry e ≡ true → (1 ≤ e.instance) × (e.instance ≤ 250)
unfolding is_entry
entry_instance e w =
    let a = both_true (is_hosted_dgn e.command) _ w in
    let b = both_true (is_hosted_dgn e.status) _ a.1 in
    let d = both_true (1 ≤? e.instance) (e.instance ≤? 250) b.1 in
    (leb-true 1 e.instance d.0, leb-true e.instance 250 d.1)

hosted_instance : (run : Run) → Ran run → (k : ℕ) → k < run.count
    → (1 ≤ (entry_at run.entries k).instance) × ((entry_at run.entries k).instance ≤ 250)
unfolding is_well_formed
hosted_instance run ran k l =
    let a = both_true (run.count ≤? most_entries) _ (well run ran) in
    let b = both_true (every is_entry (list_of run)) (no_two is_same_pair (list_of run)) a.1 in
    let m : k < length (list_of run) = rw (long run ran) l in
    rw (entry_given run ran k l) at
    (entry_instance (entry_at (list_of run) k) (every_at is_entry (list_of run) k blank_entry m b.0))

pub nobodys_instance : the.NobodysInstance
nobodys_instance run address instance ran t h b w d q =
    one_nak run address instance ran t h b (not_all w) d q
    (λ k s.
    let i = hosted_instance run ran k s.0.0 in
    outside w s.1 i.0 i.1)
  where
    not_all : (instance ≡ 0) ⊎ ((250 < instance) × (instance < 255)) → instance ≡ 0xFF → ⊥
    not_all (inl e) f = omega arith
    not_all (inr e) f = let u = e.1 in omega arith

    outside : {i : ℕ} → (instance ≡ 0) ⊎ ((250 < instance) × (instance < 255)) → i ≡ instance → 1 ≤ i → i ≤ 250 → ⊥
    outside (inl e) f l m = omega arith
    outside (inr e) f l m = let u = e.0 in omega arith

-- between the editions

all_asked : (edition : Edition) (bytes : List ℕ) → get_or bytes 3 0 ≡ 0xFF → instance_asked edition bytes ≡ 0xFF
unfolding instance_asked
all_asked One bytes e = refl
all_asked Two bytes e = e

pub editions_agree : the.EditionsAgree
editions_agree id bytes h h' c r r' p q n e b =
    let i = all_asked h.edition bytes b ∙ sym (all_asked h'.edition bytes b) in
    let t = request_same id bytes bytes h h' c refl n e refl i in
    request_only id bytes h c r r' p (rw (sym t) at q)

pub one_ignores_byte_three : the.OneIgnoresByteThree
unfolding instance_asked
one_ignores_byte_three id bytes bytes' h c r r' p q o l e =
    let n : instance_asked h.edition bytes ≡ instance_asked h.edition bytes' = rw o in
    let t = request_same id bytes bytes' h h c l refl refl (dgn_of_three bytes bytes' e) n in
    request_only id bytes h c r r' p (rw (sym t) at q)

-- a request for EE00h is answered by its destination alone

claim_replied : (asked : Asked) (es : List Entry) (c : Claim) → asked.dgn ≡ address_claimed
    → reply_of asked es c
    ≡ (if not (is_ours asked (stand_of c)) then gives Requests.nothing_to_do else gives (claims (claim_frame c)))
unfolding reply_of
claim_replied asked es c d = rw (eq-eqb asked.dgn address_claimed d)

ours_same : (asked asked' : Asked) (stand : Stand) → asked.destination ≡ asked'.destination
    → asked.dgn ≡ asked'.dgn → is_ours asked stand ≡ is_ours asked' stand
unfolding is_ours is_our_address
ours_same asked asked' (held address) t d = rw t
ours_same asked asked' (claiming address) t d = rw (t, d)
ours_same asked asked' silent t d = rw t

claim_answered : (edition edition' : Edition) (parts : Parts) (bytes bytes' : List ℕ) (es es' : List Entry) (c : Claim)
    → requested_dgn bytes ≡ requested_dgn bytes' → requested_dgn bytes ≡ address_claimed
    → answer_of edition parts bytes es c ≡ answer_of edition' parts bytes' es' c
unfolding answer_of
claim_answered edition edition' parts bytes bytes' es es' c d e =
    let asked = asked_of edition parts bytes in
    let asked' = asked_of edition' parts bytes' in
    let o = ours_same asked asked' (stand_of c) refl d in
    let r : reply_of asked es c ≡ reply_of asked' es' c =
    claim_replied asked es c e ∙ rw o (sym (claim_replied asked' es' c (sym d ∙ e))) in
    rw (r, d)

claim_requested : (id : ℕ) (bytes bytes' : List ℕ) (h h' : Host) (c : Claim) → h.count ≡ h'.count
    → hosted h ≡ hosted h' → length bytes ≡ length bytes' → take 3 bytes ≡ take 3 bytes'
    → requested_dgn bytes ≡ address_claimed → requested_of id bytes h c ≡ requested_of id bytes' h' c
unfolding handed_in requested_of
claim_requested id bytes bytes' h h' c n e l b d =
    let w = well_same h h' n e in
    let t : handed_in id bytes h c ≡ handed_in id bytes' h' c = rw (l, w) in
    rw t (go (handed_in id bytes' h' c))
  where
    go : (t : Told Parts)
        → (given t then λ p. answer_of h.edition p bytes (hosted h) c)
        ≡ (given t then λ p. answer_of h'.edition p bytes' (hosted h') c)
    go (refused n) = refl
    go (gives p) =
        let f = dgn_of_three bytes bytes' b in
        claim_answered h.edition h'.edition p bytes bytes' (hosted h) (hosted h') c f d

pub claim_for_any_instance : the.ClaimForAnyInstance
claim_for_any_instance id bytes bytes' h h' c r r' p q n e l b d =
    request_only id bytes h c r r' p (rw (sym (claim_requested id bytes bytes' h h' c n e l b d)) at q)

-- a command

route_same : (id : ℕ) (bytes : List ℕ) (h h' : Host) (c : Claim) → h.count ≡ h'.count → hosted h ≡ hosted h'
    → routed_of id bytes h c ≡ routed_of id bytes h' c
unfolding handed_in routed_of
route_same id bytes h h' c n e =
    let w = well_same h h' n e in
    let t : handed_in id bytes h c ≡ handed_in id bytes h' c = rw w in
    λ i. given t i then λ p. route_of p.dgn (get_or bytes 0 0) (e i) (stand_of c)

pub commands_have_no_edition : the.CommandsHaveNoEdition
commands_have_no_edition id bytes h h' c r r' p q n e =
    route_only id bytes h c r r' p (rw (sym (route_same id bytes h h' c n e)) at q)

-- edition one, as it was

and_true : (a : Bool) → a and true ≡ a
and_true true = refl
and_true false = refl

-- an entry supports a request of edition one by its status alone
status_alone : (parts : Parts) (bytes : List ℕ)
    → supports (asked_of One parts bytes) ≡ (λ (e : Entry). has_status (requested_dgn bytes) e)
unfolding supports instance_asked
status_alone parts bytes = λ i e. and_true (e.status =? requested_dgn bytes) i

former_status_lem : (parts : Parts) (bytes : List ℕ) (es : List Entry) (address : ℕ)
    → status_of (asked_of One parts bytes) es address ≡ former_status parts bytes es address
unfolding status_of former_status instance_asked
former_status_lem parts bytes es address = rw (status_alone parts bytes)

former_held : (parts : Parts) (bytes : List ℕ) (es : List Entry) (t : Told ℕ)
    → (given t then λ address. gives (status_of (asked_of One parts bytes) es address))
    ≡ (given t then λ address. gives (former_status parts bytes es address))
former_held parts bytes es (refused n) = refl
former_held parts bytes es (gives address) = ap gives (former_status_lem parts bytes es address)

former_requested : (id : ℕ) (bytes : List ℕ) (h : Host) (c : Claim) → h.edition ≡ One
    → requested_of id bytes h c ≡ formerly id bytes h c
unfolding requested_of answer_of reply_of formerly
former_requested id bytes h c o =
    ap (λ (x : Edition). given handed_in id bytes h c then λ p. answer_of x p bytes (hosted h) c) o
    ∙ go (handed_in id bytes h c)
  where
    go : (t : Told Parts)
        → (given t then λ p. answer_of One p bytes (hosted h) c)
        ≡ (given t then λ p.
        if not (catalogue_form p.dgn =? request_dgn) then gives Requests.nothing_to_do else
        if greatest_dgn <? requested_dgn bytes then refused 17 else
        if not (is_ours (asked_of One p bytes) (stand_of c)) then gives Requests.nothing_to_do else
        if requested_dgn bytes =? address_claimed then gives (claims (claim_frame c)) else
        given address_held (stand_of c) then λ address.
        gives (former_status p bytes (hosted h) address))
    go (refused n) = refl
    go (gives p) = rw (former_held p bytes (hosted h) (address_held (stand_of c)))

pub one_as_before : the.OneAsBefore
one_as_before id bytes h c r p o = rw (former_requested id bytes h c o) at p

-- 001's example

pub heat_pump_example : the.HeatPumpExample
unfolding requested_of answer_of reply_of status_of handed_in is_well_formed is_entry is_hosted_dgn is_same_pair is_ours is_our_address supports instance_asked requested_dgn dgn_at address_held positions_where acknowledgment_id acknowledgment_bytes checked_of source_allowed identifier_of priority_of reserved_of dgn_of source_of catalogue_form destination_of is_addressed number_of bytes_of
heat_pump_example c s e =
    let b = both_true (keeps_rules c) (holds_list c) s in
    record {
      second = rw (b.0, b.1, e);
      first = rw (b.0, b.1, e);
      all = rw (b.0, b.1, e);
      edition_one = rw (b.0, b.1, e);
    }
