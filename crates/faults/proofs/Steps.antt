-- The steps by which each call of a sender comes to its answer, answers with no frame beside them, a place that is
-- read, and the pass that looks for the greatest age.
-- Assumes nothing.
use Rattle.std.specs.Prelude.{Option, Some, None, Ok, Err}
use Rattle.std.specs.Prelude.{if◌then◌else◌}
use mathlib.Core.Path.{◌≡◌, refl, sym, ap, ◌∙◌}
use mathlib.Core.Bool.{Bool, true, false}
use mathlib.Core.List.{List, [], ◌∷◌}
use Prim.Native.Nat.{ℕ, zero, suc, ◌+◌, ◌≤◌, ◌<◌, max}
use native.Mathlib.Nat.{le_of_suc-le-suc, not-suc-le-zero}
use native.Mathlib.Numerals.{add-one}
use native.Mathlib.Omega.{arith}
use borrow.Author.Tests.{ltb-true, ltb-false}
use lib.ListN.{length, drop, get_or, drop_of_length-le}
use lib.Seq.{drop-cons}
use Rattle.words.specs.Words.{given◌then◌, ◌<?◌, Told, refused, gives}
use Rattle.words.specs.Lists.{first}
use Rattle.frame.specs.Frame.{checked_of}
use Rattle.frame.specs.Standard.{no_frame}
use Rattle.frame.specs.Promises.{bytes_if}
use Rattle.frame.specs.declared.Parts.{Parts}
use Rattle.words.proofs.Words.{by_test, both_true}
use Rattle.words.proofs.Lists.{found_at as found_at_lem}
use Rattle.claim.specs.Claim as Claim
use Rattle.claim.specs.Claim.{Stand, claiming, silent}
use Rattle.claim.specs.Promises.{told_standing, Stands}
use Rattle.claim.specs.declared.Claim as Claims
use Rattle.claim.specs.Promises.{Standing}
use Rattle.command.specs.Handed.{address_held}
use Rattle.command.specs.Positions.{filled}
use Rattle.command.specs.Requests as Host
use Rattle.command.specs.Promises as HostPromises
use Rattle.command.specs.declared.Host as Hosts
use Rattle.faults.specs.Fault.{no_fault, is_empty, is_due}
use Rattle.faults.specs.Sender.{dm_rv_id, dm_rv_frame, fault_places, keeps_rules, standing, added_for, added_of}
use Rattle.faults.specs.Sender.{is_active_at, longer, longest_due, is_chosen, chosen, passed_all, Outcome, nothing_due}
use Rattle.faults.specs.Sender.{held_step, stepped_of, after_step}
use Rattle.faults.specs.Requests.{Asks, other, faults_of, meant_by, reply_bytes, Reply, nothing_to_do, sends, answer_at}
use Rattle.faults.specs.Requests.{heard_of, requested_of}
use Rattle.faults.specs.Promises as Promises
use Rattle.faults.specs.Promises.{told_stepping, sent_in, SteppedBy, told_requesting, replied_in, RequestedBy}
use Rattle.faults.specs.Promises.{Request, host_told, Stepping, Requesting, number_of_not_heard}
use Rattle.faults.specs.Private.{Meant, told_meant, sent_at, bare_stepped, bare_requested, answered_by}
use Rattle.faults.specs.Private.{without_host}
use Rattle.faults.specs.declared.Fault.{Fault}
use Rattle.faults.specs.declared.Sender.{Sender}
use Rattle.faults.specs.declared.Stepped.{Stepped}
use Rattle.faults.specs.declared.Response.TheVariants.{NothingToDo}
use Rattle.faults.specs.declared.NotHeard.{NotHeard}
use Rattle.faults.specs.declared.Requested.{Requested}
use Rattle.faults.specs.declared.Replied.{Replied}

-- ---- A place that is read.

-- what code reads outside of an array of faults
abbrev pub outside : Fault
outside = record { bytes = []; period = 0; until_due = 0; age = 0 }

-- a place that is there is read the same, whatever would be read outside
pub same_at : {A : Type 0} (l : List A) (i : ℕ) (d e : A) → i < length l → get_or l i d ≡ get_or l i e
same_at [] i d e h = absurd (not-suc-le-zero h)
same_at (x ∷ l) zero d e h = refl
same_at (x ∷ l) (suc i) d e h = same_at l i d e (le_of_suc-le-suc h)

-- ---- The pass that looks for the greatest age.

-- what a fault's age counts for
abbrev counted : Fault → ℕ
counted f = if is_due f then f.age else 0

-- the longer is the greater of the two
longer_greater : (f : Fault) (age : ℕ) → longer f age ≡ max age (counted f)
unfolding longer
longer_greater f age =
    by_test (is_due f)
    (λ e. rw e (by_test (age <? f.age) (λ t. rw t (omega (arith, ltb-true))) (λ t. rw t (omega (arith, ltb-false)))))
    (λ e. rw e (omega arith))

-- from the left or from the right: a fault that the pass has met counts before, or among those that are left
pub longest_pass : (fs : List Fault) (i longest : ℕ) (d : Fault) → i < length fs
    → longest_due fs ≡ max longest (longest_due (drop i fs))
    → longest_due fs ≡ max (longer (get_or fs i d) longest) (longest_due (drop (i + 1) fs))
unfolding longest_due
longest_pass fs i longest d h e =
    let f = get_or fs i d in
    let rest = longest_due (drop (suc i) fs) in
    e ∙ rw (add-one, drop-cons fs i d h, longer_greater f rest, longer_greater f longest) (omega arith)

pub longest_end : (fs : List Fault) (i longest : ℕ) → length fs ≤ i
    → longest_due fs ≡ max longest (longest_due (drop i fs)) → longest ≡ longest_due fs
unfolding longest_due
longest_end fs i longest h e = sym (e ∙ rw (drop_of_length-le fs h) (omega arith))

-- ---- What a search finds.

-- a place that is found is there
pub found_below : (f : Fault → Bool) (fs : List Fault) (at : ℕ) → length fs ≡ fault_places → first f fs ≡ Some at
    → at < fault_places
found_below f fs at n e = let b = (found_at_lem at f fs no_fault e).below in omega arith

pub chosen_below : (fs : List Fault) (at : ℕ) → length fs ≡ fault_places → chosen fs ≡ Some at → at < fault_places
unfolding chosen
chosen_below fs at n e = found_below (is_chosen (longest_due fs)) fs at n e

pub active_below : (at : ℕ) (s : Sender) → is_active_at at s ≡ true → at < fault_places
unfolding is_active_at
active_below at s e = ltb-true at fault_places (both_true (at <? fault_places) _ e).0

-- ---- A fault added.

module _ (period : ℕ) (s : Sender) where
  pub added_broken : keeps_rules s ≡ false → added_of period s ≡ refused 2
  unfolding added_of
  added_broken k = rw k

  pub added_found : (found : Option ℕ) → keeps_rules s ≡ true → first is_empty s.faults ≡ found
      → added_of period s ≡ added_for period found
  unfolding added_of
  added_found found k e = rw (k, e)

-- ---- A step.

-- an answer with no frame beside it
pub bare_stepped_lem : (t : Told Outcome) (a : Stepping) (s later : Sender) (r : Stepped) → sent_in t ≡ no_frame
    → told_stepping a no_frame ≡ t → later ≡ after_step t s → r ≡ bare_stepped later a → SteppedBy t s r
bare_stepped_lem t a s later r n e k h =
    record {
      answer = ap (λ (x : Stepped). told_stepping x.answer (record { id = x.id; bytes = x.bytes })) h ∙ e;
      state = ap (λ (x : Stepped). x.sender) h ∙ k;
      sent_id = ap (λ (x : Stepped). x.id) h ∙ sym (rw n);
      sent_bytes = ap (λ (x : Stepped). x.bytes) h ∙ sym (rw n);
    }

-- the same answer, told otherwise
pub stepped_as : {t u : Told Outcome} {s : Sender} {r : Stepped} → t ≡ u → SteppedBy u s r → SteppedBy t s r
stepped_as e p = rw e p

module _ (address : ℕ) (s : Sender) where
  pub step_sends : (at : ℕ) (r : Stepped) → chosen (passed_all s).faults ≡ Some at → r ≡ sent_at at address (passed_all s)
      → SteppedBy (gives (held_step address s)) s r
  unfolding held_step
  step_sends at r e h =
      rw e (
      record {
        answer = ap (λ (x : Stepped). told_stepping x.answer (record { id = x.id; bytes = x.bytes })) h;
        state = ap (λ (x : Stepped). x.sender) h;
        sent_id = ap (λ (x : Stepped). x.id) h;
        sent_bytes = ap (λ (x : Stepped). x.bytes) h;
      }
      )

  pub step_quiet : (r : Stepped) → chosen (passed_all s).faults ≡ None → r ≡ bare_stepped (passed_all s) (Ok None)
      → SteppedBy (gives (held_step address s)) s r
  unfolding held_step
  step_quiet r e h = rw e (bare_stepped_lem (gives nothing_due) (Ok None) s (passed_all s) r refl refl refl h)

-- what our claim's standing tells
pub stands_told : (c : Claims.Claim) (r : Standing) → Stands c r → standing c ≡ told_standing r
unfolding standing
stands_told c r h = sym h.answer

module _ (c : Claims.Claim) (s : Sender) where
  pub stepped_broken : keeps_rules s ≡ false → stepped_of c s ≡ refused 2
  unfolding stepped_of
  stepped_broken k = rw k

  pub stepped_refused : (n : ℕ) → keeps_rules s ≡ true → standing c ≡ refused n → stepped_of c s ≡ refused n
  unfolding stepped_of
  stepped_refused n k e = rw (k, e)

  pub stepped_stands : (stand : Stand) → keeps_rules s ≡ true → standing c ≡ gives stand
      → stepped_of c s ≡ (given address_held stand then λ address. gives (held_step address s))
  unfolding stepped_of
  stepped_stands stand k e = rw (k, e)

-- ---- A request.

-- what is told by an answer and the frame beside it
abbrev pub told_by : Requested → Told Reply
told_by r = told_requesting r.answer (record { id = r.id; bytes = r.bytes })

pub bare_requested_lem : (t : Told Reply) (a : Requesting) (s : Sender) (r : Requested) → replied_in t ≡ no_frame
    → told_requesting a no_frame ≡ t → r ≡ bare_requested s a → RequestedBy t s r
bare_requested_lem t a s r n e h =
    record {
      answer = ap told_by h ∙ e;
      state = ap (λ (x : Requested). x.sender) h;
      sent_id = ap (λ (x : Requested). x.id) h ∙ sym (rw n);
      sent_bytes = ap (λ (x : Requested). x.bytes) h ∙ sym (rw n);
    }

pub requested_as : {t u : Told Reply} {s : Sender} {r : Requested} → t ≡ u → RequestedBy u s r → RequestedBy t s r
requested_as e p = rw e p

-- what is answered to what was meant
abbrev pub answered : Stand → Sender → Told Asks → Told Reply
answered stand s meant = given meant then λ asks. answer_at stand asks s

module _ (stand : Stand) (s : Sender) (meant : Meant) where
  pub answered_other : meant ≡ Ok None → answered stand s (told_meant meant) ≡ gives nothing_to_do
  unfolding answer_at
  answered_other e = rw e

  pub answered_refused : (why : NotHeard) → meant ≡ Err why → answered stand s (told_meant meant) ≡ refused (number_of_not_heard why)
  answered_refused why e = rw e

  pub answered_faults : (destination : ℕ) → meant ≡ Ok (Some destination)
      → answered stand s (told_meant meant) ≡ answer_at stand (faults_of destination) s
  answered_faults destination e = rw e

-- a claim that is not held yet is answered as none is
answered_unheld : (address : ℕ) (s : Sender) (meant : Told Asks)
    → answered (claiming address) s meant ≡ answered silent s meant
unfolding answer_at
answered_unheld address s (refused n) = refl
answered_unheld address s (gives other) = refl
answered_unheld address s (gives (faults_of destination)) = refl

module _ (dgn : ℕ) (bytes : List ℕ) (c : Claims.Claim) (s : Sender) where
  pub heard_refused : (n : ℕ) → standing c ≡ refused n → heard_of dgn bytes c s ≡ refused n
  unfolding heard_of
  heard_refused n e = rw e

  pub heard_stands : (stand : Stand) (meant : Told Asks) → standing c ≡ gives stand → meant ≡ meant_by dgn bytes
      → heard_of dgn bytes c s ≡ answered stand s meant
  unfolding heard_of
  heard_stands stand meant e m = rw (e, m)

  pub heard_unheld : (address : ℕ) (meant : Told Asks) → standing c ≡ gives (claiming address)
      → meant ≡ meant_by dgn bytes → heard_of dgn bytes c s ≡ answered silent s meant
  heard_unheld address meant e m = heard_stands (claiming address) meant e m ∙ answered_unheld address s meant

module _ (id : ℕ) (bytes : List ℕ) (c : Claims.Claim) (s : Sender) where
  pub requested_broken : keeps_rules s ≡ false → requested_of id bytes c s ≡ refused 2
  unfolding requested_of
  requested_broken k = rw k

  pub requested_ill : keeps_rules s ≡ true → Claim.keeps_rules c ≡ false → requested_of id bytes c s ≡ refused 2
  unfolding requested_of
  requested_ill k q = rw (k, q)

  pub requested_bad : (n : ℕ) → keeps_rules s ≡ true → Claim.keeps_rules c ≡ true
      → checked_of id (length bytes) ≡ refused n → requested_of id bytes c s ≡ refused n
  unfolding requested_of
  requested_bad n k q e = rw (k, q, e)

  pub requested_sound : (parts : Parts) (eight : List ℕ) → keeps_rules s ≡ true → Claim.keeps_rules c ≡ true
      → checked_of id (length bytes) ≡ gives parts → eight ≡ bytes_if (checked_of id (length bytes)) bytes
      → requested_of id bytes c s ≡ heard_of parts.dgn eight c s
  unfolding requested_of
  requested_sound parts eight k q e d = rw (k, q, d, e)

-- ---- A request to a node that has a host too.

pub reply_to_host : {id : ℕ} {bytes : List ℕ} {h : Hosts.Host} {c : Claims.Claim} {s : Sender} (r : Replied)
    → Request id bytes c s r.faults → r.faults.answer ≡ Ok NothingToDo → HostPromises.Request id bytes h c r.host
    → Promises.Reply id bytes h c s r
reply_to_host r f a h = record { faults = f; host = rw (sym f.answer, a) h }

-- what the sender says leaves the host nothing to do
abbrev pub LeavesNothing : Requested → Type 0
LeavesNothing r = (hosted : Told Host.Reply) → host_told (told_by r) hosted ≡ gives Host.nothing_to_do

pub reply_alone : {id : ℕ} {bytes : List ℕ} {h : Hosts.Host} {c : Claims.Claim} {s : Sender} (faults : Requested)
    (r : Replied) → Request id bytes c s faults → LeavesNothing faults → r ≡ without_host faults
    → Promises.Reply id bytes h c s r
unfolding filled
reply_alone faults r f a e =
    rw e (
    record {
      faults = f;
      host = rw (sym f.answer, a) (record { answer = refl; positions = refl; sent_id = refl; sent_bytes = refl });
    }
    )

-- an answer with the DM_RV that is sent
pub sends_answered : (address : ℕ) (s : Sender) (id : ℕ) (bytes : List ℕ) (r : Requested) → id ≡ dm_rv_id address
    → bytes ≡ reply_bytes s → r ≡ answered_by s id bytes
    → RequestedBy (gives (sends (dm_rv_frame address (reply_bytes s)))) s r
sends_answered address s id bytes r i b e =
    rw e (record { answer = rw (i, b); state = refl; sent_id = i; sent_bytes = b })
