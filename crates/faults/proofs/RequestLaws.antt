-- The statements of specs/Laws.antt on requests, and on a host and a sender together, proved.
-- Assumes nothing.
use Rattle.std.specs.Prelude.{Option, Some, None}
use Rattle.std.specs.Prelude.{if◌then◌else◌}
use mathlib.Core.Path.{◌≡◌, refl, sym, ap, ◌∙◌}
use mathlib.Core.Bool.{Bool, true, false, not}
use mathlib.Core.List.{List}
use Prim.Native.Nat.{ℕ, ◌<◌}
use native.Mathlib.Omega.{arith}
use borrow.Author.Tests.{ltb-true, ltb-false, eq-eqb, lt-ltb, not-false}
use lib.ListN.{length}
use Rattle.words.specs.Words.{given◌then◌, ◌=?◌, ◌<?◌, ◌and◌, ◌or◌, Told, refused, gives}
use Rattle.words.specs.Lists.{first}
use Rattle.frame.specs.Bytes.{number_of}
use Rattle.frame.specs.Identifier.{priority_of, reserved_of, dgn_of, source_of, identifier_of, is_addressed}
use Rattle.frame.specs.Identifier.{catalogue_form, destination_of, greatest_dgn}
use Rattle.frame.specs.Frame.{checked_of, source_allowed}
use Rattle.frame.specs.Standard.{Frame, everyone, request_dgn, address_claimed, dgn_at}
use Rattle.frame.specs.Laws.{told_but_priority}
use Rattle.frame.specs.declared.Parts.{Parts}
use Rattle.words.proofs.Words.{by_test, both_true, true_false, refused_gives, gives_same, past_refusal}
use Rattle.frame.proofs.Laws as frame_laws
use Rattle.frame.proofs.Sent.{sent_checked}
use Rattle.words.proofs.Lists.{found_at, found_nowhere}
use Rattle.claim.specs.Candidates.{is_well_formed as is_well_formed_list, padded}
use Rattle.claim.specs.Claim.{keeps_rules as claim_keeps_rules, Stand, held, claiming, silent, stand_of, holds_list}
use Rattle.claim.specs.Promises.{sound_of}
use Rattle.claim.specs.declared.Claim.{Claim}
use Rattle.command.specs.Handed.{address_held, handed_in}
use Rattle.command.specs.Hosted.{hosted, is_well_formed}
use Rattle.command.specs.Requests as Hosting
use Rattle.command.specs.Requests.{instance_asked, requested_dgn, asked_of, is_ours, is_our_address, supports, status_of}
use Rattle.command.specs.Requests.{reply_of, answer_of, requested_of as host_requested_of}
use Rattle.command.specs.declared.Host.{Host}
use Rattle.faults.specs.Rows.{dm_rv}
use Rattle.faults.specs.Fault.{is_allowed, no_fault, is_zero, is_active, place_keeps_rules, passed}
use Rattle.faults.specs.Sender.{dm_rv_priority, dm_rv_id, keeps_rules, standing, fault_at, added_at, added_of, longer}
use Rattle.faults.specs.Sender.{longest_due, chosen, held_step, stepped_of}
use Rattle.faults.specs.Requests.{faults_of, meant_by, is_for_us, reply_from, reply_bytes, Reply}
use Rattle.faults.specs.Requests.{nothing_to_do, sends, answer_at, heard_of, requested_of}
use Rattle.faults.specs.Promises.{host_told}
use Rattle.faults.specs.Laws as the
use Rattle.faults.specs.declared.Sender.{Sender}
use Rattle.faults.proofs.Laws.{standing_sound, standing_ill}

-- what a frame asks for

meant_large : (dgn : ℕ) (bytes : List ℕ) → catalogue_form dgn ≡ request_dgn → greatest_dgn < dgn_at 0 bytes
    → meant_by dgn bytes ≡ refused 17
unfolding meant_by
meant_large dgn bytes e h = rw (eq-eqb (catalogue_form dgn) request_dgn e, lt-ltb greatest_dgn (dgn_at 0 bytes) h)

pub meant_faults : (dgn : ℕ) (bytes : List ℕ) → (catalogue_form dgn =? request_dgn) ≡ true → dgn_at 0 bytes ≡ dm_rv
    → meant_by dgn bytes ≡ gives (faults_of (destination_of dgn))
unfolding meant_by
meant_faults dgn bytes e k = rw (e, k)

pub only_dgn_read : the.OnlyDgnRead
unfolding meant_by
only_dgn_read dgn bytes bytes' e = rw e

-- the lowest number wins

unheld : (stand : Stand) (s : Sender) → address_held stand ≡ refused 18
    → answer_at stand (faults_of everyone) s ≡ refused 18
unfolding answer_at address_held
unheld (held address) s e = refused_gives (sym e)
unheld (claiming address) s e = refl
unheld silent s e = refl

pub request_lowest : the.RequestLowest
unfolding requested_of heard_of
request_lowest id bytes c s =
    record {
      two = λ k. rw k;
      two_of_claim = λ k. by_test (keeps_rules s) (λ e. rw (e, k)) (λ e. rw e);
      three_to_six = λ n e k t. rw (e, k, t);
      sixteen = λ p e k t l. rw (e, k, t, standing_ill c k l);
      seventeen = λ p e k t d h.
          let b = both_true (claim_keeps_rules c) (holds_list c) k in
          rw (e, b.0, t, standing_sound c b.0 b.1, meant_large p.dgn bytes d h);
      eighteen = λ p e k t d a z h.
          let b = both_true (claim_keeps_rules c) (holds_list c) k in
          rw (
            e,
            b.0,
            t,
            standing_sound c b.0 b.1,
            meant_faults p.dgn bytes (eq-eqb (catalogue_form p.dgn) request_dgn d) a,
            z,
          ) (unheld (stand_of c) s h);
    }

-- the lowest active place answers

reply_at : (s : Sender) (at : ℕ) (found : Option ℕ) → first is_active s.faults ≡ found → at < length s.faults
    → is_active (fault_at at s) ≡ true → ((i : ℕ) → i < at → is_active (fault_at i s) ≡ false)
    → reply_from found s ≡ (fault_at at s).bytes
reply_at s at None e l a n = true_false (sym a ∙ found_nowhere is_active s.faults no_fault e at l)
reply_at s at (Some j) e l a n =
    let t = found_at j is_active s.faults no_fault e in
    by_test (j <? at)
    (λ k. true_false (sym t.passes ∙ n j (ltb-true j at k)))
    (λ k. by_test (at <? j)
    (λ m. true_false (sym a ∙ t.lowest at (ltb-true at j m)))
    (λ m. let z : j ≡ at = omega (arith, ltb-false j at k, ltb-false at j m) in ap (λ (i : ℕ). (fault_at i s).bytes) z))

reply_none : (s : Sender) (found : Option ℕ) → first is_active s.faults ≡ found
    → ((i : ℕ) → i < length s.faults → is_active (fault_at i s) ≡ false) → reply_from found s ≡ reply_from None s
reply_none s None e n = refl
reply_none s (Some j) e n =
    let t = found_at j is_active s.faults no_fault e in
    true_false (sym t.passes ∙ n j t.below)

pub lowest_answers : the.LowestAnswers
unfolding reply_bytes
lowest_answers s =
    record {
      lowest = λ at l a n. reply_at s at (first is_active s.faults) refl l a n;
      none = λ n. reply_none s (first is_active s.faults) refl n;
    }

-- a frame is read by its DGN alone

heard_but : (t : Told Parts) (bytes : List ℕ) (c : Claim) (s : Sender)
    → (given t then λ p. heard_of p.dgn bytes c s) ≡ (given told_but_priority t then λ q. heard_of q.0 bytes c s)
heard_but (refused n) bytes c s = refl
heard_but (gives p) bytes c s = refl

pub priority_ignored : the.PriorityIgnored
unfolding requested_of
priority_ignored id id' bytes c s l l' e =
    let q = frame_laws.priority_ignored id id' (length bytes) l l' e in
    rw (heard_but (checked_of id (length bytes)) bytes c s, heard_but (checked_of id' (length bytes)) bytes c s, q)

-- ---- Host and sender.

pub reply_else_host : the.ReplyElseHost
reply_else_host id bytes h c s r p e = rw e at p.host

-- a request that is for the host is for the sender too, if it is for DM_RV

either_false : (a : Bool) → (a or false) ≡ true → a ≡ true
either_false true e = refl
either_false false e = e

-- the answers are not alike

sends_something : {frame : Frame} → sends frame ≡ nothing_to_do → ⊥
sends_something e = let z : ◌≡◌ {A = ℕ} 0 1 = cc in absurd (omega arith)

no_nak : {frame : Frame} → Hosting.nothing_to_do ≡ Hosting.nak frame → ⊥
no_nak e = let z : ◌≡◌ {A = ℕ} 0 1 = cc in absurd (omega arith)

for_both : (stand : Stand) (s : Sender) (asked : Hosting.Asked) → asked.dgn ≡ dm_rv → is_ours asked stand ≡ true
    → answer_at stand (faults_of asked.destination) s ≡ gives nothing_to_do → ⊥
unfolding answer_at is_ours is_our_address is_for_us
for_both (held address) s asked d o e = sends_something (gives_same (rw o at e))
for_both (claiming address) s asked d o e =
    let k : (asked.dgn =? address_claimed) ≡ false = ap (λ (n : ℕ). n =? address_claimed) d in
    let z : (asked.destination =? everyone) ≡ true = either_false (asked.destination =? everyone) (rw k at o) in
    refused_gives (rw z at e)
for_both silent s asked d o e =
    let z : (asked.destination =? everyone) ≡ true = either_false (asked.destination =? everyone) o in
    refused_gives (rw z at e)

-- what the sender says of a request for DM_RV that it leaves
left_alone : (dgn : ℕ) (bytes : List ℕ) (c : Claim) (s : Sender) → claim_keeps_rules c ≡ true → holds_list c ≡ true
    → (catalogue_form dgn =? request_dgn) ≡ true → dgn_at 0 bytes ≡ dm_rv → heard_of dgn bytes c s ≡ gives nothing_to_do
    → answer_at (stand_of c) (faults_of (destination_of dgn)) s ≡ gives nothing_to_do
unfolding heard_of
left_alone dgn bytes c s k l r d e = rw (standing_sound c k l, meant_faults dgn bytes r d) at e

-- what the host says of a request for DM_RV that is not for us
replies : (asked : Hosting.Asked) (h : Host) (c : Claim) (s : Sender) (frame : Frame) → asked.dgn ≡ dm_rv
    → answer_at (stand_of c) (faults_of asked.destination) s ≡ gives nothing_to_do
    → reply_of asked (hosted h) c ≡ gives (Hosting.nak frame) → ⊥
unfolding reply_of
replies asked h c s frame d a e =
    by_test (is_ours asked (stand_of c))
    (λ o. for_both (stand_of c) s asked d o a)
    (λ o. no_nak (gives_same (rw o at e)))

answers : (parts : Parts) (bytes : List ℕ) (h : Host) (c : Claim) (s : Sender) (frame : Frame)
    → claim_keeps_rules c ≡ true
    → holds_list c ≡ true → dgn_at 0 bytes ≡ dm_rv → heard_of parts.dgn bytes c s ≡ gives nothing_to_do
    → answer_of h.edition parts bytes (hosted h) c ≡ gives (Hosting.nak frame) → ⊥
unfolding answer_of requested_dgn
answers parts bytes h c s frame k l d n e =
    by_test (catalogue_form parts.dgn =? request_dgn)
    (λ r.
    let q : (greatest_dgn <? dgn_at 0 bytes) ≡ false = ap (λ (x : ℕ). greatest_dgn <? x) d in
    replies (asked_of h.edition parts bytes) h c s frame d (left_alone parts.dgn bytes c s k l r d n) (rw
    (r, q) at e))
    (λ r. no_nak (gives_same (rw r at e)))

-- a frame that is no claim's refusal
asked_both : (t : Told Parts) (bytes : List ℕ) (h : Host) (c : Claim) (s : Sender) (frame : Frame)
    → claim_keeps_rules c ≡ true
    → dgn_at 0 bytes ≡ dm_rv → (given t then λ p. heard_of p.dgn bytes c s) ≡ gives nothing_to_do
    → (given (given t then λ p. if not (holds_list c and is_well_formed h) then refused 16 else gives p) then λ p.
    answer_of h.edition p bytes (hosted h) c)
    ≡ gives (Hosting.nak frame)
    → ⊥
asked_both (refused n) bytes h c s frame k d e f = refused_gives e
asked_both (gives p) bytes h c s frame k d e f =
    by_test (holds_list c and is_well_formed h)
    (λ w. answers p bytes h c s frame k (both_true (holds_list c) (is_well_formed h) w).0 d e (rw w at f))
    (λ w. refused_gives (rw w at f))

host_quiet : (id : ℕ) (bytes : List ℕ) (h : Host) (c : Claim) (s : Sender) (frame : Frame) → dgn_at 0 bytes ≡ dm_rv
    → requested_of id bytes c s ≡ gives nothing_to_do → Hosting.requested_of id bytes h c ≡ gives (Hosting.nak frame) → ⊥
unfolding requested_of host_requested_of handed_in
host_quiet id bytes h c s frame d e f =
    let t = past_refusal (not (keeps_rules s and claim_keeps_rules c)) 2
    (given checked_of id (length bytes) then λ p. heard_of p.dgn bytes c s) e in
    let k = (both_true (keeps_rules s) (claim_keeps_rules c) (not-false (keeps_rules s and claim_keeps_rules c) t.0)).1 in
    asked_both (checked_of id (length bytes)) bytes h c s frame k d t.1 (rw k at f)

never_nak : (id : ℕ) (bytes : List ℕ) (h : Host) (c : Claim) (s : Sender) (told : Told Reply) (frame : Frame)
    → dgn_at 0 bytes ≡ dm_rv → requested_of id bytes c s ≡ told
    → host_told told (Hosting.requested_of id bytes h c) ≡ gives (Hosting.nak frame) → ⊥
never_nak id bytes h c s (refused n) frame d e f = no_nak (gives_same f)
never_nak id bytes h c s (gives nothing_to_do) frame d e f = host_quiet id bytes h c s frame d e f
never_nak id bytes h c s (gives (sends sent)) frame d e f = no_nak (gives_same f)

pub reply_no_nak : the.ReplyNoNak
reply_no_nak id bytes h c s r frame p d e =
    never_nak id bytes h c s (requested_of id bytes c s) frame d refl (sym p.host.answer ∙ e)

-- ---- The frame of a DM_RV, and examples.

pub dm_rv_example : the.DmRvExample
unfolding dm_rv_id identifier_of
dm_rv_example = refl

pub dm_rv_is_sound : the.DmRvIsSound
unfolding dm_rv_id
dm_rv_is_sound address h = sent_checked dm_rv_priority dm_rv address 8 (omega arith) (omega arith) h refl

pub step_example : the.StepExample
unfolding keeps_rules added_of added_at is_allowed is_zero place_keeps_rules number_of passed longer longest_due chosen held_step stepped_of dm_rv_id identifier_of standing sound_of claim_keeps_rules holds_list is_well_formed_list padded stand_of address_held
step_example = refl

pub host_alone : the.HostAlone
unfolding requested_of heard_of meant_by answer_at is_for_us reply_bytes keeps_rules place_keeps_rules is_zero number_of standing sound_of claim_keeps_rules holds_list is_well_formed_list padded stand_of address_held checked_of source_allowed reserved_of dgn_of source_of priority_of is_addressed catalogue_form destination_of dgn_at host_requested_of handed_in answer_of reply_of is_ours is_our_address status_of supports is_well_formed requested_dgn instance_asked
host_alone = record { refuses = refl; sender_answers = refl }
