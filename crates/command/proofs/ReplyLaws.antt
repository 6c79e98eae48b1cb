-- The laws of replies, proved: what each shows of the claim, the request and the frame that is sent.
-- Assumes nothing.
use Rattle.std.specs.Prelude.{Ok, Err}
use mathlib.Core.Path.{◌≡◌, refl, sym, ap, ◌∙◌}
use mathlib.Core.Bool.{true, false, not}
use mathlib.Core.List.{List}
use mathlib.Core.Logic.{◌⊎◌, inl, inr}
use Prim.Native.Nat.{ℕ, ◌+◌, ◌≤◌, ◌<◌}
use native.Mathlib.Omega.{arith}
use borrow.Author.Tests.{ne_eqb, eqb-true, eqb-false, ltb-false}
use lib.ListN.{length}
use Rattle.words.specs.Words.{◌≤?◌, ◌<?◌, ◌=?◌, gives}
use Rattle.words.specs.Lists.{any}
use Rattle.frame.specs.Bytes.{bytes_of}
use Rattle.frame.specs.Identifier.{identifier_of, identifiers, greatest_dgn, reserved_of, dgn_of, source_of}
use Rattle.frame.specs.Identifier.{parts_of, catalogue_form}
use Rattle.frame.specs.Frame.{frame_bytes, source_allowed, checked_of}
use Rattle.frame.specs.Standard.{Frame, acknowledgment_dgn, address_claimed, everyone, greatest_address, no_address}
use Rattle.frame.specs.Standard.{no_frame, request_dgn}
use Rattle.frame.specs.declared.Parts.{Parts}
use Rattle.words.proofs.Words.{by_test, both_true, true_false, past_refusal, before_refusal, refused_gives, gives_same}
use Rattle.words.proofs.Words.{not_flips}
use Rattle.frame.proofs.Frame.{checked_given}
use Rattle.frame.proofs.Sent.{sent_checked}
use Rattle.claim.specs.Claim.{held_after, keeps_rules, holds_list, address, claim_source, claim_id, Stand, held, claiming}
use Rattle.claim.specs.Claim.{silent, stand_of, claim_frame}
use Rattle.claim.specs.Promises.{is_sound}
use Rattle.claim.specs.declared.Claim.{Claim}
use Rattle.claim.proofs.Sound.{rules_of, holds_of, address_low}
use Rattle.claim.proofs.Calls.{given_past, sound_well}
use Rattle.command.specs.Hosted.{hosted}
use Rattle.command.specs.Positions.{positions_where, listed}
use Rattle.command.specs.Handed.{handed_in, address_held}
use Rattle.command.specs.Commands as Commands
use Rattle.command.specs.Commands.{has_command, picks, route_of, routed_of}
use Rattle.command.specs.Acknowledgment.{acknowledgment_priority, acknowledgment_id, acknowledgment_bytes}
use Rattle.command.specs.Acknowledgment.{acknowledgment_frame, acknowledged_of}
use Rattle.command.specs.Requests as Requests
use Rattle.command.specs.Requests.{requested_dgn, Asked, asked_of, supports, is_our_address, is_ours, nak_to, Reply}
use Rattle.command.specs.Requests.{claims, supported, nak, unsupported, status_of, reply_of, answer_of, requested_of}
use Rattle.command.specs.Promises.{Requesting, Acknowledging}
use Rattle.command.specs.Promises.{sent_in, told_requesting, told_acknowledging}
use Rattle.command.specs.Laws as the
use Rattle.command.specs.declared.Entry.{Entry}
use Rattle.command.specs.declared.Host.{Host}
use Rattle.command.specs.declared.Acknowledgment.{Acknowledgment}
use Rattle.command.specs.declared.Response.{Response}
use Rattle.command.proofs.Handing.{handed_fine}
use Rattle.command.proofs.Answers.{acknowledged_held, reply_elsewhere, status_supported, status_global}
use Rattle.command.proofs.Answers.{status_nobody, status_nak}

-- an address that is not ours

pub claiming_for_claim_only : the.ClaimingForClaimOnly
unfolding is_ours is_our_address
claiming_for_claim_only asked address es c s t d =
    reply_elsewhere asked es c (claiming address) (sym s)
    (rw (ne_eqb asked.destination everyone t, ne_eqb asked.dgn address_claimed d))

pub silent_only_global : the.SilentOnlyGlobal
unfolding is_ours is_our_address
silent_only_global asked es c s t =
    reply_elsewhere asked es c silent (sym s) (rw (ne_eqb asked.destination everyone t))

-- an address that is given is held

held_address : (stand : Stand) (address : ℕ) → address_held stand ≡ gives address → stand ≡ held address
unfolding address_held
held_address (held a) address e = ap held (gives_same e)
held_address (claiming a) address e = refused_gives e
held_address silent address e = refused_gives e

-- a held address is the claim's, and so at most 253

stand_address : (c : Claim) (a : ℕ) → stand_of c ≡ held a → a ≡ address c
unfolding stand_of
stand_address c a e =
    by_test c.silent
    (λ s. let e' : silent ≡ held a = rw s at e in let z : ◌≡◌ {A = ℕ} 0 1 = cc in absurd (omega arith))
    (λ s. by_test (c.wait =? held_after)
    (λ w. let e' : held (address c) ≡ held a = rw (s, w) at e in cc)
    (λ w. let e' : claiming (address c) ≡ held a = rw (s, w) at e in let z : ◌≡◌ {A = ℕ} 0 1 = cc in absurd (omega arith)))

pub held_low : (c : Claim) (a : ℕ) → is_sound c ≡ true → stand_of c ≡ held a → a ≤ greatest_address
held_low c a s e =
    let b = both_true (keeps_rules c) (holds_list c) s in
    let l = address_low c (rules_of c b.0) (holds_of c b.1) in
    let h = stand_address c a e in
    omega arith

-- the frames that are sent

pub acknowledgment_checked : (address : ℕ) (reply : Acknowledgment) → address ≤ greatest_address → reply.requester < 256
    → checked_of (acknowledgment_id address reply.requester) (length (acknowledgment_bytes reply))
    ≡ gives (record { priority = acknowledgment_priority; dgn = acknowledgment_dgn + reply.requester; source = address })
unfolding acknowledgment_id acknowledgment_bytes bytes_of
acknowledgment_checked address reply h q =
    sent_checked acknowledgment_priority (acknowledgment_dgn + reply.requester) address 8 (omega arith) (omega arith) h refl

claim_source_lem : (c : Claim) → is_sound c ≡ true → source_of (claim_id c) ≡ claim_source c
unfolding claim_id claim_source identifier_of source_of
claim_source_lem c s =
    let b = both_true (keeps_rules c) (holds_list c) s in
    let l = address_low c (rules_of c b.0) (holds_of c b.1) in
    by_test c.silent
    (λ z. rw z)
    (λ z. rw z (omega arith))

-- a source that a sound frame has
source_checked : (id size : ℕ) (p : Parts) → checked_of id size ≡ gives p → source_of id ≤ no_address
unfolding checked_of source_allowed source_of
source_checked id size p e =
    let r₃ = past_refusal (identifiers ≤? id) 3 _ e in
    let r₄ = past_refusal (not (size =? frame_bytes)) 4 _ r₃.1 in
    let r₅ = past_refusal (reserved_of id =? 1) 5 _ r₄.1 in
    let r₆ = before_refusal (source_allowed (source_of id) (dgn_of id)) 6 _ r₅.1 in
    by_test (source_of id =? 255)
    (λ t. true_false (sym r₆.0 ∙ rw t))
    (λ t. let n = eqb-false (source_of id) 255 t in omega (arith, n))

-- commands

pub picked_held : the.PickedHeld
unfolding routed_of route_of
picked_held id bytes h c ps e =
    given_past (handed_in id bytes h c) _ e
    (λ parts p m. by_test (any (has_command (catalogue_form parts.dgn)) (hosted h))
    (λ n. given_past (address_held (stand_of c)) _ (rw n at m) (λ address a k. (address, held_address (stand_of c) address a)))
    (λ n. let m' : gives Commands.nothing_to_do ≡ gives (picks ps) = rw n at m in let z : ◌≡◌ {A = ℕ} 0 1 = cc in absurd (omega arith)))

-- requests: how an answer that is given came about

-- a request for a status, heard at the address that we hold
pub record Heard (asked : Asked) (c : Claim) (address : ℕ) : Type 0 where
  pub holds : stand_of c ≡ held address
  pub ours : is_ours asked (held address) ≡ true
  pub status : asked.dgn ≡ address_claimed → ⊥

pub data Came (asked : Asked) (es : List Entry) (c : Claim) : Reply → Type 0 where
  elsewhere : Came asked es c Requests.nothing_to_do
  claimed : is_ours asked (stand_of c) ≡ true → asked.dgn ≡ address_claimed → Came asked es c (claims (claim_frame c))
  reported : (address : ℕ) → Heard asked c address → any (supports asked) es ≡ true
      → Came asked es c (supported (positions_where (supports asked) es))
  unanswered : (address : ℕ) → Heard asked c address → any (supports asked) es ≡ false
      → (asked.destination ≡ everyone) ⊎ (asked.source ≡ no_address) → Came asked es c unsupported
  denied : (address : ℕ) → Heard asked c address → any (supports asked) es ≡ false
      → (asked.destination ≡ everyone → ⊥) → (asked.source ≡ no_address → ⊥)
      → Came asked es c (nak (acknowledgment_frame address (nak_to asked)))

came_held : (asked : Asked) (es : List Entry) (c : Claim) (address : ℕ) → Heard asked c address
    → Came asked es c (status_of asked es address)
came_held asked es c address h =
    by_test (any (supports asked) es)
    (λ n. rw (status_supported asked es address n) (reported address h n))
    (λ n. by_test (asked.destination =? everyone)
    (λ t.
    let t' = eqb-true asked.destination everyone t in
    rw (status_global asked es address n t') (unanswered address h n (inl t')))
    (λ t.
    let t' = eqb-false asked.destination everyone t in
    by_test (asked.source =? no_address)
    (λ q.
    let q' = eqb-true asked.source no_address q in
    rw (status_nobody asked es address n t' q') (unanswered address h n (inr q')))
    (λ q.
    let q' = eqb-false asked.source no_address q in
    rw (status_nak asked es address n t' q') (denied address h n t' q'))))

pub came : (asked : Asked) (es : List Entry) (c : Claim) (reply : Reply) → reply_of asked es c ≡ gives reply
    → Came asked es c reply
unfolding reply_of
came asked es c reply e =
    by_test (is_ours asked (stand_of c))
    (λ o. by_test (asked.dgn =? address_claimed)
    (λ d. rw (sym (gives_same (rw (o, d) at e))) (claimed o (eqb-true asked.dgn address_claimed d)))
    (λ d. given_past (address_held (stand_of c)) _ (rw (o, d) at e)
    (λ address a m.
    let s = held_address (stand_of c) address a in
    let h : Heard asked c address =
    record { holds = s; ours = rw s at o; status = eqb-false asked.dgn address_claimed d } in
    rw (sym (gives_same m)) (came_held asked es c address h))))
    (λ o. rw (sym (gives_same (rw o at e))) elsewhere)

-- a request that was answered
pub record Answered (id : ℕ) (bytes : List ℕ) (h : Host) (c : Claim) (reply : Reply) : Type 0 where
  pub sound : is_sound c ≡ true
  pub source : source_of id ≤ no_address
  pub frame : checked_of id (length bytes) ≡ gives (parts_of id)
  pub asks : (reply ≡ Requests.nothing_to_do → ⊥)
      → (catalogue_form (dgn_of id) ≡ request_dgn) × (requested_dgn bytes ≤ greatest_dgn)
  pub came_about : Came (asked_of h.edition (parts_of id) bytes) (hosted h) c reply

pub answered : (id : ℕ) (bytes : List ℕ) (h : Host) (c : Claim) (reply : Reply) → requested_of id bytes h c ≡ gives reply
    → Answered id bytes h c reply
unfolding requested_of answer_of
answered id bytes h c reply e =
    given_past (handed_in id bytes h c) (λ parts. answer_of h.edition parts bytes (hosted h) c) e
    (λ parts p m.
    let f = handed_fine id bytes h c parts p in
    let q = (checked_given id (length bytes) parts f.frame).1 in
    let l = source_checked id (length bytes) parts f.frame in
    let g : checked_of id (length bytes) ≡ gives (parts_of id) = f.frame ∙ ap gives q in
    by_test (catalogue_form parts.dgn =? request_dgn)
    (λ d.
    let r₁₇ = past_refusal (greatest_dgn <? requested_dgn bytes) 17 _ (rw d at m) in
    let k : reply_of (asked_of h.edition (parts_of id) bytes) (hosted h) c ≡ gives reply = rw q at r₁₇.1 in
    record {
      sound = f.claim;
      source = l;
      frame = g;
      asks = λ _. (rw q at (eqb-true (catalogue_form parts.dgn) request_dgn d), ltb-false _ _ r₁₇.0);
      came_about = came (asked_of h.edition (parts_of id) bytes) (hosted h) c reply k;
    })
    (λ d.
    let n : Requests.nothing_to_do ≡ reply = gives_same (rw d at m) in
    rw (sym n)
    (record { sound = f.claim; source = l; frame = g; asks = λ z. absurd (z refl); came_about = elsewhere })))

-- the reply that is told decides how it came about

module _ (asked : Asked) (es : List Entry) (c : Claim) where
  pub claimed_by : {P : Type 0} (reply : Reply) (frame : Frame) → reply ≡ claims frame → Came asked es c reply
      → (is_ours asked (stand_of c) ≡ true → asked.dgn ≡ address_claimed → frame ≡ claim_frame c → P) → P
  claimed_by reply frame e elsewhere f = let z : ◌≡◌ {A = ℕ} 0 1 = cc in absurd (omega arith)
  claimed_by reply frame e (claimed o d) f = f o d cc
  claimed_by reply frame e (reported address h n) f = let z : ◌≡◌ {A = ℕ} 0 1 = cc in absurd (omega arith)
  claimed_by reply frame e (unanswered address h n w) f = let z : ◌≡◌ {A = ℕ} 0 1 = cc in absurd (omega arith)
  claimed_by reply frame e (denied address h n t q) f = let z : ◌≡◌ {A = ℕ} 0 1 = cc in absurd (omega arith)

  pub reported_by : {P : Type 0} (reply : Reply) (ps : List ℕ) → reply ≡ supported ps → Came asked es c reply
      → ((address : ℕ) → Heard asked c address → any (supports asked) es ≡ true
      → ps ≡ positions_where (supports asked) es → P) → P
  reported_by reply ps e elsewhere f = let z : ◌≡◌ {A = ℕ} 0 1 = cc in absurd (omega arith)
  reported_by reply ps e (claimed o d) f = let z : ◌≡◌ {A = ℕ} 0 1 = cc in absurd (omega arith)
  reported_by reply ps e (reported address h n) f = f address h n cc
  reported_by reply ps e (unanswered address h n w) f = let z : ◌≡◌ {A = ℕ} 0 1 = cc in absurd (omega arith)
  reported_by reply ps e (denied address h n t q) f = let z : ◌≡◌ {A = ℕ} 0 1 = cc in absurd (omega arith)

  pub unanswered_by : {P : Type 0} (reply : Reply) → reply ≡ unsupported → Came asked es c reply
      → ((address : ℕ) → Heard asked c address → any (supports asked) es ≡ false
      → (asked.destination ≡ everyone) ⊎ (asked.source ≡ no_address) → P) → P
  unanswered_by reply e elsewhere f = let z : ◌≡◌ {A = ℕ} 0 1 = cc in absurd (omega arith)
  unanswered_by reply e (claimed o d) f = let z : ◌≡◌ {A = ℕ} 0 1 = cc in absurd (omega arith)
  unanswered_by reply e (reported address h n) f = let z : ◌≡◌ {A = ℕ} 0 1 = cc in absurd (omega arith)
  unanswered_by reply e (unanswered address h n w) f = f address h n w
  unanswered_by reply e (denied address h n t q) f = let z : ◌≡◌ {A = ℕ} 0 1 = cc in absurd (omega arith)

  pub denied_by : {P : Type 0} (reply : Reply) (frame : Frame) → reply ≡ nak frame → Came asked es c reply
      → ((address : ℕ) → Heard asked c address → any (supports asked) es ≡ false → (asked.destination ≡ everyone → ⊥)
      → (asked.source ≡ no_address → ⊥) → frame ≡ acknowledgment_frame address (nak_to asked) → P) → P
  denied_by reply frame e elsewhere f = let z : ◌≡◌ {A = ℕ} 0 1 = cc in absurd (omega arith)
  denied_by reply frame e (claimed o d) f = let z : ◌≡◌ {A = ℕ} 0 1 = cc in absurd (omega arith)
  denied_by reply frame e (reported address h n) f = let z : ◌≡◌ {A = ℕ} 0 1 = cc in absurd (omega arith)
  denied_by reply frame e (unanswered address h n w) f = let z : ◌≡◌ {A = ℕ} 0 1 = cc in absurd (omega arith)
  denied_by reply frame e (denied address h n t q) f = f address h n t q cc

-- positions are given from a held address

pub supported_held : the.SupportedHeld
supported_held id bytes h c ps e =
    reported_by (asked_of h.edition (parts_of id) bytes) (hosted h) c (supported ps) ps refl
    (answered id bytes h c (supported ps) e).came_about
    (λ address k n p. (address, k.holds, p))

-- a NAK

pub our_address : (asked : Asked) (address : ℕ) → is_ours asked (held address) ≡ true
    → (asked.destination ≡ everyone → ⊥)
    → asked.destination ≡ address
unfolding is_ours is_our_address
our_address asked address o n =
    eqb-true asked.destination address (rw (ne_eqb asked.destination everyone n) at o)

pub nak_is_sound : the.NakIsSound
nak_is_sound id bytes h c frame e =
    let asked = asked_of h.edition (parts_of id) bytes in
    let a = answered id bytes h c (nak frame) e in
    let l = a.source in
    denied_by asked (hosted h) c (nak frame) frame refl a.came_about
    (λ address k n d q f.
    record {
      address = address;
      holds = k.holds;
      directed = our_address asked address k.ours d;
      requester = omega (arith, q);
      unsupported = n;
      parts = rw f (acknowledgment_checked address (nak_to asked) (held_low c address a.sound k.holds) (omega arith));
    })

-- no other answer has a frame
unsent : (a : Requesting) (ps : List ℕ) (frame : Frame)
    → (a ≡ Ok Response.SendNak → ⊥) → (a ≡ Ok Response.SendClaim → ⊥)
    → sent_in (told_requesting a ps frame) ≡ no_frame
unsent (Ok Response.NothingToDo) ps frame n m = refl
unsent (Ok Response.SendClaim) ps frame n m = absurd (m refl)
unsent (Ok Response.Supported) ps frame n m = refl
unsent (Ok Response.SendNak) ps frame n m = absurd (n refl)
unsent (Ok Response.Unsupported) ps frame n m = refl
unsent (Err why) ps frame n m = refl

pub request_sends_ours : the.RequestSendsOurs
request_sends_ours id bytes h c r p =
    let frame : Frame = record { id = r.id; bytes = r.bytes } in (
      (λ a.
          let t : requested_of id bytes h c ≡ gives (nak frame) = sym p.answer ∙ ap (λ (x : Requesting). told_requesting x (listed r.positions) frame) a in
          let k = nak_is_sound id bytes h c frame t in
          (k.address, k.holds, sym (ap (λ (x : Parts). x.source) (checked_given r.id _ _ k.parts).1))),
      (λ a.
          let t : requested_of id bytes h c ≡ gives (claims frame) = sym p.answer ∙ ap (λ (x : Requesting). told_requesting x (listed r.positions) frame) a in
          let k = answered id bytes h c (claims frame) t in
          claimed_by (asked_of h.edition (parts_of id) bytes) (hosted h) c (claims frame) frame refl k.came_about
          (λ o d f. (d, ap (λ (x : Frame). source_of x.id) f ∙ claim_source_lem c k.sound))),
      (λ n m.
          let u : sent_in (requested_of id bytes h c) ≡ no_frame = ap sent_in (sym p.answer) ∙ unsent r.answer _ frame n m in
          (p.sent_id ∙ rw u, p.sent_bytes ∙ rw u)),
    )

-- an acknowledgment

formed_by : {P : Type 0} (c : Claim) (reply : Acknowledgment) (frame : Frame) → acknowledged_of c reply ≡ gives frame
    → ((address : ℕ) → stand_of c ≡ held address → is_sound c ≡ true → reply.requester ≤ greatest_address
    → frame ≡ acknowledgment_frame address reply → P) → P
unfolding acknowledged_of
formed_by c reply frame e k =
    let r₂ = past_refusal (not (keeps_rules c)) 2 _ e in
    let r₆ = past_refusal (greatest_address <? reply.requester) 6 _ r₂.1 in
    let r₁₆ = past_refusal (not (holds_list c)) 16 _ r₆.1 in
    let r₁₇ = past_refusal (greatest_dgn <? reply.dgn) 17 _ r₁₆.1 in
    given_past (address_held (stand_of c)) _ r₁₇.1
    (λ address a m. k address (held_address (stand_of c) address a) (sound_well c (not_flips _ r₂.0) (not_flips _ r₁₆.0)).1 (ltb-false _ _ r₆.0) (sym (gives_same m)))

pub acknowledge_sends_ours : the.AcknowledgeSendsOurs
acknowledge_sends_ours c reply r p a =
    let frame : Frame = record { id = r.id; bytes = r.bytes } in
    let t : acknowledged_of c reply ≡ gives frame = sym p.answer ∙ ap (λ (x : Acknowledging). told_acknowledging x frame) a in
    formed_by c reply frame t
    (λ address s k q e.
    let f = acknowledgment_checked address reply (held_low c address k s) (omega arith) in
    (address, s, rw (ap (λ (x : Frame). x.id) e, ap (λ (x : Frame). x.bytes) e) f))

pub example_eleven : the.ExampleEleven
unfolding address_held acknowledgment_id acknowledgment_bytes identifier_of bytes_of
example_eleven c s e =
    let b = both_true (keeps_rules c) (holds_list c) s in
    acknowledged_held c (record { code = 3; instance = 2; requester = 0x44; dgn = 0x1FFE7 }) (held 0x9C) 0x9C e refl b.0 (omega arith) b.1 (omega arith)
