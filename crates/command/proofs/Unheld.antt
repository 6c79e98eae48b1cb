-- The laws of EE00h and of who holds no address (specs/Laws.antt), proved: which requests are ours, and how 18 came about.
-- Assumes nothing.
use Rattle.std.specs.Prelude.{Ok, Err}
use mathlib.Core.Path.{◌≡◌, refl, sym, ap, ◌∙◌}
use mathlib.Core.Bool.{true}
use mathlib.Core.List.{List, []}
use mathlib.Core.Logic.{◌⊎◌, inl, inr}
use Prim.Native.Nat.{ℕ, ◌≤◌}
use native.Mathlib.Omega.{arith}
use borrow.Author.Tests.{eq-eqb, eqb-true, eqb-false, ltb-false}
use lib.ListN.{length}
use Rattle.words.specs.Words.{◌<?◌, ◌=?◌, ◌and◌, Told, refused, gives, given◌then◌}
use Rattle.frame.specs.Identifier.{greatest_dgn, dgn_of, destination_of, catalogue_form}
use Rattle.frame.specs.Frame.{checked_of}
use Rattle.frame.specs.Standard.{Frame, address_claimed, everyone, no_frame, request_dgn}
use Rattle.frame.specs.Promises.{refusal_of}
use Rattle.frame.specs.declared.Parts.{Parts}
use Rattle.frame.specs.declared.BadFrame.{BadFrame}
use Rattle.frame.specs.declared.BadFrame.TheVariants.{IdentifierTooLarge, NotEightBytes, ReservedBitSet}
use Rattle.frame.specs.declared.BadFrame.TheVariants.{SourceNotAllowed}
use Rattle.frame.proofs.Frame.{checked_given}
use Rattle.frame.proofs.Laws.{refused_for_reason}
use Rattle.words.proofs.Words.{by_test, both_true, true_false, refused_gives}
use Rattle.claim.specs.Claim.{keeps_rules, holds_list, Stand, held, claiming, silent, stand_of, claim_frame}
use Rattle.claim.specs.declared.Claim.{Claim}
use Rattle.command.specs.Hosted.{hosted, is_well_formed}
use Rattle.command.specs.Positions.{listed}
use Rattle.command.specs.Handed.{handed_in, address_held}
use Rattle.command.specs.Requests as Requests
use Rattle.command.specs.Requests.{requested_dgn, Asked, asked_of, is_ours, is_our_address, Reply, claims, status_of}
use Rattle.command.specs.Requests.{reply_of, answer_of, requested_of}
use Rattle.command.specs.Promises.{Requesting}
use Rattle.command.specs.Promises.{Request, told_requesting}
use Rattle.command.specs.Laws as the
use Rattle.command.specs.declared.Host.{Host}
use Rattle.command.specs.declared.Response.TheVariants.{SendClaim}
use Rattle.command.specs.declared.NotAnswered.TheVariants.{NoAddressHeld}
use Rattle.command.specs.declared.Requested.{Requested}
use Rattle.command.proofs.Answers.{reply_claims, reply_unheld, answer_reply, requested_given}
use Rattle.command.proofs.Laws.{told_requesting_same}
use Rattle.command.proofs.ReplyLaws.{came, claimed_by}

-- refusals with different numbers
other_number : {A : Type 0} (m n : ℕ) → (m ≡ n → ⊥) → ◌≡◌ {A = Told A} (refused m) (refused n) → ⊥
other_number m n d e = let z : m ≡ n = cc in d z

-- 18 is no number of a frame
no_eighteen : (why : BadFrame) → 18 ≡ refusal_of why → ⊥
no_eighteen IdentifierTooLarge e = omega arith
no_eighteen NotEightBytes e = omega arith
no_eighteen ReservedBitSet e = omega arith
no_eighteen SourceNotAllowed e = omega arith

-- no reply that is given is "nothing to do" where it is our claim
claims_is_other : {frame : Frame} → gives (claims frame) ≡ gives Requests.nothing_to_do → ⊥
claims_is_other e = let z : ◌≡◌ {A = ℕ} 0 1 = cc in omega arith

-- which requests are ours

ours_to_all : (asked : Asked) (stand : Stand) → asked.destination ≡ everyone → is_ours asked stand ≡ true
unfolding is_ours
ours_to_all asked stand e = rw (eq-eqb asked.destination everyone e)

ours_at_held : (asked : Asked) (address : ℕ) → asked.destination ≡ address → is_ours asked (held address) ≡ true
unfolding is_ours is_our_address
ours_at_held asked address e =
    by_test (asked.destination =? everyone)
    (λ t. rw t)
    (λ t. rw (t, eq-eqb asked.destination address e))

ours_at_claimed : (asked : Asked) (address : ℕ) → asked.dgn ≡ address_claimed → asked.destination ≡ address
    → is_ours asked (claiming address) ≡ true
unfolding is_ours is_our_address
ours_at_claimed asked address d e =
    by_test (asked.destination =? everyone)
    (λ t. rw t)
    (λ t. rw (t, eq-eqb asked.dgn address_claimed d, eq-eqb asked.destination address e))

-- and where one is, why

Why : Asked → Stand → Type 0
Why asked stand =
    (asked.destination ≡ everyone)
    ⊎ ((stand ≡ held asked.destination) ⊎ ((stand ≡ claiming asked.destination) × (asked.dgn ≡ address_claimed)))

why_ours : (asked : Asked) (stand : Stand) → is_ours asked stand ≡ true → Why asked stand
unfolding is_ours is_our_address Why
why_ours asked (held a) o =
    by_test (asked.destination =? everyone)
    (λ t. inl (eqb-true asked.destination everyone t))
    (λ t. inr (inl (ap held (sym (eqb-true asked.destination a (rw t at o))))))
why_ours asked (claiming a) o =
    by_test (asked.destination =? everyone)
    (λ t. inl (eqb-true asked.destination everyone t))
    (λ t.
    let b = both_true (asked.dgn =? address_claimed) (asked.destination =? a) (rw t at o) in
    inr (inr (ap claiming (sym (eqb-true asked.destination a b.1)), eqb-true asked.dgn address_claimed b.0)))
why_ours asked silent o =
    by_test (asked.destination =? everyone)
    (λ t. inl (eqb-true asked.destination everyone t))
    (λ t. true_false (sym (rw t at o)))

-- a request that is heard is answered by its reply

module _ (id : ℕ) (bytes : List ℕ) (h : Host) (c : Claim) where
  asks_reply : (destination dgn : ℕ) (a : the.AsksFor id bytes h c destination dgn)
      → requested_of id bytes h c ≡ reply_of (asked_of h.edition a.parts bytes) (hosted h) c
  asks_reply destination dgn a =
      let l : requested_dgn bytes ≤ greatest_dgn = rw (sym a.asked) at a.fits in
      requested_given id bytes h c a.parts bytes a.handed refl
      ∙ answer_reply h.edition a.parts bytes (hosted h) c _ a.request refl l

  -- how a reply came about that is not "nothing to do", whether it is given or 18
  came_from : {P : Type 0} (t : Told Reply) → requested_of id bytes h c ≡ t → (t ≡ gives Requests.nothing_to_do → ⊥)
      → (t ≡ refused 2 → ⊥) → (t ≡ refused 16 → ⊥) → (t ≡ refused 17 → ⊥)
      → ((why : BadFrame) → t ≡ refused (refusal_of why) → ⊥)
      → ((a : the.AsksFor id bytes h c (destination_of (dgn_of id)) (requested_dgn bytes))
      → reply_of (asked_of h.edition a.parts bytes) (hosted h) c ≡ t → P) → P
  unfolding requested_of handed_in answer_of
  came_from {P = P} t e n₀ n₂ n₁₆ n₁₇ nf k =
      by_test (keeps_rules c)
      (λ r. go (checked_of id (length bytes)) refl r)
      (λ r. absurd (n₂ (sym e ∙ rw r)))
    where
      go : (u : Told Parts) → checked_of id (length bytes) ≡ u → keeps_rules c ≡ true → P
      go (refused n) f r =
          let w = refused_for_reason id (length bytes) n f in
          absurd (nf w.0 (sym e ∙ rw (r, f) (ap refused (sym w.1))))
      go (gives parts) f r =
          by_test (holds_list c and is_well_formed h)
          (λ l. by_test (catalogue_form parts.dgn =? request_dgn)
          (λ d. by_test (greatest_dgn <? requested_dgn bytes)
          (λ g. absurd (n₁₇ (sym e ∙ rw (r, f, l, d, g))))
          (λ g.
          k
          (record {
            parts = parts;
            handed = rw (r, f, l);
            request = eqb-true (catalogue_form parts.dgn) request_dgn d;
            to = ap (λ (p : Parts). destination_of p.dgn) (checked_given id (length bytes) parts f).1;
            asked = refl;
            fits = ltb-false greatest_dgn (requested_dgn bytes) g;
          })
          (sym (rw (r, f, l, d, g)) ∙ e)))
          (λ d. absurd (n₀ (sym e ∙ rw (r, f, l, d)))))
          (λ l. absurd (n₁₆ (sym e ∙ rw (r, f, l))))

  -- EE00h

  module _ (r : Requested) (q : Request id bytes h c r) where
    abbrev sent_by : Frame
    sent_by = record { id = r.id; bytes = r.bytes }

    tells : (a : Requesting) → r.answer ≡ a → requested_of id bytes h c ≡ told_requesting a (listed r.positions) sent_by
    tells a e = sym q.answer ∙ ap (λ (x : Requesting). told_requesting x (listed r.positions) sent_by) e

    claim_came : {P : Type 0} → r.answer ≡ Ok SendClaim
        → ((a : the.AsksFor id bytes h c (destination_of (dgn_of id)) (requested_dgn bytes))
        → is_ours (asked_of h.edition a.parts bytes) (stand_of c) ≡ true → requested_dgn bytes ≡ address_claimed
        → sent_by ≡ claim_frame c → P)
        → P
    claim_came e k =
        came_from (gives (claims sent_by)) (tells (Ok SendClaim) e) claims_is_other (λ z. refused_gives (sym z))
        (λ z. refused_gives (sym z)) (λ z. refused_gives (sym z)) (λ why z. refused_gives (sym z))
        (λ a t.
        let asked = asked_of h.edition a.parts bytes in
        claimed_by asked (hosted h) c (claims sent_by) sent_by refl (came asked (hosted h) c (claims sent_by) t)
        (λ o d f. k a o d f))

    claim_sent : (destination : ℕ) → the.AsksFor id bytes h c destination address_claimed
        → (destination ≡ everyone) ⊎ the.HoldsOrClaims c destination → r.answer ≡ Ok SendClaim
    claim_sent destination a w =
        let asked = asked_of h.edition a.parts bytes in
        let own : is_ours asked (stand_of c) ≡ true =
        elim w [
          | inl e ↦ ours_to_all asked (stand_of c) (a.to ∙ e)
          | inr (inl s) ↦ rw s (ours_at_held asked destination a.to)
          | inr (inr s) ↦ rw s (ours_at_claimed asked destination a.asked a.to)
        ] in
        told_requesting_same r.answer (Ok SendClaim) (listed r.positions) [] sent_by (claim_frame c)
        (q.answer ∙ asks_reply destination address_claimed a
        ∙ reply_claims asked (hosted h) c (stand_of c) refl own a.asked)

    claim_asked : r.answer ≡ Ok SendClaim
        → (destination : ℕ) × the.AsksFor id bytes h c destination address_claimed
        × ((destination ≡ everyone) ⊎ the.HoldsOrClaims c destination)
    unfolding Why
    claim_asked e =
        claim_came e
        (λ a o d f.
        let asked = asked_of h.edition a.parts bytes in
        let w : (destination_of (dgn_of id) ≡ everyone) ⊎ the.HoldsOrClaims c (destination_of (dgn_of id)) =
        elim (why_ours asked (stand_of c) o) [
          | inl z ↦ inl (sym a.to ∙ z)
          | inr (inl s) ↦ inr (inl (s ∙ ap held a.to))
          | inr (inr s) ↦ inr (inr (s.0 ∙ ap claiming a.to))
        ] in (
          destination_of (dgn_of id),
          record {
            parts = a.parts;
            handed = a.handed;
            request = a.request;
            to = a.to;
            asked = d;
            fits = rw d at a.fits;
          },
          w,
        ))

    -- 18

    unheld_reply : (asked : Asked) (stand : Stand) → stand ≡ stand_of c → reply_of asked (hosted h) c ≡ refused 18
        → (asked.destination ≡ everyone) × (asked.dgn ≡ address_claimed → ⊥)
        × ((address : ℕ) → stand ≡ held address → ⊥)
    unfolding reply_of address_held Why
    unheld_reply asked stand s e =
        by_test (is_ours asked stand)
        (λ o. by_test (asked.dgn =? address_claimed)
        (λ d. refused_gives {a = claims (claim_frame c)} (sym e ∙ rw (sym s, o, d)))
        (λ d. go stand o (eqb-false asked.dgn address_claimed d) (sym (rw (sym s, o, d)) ∙ e)))
        (λ o. refused_gives {a = Requests.nothing_to_do} (sym e ∙ rw (sym s, o)))
      where
        go : (stand : Stand) → is_ours asked stand ≡ true → (asked.dgn ≡ address_claimed → ⊥)
            → (given address_held stand then λ address. gives (status_of asked (hosted h) address)) ≡ refused 18
            → (asked.destination ≡ everyone) × (asked.dgn ≡ address_claimed → ⊥)
            × ((address : ℕ) → stand ≡ held address → ⊥)
        go (held a) o d g = refused_gives (sym g)
        go (claiming a) o d g = (
          elim (why_ours asked (claiming a) o) [
            | inl z ↦ z
            | inr (inl z) ↦ let y : ◌≡◌ {A = ℕ} 0 1 = cc in absurd (omega arith)
            | inr (inr z) ↦ absurd (d z.1)
          ],
          d,
          λ address z. let y : ◌≡◌ {A = ℕ} 0 1 = cc in omega arith,
        )
        go silent o d g = (
          elim (why_ours asked silent o) [
            | inl z ↦ z
            | inr (inl z) ↦ let y : ◌≡◌ {A = ℕ} 0 1 = cc in absurd (omega arith)
            | inr (inr z) ↦ let x = z.0 in let y : ◌≡◌ {A = ℕ} 0 1 = cc in absurd (omega arith)
          ],
          d,
          λ address z. let y : ◌≡◌ {A = ℕ} 0 1 = cc in omega arith,
        )

    unheld_asked : r.answer ≡ Err NoAddressHeld
        → (dgn : ℕ) × the.AsksFor id bytes h c everyone dgn × (dgn ≡ address_claimed → ⊥)
        × ((address : ℕ) → stand_of c ≡ held address → ⊥)
    unheld_asked e =
        came_from (refused 18) (tells (Err NoAddressHeld) e) refused_gives (other_number 18 2 (λ z. omega arith))
        (other_number 18 16 (λ z. omega arith)) (other_number 18 17 (λ z. omega arith))
        (λ why. other_number 18 (refusal_of why) (no_eighteen why))
        (λ a t.
        let u = unheld_reply (asked_of h.edition a.parts bytes) (stand_of c) refl t in (
          requested_dgn bytes,
          record {
            parts = a.parts;
            handed = a.handed;
            request = a.request;
            to = u.0;
            asked = refl;
            fits = a.fits;
          },
          u.1,
          u.2,
        ))

    held_not : (stand : Stand) → ((address : ℕ) → stand ≡ held address → ⊥) → address_held stand ≡ refused 18
    unfolding address_held
    held_not (held a) n = absurd (n a refl)
    held_not (claiming a) n = refl
    held_not silent n = refl

    unheld_told : (dgn : ℕ) → the.AsksFor id bytes h c everyone dgn → (dgn ≡ address_claimed → ⊥)
        → ((address : ℕ) → stand_of c ≡ held address → ⊥) → r.answer ≡ Err NoAddressHeld
    unheld_told dgn a d n =
        let asked = asked_of h.edition a.parts bytes in
        told_requesting_same r.answer (Err NoAddressHeld) (listed r.positions) [] sent_by no_frame
        (q.answer ∙ asks_reply everyone dgn a
        ∙ reply_unheld asked (hosted h) c (stand_of c) refl (ours_to_all asked (stand_of c) a.to)
        (λ z. d (sym a.asked ∙ z)) (held_not (stand_of c) n))

pub claim_exactly : the.ClaimExactly
claim_exactly id bytes h c r q =
    ((λ e. claim_asked id bytes h c r q e), (λ s. claim_sent id bytes h c r q s.0 s.1 s.2))

pub claim_given : the.ClaimGiven
claim_given id bytes h c r q e =
    claim_came id bytes h c r q e
    (λ a o d f. (ap (λ (x : Frame). x.id) f, ap (λ (x : Frame). x.bytes) f))

pub unheld_exactly : the.UnheldExactly
unheld_exactly id bytes h c r q =
    ((λ e. unheld_asked id bytes h c r q e), (λ s. unheld_told id bytes h c r q s.0 s.1 s.2 s.3))
