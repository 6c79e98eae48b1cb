-- The steps by which each call comes to its answer, and answers with nothing beside them.
-- Assumes nothing.
use Rattle.std.specs.Result.{IsOk}
use Rattle.std.specs.Prelude.{Ok, Err, if◌then◌else◌}
use mathlib.Core.Path.{◌≡◌, refl, sym, ap, ◌∙◌}
use mathlib.Core.Bool.{true, false}
use mathlib.Core.List.{List, [], ◌∷◌}
use Prim.Native.Nat.{ℕ, ◌%◌, ◌<◌, ◌≤◌}
use native.Mathlib.Nat.{div-one}
use borrow.Author.Tests.{eq-eqb, ne_eqb, lt-ltb, le-ltb}
use lib.ListN.{take, get_or}
use Rattle.words.specs.Words.{Told, refused, gives, given◌then◌}
use Rattle.words.specs.Lists.{any}
use Rattle.frame.specs.Bytes.{number_of}
use Rattle.frame.specs.Identifier.{greatest_dgn, destination_of, catalogue_form}
use Rattle.frame.specs.Standard.{Frame, address_claimed, everyone, greatest_address, no_address, no_frame}
use Rattle.frame.specs.Standard.{request_dgn}
use Rattle.frame.specs.Promises.{destined}
use Rattle.frame.specs.declared.Parts.{Parts}
use Rattle.frame.proofs.Frame.{dgn_read}
use Rattle.claim.specs.Claim.{keeps_rules, holds_list, Stand, held, stand_of, claim_frame}
use Rattle.claim.specs.Promises.{number_of_not_heard, Standing, is_sound, sound_of, told_standing}
use Rattle.claim.specs.declared.Claim.{Claim}
use Rattle.claim.specs.declared.NotHeard.{NotHeard}
use Rattle.claim.proofs.Calls.{sound_well}
use Rattle.words.proofs.Words.{both_true, refused_gives}
use Rattle.command.specs.Hosted.{hosted}
use Rattle.command.specs.Positions.{positions_where, filled, listed}
use Rattle.command.specs.Handed.{handed_in, address_held}
use Rattle.command.specs.Acknowledgment.{acknowledgment_frame, acknowledged_of}
use Rattle.command.specs.Commands as Commands
use Rattle.command.specs.Commands.{has_command, is_meant, is_elsewhere, Outcome, picks, route_of, routed_of}
use Rattle.command.specs.Requests as Requests
use Rattle.command.specs.Requests.{requested_dgn, instance_asked, Asked, asked_of, supports, is_ours, nak_to, Reply}
use Rattle.command.specs.Requests.{claims, supported, nak, unsupported, status_of, reply_of, answer_of, requested_of}
use Rattle.command.specs.Promises.{Routing, Requesting, Acknowledging, number_of_not_routed, not_routed_for}
use Rattle.command.specs.Promises.{number_of_not_answered, not_answered_for}
use Rattle.command.specs.Promises.{told_routing, picked_in, RoutedBy, told_requesting, supported_in, sent_in}
use Rattle.command.specs.Promises.{RequestedBy, told_acknowledging, formed_in, AcknowledgedBy}
use Rattle.command.specs.Private.{bare_routed, bare_requested, bare_acknowledged}
use Rattle.command.specs.declared.Edition.{Edition}
use Rattle.command.specs.declared.Entry.{Entry}
use Rattle.command.specs.declared.Host.{Host}
use Rattle.command.specs.declared.Positions.{Positions}
use Rattle.command.specs.declared.Choice.{Choice}
use Rattle.command.specs.declared.Routed.{Routed}
use Rattle.command.specs.declared.Response.{Response}
use Rattle.command.specs.declared.Requested.{Requested}
use Rattle.command.specs.declared.Acknowledgment.{Acknowledgment}
use Rattle.command.specs.declared.Acknowledged.{Acknowledged}
use Rattle.command.proofs.Picks.{listed_filled}

-- answers with nothing beside them

pub bare_routed_lem : (t : Told Outcome) (a : Routing) (r : Routed) → picked_in t ≡ [] → told_routing a [] ≡ t → r ≡ bare_routed a → RoutedBy t r
unfolding filled
bare_routed_lem t a r p e h =
    record { answer = ap (λ (x : Routed). told_routing x.answer (take x.positions.count x.positions.at)) h ∙ e; positions = ap (λ (x : Routed). x.positions) h ∙ sym (rw p) }

pub bare_requested_lem : (t : Told Reply) (a : Requesting) (r : Requested) → supported_in t ≡ [] → sent_in t ≡ no_frame → told_requesting a [] no_frame ≡ t
    → r ≡ bare_requested a → RequestedBy t r
unfolding filled
bare_requested_lem t a r p s e h =
    record {
      answer = ap (λ (x : Requested). told_requesting x.answer (take x.positions.count x.positions.at) (record { id = x.id; bytes = x.bytes })) h ∙ e;
      positions = ap (λ (x : Requested). x.positions) h ∙ sym (rw p);
      sent_id = ap (λ (x : Requested). x.id) h ∙ sym (rw s);
      sent_bytes = ap (λ (x : Requested). x.bytes) h ∙ sym (rw s);
    }

pub bare_acknowledged_lem : (t : Told Frame) (a : Acknowledging) (r : Acknowledged) → formed_in t ≡ no_frame → told_acknowledging a no_frame ≡ t
    → r ≡ bare_acknowledged a → AcknowledgedBy t r
bare_acknowledged_lem t a r s e h =
    record {
      answer = ap (λ (x : Acknowledged). told_acknowledging x.answer (record { id = x.id; bytes = x.bytes })) h ∙ e;
      sent_id = ap (λ (x : Acknowledged). x.id) h ∙ sym (rw s);
      sent_bytes = ap (λ (x : Acknowledged). x.bytes) h ∙ sym (rw s);
    }

-- a refusal of what is handed in keeps its number

pub not_routed_number : (why : NotHeard) → number_of_not_routed (not_routed_for why) ≡ number_of_not_heard why
not_routed_number NotHeard.BrokenState = refl
not_routed_number (NotHeard.BadFrame why) = refl
not_routed_number NotHeard.ListMalformed = refl

pub not_answered_number : (why : NotHeard) → number_of_not_answered (not_answered_for why) ≡ number_of_not_heard why
not_answered_number NotHeard.BrokenState = refl
not_answered_number (NotHeard.BadFrame why) = refl
not_answered_number NotHeard.ListMalformed = refl

-- a sound claim

pub sound_stands : (c : Claim) (r : Standing) → is_sound c ≡ true → told_standing r ≡ (given sound_of c then λ _. gives (stand_of c))
    → told_standing r ≡ gives (stand_of c)
sound_stands c r s e =
    let b = both_true (keeps_rules c) (holds_list c) s in
    e ∙ rw (sound_well c b.0 b.1).0

-- an answer that gives is Ok
pub stands_ok : (r : Standing) (s : Stand) → told_standing r ≡ gives s → IsOk r
stands_ok (Ok place) s e = refl
stands_ok (Err why) s e = refused_gives e

-- an acknowledgment, step by step

module _ (c : Claim) (reply : Acknowledgment) where
  pub acknowledged_broken : keeps_rules c ≡ false → acknowledged_of c reply ≡ refused 2
  unfolding acknowledged_of
  acknowledged_broken k = rw k

  pub acknowledged_nobody : keeps_rules c ≡ true → greatest_address < reply.requester → acknowledged_of c reply ≡ refused 6
  unfolding acknowledged_of
  acknowledged_nobody k q = rw (k, lt-ltb _ _ q)

  pub acknowledged_ill : keeps_rules c ≡ true → reply.requester ≤ greatest_address → holds_list c ≡ false
      → acknowledged_of c reply ≡ refused 16
  unfolding acknowledged_of
  acknowledged_ill k q h = rw (k, le-ltb _ _ q, h)

  pub acknowledged_large : keeps_rules c ≡ true → reply.requester ≤ greatest_address → holds_list c ≡ true
      → greatest_dgn < reply.dgn → acknowledged_of c reply ≡ refused 17
  unfolding acknowledged_of
  acknowledged_large k q h d = rw (k, le-ltb _ _ q, h, lt-ltb _ _ d)

  pub acknowledged_past : keeps_rules c ≡ true → reply.requester ≤ greatest_address → holds_list c ≡ true
      → reply.dgn ≤ greatest_dgn
      → acknowledged_of c reply
      ≡ (given address_held (stand_of c) then λ address. gives (acknowledgment_frame address reply))
  unfolding acknowledged_of
  acknowledged_past k q h d = rw (k, le-ltb _ _ q, h, le-ltb _ _ d)

  -- where we stand decides

  pub acknowledged_held : (stand : Stand) (address : ℕ) → stand_of c ≡ stand → address_held stand ≡ gives address
      → keeps_rules c ≡ true → reply.requester ≤ greatest_address → holds_list c ≡ true → reply.dgn ≤ greatest_dgn
      → acknowledged_of c reply ≡ gives (acknowledgment_frame address reply)
  acknowledged_held stand address s a k q h d = acknowledged_past k q h d ∙ rw (s, a)

  pub acknowledged_unheld : (stand : Stand) → stand_of c ≡ stand → address_held stand ≡ refused 18
      → keeps_rules c ≡ true → reply.requester ≤ greatest_address → holds_list c ≡ true → reply.dgn ≤ greatest_dgn
      → acknowledged_of c reply ≡ refused 18
  acknowledged_unheld stand s a k q h d = acknowledged_past k q h d ∙ rw (s, a)

-- an answer with positions or a frame beside it

pub picked_routed : (p : Positions) (ps : List ℕ) → p ≡ filled ps → RoutedBy (gives (picks ps)) (record { answer = Ok Choice.Picked; positions = p })
picked_routed p ps e = record { answer = ap (λ (l : List ℕ). gives (picks l)) (ap listed e ∙ listed_filled ps); positions = e }

pub supported_requested : (p : Positions) (ps : List ℕ) → p ≡ filled ps
    → RequestedBy (gives (supported ps)) (record { answer = Ok Response.Supported; positions = p; id = no_frame.id; bytes = no_frame.bytes })
supported_requested p ps e =
    record { answer = ap (λ (l : List ℕ). gives (supported l)) (ap listed e ∙ listed_filled ps); positions = e; sent_id = refl; sent_bytes = refl }

module _ (p : Positions) (frame : Frame) (id : ℕ) (bytes : List ℕ) (e : p ≡ filled []) (i : id ≡ frame.id) (b : bytes ≡ frame.bytes) where
  pub claims_requested : RequestedBy (gives (claims frame)) (record { answer = Ok Response.SendClaim; positions = p; id = id; bytes = bytes })
  claims_requested = record { answer = λ j. gives (claims (record { id = i j; bytes = b j })); positions = e; sent_id = i; sent_bytes = b }

  pub nak_requested : RequestedBy (gives (nak frame)) (record { answer = Ok Response.SendNak; positions = p; id = id; bytes = bytes })
  nak_requested = record { answer = λ j. gives (nak (record { id = i j; bytes = b j })); positions = e; sent_id = i; sent_bytes = b }

pub formed_acknowledged : (frame : Frame) (id : ℕ) (bytes : List ℕ) → id ≡ frame.id → bytes ≡ frame.bytes
    → AcknowledgedBy (gives frame) (record { answer = Ok tt; id = id; bytes = bytes })
formed_acknowledged frame id bytes i b = record { answer = λ j. gives (record { id = i j; bytes = b j }); sent_id = i; sent_bytes = b }

-- a command, step by step

module _ (dgn instance : ℕ) (es : List Entry) (stand : Stand) where
  pub route_other : (form : ℕ) → form ≡ catalogue_form dgn → any (has_command form) es ≡ false → route_of dgn instance es stand ≡ gives Commands.nothing_to_do
  unfolding route_of
  route_other form f n = rw (sym f, n)

  pub route_held : (form address : ℕ) → form ≡ catalogue_form dgn → any (has_command form) es ≡ true → stand ≡ held address
      → route_of dgn instance es stand
      ≡ (if is_elsewhere (destined dgn) address then gives Commands.nothing_to_do else gives (picks (positions_where (is_meant (catalogue_form dgn) instance) es)))
  unfolding route_of address_held
  route_held form address f n s = rw (s, sym f, n)

  pub route_unheld : (form : ℕ) → form ≡ catalogue_form dgn → any (has_command form) es ≡ true → address_held stand ≡ refused 18
      → route_of dgn instance es stand ≡ refused 18
  unfolding route_of
  route_unheld form f n a = rw (sym f, n, a)

-- a request, step by step

module _ (asked : Asked) (es : List Entry) where
  pub status_supported : (address : ℕ) → any (supports asked) es ≡ true
      → status_of asked es address ≡ supported (positions_where (supports asked) es)
  unfolding status_of
  status_supported address n = rw n

  pub status_global : (address : ℕ) → any (supports asked) es ≡ false → asked.destination ≡ everyone
      → status_of asked es address ≡ unsupported
  unfolding status_of
  status_global address n t = rw (n, eq-eqb asked.destination everyone t)

  pub status_nobody : (address : ℕ) → any (supports asked) es ≡ false → (asked.destination ≡ everyone → ⊥)
      → asked.source ≡ no_address → status_of asked es address ≡ unsupported
  unfolding status_of
  status_nobody address n t s = rw (n, ne_eqb asked.destination everyone t, eq-eqb asked.source no_address s)

  pub status_nak : (address : ℕ) → any (supports asked) es ≡ false → (asked.destination ≡ everyone → ⊥)
      → (asked.source ≡ no_address → ⊥) → status_of asked es address ≡ nak (acknowledgment_frame address (nak_to asked))
  unfolding status_of
  status_nak address n t s = rw (n, ne_eqb asked.destination everyone t, ne_eqb asked.source no_address s)

  module _ (c : Claim) (stand : Stand) (s : stand ≡ stand_of c) where
    pub reply_elsewhere : is_ours asked stand ≡ false → reply_of asked es c ≡ gives Requests.nothing_to_do
    unfolding reply_of
    reply_elsewhere o = rw (sym s, o)

    pub reply_claims : is_ours asked stand ≡ true → asked.dgn ≡ address_claimed
        → reply_of asked es c ≡ gives (claims (claim_frame c))
    unfolding reply_of
    reply_claims o d = rw (sym s, o, eq-eqb asked.dgn address_claimed d)

    pub reply_held : (address : ℕ) → is_ours asked stand ≡ true → (asked.dgn ≡ address_claimed → ⊥)
        → address_held stand ≡ gives address → reply_of asked es c ≡ gives (status_of asked es address)
    unfolding reply_of
    reply_held address o d a = rw (sym s, o, ne_eqb asked.dgn address_claimed d, a)

    pub reply_unheld : is_ours asked stand ≡ true → (asked.dgn ≡ address_claimed → ⊥) → address_held stand ≡ refused 18
        → reply_of asked es c ≡ refused 18
    unfolding reply_of
    reply_unheld o d a = rw (sym s, o, ne_eqb asked.dgn address_claimed d, a)

module _ (edition : Edition) (parts : Parts) (bytes : List ℕ) (es : List Entry) (c : Claim) where
  pub answer_other : (catalogue_form parts.dgn ≡ request_dgn → ⊥)
      → answer_of edition parts bytes es c ≡ gives Requests.nothing_to_do
  unfolding answer_of
  answer_other n = rw (ne_eqb _ _ n)

  pub answer_large : (asked : Asked) → catalogue_form parts.dgn ≡ request_dgn → asked ≡ asked_of edition parts bytes
      → greatest_dgn < asked.dgn → answer_of edition parts bytes es c ≡ refused 17
  unfolding answer_of
  answer_large asked e a l =
      let d : requested_dgn bytes ≡ asked.dgn = ap (λ (x : Asked). x.dgn) (sym a) in
      rw (eq-eqb _ _ e, d, lt-ltb _ _ l)

  pub answer_reply : (asked : Asked) → catalogue_form parts.dgn ≡ request_dgn → asked ≡ asked_of edition parts bytes
      → asked.dgn ≤ greatest_dgn → answer_of edition parts bytes es c ≡ reply_of asked es c
  unfolding answer_of
  answer_reply asked e a l =
      let d : requested_dgn bytes ≤ greatest_dgn = rw (ap (λ (x : Asked). x.dgn) a) at l in
      rw (eq-eqb _ _ e, le-ltb greatest_dgn (requested_dgn bytes) d, a)

-- the request in a frame, as the code reads it
pub asked_read : (edition : Edition) (parts : Parts) (bytes : List ℕ) (dgn instance : ℕ)
    → dgn ≡ number_of (get_or bytes 0 0 ∷ get_or bytes 1 0 ∷ get_or bytes 2 0 ∷ []) → instance ≡ instance_asked edition bytes
    → record { destination = parts.dgn % 256; source = parts.source; dgn = dgn; instance = instance }
    ≡ asked_of edition parts bytes
unfolding destination_of requested_dgn
asked_read edition parts bytes dgn instance e n =
    let d = e ∙ dgn_read bytes in
    let t : parts.dgn % 256 ≡ destination_of parts.dgn = sym (rw (div-one parts.dgn)) in
    λ i. record { destination = t i; source = parts.source; dgn = d i; instance = n i }

-- what was handed in goes on

module _ (id : ℕ) (bytes : List ℕ) (h : Host) (c : Claim) where
  pub routed_refused : (n : ℕ) → handed_in id bytes h c ≡ refused n → routed_of id bytes h c ≡ refused n
  unfolding routed_of
  routed_refused n e = rw e

  pub routed_given : (parts : Parts) (eight : List ℕ) (stand : Stand) → handed_in id bytes h c ≡ gives parts → eight ≡ bytes → stand ≡ stand_of c
      → routed_of id bytes h c ≡ route_of parts.dgn (get_or eight 0 0) (hosted h) stand
  unfolding routed_of
  routed_given parts eight stand e b s = rw (e, s, b)

  pub requested_refused : (n : ℕ) → handed_in id bytes h c ≡ refused n → requested_of id bytes h c ≡ refused n
  unfolding requested_of
  requested_refused n e = rw e

  pub requested_given : (parts : Parts) (eight : List ℕ) → handed_in id bytes h c ≡ gives parts → eight ≡ bytes
      → requested_of id bytes h c ≡ answer_of h.edition parts eight (hosted h) c
  unfolding requested_of
  requested_given parts eight e b = rw (e, b)
