-- The statements of specs/Laws.antt on answers, refusals and what is handed in, proved.
-- Assumes nothing.
use Rattle.std.specs.Prelude.{Ok, Err}
use Rattle.std.specs.Prelude.{if◌then◌else◌}
use mathlib.Core.Path.{◌≡◌, refl, sym, ap, ◌∙◌}
use mathlib.Core.Bool.{Bool, true, false, not}
use mathlib.Core.List.{List, [], ◌∷◌}
use Prim.Native.Nat.{ℕ, ◌-◌, ◌/◌, ◌≤◌}
use native.Mathlib.Nat.{div-one}
use native.Mathlib.Omega.{arith}
use borrow.Author.Tests.{ne_eqb, eqb-true}
use lib.ListN.{length, take, get_or, replicate}
use lib.Seq.{take_at, length-take-le, get_or-take}
use Rattle.words.specs.Words.{◌≤?◌, ◌=?◌, ◌and◌, Told, refused, gives, given◌then◌, done}
use Rattle.words.specs.Lists.{any, every, no_two}
use Rattle.frame.specs.Identifier.{greatest_dgn, destination_of, catalogue_form}
use Rattle.frame.specs.Frame.{checked_of}
use Rattle.frame.specs.Standard.{Frame, dgn_at}
use Rattle.frame.specs.Laws.{told_but_priority}
use Rattle.frame.specs.declared.Parts.{Parts}
use Rattle.frame.specs.declared.BadFrame.TheVariants.{IdentifierTooLarge, NotEightBytes, ReservedBitSet}
use Rattle.frame.specs.declared.BadFrame.TheVariants.{SourceNotAllowed}
use Rattle.words.proofs.Words.{by_test, both_true, before_refusal, refused_gives, refused_same, gives_same}
use Rattle.frame.proofs.Laws as frame_laws
use Rattle.claim.specs.Claim.{keeps_rules, holds_list, stand_of}
use Rattle.claim.specs.declared.Claim.{Claim}
use Rattle.command.specs.Hosted.{most_entries, blank_entry, is_hosted_dgn, is_entry, is_same_pair, hosted, is_well_formed}
use Rattle.command.specs.Hosted.{begun}
use Rattle.command.specs.Handed.{handed_in}
use Rattle.command.specs.Commands as Commands
use Rattle.command.specs.Commands.{has_command, is_elsewhere, Outcome, picks, route_of, routed_of}
use Rattle.command.specs.Acknowledgment.{acknowledged_of}
use Rattle.command.specs.Requests as Requests
use Rattle.command.specs.Requests.{requested_dgn, instance_asked, Reply, claims, supported, nak, unsupported}
use Rattle.command.specs.Requests.{asked_of, answer_of, requested_of}
use Rattle.command.specs.Promises.{number_of_not_started, number_of_not_routed, number_of_not_answered}
use Rattle.command.specs.Promises.{number_of_not_acknowledged, outcome_in, reply_in}
use Rattle.command.specs.Promises.{started_of}
use Rattle.command.specs.Laws as the
use Rattle.command.specs.declared.Edition.{Edition}
use Rattle.command.specs.declared.Edition.TheVariants.{One, Two}
use Rattle.command.specs.declared.Entry.{Entry}
use Rattle.command.specs.declared.Host.{Host}
use Rattle.command.specs.declared.Acknowledgment.{Acknowledgment}
use Rattle.command.specs.declared.NotStarted.{NotStarted}
use Rattle.command.specs.declared.Choice.{Choice}
use Rattle.command.specs.declared.NotRouted.{NotRouted}
use Rattle.command.specs.declared.Response.{Response}
use Rattle.command.specs.declared.NotAnswered.{NotAnswered}
use Rattle.command.specs.declared.NotAcknowledged.{NotAcknowledged}
use Rattle.command.proofs.Handing.{well_few, handed_broken, handed_lists}
use Rattle.command.proofs.Answers.{acknowledged_broken, acknowledged_nobody, acknowledged_ill}
use Rattle.command.proofs.Answers.{acknowledged_large, acknowledged_unheld, routed_refused, requested_refused}
use Rattle.command.proofs.Answers.{route_other, route_held, route_unheld, answer_other, answer_large}

-- an answer is read back from what it tells

not_started_same : (v w : NotStarted) → number_of_not_started v ≡ number_of_not_started w → v ≡ w
not_started_same NotStarted.ListMalformed NotStarted.ListMalformed e = refl

not_routed_back : ℕ → NotRouted
not_routed_back n =
    if n =? 2 then NotRouted.BrokenState else
    if n =? 16 then NotRouted.ListMalformed else
    if n =? 18 then NotRouted.NoAddressHeld else
    NotRouted.BadFrame (frame_laws.bad_back n)

not_routed_back_lem : (w : NotRouted) → not_routed_back (number_of_not_routed w) ≡ w
unfolding not_routed_back
not_routed_back_lem NotRouted.BrokenState = refl
not_routed_back_lem NotRouted.ListMalformed = refl
not_routed_back_lem NotRouted.NoAddressHeld = refl
not_routed_back_lem (NotRouted.BadFrame IdentifierTooLarge) = ap NotRouted.BadFrame (frame_laws.bad_back_lem IdentifierTooLarge)
not_routed_back_lem (NotRouted.BadFrame NotEightBytes) = ap NotRouted.BadFrame (frame_laws.bad_back_lem NotEightBytes)
not_routed_back_lem (NotRouted.BadFrame ReservedBitSet) = ap NotRouted.BadFrame (frame_laws.bad_back_lem ReservedBitSet)
not_routed_back_lem (NotRouted.BadFrame SourceNotAllowed) = ap NotRouted.BadFrame (frame_laws.bad_back_lem SourceNotAllowed)

not_routed_same : (v w : NotRouted) → number_of_not_routed v ≡ number_of_not_routed w → v ≡ w
not_routed_same v w e = sym (not_routed_back_lem v) ∙ ap not_routed_back e ∙ not_routed_back_lem w

not_answered_back : ℕ → NotAnswered
not_answered_back n =
    if n =? 2 then NotAnswered.BrokenState else
    if n =? 16 then NotAnswered.ListMalformed else
    if n =? 17 then NotAnswered.DgnTooLarge else
    if n =? 18 then NotAnswered.NoAddressHeld else
    NotAnswered.BadFrame (frame_laws.bad_back n)

not_answered_back_lem : (w : NotAnswered) → not_answered_back (number_of_not_answered w) ≡ w
unfolding not_answered_back
not_answered_back_lem NotAnswered.BrokenState = refl
not_answered_back_lem NotAnswered.ListMalformed = refl
not_answered_back_lem NotAnswered.DgnTooLarge = refl
not_answered_back_lem NotAnswered.NoAddressHeld = refl
not_answered_back_lem (NotAnswered.BadFrame IdentifierTooLarge) = ap NotAnswered.BadFrame (frame_laws.bad_back_lem IdentifierTooLarge)
not_answered_back_lem (NotAnswered.BadFrame NotEightBytes) = ap NotAnswered.BadFrame (frame_laws.bad_back_lem NotEightBytes)
not_answered_back_lem (NotAnswered.BadFrame ReservedBitSet) = ap NotAnswered.BadFrame (frame_laws.bad_back_lem ReservedBitSet)
not_answered_back_lem (NotAnswered.BadFrame SourceNotAllowed) = ap NotAnswered.BadFrame (frame_laws.bad_back_lem SourceNotAllowed)

not_answered_same : (v w : NotAnswered) → number_of_not_answered v ≡ number_of_not_answered w → v ≡ w
not_answered_same v w e = sym (not_answered_back_lem v) ∙ ap not_answered_back e ∙ not_answered_back_lem w

not_acknowledged_back : ℕ → NotAcknowledged
not_acknowledged_back n =
    if n =? 2 then NotAcknowledged.BrokenState else
    if n =? 6 then NotAcknowledged.RequesterNotAllowed else
    if n =? 16 then NotAcknowledged.ListMalformed else
    if n =? 17 then NotAcknowledged.DgnTooLarge else
    NotAcknowledged.NoAddressHeld

not_acknowledged_back_lem : (w : NotAcknowledged) → not_acknowledged_back (number_of_not_acknowledged w) ≡ w
unfolding not_acknowledged_back
not_acknowledged_back_lem NotAcknowledged.BrokenState = refl
not_acknowledged_back_lem NotAcknowledged.RequesterNotAllowed = refl
not_acknowledged_back_lem NotAcknowledged.ListMalformed = refl
not_acknowledged_back_lem NotAcknowledged.DgnTooLarge = refl
not_acknowledged_back_lem NotAcknowledged.NoAddressHeld = refl

not_acknowledged_same : (v w : NotAcknowledged) → number_of_not_acknowledged v ≡ number_of_not_acknowledged w → v ≡ w
not_acknowledged_same v w e = sym (not_acknowledged_back_lem v) ∙ ap not_acknowledged_back e ∙ not_acknowledged_back_lem w

choice_back : Commands.Outcome → Choice
choice_back Commands.nothing_to_do = Choice.NothingToDo
choice_back (picks ps) = Choice.Picked

choice_back_lem : (choice : Choice) (ps : List ℕ) → choice_back (outcome_in choice ps) ≡ choice
unfolding choice_back
choice_back_lem Choice.NothingToDo ps = refl
choice_back_lem Choice.Picked ps = refl

response_back : Requests.Reply → Response
response_back Requests.nothing_to_do = Response.NothingToDo
response_back (claims f) = Response.SendClaim
response_back (supported ps) = Response.Supported
response_back (nak f) = Response.SendNak
response_back unsupported = Response.Unsupported

response_back_lem : (response : Response) (ps : List ℕ) (f : Frame) → response_back (reply_in response ps f) ≡ response
unfolding response_back
response_back_lem Response.NothingToDo ps f = refl
response_back_lem Response.SendClaim ps f = refl
response_back_lem Response.Supported ps f = refl
response_back_lem Response.SendNak ps f = refl
response_back_lem Response.Unsupported ps f = refl

pub told_starting_same : the.ToldStartingSame
told_starting_same (Ok u) (Ok v) e = refl
told_starting_same (Ok u) (Err w) e = refused_gives (sym e)
told_starting_same (Err v) (Ok u) e = refused_gives e
told_starting_same (Err v) (Err w) e = ap Err (not_started_same v w (refused_same e))

pub told_routing_same : the.ToldRoutingSame
told_routing_same (Ok a) (Ok b) ps qs e =
    ap Ok (sym (choice_back_lem a ps) ∙ ap choice_back (gives_same e) ∙ choice_back_lem b qs)
told_routing_same (Ok a) (Err w) ps qs e = refused_gives (sym e)
told_routing_same (Err v) (Ok b) ps qs e = refused_gives e
told_routing_same (Err v) (Err w) ps qs e = ap Err (not_routed_same v w (refused_same e))

pub told_requesting_same : the.ToldRequestingSame
told_requesting_same (Ok a) (Ok b) ps qs f g e =
    ap Ok (sym (response_back_lem a ps f) ∙ ap response_back (gives_same e) ∙ response_back_lem b qs g)
told_requesting_same (Ok a) (Err w) ps qs f g e = refused_gives (sym e)
told_requesting_same (Err v) (Ok b) ps qs f g e = refused_gives e
told_requesting_same (Err v) (Err w) ps qs f g e = ap Err (not_answered_same v w (refused_same e))

pub told_acknowledging_same : the.ToldAcknowledgingSame
told_acknowledging_same (Ok u) (Ok v) f g e = refl
told_acknowledging_same (Ok u) (Err w) f g e = refused_gives (sym e)
told_acknowledging_same (Err v) (Ok u) f g e = refused_gives e
told_acknowledging_same (Err v) (Err w) f g e = ap Err (not_acknowledged_same v w (refused_same e))

-- the number of a refusal, as an answer gives it, is that of the refusal which is told

pub starting_refusal_told : the.StartingRefusalTold
starting_refusal_told (Ok u) = record { number = refl }
starting_refusal_told (Err why) = record { number = refl }

pub routing_refusal_told : the.RoutingRefusalTold
routing_refusal_told (Ok choice) = record { number = refl }
routing_refusal_told (Err why) = record { number = refl }

pub requesting_refusal_told : the.RequestingRefusalTold
requesting_refusal_told (Ok response) = record { number = refl }
requesting_refusal_told (Err why) = record { number = refl }

pub acknowledging_refusal_told : the.AcknowledgingRefusalTold
acknowledging_refusal_told (Ok u) = record { number = refl }
acknowledging_refusal_told (Err why) = record { number = refl }

-- no second answer

pub start_only : the.StartOnly
start_only entries count edition r s p q =
    let a = told_starting_same r.answer s.answer (p.answer ∙ sym q.answer) in
    let h = p.state ∙ sym q.state in
    λ i. record { host = h i; answer = a i }

pub route_only : the.RouteOnly
route_only id bytes h c r s p q =
    let a = told_routing_same r.answer s.answer _ _ (p.answer ∙ sym q.answer) in
    let x = p.positions ∙ sym q.positions in
    λ i. record { answer = a i; positions = x i }

pub request_only : the.RequestOnly
request_only id bytes h c r s p q =
    let a = told_requesting_same r.answer s.answer _ _ _ _ (p.answer ∙ sym q.answer) in
    let x = p.positions ∙ sym q.positions in
    let d = p.sent_id ∙ sym q.sent_id in
    let b = p.sent_bytes ∙ sym q.sent_bytes in
    λ i. record { answer = a i; positions = x i; id = d i; bytes = b i }

pub acknowledge_only : the.AcknowledgeOnly
acknowledge_only c reply r s p q =
    let a = told_acknowledging_same r.answer s.answer _ _ (p.answer ∙ sym q.answer) in
    let d = p.sent_id ∙ sym q.sent_id in
    let b = p.sent_bytes ∙ sym q.sent_bytes in
    λ i. record { answer = a i; id = d i; bytes = b i }

pub not_started_refusal_only : the.NotStartedRefusalOnly
not_started_refusal_only why r s p q = p.number ∙ sym q.number

pub starting_refusal_only : the.StartingRefusalOnly
starting_refusal_only answer r s p q = p.number ∙ sym q.number

pub not_routed_refusal_only : the.NotRoutedRefusalOnly
not_routed_refusal_only why r s p q = p.number ∙ sym q.number

pub routing_refusal_only : the.RoutingRefusalOnly
routing_refusal_only answer r s p q = p.number ∙ sym q.number

pub not_answered_refusal_only : the.NotAnsweredRefusalOnly
not_answered_refusal_only why r s p q = p.number ∙ sym q.number

pub requesting_refusal_only : the.RequestingRefusalOnly
requesting_refusal_only answer r s p q = p.number ∙ sym q.number

pub not_acknowledged_refusal_only : the.NotAcknowledgedRefusalOnly
not_acknowledged_refusal_only why r s p q = p.number ∙ sym q.number

pub acknowledging_refusal_only : the.AcknowledgingRefusalOnly
acknowledging_refusal_only answer r s p q = p.number ∙ sym q.number

-- the number of a refusal is the same whatever stands beside

pub routing_refusal_any : the.RoutingRefusalAny
routing_refusal_any (Ok choice) r ps p = p.number
routing_refusal_any (Err why) r ps p = p.number

pub requesting_refusal_any : the.RequestingRefusalAny
requesting_refusal_any (Ok response) r ps frame p = p.number
requesting_refusal_any (Err why) r ps frame p = p.number

pub acknowledging_refusal_any : the.AcknowledgingRefusalAny
acknowledging_refusal_any (Ok u) r frame p = p.number
acknowledging_refusal_any (Err why) r frame p = p.number

-- a refusal keeps

pub start_refused_keeps : the.StartRefusedKeeps
unfolding started_of
start_refused_keeps entries count edition r n p e =
    by_test (is_well_formed (record { entries = entries; count = count; edition = edition }))
    (λ w. refused_gives {a = done} (sym e ∙ p.answer ∙ rw w))
    (λ w. p.state ∙ rw w)

pub route_refused_keeps : the.RouteRefusedKeeps
route_refused_keeps id bytes h c r n p e =
    let t : routed_of id bytes h c ≡ refused n = sym p.answer ∙ e in
    p.positions ∙ rw t

pub request_refused_keeps : the.RequestRefusedKeeps
request_refused_keeps id bytes h c r n p e =
    let t : requested_of id bytes h c ≡ refused n = sym p.answer ∙ e in
    (p.positions ∙ rw t, (p.sent_id ∙ rw t, p.sent_bytes ∙ rw t))

pub acknowledge_refused_keeps : the.AcknowledgeRefusedKeeps
acknowledge_refused_keeps c reply r n p e =
    let t : acknowledged_of c reply ≡ refused n = sym p.answer ∙ e in
    (p.sent_id ∙ rw t, p.sent_bytes ∙ rw t)

-- the lowest number wins

pub lowest_wins : (id : ℕ) (bytes : List ℕ) (h : Host) (c : Claim) → the.LowestWins id bytes h c
unfolding handed_in
lowest_wins id bytes h c =
    record {
      two = handed_broken id bytes h c;
      three_to_six = λ n k e. rw (k, e);
      sixteen_claim = λ p k e l. handed_lists id bytes h c p k e ∙ rw l;
      sixteen_host = λ p k e w. handed_lists id bytes h c p k e ∙ ill (holds_list c) (is_well_formed h) p w;
      fine = λ p s e w. let b = both_true (keeps_rules c) (holds_list c) s in handed_lists id bytes h c p b.0 e ∙ rw (b.1, w);
      passed_on = λ n e. (routed_refused id bytes h c n e, requested_refused id bytes h c n e);
    }
  where
    ill : (a b : Bool) (p : Parts) → b ≡ false → (if not (a and b) then refused 16 else gives p) ≡ refused 16
    ill true b p w = rw w
    ill false b p w = refl

pub acknowledge_lowest_wins : (c : Claim) (a : Acknowledgment) → the.AcknowledgeLowestWins c a
acknowledge_lowest_wins c reply =
    record {
      two = acknowledged_broken c reply;
      six = acknowledged_nobody c reply;
      sixteen = acknowledged_ill c reply;
      seventeen = λ s q d. let b = both_true (keeps_rules c) (holds_list c) s in acknowledged_large c reply b.0 q b.1 d;
      eighteen = λ s q d a. let b = both_true (keeps_rules c) (holds_list c) s in acknowledged_unheld c reply (stand_of c) refl a b.0 q b.1 d;
    }

-- a frame is read by its DGN and its source alone

handed_but : (id : ℕ) (bytes : List ℕ) (h : Host) (c : Claim)
    → told_but_priority (handed_in id bytes h c)
    ≡ (if not (keeps_rules c) then refused 2 else
    given told_but_priority (checked_of id (length bytes)) then λ q.
    if not (holds_list c and is_well_formed h) then refused 16 else
    gives q)
unfolding handed_in
handed_but id bytes h c =
    by_test (keeps_rules c)
    (λ k. rw k (go (checked_of id (length bytes))))
    (λ k. rw k)
  where
    go : (t : Told Parts)
        → told_but_priority (given t then λ p. if not (holds_list c and is_well_formed h) then refused 16 else gives p)
        ≡ (given told_but_priority t then λ q. if not (holds_list c and is_well_formed h) then refused 16 else gives q)
    go (refused n) = refl
    go (gives p) =
        by_test (holds_list c and is_well_formed h)
        (λ w. rw w)
        (λ w. rw w)

routed_but : (t : Told Parts) (bytes : List ℕ) (h : Host) (c : Claim)
    → (given t then λ p. route_of p.dgn (get_or bytes 0 0) (hosted h) (stand_of c))
    ≡ (given told_but_priority t then λ q. route_of q.0 (get_or bytes 0 0) (hosted h) (stand_of c))
routed_but (refused n) bytes h c = refl
routed_but (gives p) bytes h c = refl

answer_but : (t : Told Parts) (bytes : List ℕ) (h : Host) (c : Claim)
    → (given t then λ p. answer_of h.edition p bytes (hosted h) c)
    ≡ (given told_but_priority t then λ q. answer_of h.edition (record { priority = 0; dgn = q.0; source = q.1 }) bytes (hosted h) c)
unfolding answer_of
answer_but (refused n) bytes h c = refl
answer_but (gives p) bytes h c = refl

pub priority_ignored : the.PriorityIgnored
unfolding routed_of requested_of
priority_ignored id id' bytes h c l l' e =
    let q = frame_laws.priority_ignored id id' (length bytes) l l' e in
    let t : told_but_priority (handed_in id bytes h c) ≡ told_but_priority (handed_in id' bytes h c) = handed_but id bytes h c ∙ rw q (sym (handed_but id' bytes h c)) in (
      rw (routed_but (handed_in id bytes h c) bytes h c, t) (sym (routed_but (handed_in id' bytes h c) bytes h c)),
      rw (answer_but (handed_in id bytes h c) bytes h c, t) (sym (answer_but (handed_in id' bytes h c) bytes h c)),
    )

-- only the entries count

pub well_same : (h h' : Host) → h.count ≡ h'.count → hosted h ≡ hosted h' → is_well_formed h ≡ is_well_formed h'
unfolding is_well_formed
well_same h h' n e = λ i. (n i ≤? most_entries) and every is_entry (e i) and no_two is_same_pair (e i)

pub past_count_ignored : the.PastCountIgnored
unfolding handed_in routed_of requested_of
past_count_ignored id bytes h h' c d n e =
    let w = well_same h h' n e in
    let t : handed_in id bytes h c ≡ handed_in id bytes h' c = rw w in (
      (λ i. given t i then λ p. route_of p.dgn (get_or bytes 0 0) (e i) (stand_of c)),
      (λ i. given t i then λ p. answer_of (d i) p bytes (e i) c),
    )

hosted_begun : (h : Host) → h.count ≤ length h.entries → hosted (begun h) ≡ hosted h
unfolding begun
hosted_begun h l = take_at (hosted h) (replicate (most_entries - h.count) blank_entry) h.count (length-take-le h.count h.entries l)

count_begun : (h : Host) → (begun h).count ≡ h.count
unfolding begun
count_begun h = refl

edition_begun : (h : Host) → (begun h).edition ≡ h.edition
unfolding begun
edition_begun h = refl

pub start_hosts : the.StartHosts
unfolding started_of
start_hosts entries count edition r p e n =
    let h : Host = record { entries = entries; count = count; edition = edition } in
    let w = (before_refusal (is_well_formed h) 16 (gives done) (sym p.answer ∙ e)).0 in
    let f = well_few h w in
    let l : count ≤ length entries = omega arith in
    let b : r.host ≡ begun h = p.state ∙ rw w in (
      ap hosted b ∙ hosted_begun h l,
      ap (λ (x : Host). x.edition) b ∙ edition_begun h,
      ap is_well_formed b ∙ well_same (begun h) h (count_begun h) (hosted_begun h l) ∙ w,
    )

pub hosted_dgn_low : the.HostedDgnLow
unfolding is_hosted_dgn catalogue_form destination_of
hosted_dgn_low dgn w a =
    let b = both_true (dgn ≤? greatest_dgn) (catalogue_form dgn =? dgn) w in
    let e : dgn - destination_of dgn ≡ dgn = rw a at (eqb-true (catalogue_form dgn) dgn b.1) in
    let d : dgn / 1 ≡ dgn = div-one dgn in
    omega arith

-- commands and requests that are nothing to do, or refused

pub not_hosted : the.NotHosted
unfolding routed_of
not_hosted id bytes h c p e n = rw e (route_other p.dgn (get_or bytes 0 0) (hosted h) (stand_of c) (catalogue_form p.dgn) refl n)

pub unheld_command : the.UnheldCommand
unfolding routed_of
unheld_command id bytes h c p e n a = rw e (route_unheld p.dgn (get_or bytes 0 0) (hosted h) (stand_of c) (catalogue_form p.dgn) refl n a)

pub command_elsewhere : the.CommandElsewhere
unfolding routed_of is_elsewhere
command_elsewhere id bytes h c p to address e s d n =
    let form = catalogue_form p.dgn in
    rw e
    (by_test (any (has_command form) (hosted h))
    (λ t. route_held p.dgn (get_or bytes 0 0) (hosted h) (stand_of c) form address refl t s ∙ rw (d, ne_eqb to address n))
    (λ t. route_other p.dgn (get_or bytes 0 0) (hosted h) (stand_of c) form refl t))

pub other_dgn : the.OtherDgn
unfolding requested_of
other_dgn id bytes h c p e n = rw e (answer_other h.edition p bytes (hosted h) c n)

pub request_too_large : the.RequestTooLarge
unfolding requested_of
request_too_large id bytes h c p e d l = rw e (answer_large h.edition p bytes (hosted h) c (asked_of h.edition p bytes) d refl l)

-- a request is read by the DGN and the instance that it asks for

answer_same : (edition edition' : Edition) (parts : Parts) (bytes bytes' : List ℕ) (es : List Entry) (c : Claim)
    → requested_dgn bytes ≡ requested_dgn bytes' → instance_asked edition bytes ≡ instance_asked edition' bytes'
    → answer_of edition parts bytes es c ≡ answer_of edition' parts bytes' es c
unfolding answer_of
answer_same edition edition' parts bytes bytes' es c d n = rw (d, n)

pub request_same : (id : ℕ) (bytes bytes' : List ℕ) (h h' : Host) (c : Claim) → length bytes ≡ length bytes'
    → h.count ≡ h'.count → hosted h ≡ hosted h' → requested_dgn bytes ≡ requested_dgn bytes'
    → instance_asked h.edition bytes ≡ instance_asked h'.edition bytes'
    → requested_of id bytes h c ≡ requested_of id bytes' h' c
unfolding requested_of handed_in
request_same id bytes bytes' h h' c l k e d n =
    let w = well_same h h' k e in
    let t : handed_in id bytes h c ≡ handed_in id bytes' h' c = rw (l, w) in
    rw (t, e) (go (handed_in id bytes' h' c))
  where
    go : (t : Told Parts)
        → (given t then λ p. answer_of h.edition p bytes (hosted h') c)
        ≡ (given t then λ p. answer_of h'.edition p bytes' (hosted h') c)
    go (refused n) = refl
    go (gives p) = answer_same h.edition h'.edition p bytes bytes' (hosted h') c d n

-- its first bytes are what is read of them

pub dgn_of_three : (bytes bytes' : List ℕ) → take 3 bytes ≡ take 3 bytes' → requested_dgn bytes ≡ requested_dgn bytes'
unfolding requested_dgn dgn_at
dgn_of_three bytes bytes' e = rw e

three_of_four : (bytes : List ℕ) → take 3 (take 4 bytes) ≡ take 3 bytes
three_of_four [] = refl
three_of_four (a ∷ []) = refl
three_of_four (a ∷ b ∷ []) = refl
three_of_four (a ∷ b ∷ d ∷ bytes) = refl

instance_of_four : (edition : Edition) (bytes bytes' : List ℕ) → take 4 bytes ≡ take 4 bytes'
    → instance_asked edition bytes ≡ instance_asked edition bytes'
unfolding instance_asked
instance_of_four One bytes bytes' e = refl
instance_of_four Two bytes bytes' e =
    sym (get_or-take 4 bytes 3 0 (omega arith)) ∙ ap (λ (l : List ℕ). get_or l 3 0) e ∙ get_or-take 4 bytes' 3 0 (omega arith)

pub later_bytes_ignored : the.LaterBytesIgnored
later_bytes_ignored id bytes bytes' h c l e =
    request_same id bytes bytes' h h c l refl refl
    (dgn_of_three bytes bytes' (sym (three_of_four bytes) ∙ ap (take 3) e ∙ three_of_four bytes'))
    (instance_of_four h.edition bytes bytes' e)
