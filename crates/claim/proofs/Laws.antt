-- The other statements of specs/Laws.antt, proved: what is told of the answers, and what the promises of the calls come to.
-- Assumes nothing.
use Rattle.std.specs.Prelude.{Ok, Err, if◌then◌else◌}
use mathlib.Core.Path.{◌≡◌, refl, sym, ap, ◌∙◌}
use mathlib.Core.Bool.{Bool, true, false}
use mathlib.Core.List.{List, [], ◌∷◌, ◌++◌}
use Prim.Native.Nat.{ℕ, ◌-◌, ◌≤◌}
use native.Mathlib.Omega.{arith}
use borrow.Author.Tests.{ne_eqb, le-leb}
use lib.ListN.{length, replicate, get_or-append}
use lib.Seq.{take-append_seam}
use Rattle.words.specs.Words.{◌=?◌, Told, refused, gives, given◌then◌, Done, done}
use Rattle.frame.specs.Bytes.{bytes_of}
use Rattle.frame.specs.Identifier.{identifier_of}
use Rattle.frame.specs.Frame.{frame_bytes, source_allowed, checked_of}
use Rattle.frame.specs.Standard.{claim_dgn, no_address}
use Rattle.frame.specs.Laws.{told_but_priority}
use Rattle.frame.specs.declared.Parts.{Parts}
use Rattle.frame.specs.declared.BadFrame.TheVariants.{IdentifierTooLarge, NotEightBytes, ReservedBitSet}
use Rattle.frame.specs.declared.BadFrame.TheVariants.{SourceNotAllowed}
use Rattle.words.proofs.Words.{before_refusal, refused_gives, gives_same, refused_same, by_test, both_true, true_false}
use Rattle.frame.proofs.Bytes.{length_bytes}
use Rattle.frame.proofs.Laws as frame_laws
use Rattle.frame.proofs.Sent.{formed_checked}
use Rattle.claim.specs.Candidates.{longest_list, is_well_formed, padded}
use Rattle.claim.specs.Claim.{claim_priority, keeps_rules, holds_list, address, claim_source, claim_id, claim_bytes}
use Rattle.claim.specs.Claim.{Stand, held, claiming, silent, begun, Outcome, nothing_to_do, own_name, repeated}
use Rattle.claim.specs.Claim.{moved, fell_silent, outcome_of, after, pause}
use Rattle.claim.specs.History.{Event, paused, step, run}
use Rattle.claim.specs.Promises.{number_of_not_started, number_of_not_heard, number_of_bad_state, outcome_in, stands_at}
use Rattle.claim.specs.Promises.{Pause}
use Rattle.claim.specs.Promises.{started_of, meets_frame, heard_of, after_told, is_sent_told, is_sound}
use Rattle.claim.specs.Private.{met_of}
use Rattle.claim.specs.Calls.{no_call, a_hear, a_pause, claim_in, events_of, events_in}
use Rattle.claim.specs.Laws as the
use Rattle.claim.specs.declared.Claim.{Claim}
use Rattle.claim.specs.declared.NotStarted.{NotStarted}
use Rattle.claim.specs.declared.Reaction.{Reaction}
use Rattle.claim.specs.declared.NotHeard.{NotHeard}
use Rattle.claim.specs.declared.BadState.{BadState}
use Rattle.claim.specs.declared.Paused.{Paused}
use Rattle.claim.specs.declared.Place.{Place}
use Rattle.claim.proofs.Candidates.{well_formed}
use Rattle.claim.proofs.Sound.{Rules, rules_of, of_rules, holds_of, address_low}
use Rattle.claim.proofs.Outcomes.{rules_paused}
use Rattle.claim.proofs.Calls.{heard_broken, heard_past, heard_given, sound_well, sound_refused}
use Rattle.claim.proofs.Machine.{same_self, node_after, node_paused, sound_same}

-- an answer is read back from what it tells

not_started_same : (v w : NotStarted) → number_of_not_started v ≡ number_of_not_started w → v ≡ w
not_started_same NotStarted.ListMalformed NotStarted.ListMalformed e = refl

not_heard_back : ℕ → NotHeard
not_heard_back n =
    if n =? 2 then NotHeard.BrokenState else
    if n =? 16 then NotHeard.ListMalformed else
    NotHeard.BadFrame (frame_laws.bad_back n)

not_heard_back_lem : (w : NotHeard) → not_heard_back (number_of_not_heard w) ≡ w
unfolding not_heard_back
not_heard_back_lem NotHeard.BrokenState = refl
not_heard_back_lem (NotHeard.BadFrame IdentifierTooLarge) = ap NotHeard.BadFrame (frame_laws.bad_back_lem IdentifierTooLarge)
not_heard_back_lem (NotHeard.BadFrame NotEightBytes) = ap NotHeard.BadFrame (frame_laws.bad_back_lem NotEightBytes)
not_heard_back_lem (NotHeard.BadFrame ReservedBitSet) = ap NotHeard.BadFrame (frame_laws.bad_back_lem ReservedBitSet)
not_heard_back_lem (NotHeard.BadFrame SourceNotAllowed) = ap NotHeard.BadFrame (frame_laws.bad_back_lem SourceNotAllowed)
not_heard_back_lem NotHeard.ListMalformed = refl

bad_state_back : ℕ → BadState
bad_state_back n = if n =? 2 then BadState.BrokenState else BadState.ListMalformed

bad_state_back_lem : (w : BadState) → bad_state_back (number_of_bad_state w) ≡ w
unfolding bad_state_back
bad_state_back_lem BadState.BrokenState = refl
bad_state_back_lem BadState.ListMalformed = refl

bad_state_same : (v w : BadState) → number_of_bad_state v ≡ number_of_bad_state w → v ≡ w
bad_state_same v w e = sym (bad_state_back_lem v) ∙ ap bad_state_back e ∙ bad_state_back_lem w

reaction_back : Outcome → Reaction
reaction_back nothing_to_do = Reaction.NothingToDo
reaction_back own_name = Reaction.OwnName
reaction_back repeated = Reaction.SendClaimAgain
reaction_back moved = Reaction.SendNextClaim
reaction_back fell_silent = Reaction.SendCannotClaim

reaction_back_lem : (r : Reaction) → reaction_back (outcome_in r) ≡ r
unfolding reaction_back
reaction_back_lem Reaction.NothingToDo = refl
reaction_back_lem Reaction.OwnName = refl
reaction_back_lem Reaction.SendClaimAgain = refl
reaction_back_lem Reaction.SendNextClaim = refl
reaction_back_lem Reaction.SendCannotClaim = refl

place_back : Stand → Place
place_back (held a) = Place.Held a
place_back (claiming a) = Place.Claiming a
place_back silent = Place.Silent

place_back_lem : (place : Place) → place_back (stands_at place) ≡ place
unfolding place_back
place_back_lem (Place.Held a) = refl
place_back_lem (Place.Claiming a) = refl
place_back_lem Place.Silent = refl

pub told_starting_same : the.ToldStartingSame
told_starting_same (Ok u) (Ok v) e = refl
told_starting_same (Ok u) (Err w) e = refused_gives (sym e)
told_starting_same (Err v) (Ok u) e = refused_gives e
told_starting_same (Err v) (Err w) e = ap Err (not_started_same v w (refused_same e))

pub told_hearing_same : the.ToldHearingSame
told_hearing_same (Ok a) (Ok b) e =
    ap Ok (sym (reaction_back_lem a) ∙ ap reaction_back (gives_same e) ∙ reaction_back_lem b)
told_hearing_same (Ok a) (Err w) e = refused_gives (sym e)
told_hearing_same (Err v) (Ok b) e = refused_gives e
told_hearing_same (Err v) (Err w) e =
    ap Err (sym (not_heard_back_lem v) ∙ ap not_heard_back (refused_same e) ∙ not_heard_back_lem w)

pub told_pausing_same : the.ToldPausingSame
told_pausing_same (Ok u) (Ok v) e = refl
told_pausing_same (Ok u) (Err w) e = refused_gives (sym e)
told_pausing_same (Err v) (Ok u) e = refused_gives e
told_pausing_same (Err v) (Err w) e = ap Err (bad_state_same v w (refused_same e))

pub told_standing_same : the.ToldStandingSame
told_standing_same (Ok a) (Ok b) e =
    ap Ok (sym (place_back_lem a) ∙ ap place_back (gives_same e) ∙ place_back_lem b)
told_standing_same (Ok a) (Err w) e = refused_gives (sym e)
told_standing_same (Err v) (Ok b) e = refused_gives e
told_standing_same (Err v) (Err w) e = ap Err (bad_state_same v w (refused_same e))

pub told_sending_same : the.ToldSendingSame
told_sending_same = told_pausing_same

-- the number of a refusal, as an answer gives it, is that of the refusal which is told

pub starting_refusal_told : the.StartingRefusalTold
starting_refusal_told (Ok u) = record { number = refl }
starting_refusal_told (Err why) = record { number = refl }

pub hearing_refusal_told : the.HearingRefusalTold
hearing_refusal_told (Ok reaction) = record { number = refl }
hearing_refusal_told (Err why) = record { number = refl }

pub pausing_refusal_told : the.PausingRefusalTold
pausing_refusal_told (Ok u) = record { number = refl }
pausing_refusal_told (Err why) = record { number = refl }

pub standing_refusal_told : the.StandingRefusalTold
standing_refusal_told (Ok place) = record { number = refl }
standing_refusal_told (Err why) = record { number = refl }

pub sending_refusal_told : the.SendingRefusalTold
sending_refusal_told (Ok u) = record { number = refl }
sending_refusal_told (Err why) = record { number = refl }

-- no second answer, state or frame

pub start_only : the.StartOnly
start_only name list r s p q =
    let a = told_starting_same r.answer s.answer (p.answer ∙ sym q.answer) in
    let c = p.state ∙ sym q.state in
    let d = p.sent_id ∙ sym q.sent_id in
    let b = p.sent_bytes ∙ sym q.sent_bytes in
    λ i. record { claim = c i; answer = a i; id = d i; bytes = b i }

pub hear_only : the.HearOnly
hear_only id bytes claim r s p q =
    let a = told_hearing_same r.answer s.answer (p.answer ∙ sym q.answer) in
    let c = p.state ∙ sym q.state in
    let d = p.sent_id ∙ sym q.sent_id in
    let b = p.sent_bytes ∙ sym q.sent_bytes in
    λ i. record { claim = c i; answer = a i; id = d i; bytes = b i }

pub pause_only : the.PauseOnly
pause_only ms claim r s p q =
    let a = told_pausing_same r.answer s.answer (p.answer ∙ sym q.answer) in
    let c = p.state ∙ sym q.state in
    λ i. record { claim = c i; answer = a i }

pub stands_only : the.StandsOnly
stands_only c r s p q = told_standing_same r s (p.answer ∙ sym q.answer)

pub our_claim_only : the.OurClaimOnly
our_claim_only claim r s p q =
    let a = told_sending_same r.answer s.answer (p.answer ∙ sym q.answer) in
    let d = p.sent_id ∙ sym q.sent_id in
    let b = p.sent_bytes ∙ sym q.sent_bytes in
    λ i. record { answer = a i; id = d i; bytes = b i }

pub keeps_rules_only : the.KeepsRulesOnly
keeps_rules_only c r s p q = p.answer ∙ sym q.answer

pub holds_list_only : the.HoldsListOnly
holds_list_only c r s p q = p.answer ∙ sym q.answer

pub not_started_refusal_only : the.NotStartedRefusalOnly
not_started_refusal_only why r s p q = p.number ∙ sym q.number

pub starting_refusal_only : the.StartingRefusalOnly
starting_refusal_only answer r s p q = p.number ∙ sym q.number

pub not_heard_refusal_only : the.NotHeardRefusalOnly
not_heard_refusal_only why r s p q = p.number ∙ sym q.number

pub hearing_refusal_only : the.HearingRefusalOnly
hearing_refusal_only answer r s p q = p.number ∙ sym q.number

pub bad_state_refusal_only : the.BadStateRefusalOnly
bad_state_refusal_only why r s p q = p.number ∙ sym q.number

pub pausing_refusal_only : the.PausingRefusalOnly
pausing_refusal_only answer r s p q = p.number ∙ sym q.number

pub standing_refusal_only : the.StandingRefusalOnly
standing_refusal_only answer r s p q = p.number ∙ sym q.number

pub sending_refusal_only : the.SendingRefusalOnly
sending_refusal_only answer r s p q = p.number ∙ sym q.number

-- a refusal keeps

pub start_refused_keeps : the.StartRefusedKeeps
unfolding started_of
start_refused_keeps name list r n p e =
    by_test (is_well_formed list)
    (λ w. refused_gives {a = done} (sym e ∙ p.answer ∙ rw w))
    (λ w. (p.state ∙ rw w, (p.sent_id ∙ rw w, p.sent_bytes ∙ rw w)))

pub hear_refused_keeps : the.HearRefusedKeeps
hear_refused_keeps id bytes c r n p e =
    let t : heard_of id bytes c ≡ refused n = sym p.answer ∙ e in
    (p.state ∙ rw t, (p.sent_id ∙ rw t, p.sent_bytes ∙ rw t))

pub pause_refused_keeps : the.PauseRefusedKeeps
pause_refused_keeps ms c r n p e = p.state ∙ rw (sound_refused c n (sym p.answer ∙ e))

pub our_claim_refused_keeps : the.OurClaimRefusedKeeps
our_claim_refused_keeps c r n p e =
    let s = sound_refused c n (sym p.answer ∙ e) in
    (p.sent_id ∙ rw s, p.sent_bytes ∙ rw s)

-- the lowest number wins

pub lowest_wins : (id : ℕ) (bytes : List ℕ) (c : Claim) → the.LowestWins id bytes c
unfolding met_of
lowest_wins id bytes c =
    record {
      two = heard_broken id bytes c;
      three_to_six = λ n k e. heard_past id bytes c k ∙ rw e;
      sixteen = λ p k e h. heard_past id bytes c k ∙ rw (e, h);
      heard = λ p s e. let b = both_true (keeps_rules c) (holds_list c) s in heard_past id bytes c b.0 ∙ rw (e, b.1);
    }

-- a frame is heard by its DGN and its source alone

but_priority : (t : Told Parts) (bytes : List ℕ) (c : Claim)
    → (given t then λ p. met_of p bytes c)
    ≡ (given told_but_priority t then λ q. met_of (record { priority = 0; dgn = q.0; source = q.1 }) bytes c)
unfolding met_of meets_frame
but_priority (refused n) bytes c = refl
but_priority (gives p) bytes c = refl

pub priority_ignored : the.PriorityIgnored
unfolding heard_of met_of
priority_ignored id id' bytes c h h' e =
    let q = frame_laws.priority_ignored id id' (length bytes) h h' e in
    by_test (keeps_rules c)
    (λ k. rw (k, but_priority (checked_of id (length bytes)) bytes c, q) (sym (but_priority (checked_of id' (length bytes)) bytes c)))
    (λ k. rw k)

pub other_dgn : the.OtherDgn
unfolding meets_frame
other_dgn p bytes c d = rw (ne_eqb p.dgn claim_dgn d)

-- the frame of a claim

source_fine : (source : ℕ) → source ≤ no_address → source_allowed source claim_dgn ≡ true
unfolding source_allowed
source_fine source h =
    let n : source ≡ 255 → ⊥ = λ e. omega arith in
    rw (ne_eqb source 255 n) (go (source =? 254))
  where
    go : (b : Bool) → (if b then true else true) ≡ true
    go true = refl
    go false = refl

claim_checked : (source size : ℕ) → source ≤ no_address → size ≡ frame_bytes
    → checked_of (identifier_of claim_priority claim_dgn source) size ≡ gives (record { priority = claim_priority; dgn = claim_dgn; source = source })
claim_checked source size h l =
    formed_checked claim_priority claim_dgn source size (omega arith) (omega arith) (omega arith) (source_fine source h) l

source_silent : (c : Claim) → c.silent ≡ true → claim_source c ≡ no_address
unfolding claim_source
source_silent c s = rw s

source_awake : (c : Claim) → c.silent ≡ false → claim_source c ≡ address c
unfolding claim_source
source_awake c s = rw s

source_low : (c : Claim) → is_sound c ≡ true → claim_source c ≤ no_address
source_low c s =
    let b = both_true (keeps_rules c) (holds_list c) s in
    let l = address_low c (rules_of c b.0) (holds_of c b.1) in
    by_test c.silent
    (λ z. let e = source_silent c z in omega arith)
    (λ z. let e = source_awake c z in omega arith)

pub claim_is_ours : the.ClaimIsOurs
unfolding claim_id claim_bytes
claim_is_ours c s h =
    record {
      source = (source_awake c, source_silent c);
      parts = claim_checked (claim_source c) _ (source_low c s) (length_bytes frame_bytes c.name);
      name = frame_laws.number_back frame_bytes c.name h;
    }

pub frame_is_heard : the.FrameIsHeard
unfolding meets_frame
frame_is_heard source name c h n s =
    let e = claim_checked source (length (bytes_of frame_bytes name)) h (length_bytes frame_bytes name) in
    (lowest_wins (identifier_of claim_priority claim_dgn source) (bytes_of frame_bytes name) c).heard _ s e
    ∙ ap (λ (m : ℕ). gives (outcome_of source m c)) (frame_laws.number_back frame_bytes name n)

-- sound states

pub start_well : (list : List ℕ) (d : Done) → started_of list ≡ gives d → is_well_formed list ≡ true
unfolding started_of
start_well list d e = (before_refusal (is_well_formed list) 16 (gives done) e).0

begun_rules : (name : ℕ) (list : List ℕ) → is_well_formed list ≡ true → Rules (begun name list)
begun_rules name list e =
    let w = well_formed list e in
    record { inside = w.some_one; short = omega arith; still = λ f. true_false (sym f); count = refl }

begun_holds : (name : ℕ) (list : List ℕ) → is_well_formed list ≡ true → holds_list (begun name list) ≡ true
unfolding holds_list padded
begun_holds name list e =
    let w = well_formed list e in
    rw (le-leb _ _ w.short, take-append_seam list (replicate (longest_list - length list) 0)) e

pub start_sound : the.StartSound
start_sound name list r p e =
    let w = start_well list done (sym p.answer ∙ e) in
    let b : r.claim ≡ begun name list = p.state ∙ rw w in
    ap is_sound b ∙ (sound_well (begun name list) (of_rules _ (begun_rules name list w)) (begun_holds name list w)).1

after_sound_lem : (id : ℕ) (bytes : List ℕ) (c : Claim) (t : Told Outcome) → heard_of id bytes c ≡ t → is_sound c ≡ true → is_sound (after_told t c) ≡ true
after_sound_lem id bytes c (refused n) e s = s
after_sound_lem id bytes c (gives o) e s = sound_same c (after o c) s (heard_given id bytes c o e).0 (node_after o c)

pub hear_sound : the.HearSound
hear_sound id bytes c r p s = ap is_sound p.state ∙ after_sound_lem id bytes c (heard_of id bytes c) refl s

pub pause_sound : the.PauseSound
pause_sound ms c r p s =
    let k = rules_of c (both_true (keeps_rules c) (holds_list c) s).0 in
    ap is_sound p.state ∙ rw s (sound_same c (pause ms c) s (rules_paused ms c k) (node_paused ms c))

-- every frame sent is ours

pub start_sends_ours : the.StartSendsOurs
unfolding claim_source padded
start_sends_ours name list r p e =
    let w = start_well list done (sym p.answer ∙ e) in
    let b : r.claim ≡ begun name list = p.state ∙ rw w in
    let o = (well_formed list w).some_one in (
      (p.sent_id ∙ rw w (ap claim_id (sym b)), p.sent_bytes ∙ rw w (ap claim_bytes (sym b))),
      ap claim_source b ∙ get_or-append list (replicate (longest_list - length list) 0) 0 0 o,
    )

node_told : (t : Told Outcome) (c : Claim) → the.SameNode (after_told t c) c
node_told (refused n) c = same_self c
node_told (gives o) c = node_after o c

pub hear_sends_ours : the.HearSendsOurs
hear_sends_ours id bytes c r p e =
    let s : is_sent_told (heard_of id bytes c) ≡ true = ap is_sent_told (sym p.answer) ∙ e in
    let n = node_told (heard_of id bytes c) c in (
      (p.sent_id ∙ rw s (ap claim_id (sym p.state)), p.sent_bytes ∙ rw s (ap claim_bytes (sym p.state))),
      record { name = ap (λ (d : Claim). d.name) p.state ∙ n.name; list = ap (λ (d : Claim). d.list) p.state ∙ n.list; candidates = ap (λ (d : Claim). d.candidates) p.state ∙ n.candidates },
    )

pub hear_sends_nothing : the.HearSendsNothing
hear_sends_nothing id bytes c r p e =
    let s : is_sent_told (heard_of id bytes c) ≡ false = ap is_sent_told (sym p.answer) ∙ e in
    (p.sent_id ∙ rw s, p.sent_bytes ∙ rw s)

-- a run of calls is a run of the machine

met_events : (parts : Parts) (bytes : List ℕ) (c : Claim)
    → after (meets_frame parts bytes c) c ≡ run c (claim_in (gives parts) bytes)
unfolding meets_frame claim_in step after
met_events parts bytes c =
    by_test (parts.dgn =? claim_dgn)
    (λ d. rw d)
    (λ d. rw d)

hear_events : (id : ℕ) (bytes : List ℕ) (c : Claim) (t : Told Parts) → is_sound c ≡ true → checked_of id (length bytes) ≡ t
    → after_told (heard_of id bytes c) c ≡ run c (claim_in t bytes)
unfolding claim_in
hear_events id bytes c (refused n) s e =
    rw ((lowest_wins id bytes c).three_to_six n (both_true (keeps_rules c) (holds_list c) s).0 e)
hear_events id bytes c (gives parts) s e = rw ((lowest_wins id bytes c).heard parts s e) (met_events parts bytes c)

pause_events : (ms : ℕ) (c : Claim) (r : Paused) → is_sound c ≡ true → Pause ms c r → r.claim ≡ step c (paused ms)
unfolding step
pause_events ms c r s p = p.state ∙ rw s

run_append : (c : Claim) (es fs : List Event) → run c (es ++ fs) ≡ run (run c es) fs
run_append c [] fs = refl
run_append c (e ∷ es) fs = run_append (step c e) es fs

pub calls_are_events : the.CallsAreEvents
unfolding events_of
calls_are_events c d calls s (no_call c') = refl
calls_are_events c d calls s (a_hear c' id bytes r rest d' p q) =
    let e = p.state ∙ hear_events id bytes c (checked_of id (length bytes)) s refl in
    calls_are_events r.claim d rest (hear_sound id bytes c r p s) q
    ∙ ap (λ (x : Claim). run x (events_in rest)) e
    ∙ sym (run_append c (claim_in (checked_of id (length bytes)) bytes) (events_in rest))
calls_are_events c d calls s (a_pause c' ms r rest d' p q) =
    let e = pause_events ms c r s p in
    calls_are_events r.claim d rest (pause_sound ms c r p s) q
    ∙ ap (λ (x : Claim). run x (events_in rest)) e
