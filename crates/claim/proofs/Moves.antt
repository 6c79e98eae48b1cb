-- How often a node moves (specs/Moves.antt), proved.
-- Assumes nothing.
use Rattle.std.specs.Prelude.{Ok, Err, if◌then◌else◌}
use mathlib.Core.Path.{◌≡◌, refl, sym, ap, ◌∙◌}
use mathlib.Core.Bool.{true, false}
use mathlib.Core.List.{List, [], ◌∷◌}
use mathlib.Core.Logic.{◌↔◌, inl, inr}
use Prim.Native.Nat.{ℕ, zero, suc, ◌+◌, ◌-◌, ◌≤◌, ◌<◌, ◌^◌}
use native.Mathlib.Omega.{arith}
use borrow.Author.Tests.{ne_eqb, eqb-true, eqb-false, ltb-true, ltb-false}
use lib.ListN.{length, get_or, replicate, get_or-append}
use Rattle.words.specs.Words.{◌<?◌, ◌=?◌, Told, refused, gives, given◌then◌, done}
use Rattle.frame.specs.Bytes.{bytes_of}
use Rattle.frame.specs.Identifier.{identifier_of}
use Rattle.frame.specs.Frame.{frame_bytes, checked_of}
use Rattle.frame.specs.Standard.{claim_dgn, no_address, no_frame}
use Rattle.frame.specs.declared.Parts.{Parts}
use Rattle.frame.proofs.Laws.{refused_for_reason}
use Rattle.words.proofs.Words.{by_test, both_true, true_false, gives_same}
use Rattle.claim.specs.Candidates.{longest_list, is_well_formed, padded}
use Rattle.claim.specs.Claim.{held_after, claim_priority, keeps_rules, holds_list, address, claim_source, claim_id}
use Rattle.claim.specs.Claim.{claim_bytes, Stand, held, claiming, silent, stand_of, begun, at_next, fallen, Outcome}
use Rattle.claim.specs.Claim.{nothing_to_do, own_name, repeated, moved, fell_silent, outcome_of, after, is_sent, pause}
use Rattle.claim.specs.History.{Event, heard, paused, step, run, mark_of, history, loss_of, repeat_of, losses_in}
use Rattle.claim.specs.Promises.{Hearing, Pausing, Standing}
use Rattle.claim.specs.Promises.{Hear, Pause, Stands, told_hearing, told_pausing, told_standing, meets_frame, heard_of}
use Rattle.claim.specs.Promises.{after_told, is_sent_told, frame_sent, is_sound, sound_of}
use Rattle.claim.specs.Private.{met_of}
use Rattle.claim.specs.Calls.{Call, hears, pauses, no_call, a_hear, a_pause, events_in, loss_told, repeat_told}
use Rattle.claim.specs.Laws.{SameNode}
use Rattle.claim.specs.Moves.{EveryRunRuns, Counts, LossesExactly, LossesAsTold, WrongCountRefused, Repeats}
use Rattle.claim.specs.Moves.{RepeatsUnlimited, GivesUp, EveryCountReached, SentForEach}
use Rattle.claim.specs.declared.Claim.{Claim}
use Rattle.claim.specs.declared.Reaction.{Reaction}
use Rattle.claim.specs.declared.NotHeard.{NotHeard}
use Rattle.claim.specs.declared.Heard.{Heard}
use Rattle.claim.specs.declared.BadState.{BadState}
use Rattle.claim.specs.declared.Paused.{Paused}
use Rattle.claim.specs.declared.Place.TheVariants.{Held, Claiming, Silent}
use Rattle.claim.proofs.Sound.{Rules, rules_of, count_awake, count_silent, count_bounded, holds_of, address_low}
use Rattle.claim.proofs.Sound.{pause_silent, pause_awake}
use Rattle.claim.proofs.Outcomes.{Went, deaf, apart, same, wins, goes, ends, went}
use Rattle.claim.proofs.Calls.{heard_broken, heard_past, heard_before, heard_given, hear_sends, sound_broken}
use Rattle.claim.proofs.Calls.{sound_ill, sound_well}
use Rattle.claim.proofs.Machine.{node_after, node_stays, sound_same, rules_run, run_sound, stand_silent}
use Rattle.claim.proofs.Machine.{stand_held, stand_claiming}
use Rattle.claim.proofs.Laws.{start_well, start_sound, hear_sound, frame_is_heard, calls_are_events}
use Rattle.claim.proofs.Laws.{told_standing_same}

-- every call answers, so that there is a run for any calls

outcome_told : (o : Outcome) → (a : Hearing) × (told_hearing a ≡ gives o)
outcome_told nothing_to_do = ((Ok Reaction.NothingToDo), refl)
outcome_told own_name = ((Ok Reaction.OwnName), refl)
outcome_told repeated = ((Ok Reaction.SendClaimAgain), refl)
outcome_told moved = ((Ok Reaction.SendNextClaim), refl)
outcome_told fell_silent = ((Ok Reaction.SendCannotClaim), refl)

met_told : (parts : Parts) (bytes : List ℕ) (c : Claim) → (a : Hearing) × (told_hearing a ≡ met_of parts bytes c)
unfolding met_of
met_told parts bytes c =
    by_test (holds_list c)
    (λ h. rw h (outcome_told (meets_frame parts bytes c)))
    (λ h. rw h (Err NotHeard.ListMalformed, refl))

checked_told : (t : Told Parts) (id : ℕ) (bytes : List ℕ) (c : Claim) → checked_of id (length bytes) ≡ t
    → (a : Hearing) × (told_hearing a ≡ (given t then λ parts. met_of parts bytes c))
checked_told (refused n) id bytes c e =
    let w = refused_for_reason id (length bytes) n e in
    (Err (NotHeard.BadFrame w.0), ap refused w.1)
checked_told (gives parts) id bytes c e = met_told parts bytes c

hearing_told : (id : ℕ) (bytes : List ℕ) (c : Claim) → (a : Hearing) × (told_hearing a ≡ heard_of id bytes c)
hearing_told id bytes c =
    by_test (keeps_rules c)
    (λ k.
    let a = checked_told (checked_of id (length bytes)) id bytes c refl in
    (a.0, a.1 ∙ sym (heard_past id bytes c k)))
    (λ k. (Err NotHeard.BrokenState, sym (heard_broken id bytes c k)))

some_heard : (id : ℕ) (bytes : List ℕ) (c : Claim) → (r : Heard) × Hear id bytes c r
some_heard id bytes c =
    let a = hearing_told id bytes c in
    let t = heard_of id bytes c in (
      record { claim = after_told t c; answer = a.0; id = (frame_sent t c).id; bytes = (frame_sent t c).bytes },
      record { answer = a.1; state = refl; sent_id = refl; sent_bytes = refl },
    )

pausing_told : (c : Claim) → (a : Pausing) × (told_pausing a ≡ sound_of c)
pausing_told c =
    by_test (keeps_rules c)
    (λ k. by_test (holds_list c)
    (λ h. (Ok tt, sym (sound_well c k h).0))
    (λ h. (Err BadState.ListMalformed, sym (sound_ill c k h).0)))
    (λ k. (Err BadState.BrokenState, sym (sound_broken c k).0))

some_paused : (ms : ℕ) (c : Claim) → (r : Paused) × Pause ms c r
some_paused ms c =
    let a = pausing_told c in
    (record { claim = if is_sound c then pause ms c else c; answer = a.0 }, record { answer = a.1; state = refl })

pub every_run_runs : EveryRunRuns
every_run_runs c [] = (c, no_call c)
every_run_runs c (hears id bytes ∷ calls) =
    let h = some_heard id bytes c in
    let more = every_run_runs h.0.claim calls in
    (more.0, a_hear c id bytes h.0 calls more.0 h.1 more.1)
every_run_runs c (pauses ms ∷ calls) =
    let h = some_paused ms c in
    let more = every_run_runs h.0.claim calls in
    (more.0, a_pause c ms h.0 calls more.0 h.1 more.1)

-- what one outcome, one answer and one pause add to the count

count_after : (o : Outcome) (c : Claim) → (after o c).losses ≡ c.losses + loss_of o
unfolding after loss_of
count_after nothing_to_do c = omega arith
count_after own_name c = omega arith
count_after repeated c = omega arith
count_after moved c = omega arith
count_after fell_silent c = omega arith

count_told : (t : Told Outcome) (c : Claim) → (after_told t c).losses ≡ c.losses + loss_told t
count_told (refused n) c = omega arith
count_told (gives o) c = count_after o c

count_paused : (ms : ℕ) (c : Claim) → (pause ms c).losses ≡ c.losses
count_paused ms c =
    by_test c.silent
    (λ s. rw (pause_silent ms c s))
    (λ s. rw (pause_awake ms c s))

count_rested : (ms : ℕ) (c : Claim) → (if is_sound c then pause ms c else c).losses ≡ c.losses
count_rested ms c = by_test (is_sound c) (λ s. rw s (count_paused ms c)) (λ s. rw s)

-- the count rises as the answers tell

pub losses_as_told : LossesAsTold
losses_as_told c d calls (no_call c') = omega arith
losses_as_told c d calls (a_hear c' id bytes r rest d' p ran) =
    let a : r.claim.losses ≡ c.losses + loss_told (told_hearing r.answer) =
    ap (λ (x : Claim). x.losses) p.state ∙ count_told (heard_of id bytes c) c
    ∙ ap (λ (t : Told Outcome). c.losses + loss_told t) (sym p.answer) in
    let b = losses_as_told r.claim d rest ran in
    omega arith
losses_as_told c d calls (a_pause c' ms r rest d' p ran) =
    let a : r.claim.losses ≡ c.losses = ap (λ (x : Claim). x.losses) p.state ∙ count_rested ms c in
    let b = losses_as_told r.claim d rest ran in
    omega arith

-- and by the contests lost in the machine's history

count_run : (c : Claim) (es : List Event) → (run c es).losses ≡ c.losses + losses_in (history c es)
unfolding step mark_of
count_run c [] = omega arith
count_run c (heard source name ∷ es) =
    let a = count_after (outcome_of source name c) c in
    let b = count_run (step c (heard source name)) es in
    omega arith
count_run c (paused ms ∷ es) =
    let a = count_paused ms c in
    let b = count_run (step c (paused ms)) es in
    omega arith

-- where a sound state stands is told

stands_so : (d : Claim) (r : Standing) → is_sound d ≡ true → Stands d r → told_standing r ≡ gives (stand_of d)
stands_so d r s p =
    let b = both_true (keeps_rules d) (holds_list d) s in
    p.answer ∙ rw (sound_well d b.0 b.1).0

not_held : (a : ℕ) → held a ≡ silent → ⊥
not_held a e = let z : ◌≡◌ {A = ℕ} 0 1 = cc in omega arith

not_claiming : (a : ℕ) → claiming a ≡ silent → ⊥
not_claiming a e = let z : ◌≡◌ {A = ℕ} 0 1 = cc in omega arith

-- where an awake state stands, it stands at its address

address_in : Stand → ℕ
address_in (held a) = a
address_in (claiming a) = a
address_in silent = 0

awake_stands : (d : Claim) → d.silent ≡ false → (address_in (stand_of d) ≡ address d) × (stand_of d ≡ silent → ⊥)
unfolding address_in
awake_stands d z =
    by_test (d.wait =? held_after)
    (λ w. let e = stand_held d z (eqb-true _ _ w) in (ap address_in e, λ f. not_held _ (sym e ∙ f)))
    (λ w. let e = stand_claiming d z (eqb-false _ _ w) in (ap address_in e, λ f. not_claiming _ (sym e ∙ f)))

silent_told : (d : Claim) (r : Standing) → is_sound d ≡ true → Stands d r → (r ≡ Ok Silent) ↔ (d.silent ≡ true)
silent_told d r s p = (
  (λ e. by_test d.silent
      (λ z. z)
      (λ z. absurd ((awake_stands d z).1 (gives_same (sym (stands_so d r s p) ∙ ap told_standing e))))),
  (λ z. told_standing_same r (Ok Silent) (stands_so d r s p ∙ ap gives (stand_silent d z))),
)

all_silent : (d : Claim) (n : ℕ) → Rules d → d.candidates ≡ n → (d.losses ≡ n) ↔ (d.silent ≡ true)
all_silent d n k e = (
  (λ f. by_test d.silent (λ z. z) (λ z. absurd (omega (arith, count_awake d k z, k.inside, e, f)))),
  (λ z. count_silent d k z ∙ e),
)

-- who stands at an address stands behind those that are counted

behind : (name : ℕ) (list : List ℕ) (d : Claim) → is_well_formed list ≡ true → Rules d → SameNode d (begun name list)
    → d.silent ≡ false → address d ≡ get_or list d.losses 0
unfolding padded
behind name list d w k n z =
    let p = count_awake d k z in
    let i : d.losses < length list = omega (arith, p, k.inside, n.candidates) in
    ap (λ (l : List ℕ). get_or l d.position 0) n.list ∙ ap (λ (i : ℕ). get_or (padded list) i 0) (sym p)
    ∙ get_or-append list (replicate (longest_list - length list) 0) 0 d.losses i

stood : (d : Claim) (s : Stand) → (s ≡ silent → ⊥) → stand_of d ≡ s → (d.silent ≡ false) × (address_in s ≡ address d)
stood d s f e =
    by_test d.silent
    (λ z. absurd (f (sym e ∙ stand_silent d z)))
    (λ z. (z, ap address_in (sym e) ∙ (awake_stands d z).0))

counts : (name : ℕ) (list : List ℕ) (calls : List Call) → is_well_formed list ≡ true → is_sound (begun name list) ≡ true
    → Counts name list calls (run (begun name list) (events_in calls))
unfolding address_in
counts name list calls w s =
    let c = begun name list in
    let es = events_in calls in
    let k = rules_run c es (rules_of c (both_true (keeps_rules c) (holds_list c) s).0) in
    let n = node_stays c es in
    let at : (a : ℕ) (t : Stand) → (t ≡ silent → ⊥) → address_in t ≡ a → gives t ≡ gives (stand_of (run c es))
    → a ≡ get_or list (run c es).losses 0 =
    λ a t f g e. let h = stood (run c es) t f (sym (gives_same e)) in
    sym g ∙ h.1 ∙ behind name list (run c es) w k n h.0 in
    record {
      lost = omega (arith, count_run c es);
      bounded = omega (arith, count_bounded (run c es) k, n.candidates);
      all_when_silent = λ r p.
          let a = all_silent (run c es) (length list) k n.candidates in
          let b = silent_told (run c es) r (run_sound c es s) p in
          ((λ e. b.1 (a.0 e)), (λ e. a.1 (b.0 e)));
      next_claimed = λ a p. elim p [
        | inl q ↦ at a (claiming a) (not_claiming a) refl (stands_so (run c es) (Ok (Claiming a)) (run_sound c es s) q)
        | inr q ↦ at a (held a) (not_held a) refl (stands_so (run c es) (Ok (Held a)) (run_sound c es s) q)
      ];
    }

pub losses_exactly : LossesExactly
losses_exactly name list r calls d p e ran =
    let w = start_well list done (sym p.answer ∙ e) in
    let b : r.claim ≡ begun name list = p.state ∙ rw w in
    let s = start_sound name list r p e in
    let f : d ≡ run (begun name list) (events_in calls) =
    calls_are_events r.claim d calls s ran ∙ ap (λ (x : Claim). run x (events_in calls)) b in
    rw f (counts name list calls w (ap is_sound (sym b) ∙ s))

-- a wrong count is refused with 2

pub wrong_count_refused : WrongCountRefused
wrong_count_refused c wrong =
    by_test (keeps_rules c)
    (λ k. absurd (wrong (rules_of c k).count))
    (λ k.
    let b = (sound_broken c k).0 in
    record {
      hear = λ id bytes r p. p.answer ∙ heard_broken id bytes c k;
      pause = λ ms r p. p.answer ∙ b;
      stands = λ r p. p.answer ∙ rw b;
      our_claim = λ r p. p.answer ∙ b;
      keeps_rules = λ r p. p.answer ∙ k;
    })

-- a rival claims the address where we stand, with any NAME: the frame, and a call that hears it

abbrev rival_id : Claim → ℕ
rival_id c = identifier_of claim_priority claim_dgn (address c)

abbrev rival_bytes : ℕ → List ℕ
rival_bytes name = bytes_of frame_bytes name

abbrev answered : Hearing → Claim → Heard
answered a d = record { claim = d; answer = a; id = claim_id d; bytes = claim_bytes d }

rival_heard : (c : Claim) (name : ℕ) → is_sound c ≡ true → name < 256 ^ frame_bytes
    → heard_of (rival_id c) (rival_bytes name) c ≡ gives (outcome_of (address c) name c)
rival_heard c name s h =
    let b = both_true (keeps_rules c) (holds_list c) s in
    let l = address_low c (rules_of c b.0) (holds_of c b.1) in
    frame_is_heard (address c) name c (omega arith) h s

heard_so : (c : Claim) (name : ℕ) (a : Hearing) (o : Outcome) → is_sound c ≡ true → name < 256 ^ frame_bytes
    → outcome_of (address c) name c ≡ o → told_hearing a ≡ gives o → is_sent o ≡ true
    → Hear (rival_id c) (rival_bytes name) c (answered a (after o c))
heard_so c name a o s h e t sends =
    hear_sends (rival_id c) (rival_bytes name) c a a (t ∙ sym (rival_heard c name s h ∙ ap gives e)) refl
    (after o c) (answered a (after o c)) (ap is_sent_told t ∙ sends) (ap (λ (x : Told Outcome). after_told x c) t) refl

-- a higher NAME makes us repeat, as often as it comes

won : (c : Claim) (name : ℕ) → c.silent ≡ false → c.name < name → outcome_of (address c) name c ≡ repeated
won c name s h = go (outcome_of (address c) name c) (went (address c) name c)
  where
    go : (o : Outcome) → Went (address c) name c o → o ≡ repeated
    go o (deaf z) = true_false (sym z ∙ s)
    go o (apart z a) = absurd (a refl)
    go o (same z a e) = absurd (omega arith)
    go o (wins z a e) = refl
    go o (goes z a e m) = absurd (omega arith)
    go o (ends z a e m) = absurd (omega arith)

repeats_by : (c : Claim) → Hear (rival_id c) (rival_bytes (c.name + 1)) c (answered (Ok Reaction.SendClaimAgain) c)
    → (n : ℕ) → Repeats c n
unfolding loss_of repeat_of
repeats_by c p zero = record { calls = []; ran = no_call c; repeats = refl; no_loss = refl }
repeats_by c p (suc n) =
    let more = repeats_by c p n in
    let bytes = rival_bytes (c.name + 1) in
    record {
      calls = hears (rival_id c) bytes ∷ more.calls;
      ran = a_hear c (rival_id c) bytes (answered (Ok Reaction.SendClaimAgain) c) more.calls c p more.ran;
      repeats = omega (arith, more.repeats);
      no_loss = omega (arith, more.no_loss);
    }

pub repeats_unlimited : RepeatsUnlimited
unfolding after is_sent
repeats_unlimited c s a h n =
    let o = won c (c.name + 1) a (omega arith) in
    repeats_by c (heard_so c (c.name + 1) (Ok Reaction.SendClaimAgain) repeated s h o refl refl) n

-- a lower NAME makes us give up one address after the other

lost_next : (c : Claim) (name : ℕ) → c.silent ≡ false → name < c.name → c.position + 1 < c.candidates
    → outcome_of (address c) name c ≡ moved
lost_next c name s h m = go (outcome_of (address c) name c) (went (address c) name c)
  where
    go : (o : Outcome) → Went (address c) name c o → o ≡ moved
    go o (deaf z) = true_false (sym z ∙ s)
    go o (apart z a) = absurd (a refl)
    go o (same z a e) = absurd (omega arith)
    go o (wins z a e) = absurd (omega arith)
    go o (goes z a e l) = refl
    go o (ends z a e l) = absurd (omega arith)

lost_last : (c : Claim) (name : ℕ) → c.silent ≡ false → name < c.name → c.candidates ≤ c.position + 1
    → outcome_of (address c) name c ≡ fell_silent
lost_last c name s h m = go (outcome_of (address c) name c) (went (address c) name c)
  where
    go : (o : Outcome) → Went (address c) name c o → o ≡ fell_silent
    go o (deaf z) = true_false (sym z ∙ s)
    go o (apart z a) = absurd (a refl)
    go o (same z a e) = absurd (omega arith)
    go o (wins z a e) = absurd (omega arith)
    go o (goes z a e l) = absurd (omega arith)
    go o (ends z a e l) = refl

gives_up : (n : ℕ) (c : Claim) (all : ℕ) → is_sound c ≡ true → c.silent ≡ false → 0 < c.name
    → c.position + n ≤ c.candidates → c.losses + n ≡ all → GivesUp c all
unfolding after is_sent
gives_up zero c all s a h l e = record { calls = []; after = c; ran = no_call c; count = omega arith }
gives_up (suc n) c all s a h l e =
    by_test (c.position + 1 <? c.candidates)
    (λ m.
    let p = heard_so c 0 (Ok Reaction.SendNextClaim) moved s (omega arith) (lost_next c 0 a h (ltb-true _ _ m)) refl refl in
    let r = answered (Ok Reaction.SendNextClaim) (at_next c) in
    let k = hear_sound (rival_id c) (rival_bytes 0) c r p s in
    let more = gives_up n (at_next c) all k refl h (omega arith) (omega arith) in
    record {
      calls = hears (rival_id c) (rival_bytes 0) ∷ more.calls;
      after = more.after;
      ran = a_hear c (rival_id c) (rival_bytes 0) r more.calls more.after p more.ran;
      count = more.count;
    })
    (λ m.
    let f = ltb-false _ _ m in
    let r = answered (Ok Reaction.SendCannotClaim) (fallen c) in
    let p = heard_so c 0 (Ok Reaction.SendCannotClaim) fell_silent s (omega arith) (lost_last c 0 a h f) refl refl in
    record {
      calls = hears (rival_id c) (rival_bytes 0) ∷ [];
      after = fallen c;
      ran = a_hear c (rival_id c) (rival_bytes 0) r [] (fallen c) p (no_call (fallen c));
      count = omega (arith, l, f, e);
    })

pub every_count_reached : EveryCountReached
every_count_reached name list r p e h n l =
    let w = start_well list done (sym p.answer ∙ e) in
    let b : r.claim ≡ begun name list = p.state ∙ rw w in
    let s = ap is_sound (sym b) ∙ start_sound name list r p e in
    rw b (gives_up n (begun name list) n s refl h (omega arith) (omega arith))

-- one frame is sent for each contest that is lost, and for each that is won

sent_by : ℕ → ℕ
sent_by id = if id =? no_frame.id then 0 else 1

source_low : (d : Claim) → is_sound d ≡ true → claim_source d ≤ no_address
unfolding claim_source
source_low d s =
    let b = both_true (keeps_rules d) (holds_list d) s in
    let l = address_low d (rules_of d b.0) (holds_of d b.1) in
    by_test d.silent
    (λ z. rw z (omega arith))
    (λ z. rw z (omega arith))

no_frame_lem : (d : Claim) → is_sound d ≡ true → claim_id d ≡ no_frame.id → ⊥
unfolding claim_id identifier_of
no_frame_lem d s e = omega (arith, source_low d s, e)

sent_one : (d : Claim) → is_sound d ≡ true → sent_by (claim_id d) ≡ 1
unfolding sent_by
sent_one d s = rw (ne_eqb (claim_id d) no_frame.id (no_frame_lem d s))

sent_told : (id : ℕ) (bytes : List ℕ) (c : Claim) (t : Told Outcome) → heard_of id bytes c ≡ t
    → sent_by (frame_sent t c).id ≡ loss_told t + repeat_told t
unfolding sent_by is_sent loss_of repeat_of
sent_told id bytes c (refused n) e = refl
sent_told id bytes c (gives o) e = go o (sent_one (after o c) (given_sound o e))
  where
    given_sound : (o : Outcome) → heard_of id bytes c ≡ gives o → is_sound (after o c) ≡ true
    given_sound o e =
        let k = heard_before id bytes c o e in
        sound_same c (after o c) (sound_well c k.0 k.1).1 (heard_given id bytes c o e).0 (node_after o c)

    go : (o : Outcome) → sent_by (claim_id (after o c)) ≡ 1
        → sent_by (frame_sent (gives o) c).id ≡ loss_told (gives o) + repeat_told (gives o)
    go nothing_to_do s = refl
    go own_name s = refl
    go repeated s = s
    go moved s = s
    go fell_silent s = s

pub sent_for_each : SentForEach
unfolding sent_by
sent_for_each c d calls (no_call c') = refl
sent_for_each c d calls (a_hear c' id bytes r rest d' p ran) =
    let t = told_hearing r.answer in
    let a : sent_by r.id ≡ loss_told t + repeat_told t =
    ap sent_by p.sent_id ∙ sent_told id bytes c (heard_of id bytes c) refl
    ∙ ap (λ (x : Told Outcome). loss_told x + repeat_told x) (sym p.answer) in
    let b = sent_for_each r.claim d rest ran in
    omega arith
sent_for_each c d calls (a_pause c' ms r rest d' p ran) = sent_for_each r.claim d rest ran
