-- A challenge from the call that enters it to the call that ends it: first at the record of its address, then over runs
-- of calls.
-- Assumes nothing.
use Rattle.std.specs.Prelude.{Some, None, Ok}
use mathlib.Core.Path.{◌≡◌, refl, sym, ap, ◌∙◌, subst}
use mathlib.Core.Bool.{true, false}
use mathlib.Core.List.{List, [], ◌∷◌, ◌++◌, map}
use mathlib.Core.Logic.{◌⊎◌, inl, inr}
use Prim.Native.Nat.{ℕ, ◌+◌, ◌<◌, ◌≤◌}
use native.Mathlib.Omega.{arith}
use lib.ListN.{length, get_or, take}
use lib.Dec.{ltb, eqb}
use borrow.Author.Tests.{eqb-true, eqb-false, ltb-true, ltb-false}
use Rattle.words.specs.Words.{◌=?◌, Told, refused, gives}
use Rattle.frame.specs.Bytes.{number_of}
use Rattle.frame.specs.Frame.{checked_of}
use Rattle.frame.specs.Standard.{greatest_address, claim_dgn}
use Rattle.frame.specs.declared.Parts.{Parts}
use Rattle.words.proofs.Words.{gives_same, true_false, by_test}
use Rattle.nodes.specs.Table.{addresses, takes_after, absent, held, challenged, unchallenged_of, has_name}
use Rattle.nodes.specs.Table.{is_challenged, has_challenger, gives_way, may_challenge, cleared_of, claimed_at}
use Rattle.nodes.specs.Call.{challenges, holder_of, Rival, rival, no_rival, rival_of, claim_outcome, heard_of}
use Rattle.nodes.specs.Call.{source_record, claim_in, heard_by}
use Rattle.nodes.specs.Promises.{LookUp, FindChallenger}
use Rattle.nodes.specs.Laws.{ClaimAt}
use Rattle.nodes.specs.Runs.{Said, nothing, claims, pauses, said_of}
use Rattle.nodes.specs.Runs.{Call, hearing, pausing, Leads, Ran, no_call, a_call, said_in, said_by, record_after}
use Rattle.nodes.specs.Runs.{record_after_all, Sound, Quiet, AllQuiet, waited, waited_in, Challenge, ChallengeWaits}
use Rattle.nodes.specs.Runs.{ChallengeTakes, HolderLeaves, TakesOnlySo, ChallengeEntered, Undisputed}
use Rattle.nodes.specs.Runs.{AllUndisputed, HolderStays}
use Rattle.nodes.specs.declared.Node.{Node}
use Rattle.nodes.specs.declared.Claim.{Claim}
use Rattle.nodes.proofs.Blank.{empty_keeps_rules, empty_has_no_challenger}
use Rattle.nodes.proofs.Call.{heard_sound, heard_claim}
use Rattle.nodes.proofs.Find.{get_d_front, holder_held}
use Rattle.nodes.proofs.Kept.{facts_here}
use Rattle.nodes.proofs.Runs.{Left, leads_left, run_by_record}
use Rattle.nodes.proofs.Sentences.{no_holder, no_challenger, challenged_present, every_sentence}
use Rattle.nodes.proofs.Shown.{held_alone, looked_here, rival_here, rival_is, no_rival_is, Shows, holder_shown}
use Rattle.nodes.proofs.Shown.{rival_shown, no_rival_of, outcome_challenges, Entered, challenge_entered_at}
use Rattle.nodes.proofs.Shown.{waiting_challenged}
use Rattle.nodes.proofs.Sound.{Facts, of_facts, has_name_of, zero_of, of_zero, has_challenger_of, not_stands}
use Rattle.nodes.proofs.Sound.{vacated_challenged, vacated_alone, cleared_holder, cleared_challenger}
use Rattle.nodes.proofs.Sound.{cleared_none, entered_taken, entered_challenges, entered_not, not_may}
use Rattle.nodes.proofs.Sound.{unchallenged_alone, elsewhere, here, paused_alone, paused_waits, paused_takes}

-- ---- the record of a holder p and its challenger c, who has waited w

abbrev waiting : ℕ → ℕ → ℕ → Node
waiting p c w = challenged c w (held p)

module _ (p c w : ℕ) (l : p < c) where
  waits : is_challenged (waiting p c w) ≡ true
  waits = waiting_challenged p c w l

  waiting_facts : w < takes_after → Facts (waiting p c w)
  waiting_facts b =
      record {
        absent_zeros = λ q. true_false q;
        above = λ e. l;
        below = b;
        missing = λ e. true_false (sym waits ∙ e);
      }

  module _ (b : w < takes_after) (a : ℕ) where
    sentence : (claim : Claim) → ClaimAt claim a (waiting p c w)
    sentence claim = every_sentence claim a (waiting p c w) (of_facts (waiting p c w) (waiting_facts b))

    abbrev After : Claim → Node
    After claim = claimed_at claim a (waiting p c w)

    -- a claim that leaves the challenge alone
    quiet_claim : (claim : Claim) → Quiet p c a (claims claim) → After claim ≡ waiting p c w
    quiet_claim claim q =
        by_test (eqb a claim.source)
        (λ t. let e = eqb-true a claim.source t in
        by_test (ltb claim.name c) (λ u. absurd (q.2 (sym e) (ltb-true _ _ u)))
        (λ u. let g : c ≤ claim.name = ltb-false claim.name c u in
        let d : claim.name ≡ c → ⊥ = q.1 in
        let h : c < claim.name = omega (arith, d) in
        let k : p < claim.name = omega arith in
        (sentence claim).ignored e refl k waits h))
        (λ t. (sentence claim).untouched (eqb-false a claim.source t)
        (not_stands claim.name (waiting p c w) (no_holder claim.name (waiting p c w) (λ x. q.0 (sym x)))
        (no_challenger claim.name (waiting p c w) (λ s x. q.1 (sym x)))))

    quiet_step : (s : Said) → Quiet p c a s → w + waited s < takes_after
        → record_after s a (waiting p c w) ≡ waiting p c (w + waited s)
    quiet_step nothing q h = ap (waiting p c) (let e : w ≡ w + 0 = omega arith in e)
    quiet_step (claims claim) q h = quiet_claim claim q ∙ ap (waiting p c) (let e : w ≡ w + 0 = omega arith in e)
    quiet_step (pauses ms) q h = paused_waits ms (waiting p c w) waits h

    -- which claims make the challenger the holder: that of the holder, from elsewhere
    abbrev Leaves : Claim → Type 0
    Leaves claim = (claim.name ≡ p) × (claim.source ≡ a → ⊥)

    holder_left : (claim : Claim) → Leaves claim → After claim ≡ held c
    holder_left claim x =
        (sentence claim).handed_over (λ e. x.1 (sym e))
        (has_name_of claim.name (waiting p c w) refl (sym x.0)) waits

    -- any other leaves a holder that is not the challenger
    not_c : {n : Node} {m : ℕ} → n ≡ held m → n.name ≡ c → (m ≡ c → ⊥) → ⊥
    not_c e h d = d (sym (ap (λ (x : Node). x.name) e) ∙ h)

    still_p : {n : Node} {k : ℕ} {v : ℕ} → n ≡ challenged k v (waiting p c w) → n.name ≡ c → ⊥
    still_p e h = let z : p ≡ c = sym (ap (λ (x : Node). x.name) e) ∙ h in omega (arith, z)

    unchallenged_name : (unchallenged_of (waiting p c w)).name ≡ p
    unfolding unchallenged_of
    unchallenged_name = refl

    only_here : (claim : Claim) → a ≡ claim.source → (After claim).name ≡ c → ⊥
    only_here claim e h =
        let s = sentence claim in
        by_test (eqb claim.name p)
        (λ t. let x = eqb-true claim.name p t in
        not_c (s.repeats e (has_name_of claim.name (waiting p c w) refl (sym x))) h (λ z. omega (arith, x, z)))
        (λ t. let x : claim.name ≡ p → ⊥ = eqb-false claim.name p t in
        by_test (ltb claim.name p)
        (λ u. let y : claim.name < p = ltb-true _ _ u in not_c (s.takes e y) h (λ z. omega (arith, z)))
        (λ u. let y : p ≤ claim.name = ltb-false claim.name p u in
        let k : p < claim.name = omega (arith, x) in
        by_test (eqb claim.name c)
        (λ v. still_p (s.anew e (has_challenger_of claim.name (waiting p c w) waits (sym (eqb-true _ _ v)))) h)
        (λ v. let d : claim.name ≡ c → ⊥ = eqb-false claim.name c v in
        by_test (ltb claim.name c)
        (λ z. still_p (s.instead e refl k waits (ltb-true _ _ z)) h)
        (λ z. let g : c ≤ claim.name = ltb-false claim.name c z in
        let f : c < claim.name = omega (arith, d) in
        let o : p ≡ c = sym (ap (λ (x : Node). x.name) (s.ignored e refl k waits f)) ∙ h in
        omega (arith, o)))))

    only_elsewhere : (claim : Claim) → (a ≡ claim.source → ⊥) → (After claim).name ≡ c → claim.name ≡ p
    only_elsewhere claim e h =
        let s = sentence claim in
        by_test (eqb claim.name p) (λ t. eqb-true claim.name p t)
        (λ t. let x = eqb-false claim.name p t in
        by_test (eqb claim.name c)
        (λ v. let k = s.withdrawn e (has_challenger_of claim.name (waiting p c w) waits (sym (eqb-true _ _ v))) in
        let o : p ≡ c = sym unchallenged_name ∙ sym (ap (λ (x : Node). x.name) k) ∙ h in
        absurd (omega (arith, o)))
        (λ v. let d = eqb-false claim.name c v in
        let k = s.untouched e (not_stands claim.name (waiting p c w)
        (no_holder claim.name (waiting p c w) (λ z. x (sym z)))
        (no_challenger claim.name (waiting p c w) (λ q z. d (sym z)))) in
        let o : p ≡ c = sym (ap (λ (x : Node). x.name) k) ∙ h in
        absurd (omega (arith, o))))

    abbrev Taking : Said → Type 0
    Taking s =
        ((ms : ℕ) × (s ≡ pauses ms) × (takes_after ≤ w + ms))
        ⊎ ((claim : Claim) × (s ≡ claims claim) × (claim.name ≡ p) × (claim.source ≡ a → ⊥))

    only_step : (s : Said) → (record_after s a (waiting p c w)).name ≡ c → Taking s
    only_step nothing h = absurd (omega (arith, h))
    only_step (pauses ms) h =
        by_test (ltb (w + ms) takes_after)
        (λ t. let o : p ≡ c = sym (ap (λ (x : Node). x.name)
        (paused_waits ms (waiting p c w) waits (ltb-true _ _ t))) ∙ h in
        absurd (omega (arith, o)))
        (λ t. inl (ms, refl, ltb-false _ _ t))
    only_step (claims claim) h =
        by_test (eqb a claim.source) (λ t. absurd (only_here claim (eqb-true _ _ t) h))
        (λ t. let e = eqb-false a claim.source t in inr (claim, refl, only_elsewhere claim e h, (λ x. e (sym x))))

quiet_run : (p c a : ℕ) → p < c → (ss : List Said) (w : ℕ) → AllQuiet p c a ss → w + waited_in ss < takes_after
    → record_after_all ss a (waiting p c w) ≡ waiting p c (w + waited_in ss)
quiet_run p c a l [] w q h = ap (waiting p c) (let e : w ≡ w + 0 = omega arith in e)
quiet_run p c a l (s ∷ ss) w q h =
    let b : w < takes_after = omega arith in
    let g : w + waited s < takes_after = omega arith in
    let f : (w + waited s) + waited_in ss < takes_after = omega arith in
    ap (record_after_all ss a) (quiet_step p c w l b a s q.0 g) ∙ quiet_run p c a l ss (w + waited s) q.1 f
    ∙ ap (waiting p c) (let e : (w + waited s) + waited_in ss ≡ w + (waited s + waited_in ss) = omega arith in e)

-- ---- what is shown of such a record

module _ (table : List Node) (a : ℕ) (s : Shows table a) where
  show_holder : (n : Node) → get_or table a absent ≡ n → n.present ≡ true → LookUp table a (Ok (Some n.name))
  show_holder n e p =
      record {
        answer = sym (looked_here table s.enough s.keeps a s.low ∙ ap (λ (x : Node). gives (holder_of x)) e
            ∙ ap gives (holder_held n p));
      }

  show_rival : (n : Node) → get_or table a absent ≡ n → is_challenged n ≡ true
      → FindChallenger table a (Ok (Some (record { name = n.challenger; wait = n.wait })))
  show_rival n e t =
      record {
        answer = sym (rival_here table s.enough s.keeps a s.low ∙ ap (λ (x : Node). gives (rival_of x)) e
            ∙ ap gives (rival_is n t));
      }

  show_alone : (n : Node) → get_or table a absent ≡ n → is_challenged n ≡ false → FindChallenger table a (Ok None)
  show_alone n e t =
      record {
        answer = sym (rival_here table s.enough s.keeps a s.low ∙ ap (λ (x : Node). gives (rival_of x)) e
            ∙ ap gives (no_rival_is n t));
      }

-- ---- over runs of calls

-- the table at the end of a challenge that nothing disturbed, and its record
record Stands (a p c w : ℕ) (end : List Node) : Type 0 where
  pub shows : Shows end a
  pub lower : p < c
  pub is : get_or end a absent ≡ waiting p c w

module _ (a p c w : ℕ) (end : List Node) (k : Challenge a p c w end) where
  entered : Entered k.table k.id k.bytes a
  entered = challenge_entered_at k.table k.id k.bytes a (sym k.entered.answer)

  -- the record as the challenge is entered
  first : Stands a p c 0 k.after
  first =
      let e = entered in
      let at = k.entered.table_after in
      let s = subst (λ (t : List Node). Shows t a) (sym at) e.shows in
      let is = ap (λ (t : List Node). get_or t a absent) at ∙ e.is in
      let q = holder_shown k.after a p (sym k.holder.answer) in
      let h : e.holder ≡ p = sym (ap (λ (n : Node). n.name) is) ∙ q.2 in
      let l : e.holder < number_of k.bytes = e.lower in
      record {
        shows = s;
        lower = omega (arith, h, k.challenger, l);
        is = is ∙ (λ i. waiting (h i) (k.challenger i) 0);
      }

  stands_on : Stands a p c w end
  stands_on =
      let f = first in
      let s = f.shows in
      let o = run_by_record k.after end k.since (record { enough = s.enough; rules = s.keeps }) k.ran in
      let h : 0 + waited_in (map said_by k.since) < takes_after = omega (arith, k.ms, k.below) in
      let e : 0 + waited_in (map said_by k.since) ≡ w = omega (arith, k.ms) in
      record {
        shows = record { enough = o.sound.enough; keeps = o.sound.rules; low = s.low };
        lower = f.lower;
        is = o.records a s.low ∙ ap (record_after_all (map said_by k.since) a) f.is
            ∙ quiet_run p c a f.lower (map said_by k.since) 0 k.quiet h ∙ ap (waiting p c) e;
      }

  -- the record after one more call
  module _ (call : Call) (next : List Node) (h : Leads end call next) where
    left : Left end (said_by call) next
    left = let s = stands_on.shows in leads_left end (record { enough = s.enough; rules = s.keeps }) call next h

    shows_next : Shows next a
    shows_next = record { enough = left.kept.enough; keeps = left.kept.rules; low = stands_on.shows.low }

    next_is : get_or next a absent ≡ record_after (said_by call) a (waiting p c w)
    next_is = left.records a stands_on.shows.low ∙ ap (record_after (said_by call) a) stands_on.is

    taken_over : record_after (said_by call) a (waiting p c w) ≡ held c
        → LookUp next a (Ok (Some c)) × FindChallenger next a (Ok None)
    taken_over e = (
      show_holder next a shows_next (held c) (next_is ∙ e) refl,
      show_alone next a shows_next (held c) (next_is
          ∙ e) (held_alone c),
    )

pub challenge_waits : ChallengeWaits
challenge_waits a p c w end k =
    let s = stands_on a p c w end k in (
      show_holder end a s.shows (waiting p c w) s.is refl,
      show_rival end a s.shows (waiting p c w) s.is (waits p c w s.lower),
    )

pub challenge_takes : ChallengeTakes
challenge_takes a p c w end k ms r next h l =
    let s = stands_on a p c w end k in
    taken_over a p c w end k (pausing ms) next (r, h) (paused_takes ms (waiting p c w) (waits p c w s.lower) l)

pub holder_leaves : HolderLeaves
holder_leaves a p c w end k id bytes r next claim h e n d =
    let s = stands_on a p c w end k in
    taken_over a p c w end k (hearing id bytes) next (r, h)
    (ap (λ (x : Said). record_after x a (waiting p c w)) e ∙ holder_left p c w s.lower k.below a claim (n, d))

pub takes_only_so : TakesOnlySo
takes_only_so a p c w end k call next h u =
    let s = stands_on a p c w end k in
    let q = holder_shown next a c (sym u.answer) in
    only_step p c w s.lower k.below a (said_by call)
    (sym (ap (λ (n : Node). n.name) (next_is a p c w end k call next h)) ∙ q.2)

-- ---- a holder whom nobody challenges

undisputed_claim : (p a : ℕ) (claim : Claim) → Undisputed p a (claims claim) → claimed_at claim a (held p) ≡ held p
undisputed_claim p a claim u =
    elsewhere claim a (held p) (λ e. u.0 (sym e))
    ∙ cleared_none claim.name (held p) (no_holder claim.name (held p) (λ x. u.1 (sym x)))
    (no_challenger claim.name (held p) (λ t x. true_false (sym t ∙ held_alone p)))

undisputed_run : (p a : ℕ) (ss : List Said) → AllUndisputed p a ss → record_after_all ss a (held p) ≡ held p
undisputed_run p a [] u = refl
undisputed_run p a (nothing ∷ ss) u = undisputed_run p a ss u.1
undisputed_run p a (claims claim ∷ ss) u =
    ap (record_after_all ss a) (undisputed_claim p a claim u.0) ∙ undisputed_run p a ss u.1
undisputed_run p a (pauses ms ∷ ss) u =
    ap (record_after_all ss a) (paused_alone ms (held p) (held_alone p)) ∙ undisputed_run p a ss u.1

-- a sound record that is present and not challenged is its holder's
held_is : (n : Node) (p : ℕ) → Facts n → n.present ≡ true → n.name ≡ p → is_challenged n ≡ false → n ≡ held p
held_is n p f q m e =
    let c : n.challenger ≡ 0 = zero_of n e in
    let w = f.missing e in
    λ i. record { present = q i; name = m i; challenger = c i; wait = w i }

pub holder_stays : HolderStays
holder_stays a p table end calls h n r u =
    let q = holder_shown table a p (sym h.answer) in
    let s = q.0 in
    let e = no_rival_of (get_or table a absent) (gives_same (sym (rival_here table s.enough s.keeps a s.low)
    ∙ sym n.answer)) in
    let f = facts_here table s.enough s.keeps a s.low in
    let is = held_is (get_or table a absent) p f q.1 q.2 e in
    let o = run_by_record table end calls (record { enough = s.enough; rules = s.keeps }) r in
    let t : Shows end a = record { enough = o.sound.enough; keeps = o.sound.rules; low = s.low } in
    let g = o.records a s.low ∙ ap (record_after_all (map said_by calls) a) is
    ∙ undisputed_run p a (map said_by calls) u in
    (show_holder end a t (held p) g refl, show_alone end a t (held p) g (held_alone p))

-- ---- where a challenge comes from

-- One saying, at a sound record: whoever is the challenger after it was entered by it, or was the challenger before and
-- was left alone.
data Source (a : ℕ) (n : Node) (s : Said) (after : Node) : Type 0 where
  enters : (claim : Claim) → s ≡ claims claim → claim.source ≡ a
      → gives_way claim.name (cleared_of claim.name n) ≡ false
      → may_challenge claim.name (cleared_of claim.name n) ≡ true → after.challenger ≡ claim.name
      → after.wait ≡ 0
      → Source a n s after
  goes_on : is_challenged n ≡ true → after.challenger ≡ n.challenger → after.wait ≡ n.wait + waited s
      → Quiet n.name n.challenger a s → Source a n s after

module _ (a : ℕ) (n : Node) (f : Facts n) where
  -- a record that a claim's NAME is cleared from has its challenger still only where nothing was cleared
  cleared_challenged : (name : ℕ) → is_challenged (cleared_of name n) ≡ true
      → (cleared_of name n ≡ n) × (name ≡ n.name → ⊥) × (name ≡ n.challenger → ⊥) × (is_challenged n ≡ true)
  cleared_challenged name t =
      by_test (has_name name n)
      (λ h. by_test (is_challenged n)
      (λ e. true_false (sym t ∙ ap is_challenged (cleared_holder name n h ∙ vacated_challenged name n e)
      ∙ held_alone n.challenger))
      (λ e. true_false (sym t ∙ ap is_challenged (cleared_holder name n h ∙ vacated_alone name n e)
      ∙ of_zero absent refl)))
      (λ h. by_test (has_challenger name n)
      (λ c. true_false (sym t ∙ ap is_challenged (cleared_challenger name n h c) ∙ unchallenged_alone name n))
      (λ c. let z = cleared_none name n h c in
      let e = sym (ap is_challenged z) ∙ t in (
        z,
        (λ x. true_false (sym (has_name_of name n (challenged_present n f e) (sym x)) ∙ h)),
        (λ x. true_false (sym (has_challenger_of name n e (sym x)) ∙ c)),
        e,
      )))

  claim_source_lem : (claim : Claim) → is_challenged (claimed_at claim a n) ≡ true
      → Source a n (claims claim) (claimed_at claim a n)
  claim_source_lem claim t =
      by_test (eqb a claim.source)
      (λ u. let e = eqb-true a claim.source u in
      by_test (gives_way claim.name m)
      (λ g. true_false (sym t ∙ ap is_challenged (here claim a n f e ∙ entered_taken claim.name m g)
      ∙ held_alone claim.name))
      (λ g. by_test (may_challenge claim.name m)
      (λ y. let k = here claim a n f e ∙ entered_challenges claim.name m g y in
      enters claim refl (sym e) g y (ap (λ (x : Node). x.challenger) k) (ap (λ (x : Node). x.wait) k))
      (λ y. let k = here claim a n f e ∙ entered_not claim.name m g y in
      stays k (sym (ap is_challenged k) ∙ t)
      (λ z x l. let o : m.challenger ≤ claim.name = (not_may claim.name m y).1 in
      let v : m.challenger ≡ n.challenger = ap (λ (w : Node). w.challenger) z in
      omega (arith, v)))))
      (λ u. let e = eqb-false a claim.source u in
      let k = elsewhere claim a n e in
      stays k (sym (ap is_challenged k) ∙ t) (λ z x l. e (sym x)))
    where
      m : Node
      m = cleared_of claim.name n

      stays : claimed_at claim a n ≡ cleared_of claim.name n → is_challenged (cleared_of claim.name n) ≡ true
          → (cleared_of claim.name n ≡ n → claim.source ≡ a → claim.name < n.challenger → ⊥)
          → Source a n (claims claim) (claimed_at claim a n)
      stays k c o =
          let x = cleared_challenged claim.name c in
          let y = k ∙ x.0 in
          let w : n.wait ≡ n.wait + 0 = omega arith in
          goes_on x.3 (ap (λ (z : Node). z.challenger) y) (ap (λ (z : Node). z.wait) y ∙ w) (x.1, x.2, o x.0)

  said_source : (s : Said) → is_challenged (record_after s a n) ≡ true → Source a n s (record_after s a n)
  said_source nothing t = let w : n.wait ≡ n.wait + 0 = omega arith in goes_on t refl w tt
  said_source (claims claim) t = claim_source_lem claim t
  said_source (pauses ms) t =
      by_test (is_challenged n)
      (λ e. by_test (ltb (n.wait + ms) takes_after)
      (λ u. let k = paused_waits ms n e (ltb-true _ _ u) in
      goes_on e (ap (λ (z : Node). z.challenger) k) (ap (λ (z : Node). z.wait) k) tt)
      (λ u. true_false (sym t ∙ ap is_challenged (paused_takes ms n e (ltb-false _ _ u)) ∙ held_alone n.challenger)))
      (λ e. true_false (sym t ∙ ap is_challenged (paused_alone ms n e) ∙ e))

-- ---- over runs of calls, from an empty table

ran_more : (table end next : List Node) (calls : List Call) (call : Call) → Ran table calls end → Leads end call next
    → Ran table (calls ++ (call ∷ [])) next
ran_more table end next [] call (no_call t) h = a_call table next next call [] h (no_call next)
ran_more table end next (c ∷ cs) call (a_call t u e d ds l r) h =
    a_call table u next c (cs ++ (call ∷ [])) l (ran_more u end next cs call r h)

quiet_more : (p c a : ℕ) (calls : List Call) (call : Call) → AllQuiet p c a (map said_by calls)
    → Quiet p c a (said_by call)
    → AllQuiet p c a (map said_by (calls ++ (call ∷ [])))
quiet_more p c a [] call q h = (h, tt)
quiet_more p c a (d ∷ ds) call q h = (q.0, quiet_more p c a ds call q.1 h)

waited_more : (calls : List Call) (call : Call)
    → waited_in (map said_by (calls ++ (call ∷ []))) ≡ waited_in (map said_by calls) + waited (said_by call)
waited_more [] call = omega arith
waited_more (d ∷ ds) call = let e = waited_more ds call in omega (arith, e)

-- a challenge that is left alone goes on
goes_on_by : (a p c w : ℕ) (end next : List Node) (call : Call) → Challenge a p c w end → Leads end call next
    → Quiet p c a (said_by call) → w + waited (said_by call) < takes_after
    → Challenge a p c (w + waited (said_by call)) next
goes_on_by a p c w end next call k h q b =
    record {
      table = k.table;
      id = k.id;
      bytes = k.bytes;
      after = k.after;
      since = k.since ++ (call ∷ []);
      entered = k.entered;
      challenger = k.challenger;
      holder = k.holder;
      ran = ran_more k.after end next k.since call k.ran h;
      quiet = quiet_more p c a k.since call k.quiet q;
      ms = waited_more k.since call ∙ ap (λ (x : ℕ). x + waited (said_by call)) k.ms;
      below = b;
    }

-- a claim that is entered as a challenge was answered so
-- what a frame says is what is heard of it

nothing_claims : {c : Claim} → nothing ≡ claims c → ⊥
nothing_claims e = let z : ◌≡◌ {A = ℕ} 0 1 = cc in omega arith

said_claim : (p : Parts) (bytes : List ℕ) (c : Claim) → said_of p bytes ≡ claims c
    → (p.dgn =? claim_dgn ≡ true) × (claim_in p bytes ≡ c)
unfolding said_of
said_claim p bytes c e =
    by_test (p.dgn =? claim_dgn)
    (λ t. (t, same (rw t at e)))
    (λ t. absurd (nothing_claims (rw t at e)))
  where
    same : claims (claim_in p bytes) ≡ claims c → claim_in p bytes ≡ c
    same d = cc

claims_name : (p : Parts) (bytes : List ℕ) (c : Claim) → said_of p bytes ≡ claims c → c.name ≡ number_of bytes
claims_name p bytes c e = sym (ap (λ (x : Claim). x.name) (said_claim p bytes c e).1)

heard_said : (p : Parts) (bytes : List ℕ) (records : List Node) (c : Claim) → said_of p bytes ≡ claims c
    → heard_by p bytes records ≡ claim_outcome records c
heard_said p bytes records c e =
    let k = said_claim p bytes c e in
    heard_claim p bytes records k.0 ∙ ap (claim_outcome records) k.1

module _ (table : List Node) (s : Sound table) (a : ℕ) (low : a < addresses) (claim : Claim) (at : claim.source ≡ a)
    (g : gives_way claim.name (cleared_of claim.name (get_or table a absent)) ≡ false)
    (m : may_challenge claim.name (cleared_of claim.name (get_or table a absent)) ≡ true) where
  abbrev records : List Node
  records = take addresses table

  source_same : source_record records claim ≡ cleared_of claim.name (get_or table a absent)
  source_same =
      ap (λ (b : ℕ). cleared_of claim.name (get_or records b absent)) at
      ∙ ap (cleared_of claim.name) (get_d_front addresses a table low)

  outcome_is : claim_outcome records claim ≡ challenges a
  outcome_is =
      let l : claim.source ≤ greatest_address = omega (arith, at, low) in
      outcome_challenges records claim l (ap (gives_way claim.name) source_same
      ∙ g) (ap (may_challenge claim.name) source_same ∙ m)
      ∙ ap challenges at

  answered : (id : ℕ) (bytes : List ℕ) (t : Told Parts) → checked_of id (length bytes) ≡ t
      → said_in t bytes ≡ claims claim
      → (heard_of table id bytes ≡ gives (challenges a)) × (claim.name ≡ number_of bytes)
  answered id bytes (refused n) e d = let z : ◌≡◌ {A = ℕ} 0 1 = cc in absurd (omega arith)
  answered id bytes (gives p) e d = (
    (heard_sound table id bytes s.enough s.rules p e).0
        ∙ ap gives (heard_said p bytes records claim d ∙ outcome_is),
    claims_name p bytes claim d,
  )

abbrev Known : List Node → Type 0
Known table = (a c w : ℕ) → FindChallenger table a (Ok (Some (record { name = c; wait = w }))) → (p : ℕ) × Challenge a p c w table

module _ (table next : List Node) (s : Sound table) (known : Known table) (a c w : ℕ)
    (q : Shows next a × (is_challenged (get_or next a absent) ≡ true) × ((get_or next a absent).challenger ≡ c)
    × ((get_or next a absent).wait ≡ w)) where
  abbrev n : Node
  n = get_or table a absent

  facts_next : Facts (get_or next a absent)
  facts_next = facts_here next q.0.enough q.0.keeps a q.0.low

  fresh : (call : Call) → Leads table call next → (claim : Claim) → said_by call ≡ claims claim → claim.source ≡ a
      → gives_way claim.name (cleared_of claim.name n) ≡ false
      → may_challenge claim.name (cleared_of claim.name n) ≡ true
      → c ≡ claim.name → w ≡ 0 → (p : ℕ) × Challenge a p c w next
  fresh (pausing ms) h claim e at g m i z = let o : ◌≡◌ {A = ℕ} 0 1 = cc in absurd (omega arith)
  fresh (hearing id bytes) h claim e at g m i z =
      let o = answered table s a q.0.low claim at g m id bytes (checked_of id (length bytes)) refl e in (
        (get_or next a absent).name,
        record {
          table = table;
          id = id;
          bytes = bytes;
          after = next;
          since = [];
          entered = record { answer = sym o.0; table_after = h.1.table_after };
          challenger = sym o.1 ∙ sym i;
          holder = show_holder next a q.0 (get_or next a absent) refl
              (challenged_present (get_or next a absent) facts_next q.1);
          ran = no_call next;
          quiet = tt;
          ms = sym z;
          below = omega (arith, z);
        },
      )

  -- the holder of a challenge that is known is that of the record
  known_holder : (p d v : ℕ) → Challenge a p d v table → n.name ≡ p
  known_holder p d v k = (holder_shown table a p (sym (challenge_waits a p d v table k).0.answer)).2

  from_source : (call : Call) → Leads table call next → get_or next a absent ≡ record_after (said_by call) a n
      → Source a n (said_by call) (record_after (said_by call) a n) → (p : ℕ) × Challenge a p c w next
  from_source call h e (enters claim x at g m i z) =
      fresh call h claim x at g m (sym q.2 ∙ ap (λ (r : Node). r.challenger) e ∙ i) (sym q.3
      ∙ ap (λ (r : Node). r.wait) e ∙ z)
  from_source call h e (goes_on ch i z t) =
      let shows : Shows table a = record { enough = s.enough; keeps = s.rules; low = q.0.low } in
      let old = known a n.challenger n.wait (show_rival table a shows n refl ch) in
      let p = old.0 in
      let hold = known_holder p n.challenger n.wait old.1 in
      let c_is : n.challenger ≡ c = sym i ∙ sym (ap (λ (r : Node). r.challenger) e) ∙ q.2 in
      let w_is : n.wait + waited (said_by call) ≡ w = sym z ∙ sym (ap (λ (r : Node). r.wait) e) ∙ q.3 in
      let small : n.wait + waited (said_by call) < takes_after = omega (arith, w_is, q.3, facts_next.below) in
      let t' = subst (λ (x : ℕ). Quiet x n.challenger a (said_by call)) hold t in
      let k = goes_on_by a p n.challenger n.wait table next call old.1 h t' small in (
        p,
        subst (λ (x : ℕ). Challenge a p c x next) w_is
            (subst (λ (x : ℕ). Challenge a p x (n.wait + waited (said_by call)) next) c_is k),
      )

known_step : (table next : List Node) (call : Call) → Sound table → Known table → Leads table call next → Known next
known_step table next call s known h a c w found =
    let q = rival_shown next a c w (sym found.answer) in
    let o = leads_left table s call next h in
    let low = q.0.low in
    let e = o.records a low in
    let f = facts_here table s.enough s.rules a low in
    from_source table next s known a c w q call h e
    (said_source a (get_or table a absent) f (said_by call) (sym (ap is_challenged e) ∙ q.1))

known_run : (table end : List Node) (calls : List Call) → Sound table → Known table → Ran table calls end → Known end
known_run table end [] s known (no_call t) = known
known_run table end (c ∷ cs) s known (a_call t u e call calls h r) =
    known_run u end cs (leads_left table s c u h).kept (known_step table u c s known h) r

pub challenge_entered : ChallengeEntered
challenge_entered r behind end calls e ran a c w found =
    let k = empty_keeps_rules r behind e in
    known_run (r ++ behind) end calls (record { enough = k.0; rules = k.1 })
    (λ a' c' w' f. absurd (nobody a' c' w' (sym (empty_has_no_challenger r behind a' e)
    ∙ sym f.answer))) ran a c w found
  where
    nobody : (a' c' w' : ℕ) → ◌≡◌ {A = Told Rival} (gives no_rival) (gives (rival (record { name = c'; wait = w' }))) → ⊥
    nobody a' c' w' d = let z : ◌≡◌ {A = ℕ} 0 1 = cc in omega arith
