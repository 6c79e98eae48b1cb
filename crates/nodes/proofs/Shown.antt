-- What is heard is shown: what `look_up` and `find_challenger` say of a record, and what the record of a claim's source
-- is after each answer.
-- Assumes nothing.
use mathlib.Core.Path.{◌≡◌, refl, sym, ap, ◌∙◌, subst}
use mathlib.Core.Bool.{true, false}
use mathlib.Core.List.{List}
use Prim.Native.Nat.{ℕ, ◌<◌, ◌≤◌}
use native.Mathlib.Omega.{arith}
use lib.ListN.{length, get_or, take}
use lib.Dec.{ltb}
use borrow.Author.Tests.{ltb-true, ltb-false, lt-ltb, le-ltb}
use Rattle.words.specs.Words.{gives}
use Rattle.frame.specs.Bytes.{number_of}
use Rattle.frame.specs.Standard.{greatest_address}
use Rattle.words.proofs.Words.{refused_gives, gives_same, true_false, by_test}
use Rattle.nodes.specs.Table.{addresses, absent, held, challenged, is_challenged, gives_way, may_challenge}
use Rattle.nodes.specs.Table.{cleared_of}
use Rattle.nodes.specs.Table.{entered_of, claimed_of, stands, keeps_rules}
use Rattle.nodes.specs.Call.{nothing_to_do, taken, challenges, held_by_lower, silent, source_record, claim_outcome}
use Rattle.nodes.specs.Call.{heard_of}
use Rattle.nodes.specs.Call.{table_after, nobody, holder, holder_of, looked_up_of}
use Rattle.nodes.specs.Call.{Challenger, Rival, no_rival, rival, rival_of, challenger_of}
use Rattle.nodes.specs.Laws.{TakenShown, ChallengesShown, HeldShown, TakenFound}
use Rattle.nodes.specs.declared.Node.{Node}
use Rattle.nodes.specs.declared.Claim.{Claim}
use Rattle.nodes.proofs.Call.{table_passes, table_sound, rival_past, rival_at_lem}
use Rattle.nodes.proofs.Call.{Claimed, Went, stopped, ignored, claimed, went}
use Rattle.nodes.proofs.Find.{get_d_front, looked_past, looked_at, holder_held, holder_of_lem, found_shown}
use Rattle.nodes.proofs.Kept.{claimed_length, claimed_keeps, claimed_at_lem, facts_here}
use Rattle.nodes.proofs.Sound.{Facts, challenged_of, has_challenger_of, stands_challenger, entered_taken}
use Rattle.nodes.proofs.Sound.{entered_challenges, entered_not, not_may, cleared_facts, above_holder, gone, here}

-- ---- a table that is not refused, and its record of an address

module _ (table : List Node) (enough : addresses ≤ length table) (keeps : keeps_rules (take addresses table) ≡ true)
    (a : ℕ)
    (low : a < addresses) where
  pub looked_here : looked_up_of table a ≡ gives (holder_of (get_or table a absent))
  looked_here =
      let l : a ≤ greatest_address = omega arith in
      looked_at table a enough keeps l ∙ ap (λ (n : Node). gives (holder_of n)) (get_d_front addresses a table low)

  pub rival_here : challenger_of table a ≡ gives (rival_of (get_or table a absent))
  rival_here =
      let l : a ≤ greatest_address = omega arith in
      table_passes table _ enough keeps ∙ ap gives (rival_at_lem (take addresses table) a l)
      ∙ ap (λ (n : Node). gives (rival_of n)) (get_d_front addresses a table low)

pub rival_is : (n : Node) → is_challenged n ≡ true → rival_of n ≡ rival (record { name = n.challenger; wait = n.wait })
unfolding rival_of
rival_is n e = rw e

pub no_rival_is : (n : Node) → is_challenged n ≡ false → rival_of n ≡ no_rival
unfolding rival_of
no_rival_is n e = rw e

rival_differs : {r : Challenger} → no_rival ≡ rival r → ⊥
rival_differs e = let z : ◌≡◌ {A = ℕ} 0 1 = cc in omega arith

challenger_in : Rival → Challenger → Challenger
challenger_in no_rival r = r
challenger_in (rival q) r = q

pub rival_of_lem : (n : Node) (c w : ℕ) → rival_of n ≡ rival (record { name = c; wait = w })
    → (is_challenged n ≡ true) × (n.challenger ≡ c) × (n.wait ≡ w)
unfolding challenger_in
rival_of_lem n c w e =
    by_test (is_challenged n) (λ t. same t (sym (rival_is n t)
    ∙ e)) (λ t. absurd (rival_differs (sym (no_rival_is n t) ∙ e)))
  where
    same : is_challenged n ≡ true
        → rival (record { name = n.challenger; wait = n.wait }) ≡ rival (record { name = c; wait = w })
        → (is_challenged n ≡ true) × (n.challenger ≡ c) × (n.wait ≡ w)
    same t d =
        let q = ap (λ (x : Rival). challenger_in x (record { name = 0; wait = 0 })) d in
        (t, ap (λ (x : Challenger). x.name) q, ap (λ (x : Challenger). x.wait) q)

pub no_rival_of : (n : Node) → rival_of n ≡ no_rival → is_challenged n ≡ false
no_rival_of n e = by_test (is_challenged n) (λ t. absurd (rival_differs (sym e ∙ rival_is n t))) (λ t. t)

-- what is shown is shown of a table that is not refused, and of an address

pub record Shows (table : List Node) (a : ℕ) : Type 0 where
  pub enough : addresses ≤ length table
  pub keeps : keeps_rules (take addresses table) ≡ true
  pub low : a < addresses

module _ (table : List Node) (a : ℕ) where
  pub holder_shown : (p : ℕ) → looked_up_of table a ≡ gives (holder p)
      → Shows table a × ((get_or table a absent).present ≡ true) × ((get_or table a absent).name ≡ p)
  holder_shown p e =
      let s = table_sound table _ e in
      by_test (ltb greatest_address a)
      (λ t. absurd (differ (gives_same (sym (looked_past table a s.0 s.1 (ltb-true _ _ t)) ∙ e))))
      (λ t. let h : a ≤ greatest_address = ltb-false _ _ t in
      let l : a < addresses = omega arith in
      let k = holder_of_lem (get_or table a absent) p (gives_same (sym (looked_here table s.0 s.1 a l) ∙ e)) in
      (record { enough = s.0; keeps = s.1; low = l }, k.0, k.1))
    where
      differ : nobody ≡ holder p → ⊥
      differ d = let z : ◌≡◌ {A = ℕ} 0 1 = cc in omega arith

  pub rival_shown : (c w : ℕ) → challenger_of table a ≡ gives (rival (record { name = c; wait = w }))
      → Shows table a × (is_challenged (get_or table a absent) ≡ true) × ((get_or table a absent).challenger ≡ c)
      × ((get_or table a absent).wait ≡ w)
  rival_shown c w e =
      let s = table_sound table _ e in
      by_test (ltb greatest_address a)
      (λ t. absurd (rival_differs (sym (rival_past (take addresses table) a (ltb-true _ _ t)) ∙ gives_same s.2)))
      (λ t. let h : a ≤ greatest_address = ltb-false _ _ t in
      let l : a < addresses = omega arith in
      let k = rival_of_lem (get_or table a absent) c w (gives_same (sym (rival_here table s.0 s.1 a l) ∙ e)) in
      (record { enough = s.0; keeps = s.1; low = l }, k.0, k.1, k.2))

-- ---- what a claim comes to, and back

module _ (records : List Node) (c : Claim) where
  abbrev before : Node
  before = source_record records c

  pub outcome_silent : greatest_address < c.source → claim_outcome records c ≡ silent
  unfolding claim_outcome
  outcome_silent h = rw (lt-ltb _ _ h)

  pub outcome_taken : c.source ≤ greatest_address → gives_way c.name before ≡ true
      → claim_outcome records c ≡ taken c.source
  unfolding claim_outcome
  outcome_taken h g = rw (le-ltb _ _ h, g)

  pub outcome_challenges : c.source ≤ greatest_address → gives_way c.name before ≡ false
      → may_challenge c.name before ≡ true → claim_outcome records c ≡ challenges c.source
  unfolding claim_outcome
  outcome_challenges h g m = rw (le-ltb _ _ h, g, m)

  pub outcome_held : c.source ≤ greatest_address → gives_way c.name before ≡ false
      → may_challenge c.name before ≡ false → claim_outcome records c ≡ held_by_lower c.source
  unfolding claim_outcome
  outcome_held h g m = rw (le-ltb _ _ h, g, m)

  -- which of the four it was
  pub data Came : Type 0 where
    was_silent : greatest_address < c.source → claim_outcome records c ≡ silent → Came
    was_taken : c.source ≤ greatest_address → gives_way c.name before ≡ true
        → claim_outcome records c ≡ taken c.source → Came
    was_challenge : c.source ≤ greatest_address → gives_way c.name before ≡ false
        → may_challenge c.name before ≡ true
        → claim_outcome records c ≡ challenges c.source → Came
    was_held : c.source ≤ greatest_address → gives_way c.name before ≡ false → may_challenge c.name before ≡ false
        → claim_outcome records c ≡ held_by_lower c.source → Came

  pub came : Came
  came =
      by_test (ltb greatest_address c.source) (λ t. let h = ltb-true _ _ t in was_silent h (outcome_silent h))
      (λ t. let h = ltb-false _ _ t in
      by_test (gives_way c.name before) (λ g. was_taken h g (outcome_taken h g))
      (λ g. by_test (may_challenge c.name before) (λ m. was_challenge h g m (outcome_challenges h g m))
      (λ m. was_held h g m (outcome_held h g m))))

-- ---- the record of the source after each answer

-- the claim c, heard with a table that is not refused, at its source a
pub record Heeded (table : List Node) (id : ℕ) (bytes : List ℕ) (a : ℕ) (c : Claim) : Type 0 where
  pub after : table_after table id bytes ≡ claimed_of c table
  pub source : c.source ≡ a
  pub name : c.name ≡ number_of bytes
  pub shows : Shows table a

module _ (table : List Node) (id : ℕ) (bytes : List ℕ) where
  heeded : (a : ℕ) (c : Claim) → Claimed table id bytes c → c.source ≡ a → c.source ≤ greatest_address
      → Heeded table id bytes a c
  heeded a c k s l =
      let low : a < addresses = omega (arith, s, l) in
      record {
        after = k.after;
        source = s;
        name = k.name;
        shows = record { enough = k.enough; keeps = k.keeps; low = low };
      }

  abbrev At : ℕ → (Claim → Type 0) → Type 0
  At a P = (c : Claim) × Heeded table id bytes a c × P c

  abbrev source_of : Claim → Node
  source_of c = source_record (take addresses table) c

  abbrev Taken : Claim → Type 0
  Taken c = gives_way c.name (source_of c) ≡ true

  abbrev Challenged : Claim → Type 0
  Challenged c = (gives_way c.name (source_of c) ≡ false) × (may_challenge c.name (source_of c) ≡ true)

  abbrev Beaten : Claim → Type 0
  Beaten c = (gives_way c.name (source_of c) ≡ false) × (may_challenge c.name (source_of c) ≡ false)

  module _ (a : ℕ) where
    taken_came : (c : Claim) → Claimed table id bytes c → Came (take addresses table) c
        → claim_outcome (take addresses table) c ≡ taken a → At a Taken
    taken_came c e (was_silent h o) d = let z : ◌≡◌ {A = ℕ} 0 1 = cc in absurd (omega arith)
    taken_came c e (was_taken h g o) d = let s : c.source ≡ a = cc in (c, heeded a c e s h, g)
    taken_came c e (was_challenge h g m o) d = let z : ◌≡◌ {A = ℕ} 0 1 = cc in absurd (omega arith)
    taken_came c e (was_held h g m o) d = let z : ◌≡◌ {A = ℕ} 0 1 = cc in absurd (omega arith)

    challenge_came : (c : Claim) → Claimed table id bytes c → Came (take addresses table) c
        → claim_outcome (take addresses table) c ≡ challenges a → At a Challenged
    challenge_came c e (was_silent h o) d = let z : ◌≡◌ {A = ℕ} 0 1 = cc in absurd (omega arith)
    challenge_came c e (was_taken h g o) d = let z : ◌≡◌ {A = ℕ} 0 1 = cc in absurd (omega arith)
    challenge_came c e (was_challenge h g m o) d = let s : c.source ≡ a = cc in (c, heeded a c e s h, (g, m))
    challenge_came c e (was_held h g m o) d = let z : ◌≡◌ {A = ℕ} 0 1 = cc in absurd (omega arith)

    held_came : (c : Claim) → Claimed table id bytes c → Came (take addresses table) c
        → claim_outcome (take addresses table) c ≡ held_by_lower a → At a Beaten
    held_came c e (was_silent h o) d = let z : ◌≡◌ {A = ℕ} 0 1 = cc in absurd (omega arith)
    held_came c e (was_taken h g o) d = let z : ◌≡◌ {A = ℕ} 0 1 = cc in absurd (omega arith)
    held_came c e (was_challenge h g m o) d = let z : ◌≡◌ {A = ℕ} 0 1 = cc in absurd (omega arith)
    held_came c e (was_held h g m o) d = let s : c.source ≡ a = cc in (c, heeded a c e s h, (g, m))

    taken_told : heard_of table id bytes ≡ gives (taken a) → At a Taken
    taken_told e = by (went table id bytes)
      where
        by : Went table id bytes → At a Taken
        by (stopped n h l) = refused_gives (sym h ∙ e)
        by (ignored h l) =
            let d : nothing_to_do ≡ taken a = gives_same (sym h ∙ e) in
            let z : ◌≡◌ {A = ℕ} 0 1 = cc in
            absurd (omega arith)
        by (claimed c k) = taken_came c k (came (take addresses table) c) (gives_same (sym k.answer ∙ e))

    challenge_told : heard_of table id bytes ≡ gives (challenges a) → At a Challenged
    challenge_told e = by (went table id bytes)
      where
        by : Went table id bytes → At a Challenged
        by (stopped n h l) = refused_gives (sym h ∙ e)
        by (ignored h l) =
            let d : nothing_to_do ≡ challenges a = gives_same (sym h ∙ e) in
            let z : ◌≡◌ {A = ℕ} 0 1 = cc in
            absurd (omega arith)
        by (claimed c k) = challenge_came c k (came (take addresses table) c) (gives_same (sym k.answer ∙ e))

    held_told : heard_of table id bytes ≡ gives (held_by_lower a) → At a Beaten
    held_told e = by (went table id bytes)
      where
        by : Went table id bytes → At a Beaten
        by (stopped n h l) = refused_gives (sym h ∙ e)
        by (ignored h l) =
            let d : nothing_to_do ≡ held_by_lower a = gives_same (sym h ∙ e) in
            let z : ◌≡◌ {A = ℕ} 0 1 = cc in
            absurd (omega arith)
        by (claimed c k) = held_came c k (came (take addresses table) c) (gives_same (sym k.answer ∙ e))

  -- the table after it: it is not refused, and its record of the source
  module _ (a : ℕ) (c : Claim) (k : Heeded table id bytes a c) where
    abbrev n : Node
    n = get_or table a absent

    abbrev m : Node
    m = cleared_of c.name n

    pub source_is : source_of c ≡ m
    source_is =
        ap (λ (b : ℕ). cleared_of c.name (get_or (take addresses table) b absent)) k.source
        ∙ ap (cleared_of c.name) (get_d_front addresses a table k.shows.low)

    pub facts : Facts n
    facts = facts_here table k.shows.enough k.shows.keeps a k.shows.low

    pub shows_after : Shows (table_after table id bytes) a
    shows_after =
        let l : addresses ≤ length (claimed_of c table) = omega (arith, claimed_length c table, k.shows.enough) in
        subst (λ (t : List Node). Shows t a) (sym k.after)
        (record { enough = l; keeps = claimed_keeps c table k.shows.keeps; low = k.shows.low })

    pub record_after : get_or (table_after table id bytes) a absent ≡ entered_of c.name m
    record_after =
        ap (λ (t : List Node). get_or t a absent) k.after
        ∙ claimed_at_lem c table k.shows.enough a k.shows.low ∙ here c a n facts (sym k.source)

    pub not_there : stands c.name m ≡ false
    not_there = gone c a n facts

    abbrev after : List Node
    after = table_after table id bytes

    looked : (r : Node) → get_or after a absent ≡ r
        → looked_up_of after a ≡ gives (holder_of r)
    looked r e =
        looked_here after shows_after.enough shows_after.keeps a k.shows.low
        ∙ ap (λ (x : Node). gives (holder_of x)) e

    rivaled : (r : Node) → get_or after a absent ≡ r
        → challenger_of after a ≡ gives (rival_of r)
    rivaled r e =
        rival_here after shows_after.enough shows_after.keeps a k.shows.low
        ∙ ap (λ (x : Node). gives (rival_of x)) e

pub held_alone : (name : ℕ) → is_challenged (held name) ≡ false
unfolding is_challenged
held_alone name = refl

pub taken_shown : TakenShown
taken_shown table id bytes a e =
    let t = taken_told table id bytes a e in
    let c = t.0 in
    let k = t.1 in
    let g = sym (ap (gives_way c.name) (source_is table id bytes a c k)) ∙ t.2 in
    let r = record_after table id bytes a c k ∙ entered_taken c.name _ g in (
      looked table id bytes a c k (held c.name) r
          ∙ ap gives (holder_held (held c.name) refl ∙ ap holder k.name),
      rivaled table id bytes a c k (held c.name) r ∙ ap gives (no_rival_is (held c.name) (held_alone c.name)),
    )

-- after `challenges` the record has a lower holder, and the NAME as its challenger since 0 ms
pub record Entered (table : List Node) (id : ℕ) (bytes : List ℕ) (a : ℕ) : Type 0 where
  pub shows : Shows (table_after table id bytes) a
  pub holder : ℕ
  pub lower : holder < number_of bytes
  pub is : get_or (table_after table id bytes) a absent ≡ challenged (number_of bytes) 0 (held holder)

pub challenge_entered_at : (table : List Node) (id : ℕ) (bytes : List ℕ) (a : ℕ)
    → heard_of table id bytes ≡ gives (challenges a)
    → Entered table id bytes a
challenge_entered_at table id bytes a e =
    let t = challenge_told table id bytes a e in
    let c = t.0 in
    let k = t.1 in
    let b = cleared_of c.name (get_or table a absent) in
    let s = source_is table id bytes a c k in
    let g = sym (ap (gives_way c.name) s) ∙ t.2.0 in
    let m = sym (ap (may_challenge c.name) s) ∙ t.2.1 in
    let h = above_holder c.name b (not_there table id bytes a c k) g in
    let l : b.name < c.name = h.1 in
    record {
      shows = shows_after table id bytes a c k;
      holder = b.name;
      lower = omega (arith, k.name, l);
      is = record_after table id bytes a c k ∙ entered_challenges c.name b g m
          ∙ (λ i. record { present = h.0 i; name = b.name; challenger = k.name i; wait = 0 });
    }

pub waiting_challenged : (p c w : ℕ) → p < c → is_challenged (challenged c w (held p)) ≡ true
waiting_challenged p c w l = challenged_of (challenged c w (held p)) (omega arith)

pub challenges_shown : ChallengesShown
challenges_shown table id bytes a e =
    let k = challenge_entered_at table id bytes a e in
    let r = challenged (number_of bytes) 0 (held k.holder) in
    let s = k.shows in (
      k.holder,
      looked_here (table_after table id bytes) s.enough s.keeps a s.low
          ∙ ap (λ (x : Node). gives (holder_of x)) k.is
          ∙ ap gives (holder_held r refl),
      k.lower,
      rival_here (table_after table id bytes) s.enough s.keeps a s.low
          ∙ ap (λ (x : Node). gives (rival_of x)) k.is
          ∙ ap gives (rival_is r (waiting_challenged k.holder (number_of bytes) 0 k.lower)),
    )

pub held_shown : HeldShown
held_shown table id bytes a e =
    let t = held_told table id bytes a e in
    let c = t.0 in
    let k = t.1 in
    let b = cleared_of c.name (get_or table a absent) in
    let s = source_is table id bytes a c k in
    let g = sym (ap (gives_way c.name) s) ∙ t.2.0 in
    let m = sym (ap (may_challenge c.name) s) ∙ t.2.1 in
    let r = record_after table id bytes a c k ∙ entered_not c.name b g m in
    let h = above_holder c.name b (not_there table id bytes a c k) g in
    let q = not_may c.name b m in
    let f = cleared_facts c.name (get_or table a absent) (facts table id bytes a c k) in
    let d : b.challenger ≡ c.name
    → ⊥ = λ x. true_false (sym (stands_challenger c.name b (has_challenger_of c.name b q.0 x))
    ∙ not_there table id bytes a c k) in
    let above : b.name < b.challenger = f.above q.0 in
    let most : b.challenger ≤ c.name = q.1 in (
      b.name,
      b.challenger,
      b.wait,
      looked table id bytes a c k b r ∙ ap gives (holder_held b h.0),
      rivaled table id bytes a c k b r ∙ ap gives (rival_is b q.0),
      above,
      omega (arith, k.name, d),
    )

pub taken_found : TakenFound
taken_found table id bytes a e =
    (found_shown (table_after table id bytes) (number_of bytes) a).1 (taken_shown table id bytes a e).0
