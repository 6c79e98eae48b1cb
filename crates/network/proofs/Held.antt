-- At rest nothing but time passes: every node holds its address after 250 ms, or is silent.
-- Assumes nothing.
use Rattle.std.specs.Prelude.{if◌then◌else◌}
use mathlib.Core.Path.{◌≡◌, refl, sym, ap, ◌∙◌}
use mathlib.Core.Bool.{true, false}
use mathlib.Core.List.{List, [], ◌∷◌, ◌++◌}
use mathlib.Core.Logic.{◌⊎◌, inl, inr}
use Prim.Native.Nat.{ℕ, suc, ◌+◌, ◌≤◌, ◌<◌, min}
use native.Mathlib.Omega.{arith}
use borrow.Author.Tests.{eq-eqb, ne_eqb}
use lib.ListN.{length, get_or, set, take, drop}
use lib.Seq.{get_or-set_same, get_or-set_other, drop-append-le}
use Rattle.words.specs.Words.{◌=?◌, gives}
use Rattle.words.proofs.Words.{by_test, both_true, true_false}
use Rattle.claim.specs.Claim.{held_after, keeps_rules, holds_list, address, pause}
use Rattle.claim.specs.Claim as Machine
use Rattle.claim.specs.Promises.{told_standing}
use Rattle.claim.specs.declared.Claim.{Claim}
use Rattle.std.specs.Prelude.{Ok}
use Rattle.claim.specs.declared.Place.TheVariants.{Held, Silent}
use Rattle.claim.proofs.Sound.{rules_of, pause_silent, pause_awake}
use Rattle.claim.proofs.Laws.{told_standing_same}
use Rattle.network.specs.Network.{Sent, Node, off, on, Network, node_at, Fit, Act, starts, comes, reads}
use Rattle.network.specs.Network.{pauses, asked, becomes, Ran, no_act, an_act}
use Rattle.network.specs.Laws.{Own, AtRest, LeftAlone, passes_in, HeldAtLast}
use Rattle.network.specs.Laws as The
use Rattle.network.proofs.Lists.{equal_or, In, in_either, in_head, in_back, drop_next, own_in}
use Rattle.network.proofs.Lists.{own_all}
use Rattle.network.proofs.Moves.{Kept, kept_on, on_here, Move, refuses, begins, comes_on, hears, passes, waits}
use Rattle.network.proofs.Moves.{repeats, move_of, others, kept_move}
use Rattle.network.proofs.NoTwo.{run_so, here_at, stand_told, stand_silent, stand_held}

-- ---- at rest, of a node

abbrev RestAt : List Sent → List Sent → ℕ → Node → Type 0
RestAt waiting bus i off = Unit
RestAt waiting bus i (on c k) = Own i waiting × Own i (drop k bus)

rest_at : (w : Network) → AtRest w → (i : ℕ) → RestAt w.waiting w.bus i (node_at w i)
rest_at w rest i = go (node_at w i) refl
  where
    go : (s : Node) → node_at w i ≡ s → RestAt w.waiting w.bus i (node_at w i)
    go off e = rw e tt
    go (on c k) e = rw e (rest i c k e)

at_rest : (w : Network) → ((i : ℕ) → RestAt w.waiting w.bus i (node_at w i)) → AtRest w
at_rest w f i c k e = rw e at (f i)

own_none : (i : ℕ) (l : List Sent) → Own i l → Own i (l ++ [])
own_none i [] o = tt
own_none i (x ∷ l) o = (o.0, own_none i l o.1)

rest_none : (waiting bus : List Sent) (i : ℕ) (s : Node) → RestAt waiting bus i s → RestAt (waiting ++ []) bus i s
rest_none waiting bus i off r = tt
rest_none waiting bus i (on c k) r = (own_none i waiting r.0, r.1)

rest_becomes : (w : Network) (i : ℕ) (c : Claim) (k : ℕ) → AtRest w → i < length w.nodes → Own i w.waiting
    → Own i (drop k w.bus) → AtRest (becomes i (on c k) [] w)
rest_becomes w i c k rest h o p =
    at_rest (becomes i (on c k) [] w)
    (others w.nodes i (on c k) (RestAt (w.waiting ++ []) w.bus) h (own_none i w.waiting o, p)
    (λ j. rest_none w.waiting w.bus j (node_at w j) (rest_at w rest j)))

rest_come : (w : Network) (n : ℕ) (x : Sent) (rest : List Sent) → drop n w.waiting ≡ x ∷ rest → (i : ℕ) (c : Claim) (k : ℕ)
    → k ≤ length w.bus → Own i w.waiting → Own i (drop k w.bus)
    → Own i (take n w.waiting ++ rest) × Own i (drop k (w.bus ++ (x ∷ [])))
rest_come w n x rest d i c k l o p = (
  own_all i (take n w.waiting ++ rest) (λ y h. own_in y i w.waiting o (in_back y n w.waiting x rest d h)),
  rw (drop-append-le k w.bus (x ∷ []) l)
      (own_all i (drop k w.bus ++ (x ∷ [])) (λ y h. go y (in_either y (drop k w.bus) (x ∷ []) h))),
)
  where
    go : (y : Sent) → In y (drop k w.bus) ⊎ In y (x ∷ []) → y.by ≡ i
    go y (inl h) = own_in y i (drop k w.bus) p h
    go y (inr (inl e)) = ap (λ (s : Sent). s.by) e ∙ own_in x i w.waiting o (in_head n w.waiting x rest d)
    go y (inr (inr h)) = absurd h

-- ---- a node that has waited

record Waited (ms : ℕ) (c d : Claim) : Type 0 where
  silent : d.silent ≡ c.silent
  address : Machine.address d ≡ Machine.address c
  wait : c.silent ≡ false → min held_after (c.wait + ms) ≤ d.wait

waited_none : (c : Claim) → Waited 0 c c
waited_none c = record { silent = refl; address = refl; wait = λ s. omega arith }

waited_more : (m n : ℕ) (c d e : Claim) → Waited m c d → Waited n d e → Waited (m + n) c e
waited_more m n c d e p q =
    record {
      silent = q.silent ∙ p.silent;
      address = q.address ∙ p.address;
      wait = λ s. omega (arith, p.wait s, q.wait (p.silent ∙ s));
    }

waited_pause : (ms : ℕ) (c : Claim) → Waited ms c (pause ms c)
waited_pause ms c =
    by_test c.silent
    (λ s. rw (pause_silent ms c s) (record { silent = refl; address = refl; wait = λ z. true_false (sym s ∙ z) }))
    (λ s. rw (pause_awake ms c s) (record { silent = refl; address = refl; wait = λ z. omega arith }))

-- what a node was before
record Before (w : Network) (i ms : ℕ) (d : Claim) : Type 0 where
  claim : Claim
  read : ℕ
  started : node_at w i ≡ on claim read
  waited : Waited ms claim d

abbrev Passive : Act → Type 0
Passive (starts i list older) = ⊥
Passive (comes n) = Unit
Passive (reads i) = Unit
Passive (pauses i ms) = Unit
Passive (asked i) = ⊥

on_same : (c d : Claim) (k m : ℕ) → on c k ≡ on d m → c ≡ d
on_same c d k m e = cc

module _ (w : Network) (j : ℕ) (c : Claim) (k : ℕ) (e : node_at w j ≡ on c k) (inside : j < length w.nodes) (i : ℕ) (d : Claim)
    (m : ℕ) where
  -- of the node that an act is about, and of the others
  before : (ms : ℕ) (b : Claim) (n : ℕ) → get_or (set w.nodes j (on b n)) i off ≡ on d m → Waited ms c b
      → (at : ℕ) → (j ≡ i → at ≡ ms) → ((j ≡ i → ⊥) → at ≡ 0) → Before w i at d
  before ms b n f q at here there =
      equal_or j i
      (λ s.
      let z : on b n ≡ on d m = sym (get_or-set_same w.nodes j (on b n) off inside) ∙ rw (← s) at f in
      let y : b ≡ d = on_same b d n m z in
      record { claim = c; read = k; started = rw (← s) e; waited = rw (here s, ← y) q })
      (λ s.
      let z : node_at w i ≡ on d m = sym (get_or-set_other w.nodes j i (on b n) off (λ t. s (sym t))) ∙ f in
      record { claim = d; read = m; started = z; waited = rw (there s) (waited_none d) })

module _ (names : List ℕ) (w : Network) (v : Kept names w) (rest : AtRest w) where
  rest_move : (act : Act) (u : Network) → Passive act → Move names w act u → AtRest u
  rest_move act u q (refuses i list older) = absurd q
  rest_move act u q (begins i list older h e f g) = absurd q
  rest_move act u q (comes_on n x more d) = λ i c k e.
      let r = rest i c k e in
      rest_come w n x more d i c k (kept_on names w i c k v e).within r.0 r.1
  rest_move act u q (hears i c k x more y e d n) = absurd (n (rw d at (rest i c k e).1).0)
  rest_move act u q (passes i c k x more e d b) =
      let r = rest i c k e in
      rest_becomes w i c (suc k) rest (on_here names w i c k v e).0 r.0
      (rw (drop_next k w.bus x more d).0 (rw d at r.1).1)
  rest_move act u q (waits i ms c k e) =
      let r = rest i c k e in
      rest_becomes w i (pause ms c) k rest (on_here names w i c k v e).0 r.0 r.1
  rest_move act u q (repeats i c k e) = absurd q

  before_move : (act : Act) (u : Network) → Passive act → Move names w act u → (i : ℕ) (d : Claim) (m : ℕ)
      → node_at u i ≡ on d m → Before w i (The.passes i act) d
  before_move act u q (refuses j list older) i d m f = absurd q
  before_move act u q (begins j list older h e z g) i d m f = absurd q
  before_move act u q (comes_on n x more z) i d m f =
      record { claim = d; read = m; started = f; waited = waited_none d }
  before_move act u q (hears j c k x more y e z n) i d m f = absurd (n (rw z at (rest j c k e).1).0)
  before_move act u q (passes j c k x more e z b) i d m f =
      before w j c k e (on_here names w j c k v e).0 i d m 0 c (suc k) f (waited_none c) 0 (λ s. refl) (λ s. refl)
  before_move act u q (waits j ms c k e) i d m f =
      before w j c k e (on_here names w j c k v e).0 i d m ms (pause ms c) k f (waited_pause ms c)
      (if j =? i then ms else 0)
      (λ s. rw (eq-eqb j i s) refl)
      (λ s. rw (ne_eqb j i s) refl)
  before_move act u q (repeats j c k e) i d m f = absurd q

alone_both : (act : Act) (acts : List Act) → LeftAlone (act ∷ acts) → Passive act × LeftAlone acts
alone_both (starts i list older) acts q = absurd q
alone_both (comes n) acts q = (tt, q)
alone_both (reads i) acts q = (tt, q)
alone_both (pauses i ms) acts q = (tt, q)
alone_both (asked i) acts q = absurd q

before_run : (names : List ℕ) → Fit names → (w end : Network) (acts : List Act) → Ran names w acts end → Kept names w → AtRest w
    → LeftAlone acts → (i : ℕ) (d : Claim) (m : ℕ) → node_at end i ≡ on d m → Before w i (passes_in i acts) d × Kept names end
before_run names fit w end acts (no_act w') v rest q i d m f =
    (record { claim = d; read = m; started = f; waited = waited_none d }, v)
before_run names fit w end acts (an_act w' t e act more s r) v rest q i d m f =
    let b = alone_both act more q in
    let z = move_of names fit w v act t s in
    let y = before_run names fit t end more r (kept_move names w v act t z) (rest_move names w v rest act t b.0 z) b.1 i d m f in
    let c = y.0 in
    let x = before_move names w v rest act t b.0 z i c.claim c.read c.started in (
      record {
        claim = x.claim;
        read = x.read;
        started = x.started;
        waited = waited_more (The.passes i act) (passes_in i more) x.claim c.claim d x.waited c.waited;
      },
      y.1,
    )

pub held_at_last : HeldAtLast
held_at_last names acts more w v differ fit r rest s q i c k e h standing p =
    by_test b.claim.silent
    (λ z. inr (told_standing_same standing (Ok Silent) (told ∙ ap gives (stand_silent c (b.waited.silent ∙ z)))))
    (λ z. inl (
      Machine.address c,
      told_standing_same standing (Ok (Held (Machine.address c))) (told ∙ ap gives (stand_held c (b.waited.silent ∙ z) (full z))),
      rw b.waited.address (here_at names w i b.claim b.read kept b.started z),
    ))
  where
    kept : Kept names w
    kept = (run_so names acts w differ fit r).kept

    all : Before w i (passes_in i more) c × Kept names v
    all = before_run names fit w v more s kept rest q i c k e

    b : Before w i (passes_in i more) c
    b = all.0

    told : told_standing standing ≡ gives (Machine.stand_of c)
    told = stand_told c (kept_on names v i c k all.1 e).sound standing p

    full : b.claim.silent ≡ false → (c.wait =? held_after) ≡ true
    full z =
        let l : c.wait ≤ held_after = (rules_of c (both_true (keeps_rules c) (holds_list c) (kept_on names v i c k all.1 e).sound).0).short in
        eq-eqb c.wait held_after (omega (arith, l, b.waited.wait z, h))
