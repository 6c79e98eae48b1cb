-- Whoever claimed an address is still there, or a lower NAME claimed it: so at any time somebody is at an address that
-- was ever claimed whose NAME is not above any that claimed it.
-- Assumes nothing.
use mathlib.Core.Path.{◌≡◌, refl, sym, ap, ◌∙◌}
use mathlib.Core.Bool.{Bool, true, false}
use mathlib.Core.List.{List, [], ◌∷◌, ◌++◌}
use mathlib.Core.Logic.{◌⊎◌, inl, inr}
use Prim.Native.Nat.{ℕ, zero, suc, ◌-◌, ◌≤◌, ◌<◌}
use native.Mathlib.Omega.{arith}
use lib.ListN.{length, get_or, set, drop}
use lib.Seq.{get_or-set_same, get_or-set_other}
use Rattle.words.proofs.Words.{by_test}
use Rattle.frame.specs.Identifier.{source_of}
use Rattle.frame.specs.Standard.{greatest_address, no_address}
use Rattle.claim.specs.Claim.{address, claim_source, begun, Outcome, outcome_of, after, is_sent, pause}
use Rattle.claim.specs.Claim as Machine
use Rattle.claim.specs.Promises.{is_sound}
use Rattle.claim.specs.declared.Claim.{Claim}
use Rattle.claim.proofs.Outcomes.{Went, deaf, apart, same, wins, goes, ends, went}
use Rattle.network.specs.Network.{Sent, Node, off, on, Network, node_at, name_of, Fit, fresh, Act, becomes, Ran}
use Rattle.network.specs.Network.{no_act, an_act}
use Rattle.network.proofs.Lists.{equal_or, In, in_left, in_right, in_either, in_head}
use Rattle.network.proofs.Moves.{mine, Known, known_source, mine_source, Kept, kept_on, on_here, off_on, tells, Move}
use Rattle.network.proofs.Moves.{refuses, begins, comes_on, hears, passes, waits, repeats, move_of, source_low}
use Rattle.network.proofs.Moves.{source_silent, source_awake, in_come, kept_move, kept_fresh, sound_heard}
use Rattle.network.proofs.Moves.{paused_stays}

-- a node is at an address
pub record Stood (nodes : List Node) (i a : ℕ) : Type 0 where
  pub claim : Claim
  pub read : ℕ
  pub started : get_or nodes i off ≡ on claim read
  pub awake : claim.silent ≡ false
  pub there : address claim ≡ a

-- a lower NAME claimed it on the bus
pub record Beaten (names : List ℕ) (bus : List Sent) (a n : ℕ) : Type 0 where
  pub rival : Sent
  pub on_bus : In rival bus
  pub at_it : source_of rival.id ≡ a
  pub lower : name_of names rival.by < n

abbrev Explained : List ℕ → List Node → List Sent → Sent → Type 0
Explained names nodes bus x =
    source_of x.id ≤ greatest_address
    → Stood nodes x.by (source_of x.id) ⊎ Beaten names bus (source_of x.id) (name_of names x.by)

abbrev pub AllExplained : List ℕ → Network → Type 0
AllExplained names w = (x : Sent) → In x (w.bus ++ w.waiting) → Explained names w.nodes w.bus x

-- ---- one node becomes another

stood_other : (nodes : List Node) (i : ℕ) (s : Node) (j a : ℕ) → (j ≡ i → ⊥) → Stood nodes j a → Stood (set nodes i s) j a
stood_other nodes i s j a n h =
    record {
      claim = h.claim;
      read = h.read;
      started = get_or-set_other nodes i j s off n ∙ h.started;
      awake = h.awake;
      there = h.there;
    }

stood_here : (nodes : List Node) (i : ℕ) (c : Claim) (k a : ℕ) → i < length nodes → c.silent ≡ false → address c ≡ a
    → Stood (set nodes i (on c k)) i a
stood_here nodes i c k a h s e =
    record { claim = c; read = k; started = get_or-set_same nodes i (on c k) off h; awake = s; there = e }

explained_becomes : (names : List ℕ) (w : Network) (i : ℕ) (s : Node) (out : List Sent) → AllExplained names w
    → ((a : ℕ) → Stood w.nodes i a → Stood (set w.nodes i s) i a ⊎ Beaten names w.bus a (name_of names i))
    → ((x : Sent) → In x out → Explained names (set w.nodes i s) w.bus x)
    → AllExplained names (becomes i s out w)
explained_becomes names w i s out v stay new x h = go (in_either x w.bus (w.waiting ++ out) h)
  where
    moved : Stood w.nodes x.by (source_of x.id) ⊎ Beaten names w.bus (source_of x.id) (name_of names x.by)
        → Stood (set w.nodes i s) x.by (source_of x.id) ⊎ Beaten names w.bus (source_of x.id) (name_of names x.by)
    moved (inl z) =
        equal_or x.by i
        (λ e. rw e (stay (source_of x.id) (rw e at z)))
        (λ n. inl (stood_other w.nodes i s x.by (source_of x.id) n z))
    moved (inr z) = inr z

    old : In x (w.bus ++ w.waiting) → Explained names (set w.nodes i s) w.bus x
    old z l = moved (v x z l)

    later : In x w.waiting ⊎ In x out → Explained names (set w.nodes i s) w.bus x
    later (inl z) = old (in_right x w.bus w.waiting z)
    later (inr z) = new x z

    go : In x w.bus ⊎ In x (w.waiting ++ out) → Explained names (set w.nodes i s) w.bus x
    go (inl z) = old (in_left x w.bus w.waiting z)
    go (inr z) = later (in_either x w.waiting out z)

-- what a node tells is where it is
explained_told : (names : List ℕ) (nodes : List Node) (bus : List Sent) (i : ℕ) (b : Bool) (c : Claim) (k : ℕ)
    → i < length nodes → i < length names → is_sound c ≡ true → (x : Sent) → In x (tells names i b c)
    → Explained names (set nodes i (on c k)) bus x
explained_told names nodes bus i false c k h n s x z = absurd z
explained_told names nodes bus i true c k h n s x (inr z) = absurd z
explained_told names nodes bus i true c k h n s x (inl e) = λ l.
    let q : source_of (mine names i (claim_source c)).id ≡ claim_source c = mine_source names i (claim_source c) (source_low c s).0 in
    by_test c.silent
    (λ z.
    let y : source_of x.id ≡ no_address = ap (λ (t : Sent). source_of t.id) e ∙ q ∙ source_silent c z in
    absurd (omega (arith, y, l)))
    (λ z.
    let y : source_of x.id ≡ address c = ap (λ (t : Sent). source_of t.id) e ∙ q ∙ source_awake c z in
    inl (rw (ap (λ (t : Sent). t.by) e, y) (stood_here nodes i c k (address c) h z refl)))

on_same : (c d : Claim) (k m : ℕ) → on c k ≡ on d m → c ≡ d
on_same c d k m e = cc

stood_is : (w : Network) (i : ℕ) (c : Claim) (k a : ℕ) → node_at w i ≡ on c k → Stood w.nodes i a
    → (c.silent ≡ false) × (address c ≡ a)
stood_is w i c k a e h =
    let q : h.claim ≡ c = on_same h.claim c h.read k (sym h.started ∙ e) in
    (rw (← q) h.awake, rw (← q) h.there)

-- ---- a claim that is heard

module _ (names : List ℕ) (w : Network) (v : Kept names w) (i : ℕ) (c : Claim) (k : ℕ) (x : Sent) (rest : List Sent)
    (y : Known names x) (e : node_at w i ≡ on c k) (d : drop k w.bus ≡ x ∷ rest) where
  abbrev Stays : Claim → Type 0
  Stays b = (a : ℕ) → Stood w.nodes i a → Stood (set w.nodes i (on b (suc k))) i a ⊎ Beaten names w.bus a (name_of names i)

  stays_put : Stays c
  stays_put a h =
      let q = stood_is w i c k a e h in
      inl (stood_here w.nodes i c (suc k) a (on_here names w i c k v e).0 q.0 q.1)

  beaten : (b : Claim) → y.source ≡ address c → name_of names x.by < c.name → Stays b
  beaten b f l a h =
      let q = stood_is w i c k a e h in
      inr (record {
        rival = x;
        on_bus = in_head k w.bus x rest d;
        at_it = known_source names x y ∙ f ∙ q.1;
        lower = omega (arith, l, (kept_on names w i c k v e).name);
      })

  stays_heard : (o : Outcome) → Went y.source (name_of names x.by) c o → Stays (after o c)
  unfolding after
  stays_heard o (deaf s) = stays_put
  stays_heard o (apart s a) = stays_put
  stays_heard o (same s a q) = stays_put
  stays_heard o (wins s a q) = stays_put
  stays_heard o (goes s a q h) = beaten (Machine.at_next c) a q
  stays_heard o (ends s a q h) = beaten (Machine.fallen c) a q

module _ (names : List ℕ) (w : Network) (v : Kept names w) (u : AllExplained names w) where
  beaten_more : (x : Sent) (a n : ℕ) → Beaten names w.bus a n → Beaten names (w.bus ++ (x ∷ [])) a n
  beaten_more x a n h =
      record { rival = h.rival; on_bus = in_left h.rival w.bus (x ∷ []) h.on_bus; at_it = h.at_it; lower = h.lower }

  explained_more : (x y : Sent) → Explained names w.nodes w.bus y → Explained names w.nodes (w.bus ++ (x ∷ [])) y
  explained_more x y f l = go (f l)
    where
      go : Stood w.nodes y.by (source_of y.id) ⊎ Beaten names w.bus (source_of y.id) (name_of names y.by)
          → Stood w.nodes y.by (source_of y.id) ⊎ Beaten names (w.bus ++ (x ∷ [])) (source_of y.id) (name_of names y.by)
      go (inl h) = inl h
      go (inr h) = inr (beaten_more x (source_of y.id) (name_of names y.by) h)

  -- a node that is where it was
  as_before : (i : ℕ) (c b : Claim) (k n : ℕ) → node_at w i ≡ on c k → b.silent ≡ c.silent → address b ≡ address c
      → (a : ℕ) → Stood w.nodes i a → Stood (set w.nodes i (on b n)) i a ⊎ Beaten names w.bus a (name_of names i)
  as_before i c b k n e s f a h =
      let q = stood_is w i c k a e h in
      inl (stood_here w.nodes i b n a (on_here names w i c k v e).0 (s ∙ q.0) (f ∙ q.1))

  none_told : (nodes : List Node) (x : Sent) → In x [] → Explained names nodes w.bus x
  none_told nodes x h = absurd h

  pub explained_move : (act : Act) (t : Network) → Move names w act t → AllExplained names t
  explained_move act t (refuses i list older) = u
  explained_move act t (begins i list older h e f g) =
      let c = begun (name_of names i) list in
      let k = length w.bus - older in
      explained_becomes names w i (on c k) (tells names i true c) u
      (λ a z. absurd (off_on z.claim z.read (sym z.started ∙ e)))
      (explained_told names w.nodes w.bus i true c k h (omega (arith, h, v.many)) g)
  explained_move act t (comes_on n x rest d) = λ y h.
      explained_more x y (u y (in_come names w n x rest d y h))
  explained_move act t (hears i c k x rest y e d n) =
      let o = outcome_of y.source (name_of names x.by) c in
      let l = on_here names w i c k v e in
      explained_becomes names w i (on (after o c) (suc k)) (tells names i (is_sent o) (after o c)) u
      (stays_heard names w v i c k x rest y e d o (went y.source (name_of names x.by) c))
      (explained_told names w.nodes w.bus i (is_sent o) (after o c) (suc k) l.0 l.1
      (sound_heard y.source (name_of names x.by) c (kept_on names w i c k v e).sound))
  explained_move act t (passes i c k x rest e d b) =
      explained_becomes names w i (on c (suc k)) [] u (as_before i c c k (suc k) e refl refl) (none_told _)
  explained_move act t (waits i ms c k e) =
      let p = paused_stays ms c in
      explained_becomes names w i (on (pause ms c) k) [] u (as_before i c (pause ms c) k k e p.0 p.1) (none_told _)
  explained_move act t (repeats i c k e) =
      let l = on_here names w i c k v e in
      explained_becomes names w i (on c k) (tells names i true c) u (as_before i c c k k e refl refl)
      (explained_told names w.nodes w.bus i true c k l.0 l.1 (kept_on names w i c k v e).sound)

explained_ran : (names : List ℕ) → Fit names → (w end : Network) (acts : List Act) → Ran names w acts end → Kept names w
    → AllExplained names w → AllExplained names end
explained_ran names fit w end acts (no_act w') v u = u
explained_ran names fit w end acts (an_act w' t e act more s r) v u =
    let m = move_of names fit w v act t s in
    explained_ran names fit t end more r (kept_move names w v act t m) (explained_move names w v u act t m)

pub explained_run : (names : List ℕ) (acts : List Act) (w : Network) → Fit names → Ran names (fresh names) acts w
    → AllExplained names w
explained_run names acts w fit r = explained_ran names fit (fresh names) w acts r (kept_fresh names) (λ x h. absurd h)

-- ---- somebody is there

pub record Lowest (names : List ℕ) (nodes : List Node) (a n : ℕ) : Type 0 where
  pub who : ℕ
  pub stood : Stood nodes who a
  pub lower : name_of names who ≤ n

lift : (names : List ℕ) (nodes : List Node) (a m n : ℕ) → m < n → Lowest names nodes a m → Lowest names nodes a n
lift names nodes a m n q z = record { who = z.who; stood = z.stood; lower = omega (arith, q, z.lower) }

pub lowest : (names : List ℕ) (w : Network) → AllExplained names w → (fuel : ℕ) (x : Sent) → In x (w.bus ++ w.waiting)
    → source_of x.id ≤ greatest_address → name_of names x.by ≤ fuel
    → Lowest names w.nodes (source_of x.id) (name_of names x.by)
lowest names w u zero x h l b = go (u x h l)
  where
    go : Stood w.nodes x.by (source_of x.id) ⊎ Beaten names w.bus (source_of x.id) (name_of names x.by)
        → Lowest names w.nodes (source_of x.id) (name_of names x.by)
    go (inl z) = record { who = x.by; stood = z; lower = omega arith }
    go (inr z) = absurd (omega (arith, b, z.lower))
lowest names w u (suc f) x h l b = go (λ y m n k. lowest names w u f y m n k) (u x h l)
  where
    go : ((y : Sent) → In y (w.bus ++ w.waiting) → source_of y.id ≤ greatest_address → name_of names y.by ≤ f
        → Lowest names w.nodes (source_of y.id) (name_of names y.by))
        → Stood w.nodes x.by (source_of x.id) ⊎ Beaten names w.bus (source_of x.id) (name_of names x.by)
        → Lowest names w.nodes (source_of x.id) (name_of names x.by)
    go again (inl z) = record { who = x.by; stood = z; lower = omega arith }
    go again (inr z) =
        lift names w.nodes (source_of x.id) (name_of names z.rival.by) (name_of names x.by) z.lower
        (rw z.at_it at
        (again z.rival (in_left z.rival w.bus w.waiting z.on_bus) (rw z.at_it l) (omega (arith, b, z.lower))))
