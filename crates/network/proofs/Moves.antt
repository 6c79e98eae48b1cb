-- What a step does, told by the machine of `claim` (crates/claim/specs/Claim.antt) in place of the promises: every frame
-- on its way is a claim of the node that sent it, and no node ever refuses one.
-- Assumes nothing.
use mathlib.Core.Path.{◌≡◌, refl, sym, ap, ◌∙◌}
use mathlib.Core.Bool.{Bool, true, false}
use mathlib.Core.List.{List, [], ◌∷◌, ◌++◌, map}
use mathlib.Core.Logic.{◌⊎◌, inl, inr}
use Prim.Native.Nat.{ℕ, zero, suc, ◌-◌, ◌≤◌, ◌<◌}
use native.Mathlib.Omega.{arith}
use lib.ListN.{length, get_or, set, take, drop, length-set, length-map, length-append}
use lib.Seq.{get_or-set_same, get_or-set_other}
use Rattle.words.specs.Words.{Told, refused, gives, Done, done}
use Rattle.words.proofs.Words.{by_test, both_true}
use Rattle.frame.specs.Bytes.{bytes_of}
use Rattle.frame.specs.Frame.{frame_bytes}
use Rattle.frame.specs.Identifier.{identifier_of, source_of}
use Rattle.frame.specs.Standard.{claim_dgn, no_address, greatest_address}
use Rattle.claim.specs.Candidates.{is_well_formed}
use Rattle.claim.specs.Claim.{claim_priority, keeps_rules, holds_list, address, claim_source, claim_id, claim_bytes, begun}
use Rattle.claim.specs.Claim.{Outcome, outcome_of, after, is_sent, pause}
use Rattle.claim.specs.Promises.{Start, Hear, Pause, OurClaim, told_starting, told_hearing, told_sending, started_of}
use Rattle.claim.specs.Promises.{heard_of, after_told, is_sent_told, is_sound}
use Rattle.claim.specs.declared.Claim.{Claim}
use Rattle.claim.specs.declared.Started.{Started}
use Rattle.claim.specs.declared.Heard.{Heard}
use Rattle.claim.specs.declared.Paused.{Paused}
use Rattle.claim.specs.declared.ClaimFrame.{ClaimFrame}
use Rattle.claim.proofs.Sound.{rules_of, holds_of, address_low, pause_silent, pause_awake}
use Rattle.claim.proofs.Calls.{sound_well}
use Rattle.claim.proofs.Outcomes.{rules_heard, rules_paused}
use Rattle.claim.proofs.Machine.{node_after, node_paused, sound_same}
use Rattle.claim.proofs.Laws.{frame_is_heard, start_sound, start_sends_ours}
use Rattle.network.specs.Network.{Sent, Node, off, on, Network, node_at, name_of, Fit, fresh, Act, starts, comes}
use Rattle.network.specs.Network.{reads, pauses, asked, becomes, sent_if, started_by, is_ours, Step, start, come, hear}
use Rattle.network.specs.Network as The
use Rattle.network.proofs.Lists.{equal_or, In, in_left, in_right, in_either, in_head, in_back, on_inside}
use Rattle.network.proofs.Lists.{drop_next}

-- ---- a claim of a node from an address

abbrev pub mine : List ℕ → ℕ → ℕ → Sent
mine names i a =
    record { by = i; id = identifier_of claim_priority claim_dgn a; bytes = bytes_of frame_bytes (name_of names i) }

-- it stands so on its way
pub record Known (names : List ℕ) (x : Sent) : Type 0 where
  pub source : ℕ
  pub low : source ≤ no_address
  pub one_of_us : x.by < length names
  pub is : x ≡ mine names x.by source

source_of_lem : (a : ℕ) → a ≤ no_address → source_of (identifier_of claim_priority claim_dgn a) ≡ a
unfolding source_of identifier_of
source_of_lem a h = omega arith

pub mine_source : (names : List ℕ) (i a : ℕ) → a ≤ no_address → source_of (mine names i a).id ≡ a
mine_source names i a h = source_of_lem a h

pub known_source : (names : List ℕ) (x : Sent) (k : Known names x) → source_of x.id ≡ k.source
known_source names x k = ap (λ (s : Sent). source_of s.id) k.is ∙ source_of_lem k.source k.low

pub known_mine : (names : List ℕ) (i a : ℕ) → a ≤ no_address → i < length names → Known names (mine names i a)
known_mine names i a h l = record { source = a; low = h; one_of_us = l; is = refl }

-- ---- what is true of every node and every claim

pub record Node-keeps (names : List ℕ) (bus : List Sent) (i : ℕ) (c : Claim) (k : ℕ) : Type 0 where
  pub sound : is_sound c ≡ true
  pub name : c.name ≡ name_of names i
  pub within : k ≤ length bus

abbrev pub Keeps : List ℕ → List Sent → ℕ → Node → Type 0
Keeps names bus i off = Unit
Keeps names bus i (on c k) = Node-keeps names bus i c k

pub record Kept (names : List ℕ) (w : Network) : Type 0 where
  pub many : length w.nodes ≡ length names
  pub keeps : (i : ℕ) → Keeps names w.bus i (node_at w i)
  pub known : (x : Sent) → In x (w.bus ++ w.waiting) → Known names x

pub kept_on : (names : List ℕ) (w : Network) (i : ℕ) (c : Claim) (k : ℕ) → Kept names w → node_at w i ≡ on c k
    → Node-keeps names w.bus i c k
kept_on names w i c k v e = rw e at (v.keeps i)

pub off_on : (c : Claim) (k : ℕ) → on c k ≡ off → ⊥
off_on c k e = let z : ◌≡◌ {A = ℕ} 0 1 = cc in absurd (omega arith)

pub on_here : (names : List ℕ) (w : Network) (i : ℕ) (c : Claim) (k : ℕ) → Kept names w → node_at w i ≡ on c k
    → (i < length w.nodes) × (i < length names)
on_here names w i c k v e =
    let h = on_inside w.nodes i (on c k) e (off_on c k) in
    (h, omega (arith, h, v.many))

-- a pause leaves a node where it is
pub paused_stays : (ms : ℕ) (c : Claim) → ((pause ms c).silent ≡ c.silent) × (address (pause ms c) ≡ address c)
paused_stays ms c =
    by_test c.silent
    (λ s. rw (pause_silent ms c s) (refl, refl))
    (λ s. rw (pause_awake ms c s) (refl, refl))

-- ---- the steps

-- what a node tells with an outcome
abbrev pub tells : List ℕ → ℕ → Bool → Claim → List Sent
tells names i true c = mine names i (claim_source c) ∷ []
tells names i false c = []

pub data Move (names : List ℕ) (w : Network) : Act → Network → Type 0 where
  refuses : (i : ℕ) (list : List ℕ) (older : ℕ) → Move names w (starts i list older) w
  begins : (i : ℕ) (list : List ℕ) (older : ℕ) → i < length w.nodes → node_at w i ≡ off → is_well_formed list ≡ true
      → is_sound (begun (name_of names i) list) ≡ true
      → Move names w (starts i list older)
      (becomes i (on (begun (name_of names i) list) (length w.bus - older)) (tells names i true (begun (name_of names i) list)) w)
  comes_on : (n : ℕ) (x : Sent) (rest : List Sent) → drop n w.waiting ≡ x ∷ rest
      → Move names w (comes n)
      (record { nodes = w.nodes; waiting = take n w.waiting ++ rest; bus = w.bus ++ (x ∷ []) })
  hears : (i : ℕ) (c : Claim) (k : ℕ) (x : Sent) (rest : List Sent) (y : Known names x)
      → node_at w i ≡ on c k → drop k w.bus ≡ x ∷ rest → (x.by ≡ i → ⊥)
      → Move names w (reads i)
      (becomes i (on (after (outcome_of y.source (name_of names x.by) c) c) (suc k))
      (tells names i (is_sent (outcome_of y.source (name_of names x.by) c)) (after (outcome_of y.source (name_of names x.by) c) c)) w)
  passes : (i : ℕ) (c : Claim) (k : ℕ) (x : Sent) (rest : List Sent)
      → node_at w i ≡ on c k → drop k w.bus ≡ x ∷ rest → x.by ≡ i
      → Move names w (reads i) (becomes i (on c (suc k)) [] w)
  waits : (i ms : ℕ) (c : Claim) (k : ℕ) → node_at w i ≡ on c k
      → Move names w (pauses i ms) (becomes i (on (pause ms c) k) [] w)
  repeats : (i : ℕ) (c : Claim) (k : ℕ) → node_at w i ≡ on c k
      → Move names w (asked i) (becomes i (on c k) (tells names i true c) w)

-- the frame of a claim is the node's own

ours_told : (names : List ℕ) (i : ℕ) (b : Bool) (c : Claim) (id : ℕ) (bytes : List ℕ) → c.name ≡ name_of names i
    → (b ≡ true → (id ≡ claim_id c) × (bytes ≡ claim_bytes c)) → sent_if b i id bytes ≡ tells names i b c
unfolding claim_id claim_bytes
ours_told names i true c id bytes n f = let e = f refl in rw (e.0, e.1, n)
ours_told names i false c id bytes n f = refl

-- the low source of a sound claim
pub source_low : (c : Claim) → is_sound c ≡ true → (claim_source c ≤ no_address) × (address c ≤ greatest_address)
unfolding claim_source
source_low c s =
    let b = both_true (keeps_rules c) (holds_list c) s in
    let l = address_low c (rules_of c b.0) (holds_of c b.1) in
    by_test c.silent
    (λ z. (rw z (omega arith), l))
    (λ z. (rw z (omega arith), l))

pub source_silent : (c : Claim) → c.silent ≡ true → claim_source c ≡ no_address
unfolding claim_source
source_silent c s = rw s

pub source_awake : (c : Claim) → c.silent ≡ false → claim_source c ≡ address c
unfolding claim_source
source_awake c s = rw s

-- ---- what the calls of a node do

-- a claim of the network is heard as the claim that it is
pub heard_known : (names : List ℕ) → Fit names → (c : Claim) (x : Sent) (y : Known names x) → is_sound c ≡ true
    → heard_of x.id x.bytes c ≡ gives (outcome_of y.source (name_of names x.by) c)
heard_known names fit c x y sound =
    ap (λ (s : Sent). heard_of s.id s.bytes c) y.is
    ∙ frame_is_heard y.source (name_of names x.by) c y.low (fit x.by y.one_of_us) sound

-- a claim that is heard
module _ (names : List ℕ) (fit : Fit names) (i : ℕ) (c : Claim) (x : Sent) (y : Known names x) (r : Heard)
    (sound : is_sound c ≡ true) (name : c.name ≡ name_of names i) (p : Hear x.id x.bytes c r) where
  abbrev o : Outcome
  o = outcome_of y.source (name_of names x.by) c

  heard : heard_of x.id x.bytes c ≡ gives o
  heard = heard_known names fit c x y sound

  frame : is_sent o ≡ true → (r.id ≡ claim_id (after o c)) × (r.bytes ≡ claim_bytes (after o c))
  frame s = (p.sent_id ∙ rw heard (rw s refl), p.sent_bytes ∙ rw heard (rw s refl))

  pub heard_told : (r.claim ≡ after o c)
      × (sent_if (is_sent_told (told_hearing r.answer)) i r.id r.bytes ≡ tells names i (is_sent o) (after o c))
  heard_told = (
    p.state ∙ ap (λ (t : Told Outcome). after_told t c) heard,
    ap (λ (b : Bool). sent_if b i r.id r.bytes) (ap is_sent_told (p.answer ∙ heard))
        ∙ ours_told names i (is_sent o) (after o c) r.id r.bytes ((node_after o c).name ∙ name) frame,
  )

-- a node that starts, or does not
module _ (names : List ℕ) (i : ℕ) (list : List ℕ) (r : Started) (p : Start (name_of names i) list r) where
  abbrev first : Claim
  first = begun (name_of names i) list

  pub record Begun : Type 0 where
    pub told : told_starting r.answer ≡ gives done
    pub state : r.claim ≡ first
    pub sent : sent_if true i r.id r.bytes ≡ tells names i true first
    pub sound : is_sound first ≡ true

  pub begun_told : is_well_formed list ≡ true → Begun
  unfolding started_of
  begun_told f =
      let t : told_starting r.answer ≡ gives done = p.answer ∙ rw f refl in
      let s : r.claim ≡ first = p.state ∙ rw f refl in
      let q = (start_sends_ours (name_of names i) list r p t).0 in
      record {
        told = t;
        state = s;
        sent = ours_told names i true first r.id r.bytes refl (λ u. (q.0 ∙ ap claim_id s, q.1 ∙ ap claim_bytes s));
        sound = ap is_sound (sym s) ∙ start_sound (name_of names i) list r p t;
      }

  pub refused_told : is_well_formed list ≡ false → told_starting r.answer ≡ refused 16
  unfolding started_of
  refused_told f = p.answer ∙ rw f refl

-- a node that is asked for its claim
pub asked_told : (names : List ℕ) (i : ℕ) (c : Claim) (r : ClaimFrame) → is_sound c ≡ true → c.name ≡ name_of names i → OurClaim c r
    → sent_if (is_ours (told_sending r.answer)) i r.id r.bytes ≡ tells names i true c
asked_told names i c r sound name p =
    let b = both_true (keeps_rules c) (holds_list c) sound in
    let t : told_sending r.answer ≡ gives done = p.answer ∙ (sound_well c b.0 b.1).0 in
    ap (λ (q : Told Done). sent_if (is_ours q) i r.id r.bytes) t
    ∙ ours_told names i true c r.id r.bytes name (λ u. (p.sent_id ∙ rw sound refl, p.sent_bytes ∙ rw sound refl))

-- and one for which time passes
pub paused_told : (ms : ℕ) (c : Claim) (r : Paused) → is_sound c ≡ true → Pause ms c r → r.claim ≡ pause ms c
paused_told ms c r sound p = p.state ∙ rw sound refl

-- ---- so every step is a move

module _ (names : List ℕ) (fit : Fit names) (w : Network) (v : Kept names w) where
  started : (i : ℕ) (list : List ℕ) (older : ℕ) (r : Started) → i < length w.nodes → node_at w i ≡ off
      → Start (name_of names i) list r
      → Move names w (starts i list older) (started_by (told_starting r.answer) i older r w)
  started i list older r h e p =
      by_test (is_well_formed list)
      (λ f.
      let b = begun_told names i list r p f in
      rw b.told (rw (b.state, b.sent) (begins i list older h e f b.sound)))
      (λ f. rw (refused_told names i list r p f) (refuses i list older))

  pub move_of : (act : Act) (u : Network) → Step names w act u → Move names w act u
  move_of act u (start w' i list older r h e p) = started i list older r h e p
  move_of act u (come w' n x rest d) = comes_on n x rest d
  move_of act u (hear w' i c k x rest r e d n p) =
      let y = v.known x (in_left x w.bus w.waiting (in_head k w.bus x rest d)) in
      let g = kept_on names w i c k v e in
      let t = heard_told names fit i c x y r g.sound g.name p in
      rw (t.0, t.1) (hears i c k x rest y e d n)
  move_of act u (The.pass w' i c k x rest e d n) = passes i c k x rest e d n
  move_of act u (The.pause w' i ms c k r e p) =
      rw (paused_told ms c r (kept_on names w i c k v e).sound p) (waits i ms c k e)
  move_of act u (The.ask w' i c k r e p) =
      let g = kept_on names w i c k v e in
      rw (asked_told names i c r g.sound g.name p) (repeats i c k e)

-- ---- and what it keeps

-- one node becomes another: the others stay
pub others : (nodes : List Node) (i : ℕ) (s : Node) (P : ℕ → Node → Type 0) → i < length nodes → P i s
    → ((j : ℕ) → P j (get_or nodes j off)) → (j : ℕ) → P j (get_or (set nodes i s) j off)
others nodes i s P inside here there j =
    equal_or j i
    (λ e. rw (e, get_or-set_same nodes i s off inside) here)
    (λ n. rw (get_or-set_other nodes i j s off n) (there j))

pub known_more : (names : List ℕ) (w : Network) (out : List Sent) → Kept names w
    → ((x : Sent) → In x out → Known names x) → (x : Sent) → In x (w.bus ++ (w.waiting ++ out)) → Known names x
known_more names w out v f x h = go (in_either x w.bus (w.waiting ++ out) h)
  where
    later : In x w.waiting ⊎ In x out → Known names x
    later (inl a) = v.known x (in_right x w.bus w.waiting a)
    later (inr a) = f x a

    go : In x w.bus ⊎ In x (w.waiting ++ out) → Known names x
    go (inl a) = v.known x (in_left x w.bus w.waiting a)
    go (inr a) = later (in_either x w.waiting out a)

kept_becomes : (names : List ℕ) (w : Network) (i : ℕ) (c : Claim) (k : ℕ) (out : List Sent) → Kept names w
    → i < length w.nodes → Node-keeps names w.bus i c k → ((x : Sent) → In x out → Known names x)
    → Kept names (becomes i (on c k) out w)
kept_becomes names w i c k out v h g f =
    record {
      many = length-set w.nodes i (on c k) ∙ v.many;
      keeps = others w.nodes i (on c k) (Keeps names w.bus) h g v.keeps;
      known = known_more names w out v f;
    }

pub known_told : (names : List ℕ) (i : ℕ) (b : Bool) (c : Claim) → is_sound c ≡ true → i < length names
    → (x : Sent) → In x (tells names i b c) → Known names x
known_told names i true c s l x (inl e) = rw e (known_mine names i (claim_source c) (source_low c s).0 l)
known_told names i true c s l x (inr h) = absurd h
known_told names i false c s l x h = absurd h

known_none : (names : List ℕ) (x : Sent) → In x [] → Known names x
known_none names x h = absurd h

pub sound_heard : (source name : ℕ) (c : Claim) → is_sound c ≡ true → is_sound (after (outcome_of source name c) c) ≡ true
sound_heard source name c s =
    let k = rules_of c (both_true (keeps_rules c) (holds_list c) s).0 in
    sound_same c (after (outcome_of source name c) c) s (rules_heard source name c k) (node_after (outcome_of source name c) c)

pub sound_paused : (ms : ℕ) (c : Claim) → is_sound c ≡ true → is_sound (pause ms c) ≡ true
sound_paused ms c s =
    let k = rules_of c (both_true (keeps_rules c) (holds_list c) s).0 in
    sound_same c (pause ms c) s (rules_paused ms c k) (node_paused ms c)

keeps_longer : (names : List ℕ) (bus : List Sent) (x : Sent) (i : ℕ) (s : Node) → Keeps names bus i s
    → Keeps names (bus ++ (x ∷ [])) i s
keeps_longer names bus x i off g = tt
keeps_longer names bus x i (on c k) g =
    record { sound = g.sound; name = g.name; within = omega (arith, g.within, length-append bus (x ∷ [])) }

-- a claim that comes on the bus was on its way
pub in_come : (names : List ℕ) (w : Network) (n : ℕ) (x : Sent) (rest : List Sent) → drop n w.waiting ≡ x ∷ rest
    → (y : Sent) → In y ((w.bus ++ (x ∷ [])) ++ (take n w.waiting ++ rest)) → In y (w.bus ++ w.waiting)
in_come names w n x rest d y h = go (in_either y (w.bus ++ (x ∷ [])) (take n w.waiting ++ rest) h)
  where
    first : In y w.bus ⊎ In y (x ∷ []) → In y (w.bus ++ w.waiting)
    first (inl a) = in_left y w.bus w.waiting a
    first (inr (inl e)) = in_right y w.bus w.waiting (rw e (in_head n w.waiting x rest d))
    first (inr (inr a)) = absurd a

    go : In y (w.bus ++ (x ∷ [])) ⊎ In y (take n w.waiting ++ rest) → In y (w.bus ++ w.waiting)
    go (inl a) = first (in_either y w.bus (x ∷ []) a)
    go (inr a) = in_right y w.bus w.waiting (in_back y n w.waiting x rest d a)

module _ (names : List ℕ) (w : Network) (v : Kept names w) where
  pub kept_move : (act : Act) (u : Network) → Move names w act u → Kept names u
  kept_move act u (refuses i list older) = v
  kept_move act u (begins i list older h e f g) =
      let c = begun (name_of names i) list in
      kept_becomes names w i c (length w.bus - older) (tells names i true c) v h
      (record { sound = g; name = refl; within = omega arith })
      (known_told names i true c g (omega (arith, h, v.many)))
  kept_move act u (comes_on n x rest d) =
      record {
        many = v.many;
        keeps = λ i. keeps_longer names w.bus x i (node_at w i) (v.keeps i);
        known = λ y h. v.known y (in_come names w n x rest d y h);
      }
  kept_move act u (hears i c k x rest y e d n) =
      let o = outcome_of y.source (name_of names x.by) c in
      let g = kept_on names w i c k v e in
      let s = sound_heard y.source (name_of names x.by) c g.sound in
      let l = on_here names w i c k v e in
      kept_becomes names w i (after o c) (suc k) (tells names i (is_sent o) (after o c)) v l.0
      (record { sound = s; name = (node_after o c).name ∙ g.name; within = (drop_next k w.bus x rest d).2 })
      (known_told names i (is_sent o) (after o c) s l.1)
  kept_move act u (passes i c k x rest e d n) =
      let g = kept_on names w i c k v e in
      kept_becomes names w i c (suc k) [] v (on_here names w i c k v e).0
      (record { sound = g.sound; name = g.name; within = (drop_next k w.bus x rest d).2 })
      (known_none names)
  kept_move act u (waits i ms c k e) =
      let g = kept_on names w i c k v e in
      kept_becomes names w i (pause ms c) k [] v (on_here names w i c k v e).0
      (record { sound = sound_paused ms c g.sound; name = (node_paused ms c).name ∙ g.name; within = g.within })
      (known_none names)
  kept_move act u (repeats i c k e) =
      let g = kept_on names w i c k v e in
      let l = on_here names w i c k v e in
      kept_becomes names w i c k (tells names i true c) v l.0 g (known_told names i true c g.sound l.1)

-- at first

pub all_off : (names : List ℕ) (i : ℕ) → get_or (map (λ n. off) names) i off ≡ off
all_off [] i = refl
all_off (n ∷ names) zero = refl
all_off (n ∷ names) (suc i) = all_off names i

pub kept_fresh : (names : List ℕ) → Kept names (fresh names)
kept_fresh names =
    record {
      many = length-map names (λ n. off);
      keeps = λ i. rw (all_off names i) tt;
      known = λ x h. absurd h;
    }
