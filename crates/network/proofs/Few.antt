-- The network comes to rest: what all claims on their way, and all addresses that nodes can still go on to, may cost
-- falls with every claim that is sent.
-- Assumes nothing.
use Rattle.std.specs.Prelude.{if◌then◌else◌}
use mathlib.Core.Path.{◌≡◌, refl, sym, ap, ◌∙◌}
use mathlib.Core.Bool.{Bool, true, false}
use mathlib.Core.List.{List, [], ◌∷◌, ◌++◌, map}
use Prim.Native.Nat.{ℕ, zero, suc, ◌+◌, ◌-◌, ◌*◌, ◌^◌, ◌≤◌, ◌<◌}
use native.Mathlib.Nat.{mul-suc, mul-add, mul-le-mul_left, mul_comm}
use native.Mathlib.Omega.{arith}
use borrow.Author.Tests.{lt-ltb}
use lib.ListN.{length, get_or, set, take, drop, length-append}
use lib.Seq.{drop-append-le}
use Rattle.words.specs.Words.{◌<?◌}
use Rattle.words.proofs.Words.{by_test, both_true}
use Rattle.frame.specs.Frame.{frame_bytes}
use Rattle.claim.specs.Claim.{begun, Outcome, outcome_of, after, is_sent, pause}
use Rattle.claim.specs.Claim as Machine
use Rattle.claim.specs.declared.Claim.{Claim}
use Rattle.claim.proofs.Candidates.{well_formed}
use Rattle.claim.proofs.Sound.{rules_of, pause_silent, pause_awake}
use Rattle.claim.proofs.Outcomes.{Went, deaf, apart, same, wins, goes, ends, went}
use Rattle.network.specs.Network.{Sent, Node, off, on, Network, node_at, name_of, Differ, Fit, fresh, Act}
use Rattle.network.specs.Network.{becomes, Ran, no_act, an_act}
use Rattle.network.specs.Laws.{asks, asks_in, most_claims, FewClaims, deliveries, deliveries_in, FewDeliveries}
use Rattle.network.proofs.Lists.{drop_next}
use Rattle.network.proofs.Moves.{Keeps, Kept, kept_on, on_here, tells, Move, refuses, begins, comes_on, hears}
use Rattle.network.proofs.Moves.{passes, waits, repeats, move_of, kept_move, kept_fresh}
use Rattle.network.proofs.Cost.{cost, lower, total, lower_less, total_less, cost_most}

-- ---- what a node may still send

-- the claims of higher NAMEs that it has still to read, each of which it may answer
abbrev unread : List ℕ → ℕ → List Sent → ℕ
unread names n [] = 0
unread names n (x ∷ l) = (if n <? name_of names x.by then cost names n else 0) + unread names n l

-- the addresses that it can lose: the one that it has, and those after it
unfoldable left : Claim → ℕ
left c = if c.silent then 0 else c.candidates - c.position

abbrev weight : List ℕ → List Sent → ℕ → Node → ℕ
weight names bus n off = cost names n * 17 + unread names n bus
weight names bus n (on c k) = cost names n * left c + unread names n (drop k bus)

abbrev weights : List ℕ → List Sent → List ℕ → List Node → ℕ
weights names bus [] ss = 0
weights names bus (n ∷ ns) [] = 0
weights names bus (n ∷ ns) (s ∷ ss) = weight names bus n s + weights names bus ns ss

-- the answers to the claims that wait
abbrev heft : List ℕ → List Sent → ℕ
heft names [] = 0
heft names (x ∷ l) = lower names names (name_of names x.by) + heft names l

-- the claims that were sent, and all that may come of them
abbrev all : List ℕ → Network → ℕ
all names w = length w.bus + length w.waiting + (heft names w.waiting + weights names w.bus names w.nodes)

heft_append : (names : List ℕ) (l r : List Sent) → heft names (l ++ r) ≡ heft names l + heft names r
heft_append names [] r = omega arith
heft_append names (x ∷ l) r = omega (arith, heft_append names l r)

unread_drop : (names : List ℕ) (n k : ℕ) (l : List Sent) → unread names n (drop k l) ≤ unread names n l
unread_drop names n zero l = omega arith
unread_drop names n (suc k) [] = omega arith
unread_drop names n (suc k) (x ∷ l) = omega (arith, unread_drop names n k l)

unread_append : (names : List ℕ) (n : ℕ) (l r : List Sent) → unread names n (l ++ r) ≡ unread names n l + unread names n r
unread_append names n [] r = omega arith
unread_append names n (x ∷ l) r = omega (arith, unread_append names n l r)

-- one node becomes another
weights_set : (names : List ℕ) (bus : List Sent) (ns : List ℕ) (ss : List Node) (i : ℕ) (s : Node) → length ss ≡ length ns
    → i < length ss → weights names bus ns (set ss i s) + weight names bus (get_or ns i 0) (get_or ss i off)
    ≡ weights names bus ns ss + weight names bus (get_or ns i 0) s
weights_set names bus [] [] i s e h = absurd (omega arith)
weights_set names bus [] (t ∷ ss) i s e h = absurd (omega arith)
weights_set names bus (n ∷ ns) [] i s e h = absurd (omega arith)
weights_set names bus (n ∷ ns) (t ∷ ss) zero s e h = omega arith
weights_set names bus (n ∷ ns) (t ∷ ss) (suc i) s e h = omega (arith, weights_set names bus ns ss i s (omega arith) (omega arith))

-- what a node sends costs no more than what it gives up for it
cheaper : (names : List ℕ) (w : Network) (i : ℕ) (t s : Node) (out : List Sent) → Kept names w → i < length w.nodes
    → node_at w i ≡ t
    → length out + heft names out + weight names w.bus (name_of names i) s ≤ weight names w.bus (name_of names i) t
    → all names (becomes i s out w) ≤ all names w
cheaper names w i t s out v h e g =
    let a = rw e at (weights_set names w.bus names w.nodes i s v.many h) in
    omega (arith, a, g, heft_append names w.waiting out, length-append w.waiting out)

-- a claim that a node sends
tells_cost : (names : List ℕ) → Differ names → (i : ℕ) (b : Bool) (c : Claim)
    → length (tells names i b c) + heft names (tells names i b c) ≤ (if b then cost names (name_of names i) else 0)
tells_cost names d i true c = omega (arith, lower_less names d (name_of names i))
tells_cost names d i false c = omega arith

-- ---- a claim that is heard

left_awake : (c : Claim) → c.silent ≡ false → left c ≡ c.candidates - c.position
unfolding left
left_awake c s = rw s

left_silent : (c : Claim) → c.silent ≡ true → left c ≡ 0
unfolding left
left_silent c s = rw s

module _ (names : List ℕ) (differ : Differ names) (bus : List Sent) (i : ℕ) (c : Claim) (k : ℕ) (x : Sent) (rest : List Sent)
    (d : drop k bus ≡ x ∷ rest) (name : c.name ≡ name_of names i) (source : ℕ) (inside : c.position < c.candidates) where
  abbrev n : ℕ
  n = name_of names i

  abbrev out : Outcome → List Sent
  out o = tells names i (is_sent o) (after o c)

  -- a node that gives up an address
  gives_up : (e : Claim) → left c ≡ suc (left e) → (b : Bool)
      → length (tells names i b e) + heft names (tells names i b e) + (cost names n * left e + unread names n rest)
      ≤ cost names n * left c + ((if n <? name_of names x.by then cost names n else 0) + unread names n rest)
  gives_up e q b =
      let a : cost names n * left c ≡ cost names n * left e + cost names n = ap (λ (m : ℕ). cost names n * m) q ∙ mul-suc (cost names n) (left e) in
      by_test b
      (λ t. rw t (let z = tells_cost names differ i true e in omega (arith, a, z)))
      (λ t. rw t (omega (arith, a)))

  heard_cost : (o : Outcome) → Went source (name_of names x.by) c o
      → length (out o) + heft names (out o) + (cost names n * left (after o c) + unread names n rest)
      ≤ cost names n * left c + ((if n <? name_of names x.by then cost names n else 0) + unread names n rest)
  unfolding after is_sent
  heard_cost o (deaf s) = omega arith
  heard_cost o (apart s a) = omega arith
  heard_cost o (same s a q) = omega arith
  heard_cost o (wins s a q) =
      let l : n < name_of names x.by = omega (arith, q, name) in
      rw (lt-ltb n (name_of names x.by) l) (let z = tells_cost names differ i true c in omega (arith, z))
  heard_cost o (goes s a q h) =
      let y = left_awake c s in
      let z = left_awake (Machine.at_next c) refl in
      gives_up (Machine.at_next c) (omega (arith, y, z)) true
  heard_cost o (ends s a q h) =
      let y = left_awake c s in
      let z = left_silent (Machine.fallen c) refl in
      let f : 1 ≤ left c = omega (arith, y) in
      let g : cost names n * 1 ≤ cost names n * left c = mul-le-mul_left (cost names n) f in
      let t = tells_cost names differ i true (Machine.fallen c) in
      rw z (omega (arith, g, t))

left_paused : (ms : ℕ) (c : Claim) → left (pause ms c) ≡ left c
left_paused ms c =
    by_test c.silent
    (λ s. rw (pause_silent ms c s) refl)
    (λ s. rw (pause_awake ms c s) (left_awake _ s ∙ sym (left_awake c s)))

-- ---- a claim that comes on the bus

heft_come : (names : List ℕ) (n : ℕ) (l : List Sent) (x : Sent) (rest : List Sent) → drop n l ≡ x ∷ rest
    → (heft names (take n l ++ rest) + lower names names (name_of names x.by) ≡ heft names l)
    × (length (take n l ++ rest) + 1 ≡ length l)
heft_come names zero [] x rest d = let z : ◌≡◌ {A = ℕ} 0 1 = cc in absurd (omega arith)
heft_come names (suc n) [] x rest d = let z : ◌≡◌ {A = ℕ} 0 1 = cc in absurd (omega arith)
heft_come names zero (y ∷ l) x rest d =
    let e : y ≡ x = cc in
    let r : l ≡ rest = cc in
    rw (e, r) (omega arith, omega arith)
heft_come names (suc n) (y ∷ l) x rest d =
    let h = heft_come names n l x rest d in
    (omega (arith, h.0), omega (arith, h.1))

abbrev Within : List Sent → Node → Type 0
Within bus off = Unit
Within bus (on c k) = k ≤ length bus

weight_come : (names : List ℕ) (bus : List Sent) (x : Sent) (n : ℕ) (s : Node) → Within bus s
    → weight names (bus ++ (x ∷ [])) n s ≡ weight names bus n s + (if n <? name_of names x.by then cost names n else 0)
weight_come names bus x n off h = omega (arith, unread_append names n bus (x ∷ []))
weight_come names bus x n (on c k) h =
    rw (drop-append-le k bus (x ∷ []) h) (omega (arith, unread_append names n (drop k bus) (x ∷ [])))

weights_come : (names : List ℕ) (bus : List Sent) (x : Sent) (ns : List ℕ) (ss : List Node)
    → ((i : ℕ) → Within bus (get_or ss i off))
    → weights names (bus ++ (x ∷ [])) ns ss ≤ weights names bus ns ss + lower names ns (name_of names x.by)
weights_come names bus x [] ss f = omega arith
weights_come names bus x (n ∷ ns) [] f = omega arith
weights_come names bus x (n ∷ ns) (s ∷ ss) f =
    omega (arith, weight_come names bus x n s (f 0), weights_come names bus x ns ss (λ i. f (suc i)))

keeps_within : (names : List ℕ) (bus : List Sent) (i : ℕ) (s : Node) → Keeps names bus i s → Within bus s
keeps_within names bus i off g = tt
keeps_within names bus i (on c k) g = g.within

-- ---- every move

unasked : (p : ℕ) {x y : ℕ} → x ≤ y → x ≤ y + p * 0
unasked p h = omega arith

position_inside : (names : List ℕ) (w : Network) (i : ℕ) (c : Claim) (k : ℕ) → Kept names w → node_at w i ≡ on c k
    → c.position < c.candidates
position_inside names w i c k v e =
    (rules_of c (both_true (Machine.keeps_rules c) (Machine.holds_list c) (kept_on names w i c k v e).sound).0).inside

module _ (names : List ℕ) (differ : Differ names) (w : Network) (v : Kept names w) where
  -- a node that is asked sends a claim more
  asked_cost : (i : ℕ) (c : Claim) (k : ℕ) → node_at w i ≡ on c k
      → all names (becomes i (on c k) (tells names i true c) w) ≤ all names w + 2 ^ length names
  asked_cost i c k e =
      let a = rw e at (weights_set names w.bus names w.nodes i (on c k) v.many (on_here names w i c k v e).0) in
      omega (
        arith,
        a,
        heft_append names w.waiting (tells names i true c),
        length-append w.waiting (tells names i true c),
        tells_cost names differ i true c,
        cost_most names (name_of names i),
      )

  all_move : (act : Act) (u : Network) → Move names w act u → all names u ≤ all names w + 2 ^ length names * asks act
  all_move act u (refuses i list older) = omega arith
  all_move act u (begins i list older h e f g) =
      let c = begun (name_of names i) list in
      let n = name_of names i in
      let k = length w.bus - older in
      let m : left c ≤ 16 = omega (arith, left_awake c refl, (well_formed list f).short) in
      let p : cost names n * left c ≤ cost names n * 16 = mul-le-mul_left (cost names n) m in
      unasked (2 ^ length names) (cheaper names w i off (on c k) (tells names i true c) v h e
      (omega (arith, p, tells_cost names differ i true c, unread_drop names n k w.bus)))
  all_move act u (comes_on n x rest d) =
      let h = heft_come names n w.waiting x rest d in
      let g = weights_come names w.bus x names w.nodes (λ i. keeps_within names w.bus i (node_at w i) (v.keeps i)) in
      omega (arith, h.0, h.1, g, length-append w.bus (x ∷ []))
  all_move act u (hears i c k x rest y e d n) =
      let o = outcome_of y.source (name_of names x.by) c in
      let g = kept_on names w i c k v e in
      let s = (drop_next k w.bus x rest d).0 in
      let h = heard_cost names differ w.bus i c k x rest d g.name y.source (position_inside names w i c k v e) o
      (went y.source (name_of names x.by) c) in
      unasked (2 ^ length names) (cheaper names w i (on c k) (on (after o c) (suc k)) (tells names i (is_sent o) (after o c)) v (on_here names w i c k v e).0 e
      (rw (s, d) h))
  all_move act u (passes i c k x rest e d b) =
      let s = (drop_next k w.bus x rest d).0 in
      unasked (2 ^ length names) (cheaper names w i (on c k) (on c (suc k)) [] v (on_here names w i c k v e).0 e
      (rw (s, d) (omega arith)))
  all_move act u (waits i ms c k e) =
      unasked (2 ^ length names) (cheaper names w i (on c k) (on (pause ms c) k) [] v (on_here names w i c k v e).0 e
      (rw (left_paused ms c) (omega arith)))
  all_move act u (repeats i c k e) = omega (arith, asked_cost i c k e)

-- ---- every run

fresh_weights : (names ns : List ℕ) → weights names [] ns (map (λ n. off) ns) ≡ 17 * total names ns
fresh_weights names [] = omega arith
fresh_weights names (n ∷ ns) = omega (arith, fresh_weights names ns)

all_run : (names : List ℕ) → Differ names → Fit names → (w end : Network) (acts : List Act) → Ran names w acts end → Kept names w
    → all names end ≤ all names w + 2 ^ length names * asks_in acts
all_run names differ fit w end acts (no_act w') v = omega arith
all_run names differ fit w end acts (an_act w' t e act more s r) v =
    let m = move_of names fit w v act t s in
    let x = all_move names differ w v act t m in
    let y = all_run names differ fit t end more r (kept_move names w v act t m) in
    omega (arith, x, y, mul-add (2 ^ length names) (asks act) (asks_in more))

pub few_claims : FewClaims
few_claims names acts w differ fit r =
    let a = all_run names differ fit (fresh names) w acts r (kept_fresh names) in
    let b = fresh_weights names names in
    let c = total_less names differ (256 ^ frame_bytes) fit in
    omega (arith, a, b, c)

-- ---- deliveries

abbrev cursor : Node → ℕ
cursor off = 0
cursor (on c k) = k

abbrev cursors : List Node → ℕ
cursors [] = 0
cursors (s ∷ ss) = cursor s + cursors ss

cursors_set : (ss : List Node) (i : ℕ) (s : Node) → i < length ss
    → cursors (set ss i s) + cursor (get_or ss i off) ≡ cursors ss + cursor s
cursors_set [] i s h = absurd (omega arith)
cursors_set (t ∷ ss) zero s h = omega arith
cursors_set (t ∷ ss) (suc i) s h = omega (arith, cursors_set ss i s (omega arith))

-- how far the claims have come
abbrev progress : Network → ℕ
progress w = length w.bus + cursors w.nodes

module _ (names : List ℕ) (w : Network) (v : Kept names w) where
  further : (i : ℕ) (t s : Node) (out : List Sent) (m : ℕ) → i < length w.nodes → node_at w i ≡ t → m + cursor t ≤ cursor s
      → m + progress w ≤ progress (becomes i s out w)
  further i t s out m h e g = let a = rw e at (cursors_set w.nodes i s h) in omega (arith, a, g)

  delivered : (act : Act) (u : Network) → Move names w act u → deliveries act + progress w ≤ progress u
  delivered act u (refuses i list older) = omega arith
  delivered act u (begins i list older h e f g) =
      let c = begun (name_of names i) list in
      further i off (on c (length w.bus - older)) (tells names i true c) 0 h e (omega arith)
  delivered act u (comes_on n x rest d) = omega (arith, length-append w.bus (x ∷ []))
  delivered act u (hears i c k x rest y e d n) =
      let o = outcome_of y.source (name_of names x.by) c in
      further i (on c k) (on (after o c) (suc k)) (tells names i (is_sent o) (after o c)) 1 (on_here names w i c k v e).0 e (omega arith)
  delivered act u (passes i c k x rest e d b) =
      further i (on c k) (on c (suc k)) [] 1 (on_here names w i c k v e).0 e (omega arith)
  delivered act u (waits i ms c k e) =
      further i (on c k) (on (pause ms c) k) [] 0 (on_here names w i c k v e).0 e (omega arith)
  delivered act u (repeats i c k e) =
      further i (on c k) (on c k) (tells names i true c) 0 (on_here names w i c k v e).0 e (omega arith)

delivered_run : (names : List ℕ) → Fit names → (w end : Network) (acts : List Act) → Ran names w acts end → Kept names w
    → (deliveries_in acts + progress w ≤ progress end) × Kept names end
delivered_run names fit w end acts (no_act w') v = (omega arith, v)
delivered_run names fit w end acts (an_act w' t e act more s r) v =
    let m = move_of names fit w v act t s in
    let x = delivered names w v act t m in
    let y = delivered_run names fit t end more r (kept_move names w v act t m) in
    (omega (arith, x, y.0), y.1)

cursors_most : (bus : List Sent) (ss : List Node) → ((i : ℕ) → Within bus (get_or ss i off)) → cursors ss ≤ length bus * length ss
cursors_most bus [] f = omega arith
cursors_most bus (s ∷ ss) f =
    let a = mul-suc (length bus) (length ss) in
    let b = go s (f 0) in
    omega (arith, a, b, cursors_most bus ss (λ i. f (suc i)))
  where
    go : (t : Node) → Within bus t → cursor t ≤ length bus
    go off h = omega arith
    go (on c k) h = h

pub few_deliveries : FewDeliveries
few_deliveries names acts w differ fit r =
    let a = delivered_run names fit (fresh names) w acts r (kept_fresh names) in
    let v = a.1 in
    let b = cursors_most w.bus w.nodes (λ i. keeps_within names w.bus i (node_at w i) (v.keeps i)) in
    let b' : cursors w.nodes ≤ length w.bus * length names = rw v.many at b in
    let c = few_claims names acts w differ fit r in
    let most = most_claims (length names) (asks_in acts) in
    let l : length w.bus ≤ most = omega (arith, c) in
    let n = length names in
    let d : suc n * length w.bus ≤ suc n * most = mul-le-mul_left (suc n) l in
    let e : length w.bus * suc n ≡ length w.bus * n + length w.bus = mul-suc (length w.bus) n in
    let f : length w.bus * suc n ≡ suc n * length w.bus = mul_comm (length w.bus) (suc n) in
    let g : n + 1 ≡ suc n = omega arith in
    rw g (omega (arith, a.0, b', d, e, f))
