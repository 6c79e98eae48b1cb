-- As long as a network is not at rest, a claim can be delivered: one that waits comes on the bus, or a node reads its
-- next one, whatever it is.
-- Assumes nothing.
use mathlib.Core.Path.{◌≡◌, refl, sym, ap, ◌∙◌}
use mathlib.Core.Bool.{true}
use mathlib.Core.List.{List, [], ◌∷◌, ◌++◌}
use mathlib.Core.Logic.{◌⊎◌, inl, inr}
use Prim.Native.Nat.{ℕ, zero, suc, ◌+◌, ◌*◌, ◌≤◌, ◌<◌}
use native.Mathlib.Decide.{dec_lt}
use native.Mathlib.Omega.{arith}
use lib.ListN.{length, get_or, drop, length-drop, drop_of_length-le}
use Rattle.words.specs.Words.{Told, refused, gives, done}
use Rattle.words.proofs.Words.{both_true, refused_gives}
use Rattle.claim.specs.Claim.{outcome_of, keeps_rules, holds_list}
use Rattle.claim.specs.Claim.{claim_id, claim_bytes, pause}
use Rattle.claim.specs.Promises.{Pause, OurClaim, is_sound, sound_of, told_hearing, told_pausing, told_sending}
use Rattle.claim.specs.declared.Claim.{Claim}
use Rattle.claim.specs.declared.Paused.{Paused}
use Rattle.std.specs.Prelude.{Ok}
use Rattle.claim.specs.declared.ClaimFrame.{ClaimFrame}
use Rattle.claim.proofs.Calls.{sound_well}
use Rattle.network.specs.Network.{Sent, Node, off, on, Network, node_at, name_of, Differ, Fit, fresh, Act, starts}
use Rattle.network.specs.Network.{comes, reads, pauses, asked, Step, start, come, hear, pass, Ran, no_act, an_act}
use Rattle.network.specs.Network as The
use Rattle.network.specs.Laws.{AtRest, asks, asks_in, most_claims, deliveries, deliveries_in, DeliversOn}
use Rattle.network.specs.Laws.{DeliversOnly, ComesToRest, EveryActCan, NoneRefuses}
use Rattle.network.proofs.Lists.{equal_or, in_left, in_head}
use Rattle.network.proofs.Moves.{Node-keeps, Kept, kept_on, heard_known}
use Rattle.network.proofs.NoTwo.{run_so}
use Rattle.network.proofs.Few.{few_deliveries}
use Rattle.network.proofs.Play.{start_of, start_is, is_given, heard_by, heard_is}

-- a node that has not read the whole bus, or none

record Behind (ss : List Node) (n : ℕ) : Type 0 where
  who : ℕ
  claim : Claim
  read : ℕ
  stands : get_or ss who off ≡ on claim read
  short : read < n

abbrev Caught : List Node → ℕ → Type 0
Caught ss n = (i : ℕ) (c : Claim) (k : ℕ) → get_or ss i off ≡ on c k → n ≤ k

behind_more : (s : Node) (ss : List Node) (n : ℕ) → Behind ss n → Behind (s ∷ ss) n
behind_more s ss n h =
    record { who = suc h.who; claim = h.claim; read = h.read; stands = h.stands; short = h.short }

behind : (ss : List Node) (n : ℕ) → Caught ss n ⊎ Behind ss n
behind [] n = inl (λ i c k e. let z : ◌≡◌ {A = ℕ} 0 1 = cc in absurd (omega arith))
behind (off ∷ ss) n = go (behind ss n)
  where
    all : Caught ss n → (i : ℕ) (c : Claim) (k : ℕ) → get_or (off ∷ ss) i off ≡ on c k → n ≤ k
    all h zero c k e = let z : ◌≡◌ {A = ℕ} 0 1 = cc in absurd (omega arith)
    all h (suc i) c k e = h i c k e

    go : Caught ss n ⊎ Behind ss n → Caught (off ∷ ss) n ⊎ Behind (off ∷ ss) n
    go (inl h) = inl (all h)
    go (inr h) = inr (behind_more off ss n h)
behind (on d m ∷ ss) n = at (dec_lt m n) (behind ss n)
  where
    all : Caught ss n → n ≤ m → (i : ℕ) (c : Claim) (k : ℕ) → get_or (on d m ∷ ss) i off ≡ on c k → n ≤ k
    all h x zero c k e = let z : m ≡ k = cc in omega arith
    all h x (suc i) c k e = h i c k e

    go : n ≤ m → Caught ss n ⊎ Behind ss n → Caught (on d m ∷ ss) n ⊎ Behind (on d m ∷ ss) n
    go x (inl h) = inl (all h x)
    go x (inr h) = inr (behind_more (on d m) ss n h)

    at : Dec (m < n) → Caught ss n ⊎ Behind ss n → Caught (on d m ∷ ss) n ⊎ Behind (on d m ∷ ss) n
    at (yes x) r = inr (record { who = 0; claim = d; read = m; stands = refl; short = x })
    at (no x) r = go (omega arith) r

abbrev Delivery : List ℕ → Network → Type 0
Delivery names w = (act : Act) × (v : Network) × (deliveries act ≡ 1) × Step names w act v

module _ (names : List ℕ) (fit : Fit names) (w : Network) (v : Kept names w) where
  -- the next claim is read
  module _ (i : ℕ) (c : Claim) (k : ℕ) (e : node_at w i ≡ on c k) (x : Sent) (rest : List Sent) (d : drop k w.bus ≡ x ∷ rest) where
    read_other : (x.by ≡ i → ⊥) → Delivery names w
    read_other n =
        let y = v.known x (in_left x w.bus w.waiting (in_head k w.bus x rest d)) in
        let h = heard_known names fit c x y (kept_on names w i c k v e).sound in
        (reads i, _, refl, hear w i c k x rest (heard_by x c) e d n (heard_is x c (ap is_given h)))

    reading : Delivery names w
    reading = equal_or x.by i (λ b. (reads i, _, refl, pass w i c k x rest e d b)) read_other

  reads_next : (h : Behind w.nodes (length w.bus)) → Delivery names w
  reads_next h = go (drop h.read w.bus) refl
    where
      go : (l : List Sent) → drop h.read w.bus ≡ l → Delivery names w
      go [] d =
          let x : length (drop h.read w.bus) ≡ 0 = rw d refl in
          absurd (omega (arith, x, length-drop h.read w.bus, h.short))
      go (x ∷ rest) d = reading h.who h.claim h.read h.stands x rest d

  caught_rests : w.waiting ≡ [] → Caught w.nodes (length w.bus) → AtRest w
  caught_rests e h i c k s = (rw e tt, rw (drop_of_length-le w.bus (h i c k s)) tt)

  delivers : AtRest w ⊎ Delivery names w
  delivers = go w.waiting refl (behind w.nodes (length w.bus))
    where
      go : (l : List Sent) → w.waiting ≡ l → Caught w.nodes (length w.bus) ⊎ Behind w.nodes (length w.bus)
          → AtRest w ⊎ Delivery names w
      go (x ∷ l) e r = inr (comes 0, _, refl, come w 0 x l e)
      go [] e (inl h) = inl (caught_rests e h)
      go [] e (inr h) = inr (reads_next h)

pub delivers_on : DeliversOn
delivers_on names acts w differ fit r = delivers names fit w (run_so names acts w differ fit r).kept

-- ---- so deliveries lead to rest, as there are only so many

step_one : (names : List ℕ) (w v : Network) (act : Act) → Step names w act v → Ran names w (act ∷ []) v
step_one names w v act s = an_act w v v act [] s (no_act v)

run_more : (names : List ℕ) (w v end : Network) (acts more : List Act) → Ran names w acts v → Ran names v more end
    → Ran names w (acts ++ more) end
run_more names w v end acts more (no_act w') r = r
run_more names w v end acts more (an_act w' u e act rest s q) r =
    an_act w u end act (rest ++ more) s (run_more names u v end rest more q r)

delivered_more : (acts : List Act) (act : Act) → deliveries act ≡ 1
    → (deliveries_in (acts ++ (act ∷ [])) ≡ deliveries_in acts + 1) × (asks_in (acts ++ (act ∷ [])) ≡ asks_in acts)
delivered_more [] act e = (omega (arith, e), go act e)
  where
    go : (a : Act) → deliveries a ≡ 1 → asks a + 0 ≡ 0
    go (starts i list older) q = absurd (omega (arith, q))
    go (comes n) q = omega arith
    go (reads i) q = omega arith
    go (pauses i ms) q = absurd (omega (arith, q))
    go (asked i) q = absurd (omega (arith, q))
delivered_more (a ∷ acts) act e =
    let h = delivered_more acts act e in
    (omega (arith, h.0), omega (arith, h.1))

module _ (names : List ℕ) (differ : Differ names) (fit : Fit names) where
  abbrev Rest : Network → Type 0
  Rest w = (more : List Act) × (v : Network) × DeliversOnly more × Ran names w more v × AtRest v

  rests : (fuel : ℕ) (acts : List Act) (w : Network) → Ran names (fresh names) acts w
      → (length names + 1) * most_claims (length names) (asks_in acts) ≤ deliveries_in acts + fuel → Rest w
  rests zero acts w r h = go (delivers_on names acts w differ fit r)
    where
      go : AtRest w ⊎ Delivery names w → Rest w
      go (inl q) = ([], w, tt, no_act w, q)
      go (inr q) =
          let m = delivered_more acts q.0 q.2 in
          let f = few_deliveries names (acts ++ (q.0 ∷ [])) q.1 differ fit
          (run_more names (fresh names) w q.1 acts (q.0 ∷ []) r (step_one names w q.1 q.0 q.3)) in
          let g = rw m.1 at f in
          absurd (omega (arith, g, m.0, h))
  rests (suc fuel) acts w r h = go (λ a v q l. rests fuel a v q l) (delivers_on names acts w differ fit r)
    where
      go : ((a : List Act) (v : Network) → Ran names (fresh names) a v
          → (length names + 1) * most_claims (length names) (asks_in a) ≤ deliveries_in a + fuel → Rest v)
          → AtRest w ⊎ Delivery names w → Rest w
      go again (inl q) = ([], w, tt, no_act w, q)
      go again (inr q) =
          let m = delivered_more acts q.0 q.2 in
          let z = again (acts ++ (q.0 ∷ [])) q.1
          (run_more names (fresh names) w q.1 acts (q.0 ∷ []) r (step_one names w q.1 q.0 q.3))
          (rw m.1 (omega (arith, m.0, h))) in
          (q.0 ∷ z.0, z.1, (q.2, z.2), an_act w q.1 z.1 q.0 z.0 q.3 z.3, z.4)

pub comes_to_rest : ComesToRest
comes_to_rest names acts w differ fit r =
    rests names differ fit ((length names + 1) * most_claims (length names) (asks_in acts)) acts w r (omega arith)

-- ---- and what else may happen can happen

pausing_some : (ms : ℕ) (c : Claim) → is_sound c ≡ true → (r : Paused) × Pause ms c r
pausing_some ms c s =
    let b = both_true (keeps_rules c) (holds_list c) s in (
      record { claim = pause ms c; answer = Ok tt },
      record { answer = sym (sound_well c b.0 b.1).0; state = rw s refl },
    )

claim_some : (c : Claim) → is_sound c ≡ true → (r : ClaimFrame) × OurClaim c r
claim_some c s =
    let b = both_true (keeps_rules c) (holds_list c) s in (
      record { answer = Ok tt; id = claim_id c; bytes = claim_bytes c },
      record { answer = sym (sound_well c b.0 b.1).0; sent_id = rw s refl; sent_bytes = rw s refl },
    )

pub every_act_can : EveryActCan
every_act_can names acts w differ fit r =
    record {
      start = λ i list older h e.
          (_, start w i list older (start_of (name_of names i) list) (omega (arith, h, v.many)) e (start_is (name_of names i) list));
      pause = λ i ms c k e.
          let p = pausing_some ms c (kept_on names w i c k v e).sound in (_, The.pause w i ms c k p.0 e p.1);
      ask = λ i c k e. let p = claim_some c (kept_on names w i c k v e).sound in (_, The.ask w i c k p.0 e p.1);
    }
  where
    v : Kept names w
    v = (run_so names acts w differ fit r).kept

-- ---- and nobody refuses

given_not : {A : Type 0} (t : Told A) (a : A) (n : ℕ) → t ≡ gives a → t ≡ refused n → ⊥
given_not t a n e f = refused_gives (sym f ∙ e)

pub none_refuses : NoneRefuses
none_refuses names acts w differ fit r i c k e =
    record {
      hear = λ x rest q n d p t.
          let y = v.known x (in_left x w.bus w.waiting (in_head k w.bus x rest d)) in
          given_not (told_hearing q.answer) (outcome_of y.source (name_of names x.by) c) n (p.answer ∙ heard_known names fit c x y g.sound) t;
      pause = λ ms q n p t. given_not (told_pausing q.answer) done n (p.answer ∙ well) t;
      ask = λ q n p t. given_not (told_sending q.answer) done n (p.answer ∙ well) t;
    }
  where
    v : Kept names w
    v = (run_so names acts w differ fit r).kept

    g : Node-keeps names w.bus i c k
    g = kept_on names w i c k v e

    well : sound_of c ≡ gives done
    well = let b = both_true (keeps_rules c) (holds_list c) g.sound in (sound_well c b.0 b.1).0
