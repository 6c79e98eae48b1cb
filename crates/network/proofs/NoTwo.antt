-- No two nodes have one address. A node that claims or holds an address has the last word on it among the claims that it
-- has read, or its claim is still on its way: it claims the address when it comes to it, and answers every claim of
-- another that it hears there.
-- Assumes nothing.
use mathlib.Core.Path.{◌≡◌, refl, sym, ap, ◌∙◌}
use mathlib.Core.Bool.{true, false}
use mathlib.Core.List.{List, [], ◌∷◌, ◌++◌}
use mathlib.Core.Logic.{◌⊎◌, inl, inr}
use mathlib.Core.Option.{Option, some, none}
use Prim.Native.Nat.{ℕ, suc, ◌-◌, ◌≤◌, ◌<◌}
use native.Mathlib.Omega.{arith}
use lib.ListN.{length, take, drop, take-append-drop}
use lib.Seq.{drop-append-le, take-append-le}
use Rattle.words.specs.Words.{◌=?◌, gives}
use Rattle.words.proofs.Words.{true_false, both_true, gives_same, by_test}
use Rattle.frame.specs.Identifier.{source_of}
use Rattle.claim.specs.Claim.{keeps_rules, holds_list, address, begun, Outcome, outcome_of, after, is_sent, pause}
use Rattle.claim.specs.Claim as Machine
use Rattle.claim.specs.Promises.{is_sound, Stands, told_standing}
use Rattle.claim.specs.declared.Claim.{Claim}
use Rattle.claim.specs.Promises.{Standing}
use Rattle.std.specs.Prelude.{Ok}
use Rattle.claim.specs.declared.Place.TheVariants.{Held, Claiming}
use Rattle.claim.proofs.Outcomes.{Went, deaf, apart, same, wins, goes, ends, went}
use Rattle.claim.proofs.Calls.{sound_well}
use Rattle.network.specs.Network.{Sent, Node, off, on, Network, node_at, name_of, Differ, Fit, fresh, Act, becomes, Ran}
use Rattle.network.specs.Network.{no_act, an_act}
use Rattle.network.specs.Laws.{At, Own, AtRest, NoTwo, last_by, LastWord}
use Rattle.network.proofs.Lists.{equal_or, In, in_left, in_right, in_rest, drop_next, own_in, last_append}
use Rattle.network.proofs.Lists.{last_here, last_elsewhere, last_own, last_taken}
use Rattle.network.proofs.Moves.{mine, Known, known_source, mine_source, Kept, kept_on, on_here, tells, Move}
use Rattle.network.proofs.Moves.{refuses, begins, comes_on, hears, passes, waits, repeats, move_of, source_low}
use Rattle.network.proofs.Moves.{source_awake, others, kept_move, kept_fresh, all_off, paused_stays}

-- ---- the last word

abbrev pub Word : List ℕ → List Sent → List Sent → ℕ → ℕ → ℕ → Type 0
Word names waiting bus i a k =
    In (mine names i a) waiting ⊎ In (mine names i a) (drop k bus) ⊎ (last_by a none (take k bus) ≡ some i)

abbrev pub HasWord : List ℕ → List Sent → List Sent → ℕ → Node → Type 0
HasWord names waiting bus i off = Unit
HasWord names waiting bus i (on c k) = c.silent ≡ false → Word names waiting bus i (address c) k

abbrev pub Words : List ℕ → Network → Type 0
Words names w = (i : ℕ) → HasWord names w.waiting w.bus i (node_at w i)

pub word_on : (names : List ℕ) (w : Network) (i : ℕ) (c : Claim) (k : ℕ) → Words names w → node_at w i ≡ on c k
    → c.silent ≡ false → Word names w.waiting w.bus i (address c) k
word_on names w i c k v e = rw e at (v i)

-- more claims wait
word_more : (names : List ℕ) (waiting out bus : List Sent) (i a k : ℕ) → Word names waiting bus i a k
    → Word names (waiting ++ out) bus i a k
word_more names waiting out bus i a k (inl h) = inl (in_left (mine names i a) waiting out h)
word_more names waiting out bus i a k (inr h) = inr h

has_more : (names : List ℕ) (waiting out bus : List Sent) (i : ℕ) (s : Node) → HasWord names waiting bus i s
    → HasWord names (waiting ++ out) bus i s
has_more names waiting out bus i off h = tt
has_more names waiting out bus i (on c k) h = λ z. word_more names waiting out bus i (address c) k (h z)

-- its claim waits
word_told : (names : List ℕ) (waiting bus : List Sent) (i k : ℕ) (c : Claim) → c.silent ≡ false
    → Word names (waiting ++ tells names i true c) bus i (address c) k
word_told names waiting bus i k c s =
    inl (in_right (mine names i (address c)) waiting (tells names i true c) (inl (ap (mine names i) (sym (source_awake c s)))))

-- a claim is read: the node's own, or one from another address
module _ (names : List ℕ) (waiting bus : List Sent) (i a k : ℕ) (x : Sent) (rest : List Sent) (d : drop k bus ≡ x ∷ rest)
    (low : source_of (mine names i a).id ≡ a) where
  word_own : x.by ≡ i → Word names waiting bus i a k → Word names waiting bus i a (suc k)
  word_own b (inl h) = inl h
  word_own b (inr (inl h)) = go (rw d at h)
    where
      go : In (mine names i a) (x ∷ rest) → Word names waiting bus i a (suc k)
      go (inl e) =
          let s : source_of x.id ≡ a = ap (λ (y : Sent). source_of y.id) (sym e) ∙ low in
          inr (inr (ap (last_by a none) (drop_next k bus x rest d).1 ∙ last_here a (take k bus) x s ∙ ap some b))
      go (inr h) = inr (inl (rw (drop_next k bus x rest d).0 h))
  word_own b (inr (inr h)) =
      equal_or (source_of x.id) a
      (λ s. inr (inr (ap (last_by a none) (drop_next k bus x rest d).1 ∙ last_here a (take k bus) x s ∙ ap some b)))
      (λ s. inr (inr (ap (last_by a none) (drop_next k bus x rest d).1 ∙ last_elsewhere a (take k bus) x s ∙ h)))

  word_apart : (source_of x.id ≡ a → ⊥) → Word names waiting bus i a k → Word names waiting bus i a (suc k)
  word_apart n (inl h) = inl h
  word_apart n (inr (inl h)) = go (rw d at h)
    where
      go : In (mine names i a) (x ∷ rest) → Word names waiting bus i a (suc k)
      go (inl e) = absurd (n (ap (λ (y : Sent). source_of y.id) (sym e) ∙ low))
      go (inr h) = inr (inl (rw (drop_next k bus x rest d).0 h))
  word_apart n (inr (inr h)) =
      inr (inr (ap (last_by a none) (drop_next k bus x rest d).1 ∙ last_elsewhere a (take k bus) x n ∙ h))

-- a claim comes on the bus
word_come : (names : List ℕ) (waiting bus : List Sent) (i a k n : ℕ) (x : Sent) (rest : List Sent) → k ≤ length bus
    → drop n waiting ≡ x ∷ rest → Word names waiting bus i a k → Word names (take n waiting ++ rest) (bus ++ (x ∷ [])) i a k
word_come names waiting bus i a k n x rest l d (inl h) = go (in_rest (mine names i a) n waiting x rest d h)
  where
    go : In (mine names i a) (take n waiting ++ rest) ⊎ (mine names i a ≡ x)
        → Word names (take n waiting ++ rest) (bus ++ (x ∷ [])) i a k
    go (inl h) = inl h
    go (inr e) =
        inr (inl (rw (drop-append-le k bus (x ∷ []) l) (in_right (mine names i a) (drop k bus) (x ∷ []) (inl e))))
word_come names waiting bus i a k n x rest l d (inr (inl h)) =
    inr (inl (rw (drop-append-le k bus (x ∷ []) l) (in_left (mine names i a) (drop k bus) (x ∷ []) h)))
word_come names waiting bus i a k n x rest l d (inr (inr h)) =
    inr (inr (ap (last_by a none) (take-append-le k bus (x ∷ []) l) ∙ h))

-- ---- every move keeps it

words_becomes : (names : List ℕ) (w : Network) (i : ℕ) (s : Node) (out : List Sent) → Words names w → i < length w.nodes
    → HasWord names (w.waiting ++ out) w.bus i s → Words names (becomes i s out w)
words_becomes names w i s out v h g =
    others w.nodes i s (HasWord names (w.waiting ++ out) w.bus) h g
    (λ j. has_more names w.waiting out w.bus j (node_at w j) (v j))

-- a claim heard, in its six ways
module _ (names : List ℕ) (differ : Differ names) (w : Network) (v : Kept names w) (u : Words names w) (i : ℕ) (c : Claim)
    (k : ℕ) (x : Sent) (rest : List Sent) (y : Known names x) (e : node_at w i ≡ on c k) (d : drop k w.bus ≡ x ∷ rest)
    (n : x.by ≡ i → ⊥) where
  mine_low : source_of (mine names i (address c)).id ≡ address c
  mine_low =
      let l = (source_low c (kept_on names w i c k v e).sound).1 in
      mine_source names i (address c) (omega arith)

  word_heard : (o : Outcome) → Went y.source (name_of names x.by) c o
      → HasWord names (w.waiting ++ tells names i (is_sent o) (after o c)) w.bus i (on (after o c) (suc k))
  unfolding after is_sent
  word_heard o (deaf s) = λ z. true_false (sym s ∙ z)
  word_heard o (apart s a) = λ z.
      word_more names w.waiting [] w.bus i (address c) (suc k)
      (word_apart names w.waiting w.bus i (address c) k x rest d mine_low
      (λ q. a (sym (known_source names x y) ∙ q)) (word_on names w i c k u e z))
  word_heard o (same s a q) = λ z.
      absurd (n (differ x.by i y.one_of_us (on_here names w i c k v e).1 (q ∙ (kept_on names w i c k v e).name)))
  word_heard o (wins s a q) = λ z. word_told names w.waiting w.bus i (suc k) c z
  word_heard o (goes s a q h) = λ z. word_told names w.waiting w.bus i (suc k) (Machine.at_next c) z
  word_heard o (ends s a q h) = λ z. true_false z

has_come : (names : List ℕ) (w : Network) (n : ℕ) (x : Sent) (rest : List Sent) → Kept names w → drop n w.waiting ≡ x ∷ rest
    → (i : ℕ) (s : Node) → node_at w i ≡ s → HasWord names w.waiting w.bus i s
    → HasWord names (take n w.waiting ++ rest) (w.bus ++ (x ∷ [])) i s
has_come names w n x rest v d i off e h = tt
has_come names w n x rest v d i (on c k) e h = λ z.
    word_come names w.waiting w.bus i (address c) k n x rest (kept_on names w i c k v e).within d (h z)

module _ (names : List ℕ) (differ : Differ names) (w : Network) (v : Kept names w) (u : Words names w) where
  pub words_move : (act : Act) (t : Network) → Move names w act t → Words names t
  words_move act t (refuses i list older) = u
  words_move act t (begins i list older h e f g) =
      let c = begun (name_of names i) list in
      words_becomes names w i (on c (length w.bus - older)) (tells names i true c) u h
      (word_told names w.waiting w.bus i (length w.bus - older) c)
  words_move act t (comes_on n x rest d) = λ i. has_come names w n x rest v d i (node_at w i) refl (u i)
  words_move act t (hears i c k x rest y e d n) =
      let o = outcome_of y.source (name_of names x.by) c in
      words_becomes names w i (on (after o c) (suc k)) (tells names i (is_sent o) (after o c)) u (on_here names w i c k v e).0
      (word_heard names differ w v u i c k x rest y e d n o (went y.source (name_of names x.by) c))
  words_move act t (passes i c k x rest e d b) =
      words_becomes names w i (on c (suc k)) [] u (on_here names w i c k v e).0
      (λ z. word_more names w.waiting [] w.bus i (address c) (suc k)
      (word_own names w.waiting w.bus i (address c) k x rest d
      (let l = (source_low c (kept_on names w i c k v e).sound).1 in mine_source names i (address c) (omega arith))
      b (word_on names w i c k u e z)))
  words_move act t (waits i ms c k e) =
      let p = paused_stays ms c in
      words_becomes names w i (on (pause ms c) k) [] u (on_here names w i c k v e).0
      (λ z. rw p.1
      (word_more names w.waiting [] w.bus i (address c) k (word_on names w i c k u e (sym p.0 ∙ z))))
  words_move act t (repeats i c k e) =
      words_becomes names w i (on c k) (tells names i true c) u (on_here names w i c k v e).0
      (λ z. word_more names w.waiting (tells names i true c) w.bus i (address c) k (word_on names w i c k u e z))

pub words_fresh : (names : List ℕ) → Words names (fresh names)
words_fresh names i = rw (all_off names i) tt

-- ---- every run

pub record Held-so (names : List ℕ) (w : Network) : Type 0 where
  pub kept : Kept names w
  pub words : Words names w

pub ran_so : (names : List ℕ) → Differ names → Fit names → (w end : Network) (acts : List Act) → Ran names w acts end
    → Held-so names w → Held-so names end
ran_so names differ fit w end acts (no_act w') v = v
ran_so names differ fit w end acts (an_act w' t e act more s r) v =
    let m = move_of names fit w v.kept act t s in
    ran_so names differ fit t end more r
    (record { kept = kept_move names w v.kept act t m; words = words_move names differ w v.kept v.words act t m })

pub run_so : (names : List ℕ) (acts : List Act) (w : Network) → Differ names → Fit names → Ran names (fresh names) acts w
    → Held-so names w
run_so names acts w differ fit r =
    ran_so names differ fit (fresh names) w acts r (record { kept = kept_fresh names; words = words_fresh names })

-- ---- where a node is

module _ (c : Claim) where
  pub stand_silent : c.silent ≡ true → Machine.stand_of c ≡ Machine.silent
  unfolding Machine.stand_of
  stand_silent s = rw s

  pub stand_held : c.silent ≡ false → (c.wait =? Machine.held_after) ≡ true → Machine.stand_of c ≡ Machine.held (address c)
  unfolding Machine.stand_of
  stand_held s t = rw (s, t)

  stand_claiming : c.silent ≡ false → (c.wait =? Machine.held_after) ≡ false → Machine.stand_of c ≡ Machine.claiming (address c)
  unfolding Machine.stand_of
  stand_claiming s t = rw (s, t)

  module _ (sound : is_sound c ≡ true) where
    pub stand_told : (r : Standing) → Stands c r → told_standing r ≡ gives (Machine.stand_of c)
    stand_told r p =
        let b = both_true (keeps_rules c) (holds_list c) sound in
        p.answer ∙ rw (sound_well c b.0 b.1).0 refl

    pub told_stand : (r : Standing) → told_standing r ≡ gives (Machine.stand_of c) → Stands c r
    told_stand r e =
        let b = both_true (keeps_rules c) (holds_list c) sound in
        record { answer = e ∙ sym (rw (sound_well c b.0 b.1).0 refl) }

    -- the call `stands` tells of a node that is not silent whether it holds or claims its address

    at_stand : (a : ℕ) (r : Standing) (s : Machine.Stand) → told_standing r ≡ gives s → Stands c r
        → (s ≡ Machine.silent → ⊥) → ((b : ℕ) → (s ≡ Machine.held b) ⊎ (s ≡ Machine.claiming b) → b ≡ a)
        → (c.silent ≡ false) × (address c ≡ a)
    at_stand a r s t p n f =
        let e : s ≡ Machine.stand_of c = gives_same (sym t ∙ stand_told r p) in
        by_test c.silent
        (λ z. absurd (n (e ∙ stand_silent z)))
        (λ z. (
          z,
          by_test (c.wait =? Machine.held_after)
              (λ q. f (address c) (inl (e ∙ stand_held z q)))
              (λ q. f (address c) (inr (e ∙ stand_claiming z q))),
        ))

    pub at_of : (a : ℕ) → Stands c (Ok (Held a)) ⊎ Stands c (Ok (Claiming a)) → (c.silent ≡ false) × (address c ≡ a)
    at_of a (inl p) = at_stand a (Ok (Held a)) (Machine.held a) refl p (λ e. let z : ◌≡◌ {A = ℕ} 0 1 = cc in absurd (omega arith)) f
      where
        f : (b : ℕ) → (Machine.held a ≡ Machine.held b) ⊎ (Machine.held a ≡ Machine.claiming b) → b ≡ a
        f b (inl e) = cc
        f b (inr e) = let z : ◌≡◌ {A = ℕ} 0 1 = cc in absurd (omega arith)
    at_of a (inr p) = at_stand a (Ok (Claiming a)) (Machine.claiming a) refl p (λ e. let z : ◌≡◌ {A = ℕ} 0 1 = cc in absurd (omega arith)) f
      where
        f : (b : ℕ) → (Machine.claiming a ≡ Machine.held b) ⊎ (Machine.claiming a ≡ Machine.claiming b) → b ≡ a
        f b (inl e) = let z : ◌≡◌ {A = ℕ} 0 1 = cc in absurd (omega arith)
        f b (inr e) = cc

    pub is_at : c.silent ≡ false → Stands c (Ok (Held (address c))) ⊎ Stands c (Ok (Claiming (address c)))
    is_at s =
        by_test (c.wait =? Machine.held_after)
        (λ q. inl (told_stand (Ok (Held (address c))) (sym (ap gives (stand_held s q)))))
        (λ q. inr (told_stand (Ok (Claiming (address c))) (sym (ap gives (stand_claiming s q)))))

pub at_here : (names : List ℕ) (w : Network) (i a : ℕ) → Kept names w → (p : At w i a)
    → (p.claim.silent ≡ false) × (address p.claim ≡ a)
at_here names w i a v p = at_of p.claim (kept_on names w i p.claim p.read v p.started).sound a p.stands

pub here_at : (names : List ℕ) (w : Network) (i : ℕ) (c : Claim) (k : ℕ) → Kept names w → node_at w i ≡ on c k → c.silent ≡ false
    → At w i (address c)
here_at names w i c k v e s =
    record { claim = c; read = k; started = e; stands = is_at c (kept_on names w i c k v e).sound s }

-- ---- at rest

-- the last word among the claims read is the last word, and so is a claim of one's own that is left to read
rest_word : (names : List ℕ) (bus : List Sent) (i a k : ℕ) → source_of (mine names i a).id ≡ a → Own i (drop k bus)
    → In (mine names i a) (drop k bus) ⊎ (last_by a none (take k bus) ≡ some i) → last_by a none bus ≡ some i
rest_word names bus i a k low o (inl h) =
    ap (last_by a none) (sym (take-append-drop k bus)) ∙ last_append a none (take k bus) (drop k bus)
    ∙ last_taken a i (last_by a none (take k bus)) (mine names i a) (drop k bus) o h low
rest_word names bus i a k low o (inr h) =
    ap (last_by a none) (sym (take-append-drop k bus)) ∙ last_append a none (take k bus) (drop k bus)
    ∙ ap (λ (who : Option ℕ). last_by a who (drop k bus)) h ∙ last_own a i (drop k bus) o

module _ (names : List ℕ) (w : Network) (v : Held-so names w) (rest : AtRest w) (i a : ℕ) (p : At w i a) where
  at_word : In (mine names i a) w.waiting ⊎ (last_by a none w.bus ≡ some i)
  at_word = go (rw h.1 at (word_on names w i p.claim p.read v.words p.started h.0))
    where
      h : (p.claim.silent ≡ false) × (address p.claim ≡ a)
      h = at_here names w i a v.kept p

      low : source_of (mine names i a).id ≡ a
      low =
          let g = kept_on names w i p.claim p.read v.kept p.started in
          let l : address p.claim ≤ 253 = (source_low p.claim g.sound).1 in
          mine_source names i a (omega (arith, l, h.1))

      go : Word names w.waiting w.bus i a p.read → In (mine names i a) w.waiting ⊎ (last_by a none w.bus ≡ some i)
      go (inl z) = inl z
      go (inr z) = inr (rest_word names w.bus i a p.read low (rest i p.claim p.read p.started).1 z)

some_same : (i j : ℕ) → ◌≡◌ {A = Option ℕ} (some i) (some j) → i ≡ j
some_same i j e = cc

pub no_two_lem : NoTwo
no_two_lem names acts w differ fit r rest i j a p q =
    go (at_word names w v rest i a p) (at_word names w v rest j a q)
  where
    v : Held-so names w
    v = run_so names acts w differ fit r

    go : In (mine names i a) w.waiting ⊎ (last_by a none w.bus ≡ some i)
        → In (mine names j a) w.waiting ⊎ (last_by a none w.bus ≡ some j) → i ≡ j
    go (inl x) y = own_in (mine names i a) j w.waiting (rest j q.claim q.read q.started).0 x
    go (inr x) (inl y) = sym (own_in (mine names j a) i w.waiting (rest i p.claim p.read p.started).0 y)
    go (inr x) (inr y) = some_same i j (sym x ∙ y)

pub last_word : LastWord
last_word names acts w differ fit r rest none_waits i a p = go (at_word names w (run_so names acts w differ fit r) rest i a p)
  where
    go : In (mine names i a) w.waiting ⊎ (last_by a none w.bus ≡ some i) → last_by a none w.bus ≡ some i
    go (inl x) = absurd (rw none_waits at x)
    go (inr x) = x
