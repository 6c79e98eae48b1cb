-- No two nodes have one address, in any order. Of two nodes at one address a claim of it by one of them is still on its
-- way to the other: who comes second claims it; who reads the other's claim goes away, or claims again.
-- Assumes nothing.
use mathlib.Core.Path.{◌≡◌, refl, sym, ap, ◌∙◌}
use mathlib.Core.Bool.{true, false}
use mathlib.Core.List.{List, [], ◌∷◌, ◌++◌}
use mathlib.Core.Logic.{◌⊎◌, inl, inr}
use Prim.Native.Nat.{ℕ, ◌<◌}
use native.Mathlib.Omega.{arith}
use borrow.Author.Tests.{eq-eqb, ne_eqb}
use lib.ListN.{length, take, drop}
use Rattle.words.proofs.Words.{by_test, true_false}
use Rattle.frame.specs.Identifier.{source_of}
use Rattle.claim.specs.Candidates.{is_well_formed}
use Rattle.claim.specs.Claim.{address, begun, Outcome, outcome_of, after, is_sent, pause}
use Rattle.claim.specs.Claim as Machine
use Rattle.claim.specs.Promises.{Start, Hear, told_starting, told_hearing, is_sent_told}
use Rattle.claim.specs.Promises.{is_sound}
use Rattle.claim.specs.declared.Claim.{Claim}
use Rattle.claim.specs.declared.Started.{Started}
use Rattle.claim.specs.declared.Heard.{Heard}
use Rattle.claim.proofs.Outcomes.{Went, deaf, apart, same, wins, goes, ends, went}
use Rattle.claim.proofs.Machine.{node_after, node_paused}
use Rattle.network.specs.Network.{Sent, name_of, Differ, Fit, sent_if}
use Rattle.network.specs.AnyOrder.{Node, off, on, Nodes, fresh, reached, becomes, started_by, Step, start, hear, Ran}
use Rattle.network.specs.AnyOrder.{no_step, a_step, NoTwoInAnyOrder}
use Rattle.network.specs.AnyOrder as The
use Rattle.network.proofs.Lists.{equal_or, In, in_left, in_right, in_either, in_head, in_rest, in_back}
use Rattle.network.proofs.Moves.{mine, mine_source, Known, known_source, tells, source_low, source_awake}
use Rattle.network.proofs.Moves.{paused_stays, sound_heard, sound_paused, known_told, heard_told, begun_told}
use Rattle.network.proofs.Moves.{refused_told, asked_told, paused_told}
use Rattle.network.proofs.NoTwo.{at_of}

-- ---- what is true at all times

record Node-keeps (names : List ℕ) (i : ℕ) (c : Claim) (unread : List Sent) : Type 0 where
  sound : is_sound c ≡ true
  name : c.name ≡ name_of names i
  inside : i < length names
  known : (x : Sent) → In x unread → Known names x

abbrev Keeps : List ℕ → ℕ → Node → Type 0
Keeps names i off = Unit
Keeps names i (on c unread) = Node-keeps names i c unread

-- two nodes at one address
abbrev Meet : List ℕ → ℕ → Node → ℕ → Node → Type 0
Meet names i off j t = Unit
Meet names i (on c unread) j off = Unit
Meet names i (on c unread) j (on d other) =
    c.silent ≡ false → d.silent ≡ false → address c ≡ address d
    → In (mine names i (address c)) other ⊎ In (mine names j (address d)) unread

record Kept (names : List ℕ) (w : Nodes) : Type 0 where
  keeps : (i : ℕ) → Keeps names i (w i)
  meet : (i j : ℕ) → (i ≡ j → ⊥) → Meet names i (w i) j (w j)

kept_on : (names : List ℕ) (w : Nodes) (i : ℕ) (c : Claim) (unread : List Sent) → Kept names w → w i ≡ on c unread
    → Node-keeps names i c unread
kept_on names w i c unread v e = rw e at (v.keeps i)

meet_turned : (names : List ℕ) (i : ℕ) (s : Node) (j : ℕ) (t : Node) → Meet names i s j t → Meet names j t i s
meet_turned names i off j off h = tt
meet_turned names i off j (on d other) h = tt
meet_turned names i (on c unread) j off h = tt
meet_turned names i (on c unread) j (on d other) h = λ x y e. go (h y x (sym e))
  where
    go : In (mine names i (address c)) other ⊎ In (mine names j (address d)) unread
        → In (mine names j (address d)) unread ⊎ In (mine names i (address c)) other
    go (inl a) = inr a
    go (inr a) = inl a

-- ---- more claims are on their way

keeps_more : (names : List ℕ) (out : List Sent) (i : ℕ) (s : Node) → ((x : Sent) → In x out → Known names x) → Keeps names i s
    → Keeps names i (reached out s)
keeps_more names out i off f g = tt
keeps_more names out i (on c unread) f g =
    record { sound = g.sound; name = g.name; inside = g.inside; known = λ x h. go x (in_either x unread out h) }
  where
    go : (x : Sent) → In x unread ⊎ In x out → Known names x
    go x (inl h) = g.known x h
    go x (inr h) = f x h

meet_more : (names : List ℕ) (out : List Sent) (i : ℕ) (s : Node) (j : ℕ) (t : Node) → Meet names i s j t
    → Meet names i (reached out s) j (reached out t)
meet_more names out i off j off h = tt
meet_more names out i off j (on d other) h = tt
meet_more names out i (on c unread) j off h = tt
meet_more names out i (on c unread) j (on d other) h = λ x y e. go (h x y e)
  where
    go : In (mine names i (address c)) other ⊎ In (mine names j (address d)) unread
        → In (mine names i (address c)) (other ++ out) ⊎ In (mine names j (address d)) (unread ++ out)
    go (inl a) = inl (in_left (mine names i (address c)) other out a)
    go (inr a) = inr (in_left (mine names j (address d)) unread out a)

-- one node becomes another
kept_becomes : (names : List ℕ) (w : Nodes) (i : ℕ) (s : Node) (out : List Sent) → Kept names w
    → ((x : Sent) → In x out → Known names x) → Keeps names i s
    → ((j : ℕ) → (i ≡ j → ⊥) → Meet names i s j (reached out (w j))) → Kept names (becomes i s out w)
kept_becomes names w i s out v f g m = record { keeps = keeps'; meet = meet' }
  where
    keeps' : (j : ℕ) → Keeps names j (becomes i s out w j)
    keeps' j =
        equal_or j i
        (λ e. rw (eq-eqb j i e, e) g)
        (λ n. rw (ne_eqb j i n) (keeps_more names out j (w j) f (v.keeps j)))

    meet' : (j k : ℕ) → (j ≡ k → ⊥) → Meet names j (becomes i s out w j) k (becomes i s out w k)
    meet' j k d =
        equal_or j i
        (λ e.
        let n : k ≡ i → ⊥ = λ q. d (e ∙ sym q) in
        rw (eq-eqb j i e, ne_eqb k i n, e) (m k (λ q. n (sym q))))
        (λ n. equal_or k i
        (λ e. rw (ne_eqb j i n, eq-eqb k i e, e) (meet_turned names i s j (reached out (w j)) (m j (λ q. n (sym q)))))
        (λ q. rw (ne_eqb j i n, ne_eqb k i q) (meet_more names out j (w j) k (w k) (v.meet j k d))))

-- ---- how a node meets the others: it has claimed its address, it is silent, or it is where it was

meet_told : (names : List ℕ) (i : ℕ) (c : Claim) (unread : List Sent) (j : ℕ) (t : Node)
    → Meet names i (on c unread) j (reached (tells names i true c) t)
meet_told names i c unread j off = tt
meet_told names i c unread j (on d other) = λ x y e.
    inl (in_right (mine names i (address c)) other (tells names i true c) (inl (ap (mine names i) (sym (source_awake c x)))))

meet_silent : (names : List ℕ) (i : ℕ) (c : Claim) (unread out : List Sent) (j : ℕ) (t : Node) → c.silent ≡ true
    → Meet names i (on c unread) j (reached out t)
meet_silent names i c unread out j off s = tt
meet_silent names i c unread out j (on d other) s = λ x y e. true_false (sym s ∙ x)

meet_stays : (names : List ℕ) (w : Nodes) (i : ℕ) (c b : Claim) (unread left out : List Sent) (j : ℕ) (t : Node)
    → b.silent ≡ c.silent → address b ≡ address c
    → ((d : Claim) (other : List Sent) → t ≡ on d other → address c ≡ address d → c.silent ≡ false
    → In (mine names j (address d)) unread → In (mine names j (address d)) left)
    → Meet names i (on c unread) j t → Meet names i (on b left) j (reached out t)
meet_stays names w i c b unread left out j off s a f h = tt
meet_stays names w i c b unread left out j (on d other) s a f h = λ x y e.
    go (sym a ∙ e) (sym s ∙ x) (h (sym s ∙ x) y (sym a ∙ e))
  where
    go : address c ≡ address d → c.silent ≡ false → In (mine names i (address c)) other ⊎ In (mine names j (address d)) unread
        → In (mine names i (address b)) (other ++ out) ⊎ In (mine names j (address d)) left
    go e z (inl q) = inl (rw a (in_left (mine names i (address c)) other out q))
    go e z (inr q) = inr (f d other refl e z q)

-- ---- every step

module _ (names : List ℕ) (differ : Differ names) (fit : Fit names) (w : Nodes) (v : Kept names w) where
  module _ (i : ℕ) (c : Claim) (unread : List Sent) (e : w i ≡ on c unread) where
    g : Node-keeps names i c unread
    g = kept_on names w i c unread v e

    met : (j : ℕ) → (i ≡ j → ⊥) → Meet names i (on c unread) j (w j)
    met j n = rw e at (v.meet i j n)

    -- it is where it was, and has nothing less to read
    stays : (b : Claim) (out : List Sent) → b.silent ≡ c.silent → address b ≡ address c → (j : ℕ) → (i ≡ j → ⊥)
        → Meet names i (on b unread) j (reached out (w j))
    stays b out s a j n = meet_stays names w i c b unread unread out j (w j) s a (λ d other q z x h. h) (met j n)

    -- a claim that is read
    module _ (n : ℕ) (x : Sent) (rest : List Sent) (d : drop n unread ≡ x ∷ rest) where
      y : Known names x
      y = g.known x (in_head n unread x rest d)

      abbrev left : List Sent
      left = take n unread ++ rest

      -- it was not the other's claim of our address
      passes : (out : List Sent) → ((j : ℕ) → (i ≡ j → ⊥) → j < length names → x ≡ mine names j (address c) → ⊥)
          → (j : ℕ) → (i ≡ j → ⊥) → Meet names i (on c left) j (reached out (w j))
      passes out f j m = meet_stays names w i c c unread left out j (w j) refl refl still (met j m)
        where
          still : (b : Claim) (other : List Sent) → w j ≡ on b other → address c ≡ address b → c.silent ≡ false
              → In (mine names j (address b)) unread → In (mine names j (address b)) left
          still b other q z s h = go (in_rest (mine names j (address b)) n unread x rest d h)
            where
              go : In (mine names j (address b)) left ⊎ (mine names j (address b) ≡ x) → In (mine names j (address b)) left
              go (inl k) = k
              go (inr k) =
                  absurd (f j m (kept_on names w j b other v q).inside (sym k ∙ ap (mine names j) (sym z)))

      heard_meets : (o : Outcome) → Went y.source (name_of names x.by) c o → (j : ℕ) → (i ≡ j → ⊥)
          → Meet names i (on (after o c) left) j (reached (tells names i (is_sent o) (after o c)) (w j))
      unfolding after is_sent
      heard_meets o (deaf s) j m = meet_silent names i c left [] j (w j) s
      heard_meets o (apart s a) j m = passes [] (λ j m l q. a (source_is j q)) j m
        where
          source_is : (j : ℕ) → x ≡ mine names j (address c) → y.source ≡ address c
          source_is j q =
              let l = (source_low c g.sound).1 in
              sym (known_source names x y) ∙ ap (λ (t : Sent). source_of t.id) q ∙ mine_source names j (address c) (omega arith)
      heard_meets o (same s a q) j m =
          passes []
          (λ j m l k.
          let b : x.by ≡ j = ap (λ (t : Sent). t.by) k in
          m (differ i j g.inside l (sym g.name ∙ sym q ∙ ap (name_of names) b)))
          j m
      heard_meets o (wins s a q) j m = meet_told names i c left j (w j)
      heard_meets o (goes s a q h) j m = meet_told names i (Machine.at_next c) left j (w j)
      heard_meets o (ends s a q h) j m = meet_silent names i (Machine.fallen c) left (tells names i true (Machine.fallen c)) j (w j) refl

      read_kept : (r : Heard) → Hear x.id x.bytes c r
          → Kept names (becomes i (on r.claim left) (sent_if (is_sent_told (told_hearing r.answer)) i r.id r.bytes) w)
      read_kept r p =
          let o = outcome_of y.source (name_of names x.by) c in
          let t = heard_told names fit i c x y r g.sound g.name p in
          let s = sound_heard y.source (name_of names x.by) c g.sound in
          rw (t.0, t.1)
          (kept_becomes names w i (on (after o c) left) (tells names i (is_sent o) (after o c)) v
          (known_told names i (is_sent o) (after o c) s g.inside)
          (record {
            sound = s;
            name = (node_after o c).name ∙ g.name;
            inside = g.inside;
            known = λ z h. g.known z (in_back z n unread x rest d h);
          })
          (heard_meets o (went y.source (name_of names x.by) c)))

    waits_kept : (ms : ℕ) → Kept names (becomes i (on (pause ms c) unread) [] w)
    waits_kept ms =
        let p = paused_stays ms c in
        kept_becomes names w i (on (pause ms c) unread) [] v (λ x h. absurd h)
        (record {
          sound = sound_paused ms c g.sound;
          name = (node_paused ms c).name ∙ g.name;
          inside = g.inside;
          known = g.known;
        })
        (stays (pause ms c) [] p.0 p.1)

    asked_kept : Kept names (becomes i (on c unread) (tells names i true c) w)
    asked_kept =
        kept_becomes names w i (on c unread) (tells names i true c) v (known_told names i true c g.sound g.inside) g
        (stays c (tells names i true c) refl refl)

  begins_kept : (i : ℕ) (list : List ℕ) (r : Started) → i < length names → Start (name_of names i) list r
      → Kept names (started_by (told_starting r.answer) i r w)
  begins_kept i list r h p =
      by_test (is_well_formed list)
      (λ f.
      let b = begun_told names i list r p f in
      let c = begun (name_of names i) list in
      rw b.told
      (rw (b.state, b.sent)
      (kept_becomes names w i (on c []) (tells names i true c) v (known_told names i true c b.sound h)
      (record { sound = b.sound; name = refl; inside = h; known = λ x q. absurd q })
      (λ j n. meet_told names i c [] j (w j)))))
      (λ f. rw (refused_told names i list r p f) v)

  kept_step : (u : Nodes) → Step names w u → Kept names u
  kept_step u (start w' i list r h e p) = begins_kept i list r h p
  kept_step u (hear w' i c unread n x rest r e d p) = read_kept i c unread e n x rest d r p
  kept_step u (The.pause w' i ms c unread r e p) =
      rw (paused_told ms c r (kept_on names w i c unread v e).sound p) (waits_kept i c unread e ms)
  kept_step u (The.ask w' i c unread r e p) =
      let k = kept_on names w i c unread v e in
      rw (asked_told names i c r k.sound k.name p) (asked_kept i c unread e)

kept_run : (names : List ℕ) → Differ names → Fit names → (w end : Nodes) → Ran names w end → Kept names w → Kept names end
kept_run names differ fit w end (no_step w') v = v
kept_run names differ fit w end (a_step w' u e s r) v =
    kept_run names differ fit u end r (kept_step names differ fit w v u s)

pub no_two_in_any_order : NoTwoInAnyOrder
no_two_in_any_order names w differ fit r rest i j a p q =
    equal_or i j (λ e. e) (λ n. absurd (go (met n at_i.0 at_j.0 (at_i.1 ∙ sym at_j.1))))
  where
    v : Kept names w
    v = kept_run names differ fit fresh w r (record { keeps = λ i. tt; meet = λ i j n. tt })

    at_i : (p.claim.silent ≡ false) × (address p.claim ≡ a)
    at_i = at_of p.claim (kept_on names w i p.claim p.unread v p.started).sound a p.stands

    at_j : (q.claim.silent ≡ false) × (address q.claim ≡ a)
    at_j = at_of q.claim (kept_on names w j q.claim q.unread v q.started).sound a q.stands

    met : (i ≡ j → ⊥) → Meet names i (on p.claim p.unread) j (on q.claim q.unread)
    met n = rw (p.started, q.started) at (v.meet i j n)

    go : In (mine names i (address p.claim)) q.unread ⊎ In (mine names j (address q.claim)) p.unread → ⊥
    go (inl h) = rw (rest j q.claim q.unread q.started) at h
    go (inr h) = rw (rest i p.claim p.unread p.started) at h
