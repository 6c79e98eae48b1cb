-- Where the claims of each node come on the bus in the order in which it sent them, its last one tells where it is.
-- Assumes nothing.
use Rattle.std.specs.Prelude.{if◌then◌else◌}
use mathlib.Core.Path.{◌≡◌, refl, sym, ap, ◌∙◌}
use mathlib.Core.Bool.{Bool, true, false}
use mathlib.Core.List.{List, [], ◌∷◌, ◌++◌}
use mathlib.Core.Logic.{inl, inr}
use mathlib.Core.Option.{Option, some, none}
use Prim.Native.Nat.{ℕ, suc, ◌-◌, ◌<◌}
use native.Mathlib.Omega.{arith}
use borrow.Author.Tests.{eq-eqb, ne_eqb}
use lib.ListN.{length, take, drop, take-append-drop}
use lib.Seq.{get_or-set_same, get_or-set_other}
use Rattle.words.specs.Words.{◌=?◌}
use Rattle.words.proofs.Words.{by_test}
use Rattle.frame.specs.Identifier.{source_of}
use Rattle.claim.specs.Claim.{address, claim_source, begun, Outcome, outcome_of, after, is_sent, pause}
use Rattle.claim.specs.Promises.{is_sound}
use Rattle.claim.specs.declared.Claim.{Claim}
use Rattle.claim.proofs.Outcomes.{Went, deaf, apart, same, wins, goes, ends, went}
use Rattle.network.specs.Network.{Sent, Node, off, on, Network, node_at, name_of, Fit, fresh, Act, becomes, Ran}
use Rattle.network.specs.Network.{no_act, an_act}
use Rattle.network.specs.Listener.{NoneBy, FirstOfIts, InTurn, ClaimedFrom}
use Rattle.network.proofs.Lists.{equal_or}
use Rattle.network.proofs.Moves.{mine, mine_source, Kept, kept_on, on_here, tells, Move, refuses}
use Rattle.network.proofs.Moves.{begins, comes_on, hears, passes, waits, repeats, move_of, source_low, source_silent}
use Rattle.network.proofs.Moves.{source_awake, kept_move, kept_fresh, all_off, paused_stays, sound_heard}

-- from where a node claimed last, where it did from `who` before
abbrev pub last_from : ℕ → Option ℕ → List Sent → Option ℕ
last_from i who [] = who
last_from i who (x ∷ xs) = last_from i (if x.by =? i then some (source_of x.id) else who) xs

from_append : (i : ℕ) (who : Option ℕ) (l r : List Sent) → last_from i who (l ++ r) ≡ last_from i (last_from i who l) r
from_append i who [] r = refl
from_append i who (x ∷ l) r = from_append i (if x.by =? i then some (source_of x.id) else who) l r

from_none : (i : ℕ) (who : Option ℕ) (l : List Sent) → NoneBy i l → last_from i who l ≡ who
from_none i who [] n = refl
from_none i who (x ∷ l) n = rw (ne_eqb x.by i n.0) (from_none i who l n.1)

-- of claims that were heard later, and of all of them

from_anyway : (i a : ℕ) (who other : Option ℕ) (l : List Sent) → ClaimedFrom i a l → last_from i who l ≡ last_from i other l
from_anyway i a who other [] h = absurd h
from_anyway i a who other (x ∷ l) (inl h) = rw (eq-eqb x.by i h.0) refl
from_anyway i a who other (x ∷ l) (inr h) =
    by_test (x.by =? i)
    (λ t. rw t refl)
    (λ t. rw t (from_anyway i a who other l h))

pub from_since : (i a b : ℕ) (l r : List Sent) → ClaimedFrom i b r → last_from i none (l ++ r) ≡ some a → last_from i none r ≡ some a
from_since i a b l r h e = from_anyway i b none (last_from i none l) r h ∙ sym (from_append i none l r) ∙ e

from_some : (i a : ℕ) (who : Option ℕ) (l : List Sent) → last_from i none l ≡ some a → last_from i who l ≡ some a
from_some i a who [] e = let z : ◌≡◌ {A = ℕ} 0 1 = cc in absurd (omega arith)
from_some i a who (x ∷ l) e =
    by_test (x.by =? i)
    (λ t. rw t (rw t at e))
    (λ t. rw t (from_some i a who l (rw t at e)))

pub from_all : (i a : ℕ) (l r : List Sent) → last_from i none r ≡ some a → last_from i none (l ++ r) ≡ some a
from_all i a l r e = from_append i none l r ∙ from_some i a (last_from i none l) r e

-- a claim that comes on the bus before the others that wait
from_come : (i n : ℕ) (bus waiting : List Sent) (x : Sent) (rest : List Sent) → drop n waiting ≡ x ∷ rest
    → NoneBy x.by (take n waiting)
    → last_from i none ((bus ++ (x ∷ [])) ++ (take n waiting ++ rest)) ≡ last_from i none (bus ++ waiting)
from_come i n bus waiting x rest d f =
    equal_or x.by i
    (λ e. left ∙ ap (λ (t : Option ℕ). last_from i t rest) (mine_first e) ∙ sym right)
    (λ e. left ∙ ap (λ (t : Option ℕ). last_from i t rest) (not_mine e) ∙ sym right)
  where
    b : Option ℕ
    b = last_from i none bus

    next : Option ℕ → Option ℕ
    next t = if x.by =? i then some (source_of x.id) else t

    left : last_from i none ((bus ++ (x ∷ [])) ++ (take n waiting ++ rest)) ≡ last_from i (last_from i (next b) (take n waiting)) rest
    left =
        from_append i none (bus ++ (x ∷ [])) (take n waiting ++ rest)
        ∙ ap (λ (t : Option ℕ). last_from i t (take n waiting ++ rest)) (from_append i none bus (x ∷ []))
        ∙ from_append i (next b) (take n waiting) rest

    split : waiting ≡ take n waiting ++ (x ∷ rest)
    split = sym (take-append-drop n waiting) ∙ ap (λ (t : List Sent). take n waiting ++ t) d

    right : last_from i none (bus ++ waiting) ≡ last_from i (next (last_from i b (take n waiting))) rest
    right =
        from_append i none bus waiting ∙ ap (last_from i b) split ∙ from_append i b (take n waiting) (x ∷ rest)

    mine_first : x.by ≡ i → last_from i (next b) (take n waiting) ≡ next (last_from i b (take n waiting))
    mine_first e =
        let g : NoneBy i (take n waiting) = rw (← e) f in
        from_none i (next b) (take n waiting) g ∙ ap next (sym (from_none i b (take n waiting) g))

    not_mine : (x.by ≡ i → ⊥) → last_from i (next b) (take n waiting) ≡ next (last_from i b (take n waiting))
    not_mine e =
        let h : (t : Option ℕ) → next t ≡ t = λ t. rw (ne_eqb x.by i e) refl in
        ap (λ (t : Option ℕ). last_from i t (take n waiting)) (h b) ∙ sym (h (last_from i b (take n waiting)))

-- ---- where each node claimed last

abbrev pub Last : List Sent → ℕ → Node → Type 0
Last sent i off = last_from i none sent ≡ none
Last sent i (on c k) = last_from i none sent ≡ some (claim_source c)

abbrev pub AllLast : Network → Type 0
AllLast w = (i : ℕ) → Last (w.bus ++ w.waiting) i (node_at w i)

last_same : (i : ℕ) (l r : List Sent) (s : Node) → last_from i none r ≡ last_from i none l → Last l i s → Last r i s
last_same i l r off e h = e ∙ h
last_same i l r (on c k) e h = e ∙ h

-- nothing new of the others
by_told : (names : List ℕ) (i : ℕ) (b : Bool) (c : Claim) (j : ℕ) → (j ≡ i → ⊥) → NoneBy j (tells names i b c)
by_told names i true c j n = ((λ e. n (sym e)), tt)
by_told names i false c j n = tt

more_append : (bus waiting out : List Sent) (i : ℕ) → last_from i none (bus ++ (waiting ++ out)) ≡ last_from i (last_from i none (bus ++ waiting)) out
more_append bus waiting out i =
    from_append i none bus (waiting ++ out) ∙ from_append i (last_from i none bus) waiting out
    ∙ ap (λ (t : Option ℕ). last_from i t out) (sym (from_append i none bus waiting))

last_becomes : (names : List ℕ) (w : Network) (i : ℕ) (b : Bool) (c d : Claim) (k : ℕ) → AllLast w → i < length w.nodes
    → Last (w.bus ++ (w.waiting ++ tells names i b d)) i (on c k) → AllLast (becomes i (on c k) (tells names i b d) w)
last_becomes names w i b c d k v h g j =
    equal_or j i
    (λ e. rw (e, get_or-set_same w.nodes i (on c k) off h) g)
    (λ n.
    rw (get_or-set_other w.nodes i j (on c k) off n)
    (last_same j (w.bus ++ w.waiting) (w.bus ++ (w.waiting ++ tells names i b d)) (node_at w j)
    (more_append w.bus w.waiting (tells names i b d) j ∙ from_none j (last_from j none (w.bus ++ w.waiting)) (tells names i b d) (by_told names i b d j n))
    (v j)))

-- it claims from where it is
last_told : (names : List ℕ) (bus waiting : List Sent) (i : ℕ) (c : Claim) (k : ℕ) → i < length names → is_sound c ≡ true
    → Last (bus ++ (waiting ++ tells names i true c)) i (on c k)
last_told names bus waiting i c k n s =
    let q : source_of (mine names i (claim_source c)).id ≡ claim_source c = mine_source names i (claim_source c) (source_low c s).0 in
    more_append bus waiting (tells names i true c) i ∙ rw (eq-eqb i i refl) (ap some q)

-- or it is where it was
last_stays : (names : List ℕ) (w : Network) (i : ℕ) (c b : Claim) (k n : ℕ) → AllLast w → node_at w i ≡ on c k
    → claim_source b ≡ claim_source c → Last (w.bus ++ (w.waiting ++ [])) i (on b n)
last_stays names w i c b k n v e s =
    more_append w.bus w.waiting [] i ∙ (rw e at (v i)) ∙ ap some (sym s)

source_same : (c b : Claim) → b.silent ≡ c.silent → address b ≡ address c → claim_source b ≡ claim_source c
source_same c b s a =
    by_test c.silent
    (λ z. source_silent b (s ∙ z) ∙ sym (source_silent c z))
    (λ z. source_awake b (s ∙ z) ∙ a ∙ sym (source_awake c z))

module _ (names : List ℕ) (w : Network) (v : Kept names w) (u : AllLast w) where
  last_heard : (i : ℕ) (c : Claim) (k : ℕ) (e : node_at w i ≡ on c k) (source name : ℕ) (o : Outcome) → Went source name c o
      → is_sound (after o c) ≡ true
      → Last (w.bus ++ (w.waiting ++ tells names i (is_sent o) (after o c))) i (on (after o c) (suc k))
  unfolding after is_sent
  last_heard i c k e source name o (deaf s) g = last_stays names w i c c k (suc k) u e refl
  last_heard i c k e source name o (apart s a) g = last_stays names w i c c k (suc k) u e refl
  last_heard i c k e source name o (same s a q) g = last_stays names w i c c k (suc k) u e refl
  last_heard i c k e source name o (wins s a q) g = last_told names w.bus w.waiting i c (suc k) (on_here names w i c k v e).1 g
  last_heard i c k e source name o (goes s a q h) g = last_told names w.bus w.waiting i (after o c) (suc k) (on_here names w i c k v e).1 g
  last_heard i c k e source name o (ends s a q h) g = last_told names w.bus w.waiting i (after o c) (suc k) (on_here names w i c k v e).1 g

  pub last_move : (act : Act) (t : Network) → FirstOfIts w act → Move names w act t → AllLast t
  last_move act t f (refuses i list older) = u
  last_move act t f (begins i list older h e l g) =
      let c = begun (name_of names i) list in
      let k = length w.bus - older in
      last_becomes names w i true c c k u h (last_told names w.bus w.waiting i c k (omega (arith, h, v.many)) g)
  last_move act t f (comes_on n x rest d) = λ i.
      last_same i (w.bus ++ w.waiting) ((w.bus ++ (x ∷ [])) ++ (take n w.waiting ++ rest)) (node_at w i)
      (from_come i n w.bus w.waiting x rest d (f x rest d)) (u i)
  last_move act t f (hears i c k x rest y e d n) =
      let o = outcome_of y.source (name_of names x.by) c in
      let g = sound_heard y.source (name_of names x.by) c (kept_on names w i c k v e).sound in
      last_becomes names w i (is_sent o) (after o c) (after o c) (suc k) u (on_here names w i c k v e).0
      (last_heard i c k e y.source (name_of names x.by) o (went y.source (name_of names x.by) c) g)
  last_move act t f (passes i c k x rest e d b) =
      last_becomes names w i false c c (suc k) u (on_here names w i c k v e).0 (last_stays names w i c c k (suc k) u e refl)
  last_move act t f (waits i ms c k e) =
      let p = paused_stays ms c in
      last_becomes names w i false (pause ms c) c k u (on_here names w i c k v e).0
      (last_stays names w i c (pause ms c) k k u e (source_same c (pause ms c) p.0 p.1))
  last_move act t f (repeats i c k e) =
      let l = on_here names w i c k v e in
      last_becomes names w i true c c k u l.0 (last_told names w.bus w.waiting i c k l.1 (kept_on names w i c k v e).sound)

last_ran : (names : List ℕ) → Fit names → (w end : Network) (acts : List Act) (r : Ran names w acts end) → InTurn r → Kept names w
    → AllLast w → AllLast end
last_ran names fit w end acts (no_act w') f v u = u
last_ran names fit w end acts (an_act w' t e act more s r) f v u =
    let m = move_of names fit w v act t s in
    last_ran names fit t end more r f.1 (kept_move names w v act t m) (last_move names w v u act t f.0 m)

last_fresh : (names : List ℕ) → AllLast (fresh names)
last_fresh names i = rw (all_off names i) refl

pub last_run : (names : List ℕ) (acts : List Act) (w : Network) → Fit names → (r : Ran names (fresh names) acts w) → InTurn r → AllLast w
last_run names acts w fit r f = last_ran names fit (fresh names) w acts r f (kept_fresh names) (last_fresh names)
