-- The laws of the positions and of commands by instance, proved.
-- Assumes nothing.
use Rattle.std.specs.Prelude.{if◌then◌else◌}
use mathlib.Core.Path.{◌≡◌, refl, sym, ap, ◌∙◌}
use mathlib.Core.Bool.{Bool, true, false, not}
use mathlib.Core.List.{List, [], ◌∷◌}
use Prim.Native.Nat.{ℕ, zero, suc, ◌+◌, ◌≤◌, ◌<◌}
use native.Mathlib.Nat.{le_of_suc-le-suc, not-suc-le-zero}
use native.Mathlib.Omega.{arith}
use borrow.Author.Tests.{eq-eqb, ne_eqb, eqb-true}
use lib.ListN.{length, get_or}
use Rattle.words.specs.Words.{◌≤?◌, ◌=?◌, ◌and◌, ◌or◌, Told, refused, gives, given◌then◌}
use Rattle.words.specs.Lists.{any, every, no_two}
use Rattle.frame.specs.Identifier.{dgn_of, catalogue_form}
use Rattle.frame.specs.Promises.{destined}
use Rattle.frame.specs.declared.Parts.{Parts}
use Rattle.words.proofs.Words.{by_test, both_true, true_false}
use Rattle.frame.proofs.Frame.{checked_given}
use Rattle.claim.specs.Claim.{Stand, stand_of}
use Rattle.command.specs.Hosted.{most_entries, is_entry, is_same_pair, hosted, is_well_formed}
use Rattle.command.specs.Positions.{positions_from, positions_where, filled}
use Rattle.command.specs.Handed.{handed_in, address_held}
use Rattle.command.specs.Commands.{has_command, is_named, is_meant, is_elsewhere, nothing_to_do, picks, route_of}
use Rattle.command.specs.Commands.{routed_of}
use Rattle.command.specs.Promises.{picked_in}
use Rattle.command.specs.Laws.{StandsIn, entry_at, PositionsExact, PositionsRise, ListedFilled, InstancePicks}
use Rattle.command.specs.Laws.{InstancePicksOne, ZeroPicksMarked, SlideIgnoresZero}
use Rattle.command.specs.declared.Entry.{Entry}
use Rattle.command.proofs.Picks as Picks
use Rattle.command.proofs.Handing.{handed_fine}

-- exactly the positions of those that pass

stands_cons : {P : Type 0} (k a : ℕ) (ps : List ℕ) (j : ℕ) → j < length (a ∷ ps) → get_or (a ∷ ps) j 0 ≡ k → (k ≡ a → P) → (StandsIn k ps → P) → P
stands_cons k a ps zero l e f g = f (sym e)
stands_cons k a ps (suc j) l e f g = g (j, le_of_suc-le-suc l, e)

module _ (f : Entry → Bool) where
  abbrev Found : ℕ → List Entry → ℕ → Type 0
  Found i es k = (n : ℕ) × (k ≡ i + n) × (n < length es) × (f (entry_at es n) ≡ true)

  further : (i : ℕ) (x : Entry) (es : List Entry) (k : ℕ) → Found (suc i) es k → Found i (x ∷ es) k
  further i x es k s = let e = s.1 in let l = s.2 in (suc s.0, omega arith, omega arith, s.3)

  exact_from : (i : ℕ) (es : List Entry) (k : ℕ) → StandsIn k (positions_from i f es) → Found i es k
  exact_from i [] k s = absurd (not-suc-le-zero s.1)
  exact_from i (x ∷ es) k s =
      by_test (f x)
      (λ t.
      let s' = rw t at s in
      stands_cons k i (positions_from (suc i) f es) s'.0 s'.1 s'.2
      (λ e. (0, omega arith, omega arith, t))
      (λ m. further i x es k (exact_from (suc i) es k m)))
      (λ t. further i x es k (exact_from (suc i) es k (rw t at s)))

  from_exact : (i : ℕ) (es : List Entry) (n : ℕ) → n < length es → f (entry_at es n) ≡ true → StandsIn (i + n) (positions_from i f es)
  from_exact i [] n l e = absurd (not-suc-le-zero l)
  from_exact i (x ∷ es) zero l e = rw e (0, omega arith, omega arith)
  from_exact i (x ∷ es) (suc n) l e =
      let m = from_exact (suc i) es n (le_of_suc-le-suc l) e in
      let h = m.1 in
      let k : suc i + n ≡ i + suc n = omega arith in
      by_test (f x)
      (λ t. rw t (suc m.0, omega arith, m.2 ∙ k))
      (λ t. rw t (m.0, m.1, m.2 ∙ k))

pub positions_exact : PositionsExact
unfolding positions_where
positions_exact f es k = (
  (λ s.
      let x = exact_from f 0 es k s in
      let e : k ≡ x.0 = omega (arith, x.1) in
      (rw e x.2, rw e x.3)),
  (λ s. let z : 0 + k ≡ k = omega arith in rw z at (from_exact f 0 es k s.0 s.1)),
)

-- and they rise

low_cons : (i : ℕ) (ps : List ℕ) → ((j : ℕ) → j < length ps → suc i ≤ get_or ps j 0) → (j : ℕ) → j < length (i ∷ ps) → i ≤ get_or (i ∷ ps) j 0
low_cons i ps low zero l = omega arith
low_cons i ps low (suc j) l = let h = low j (le_of_suc-le-suc l) in omega arith

rise_cons : (i : ℕ) (ps : List ℕ) → ((j : ℕ) → j < length ps → suc i ≤ get_or ps j 0)
    → ((a b : ℕ) → a < b → b < length ps → get_or ps a 0 < get_or ps b 0)
    → (a b : ℕ) → a < b → b < length (i ∷ ps) → get_or (i ∷ ps) a 0 < get_or (i ∷ ps) b 0
rise_cons i ps low up a zero h l = absurd (not-suc-le-zero h)
rise_cons i ps low up zero (suc b) h l = low b (le_of_suc-le-suc l)
rise_cons i ps low up (suc a) (suc b) h l = up a b (le_of_suc-le-suc h) (le_of_suc-le-suc l)

module _ (f : Entry → Bool) where
  low_from : (i : ℕ) (es : List Entry) (j : ℕ) → j < length (positions_from i f es) → i ≤ get_or (positions_from i f es) j 0
  low_from i [] j l = absurd (not-suc-le-zero l)
  low_from i (x ∷ es) j l =
      by_test (f x)
      (λ t. rw t (low_cons i (positions_from (suc i) f es) (low_from (suc i) es) j (rw t at l)))
      (λ t. rw t (let h = low_from (suc i) es j (rw t at l) in omega arith))

  rise_from : (i : ℕ) (es : List Entry) (a b : ℕ) → a < b → b < length (positions_from i f es)
      → get_or (positions_from i f es) a 0 < get_or (positions_from i f es) b 0
  rise_from i [] a b h l = absurd (not-suc-le-zero l)
  rise_from i (x ∷ es) a b h l =
      by_test (f x)
      (λ t. rw t (rise_cons i (positions_from (suc i) f es) (low_from (suc i) es) (rise_from (suc i) es) a b h (rw t at l)))
      (λ t. rw t (rise_from (suc i) es a b h (rw t at l)))

pub positions_rise : PositionsRise
unfolding positions_where
positions_rise f es = rise_from f 0 es

pub listed_filled : ListedFilled
listed_filled = Picks.listed_filled

-- an entry that a command is for

abbrev Meant : ℕ → ℕ → Entry → Type 0
Meant dgn instance e = (e.command ≡ dgn) × (e.instance ≡ instance)

meant_by_lem : (dgn instance : ℕ) (e : Entry) → (instance ≡ 0 → ⊥) → is_meant dgn instance e ≡ true → Meant dgn instance e
unfolding is_meant
meant_by_lem dgn instance e n m =
    let b = both_true (has_command dgn e) (is_named instance e) m in
    let i : (e.instance =? instance) ≡ true = rw (ne_eqb instance 0 n) at b.1 in
    (eqb-true e.command dgn b.0, eqb-true e.instance instance i)

by_meant : (dgn instance : ℕ) (e : Entry) → (instance ≡ 0 → ⊥) → Meant dgn instance e → is_meant dgn instance e ≡ true
unfolding is_meant
by_meant dgn instance e n m = rw (eq-eqb e.command dgn m.0, ne_eqb instance 0 n, eq-eqb e.instance instance m.1)

pub instance_picks : InstancePicks
instance_picks dgn instance es k n =
    let x = positions_exact (is_meant dgn instance) es k in (
      (λ s.
          let y = x.0 s in
          let m = meant_by_lem dgn instance (entry_at es k) n y.1 in
          (y.0, m.0, m.1)),
      (λ s. x.1 (s.0, by_meant dgn instance (entry_at es k) n (s.1, s.2))),
    )

marked_by : (dgn : ℕ) (e : Entry) → is_meant dgn 0 e ≡ true → (e.command ≡ dgn) × (e.zero_is_all ≡ true)
unfolding is_meant
marked_by dgn e m = let b = both_true (has_command dgn e) (is_named 0 e) m in (eqb-true e.command dgn b.0, b.1)

by_marked : (dgn : ℕ) (e : Entry) → (e.command ≡ dgn) × (e.zero_is_all ≡ true) → is_meant dgn 0 e ≡ true
unfolding is_meant
by_marked dgn e m = rw (eq-eqb e.command dgn m.0) m.1

pub zero_picks_marked : ZeroPicksMarked
zero_picks_marked dgn es k =
    let x = positions_exact (is_meant dgn 0) es k in (
      (λ s.
          let y = x.0 s in
          let m = marked_by dgn (entry_at es k) y.1 in
          (y.0, m.0, m.1)),
      (λ s. x.1 (s.0, by_marked dgn (entry_at es k) (s.1, s.2))),
    )

-- a pair stands once in the list, so an instance picks one entry at most

any_less : (f g : Entry → Bool) (es : List Entry) → ((e : Entry) → g e ≡ true → f e ≡ true) → any f es ≡ false → any g es ≡ false
any_less f g [] k e = refl
any_less f g (x ∷ es) k e =
    by_test (g x)
    (λ t. true_false (sym (rw (k x t)) ∙ e))
    (λ t. rw t (any_less f g es k (past_any (f x) (any f es) e)))
  where
    past_any : (a b : Bool) → a or b ≡ false → b ≡ false
    past_any true b e = true_false e
    past_any false b e = e

none_from : (f : Entry → Bool) (i : ℕ) (es : List Entry) → any f es ≡ false → positions_from i f es ≡ []
none_from f i [] e = refl
none_from f i (x ∷ es) e =
    by_test (f x)
    (λ t. true_false (sym (rw t) ∙ e))
    (λ t. rw t (none_from f (suc i) es (rw t at e)))

same_meant : (dgn instance : ℕ) (x e : Entry) → Meant dgn instance x → Meant dgn instance e → is_same_pair x e ≡ true
unfolding is_same_pair
same_meant dgn instance x e m n = rw (eq-eqb x.command e.command (m.0 ∙ sym n.0), eq-eqb x.instance e.instance (m.1 ∙ sym n.1))

one_from : (dgn instance i : ℕ) (es : List Entry) → (instance ≡ 0 → ⊥) → no_two is_same_pair es ≡ true
    → length (positions_from i (is_meant dgn instance) es) ≤ 1
one_from dgn instance i [] n e = omega arith
one_from dgn instance i (x ∷ es) n e =
    let b = both_true (not (any (is_same_pair x) es)) (no_two is_same_pair es) e in
    by_test (is_meant dgn instance x)
    (λ t.
    let m = meant_by_lem dgn instance x n t in
    let a : any (is_same_pair x) es ≡ false = flipped (any (is_same_pair x) es) b.0 in
    let o = any_less (is_same_pair x) (is_meant dgn instance) es (λ y u. same_meant dgn instance x y m (meant_by_lem dgn instance y n u)) a in
    rw (t, none_from (is_meant dgn instance) (suc i) es o) (omega arith))
    (λ t. rw t (one_from dgn instance (suc i) es n b.1))
  where
    flipped : (a : Bool) → not a ≡ true → a ≡ false
    flipped true e = sym e
    flipped false e = refl

pub instance_picks_one : InstancePicksOne
unfolding is_well_formed positions_where
instance_picks_one dgn instance h w n =
    let a = both_true (h.count ≤? most_entries) (every is_entry (hosted h) and no_two is_same_pair (hosted h)) w in
    let b = both_true (every is_entry (hosted h)) (no_two is_same_pair (hosted h)) a.1 in
    one_from dgn instance 0 (hosted h) n b.1

-- zero for a DGN without a mark

unmarked_none : (dgn : ℕ) (es : List Entry) → ((k : ℕ) → k < length es → (entry_at es k).command ≡ dgn → (entry_at es k).zero_is_all ≡ false)
    → any (is_meant dgn 0) es ≡ false
unmarked_none dgn [] u = refl
unmarked_none dgn (x ∷ es) u =
    by_test (is_meant dgn 0 x)
    (λ t. let m = marked_by dgn x t in true_false (sym m.1 ∙ u 0 (omega arith) m.0))
    (λ t. rw t (unmarked_none dgn es (λ k l. u (suc k) (omega arith))))

none_picked_in : (dgn instance : ℕ) (es : List Entry) (stand : Stand) → positions_where (is_meant (catalogue_form dgn) instance) es ≡ []
    → picked_in (route_of dgn instance es stand) ≡ []
unfolding route_of
none_picked_in dgn instance es stand p =
    by_test (any (has_command (catalogue_form dgn)) es)
    (λ t. rw t (go (address_held stand)))
    (λ t. rw t)
  where
    go : (t : Told ℕ)
        → picked_in (given t then λ address. if is_elsewhere (destined dgn) address then gives nothing_to_do else gives (picks (positions_where (is_meant (catalogue_form dgn) instance) es)))
        ≡ []
    go (refused n) = refl
    go (gives address) =
        by_test (is_elsewhere (destined dgn) address)
        (λ e. rw e)
        (λ e. rw (e, p))

pub slide_ignores_zero : SlideIgnoresZero
unfolding routed_of positions_where
slide_ignores_zero id bytes h c r p z u = p.positions ∙ ap filled (go (handed_in id bytes h c) refl)
  where
    go : (t : Told Parts) → handed_in id bytes h c ≡ t
        → picked_in (given t then λ parts. route_of parts.dgn (get_or bytes 0 0) (hosted h) (stand_of c)) ≡ []
    go (refused n) e = refl
    go (gives parts) e =
        let d = ap (λ (q : Parts). q.dgn) (checked_given id (length bytes) parts (handed_fine id bytes h c parts e).frame).1 in
        let o = unmarked_none (catalogue_form (dgn_of id)) (hosted h) u in
        let n : positions_where (is_meant (catalogue_form parts.dgn) (get_or bytes 0 0)) (hosted h) ≡ [] =
        rw (d, z) (none_from (is_meant (catalogue_form (dgn_of id)) 0) 0 (hosted h) o) in
        none_picked_in parts.dgn (get_or bytes 0 0) (hosted h) (stand_of c) n
