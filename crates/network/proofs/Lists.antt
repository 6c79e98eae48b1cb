-- Claims in lists: being in one, and the last one from an address.
-- Assumes nothing.
use Rattle.std.specs.Prelude.{if◌then◌else◌}
use mathlib.Core.Path.{◌≡◌, refl, sym, ap, ◌∙◌}
use mathlib.Core.Bool.{true}
use mathlib.Core.List.{List, [], ◌∷◌, ◌++◌}
use mathlib.Core.Logic.{◌⊎◌, inl, inr}
use mathlib.Core.Option.{Option, some, none}
use Prim.Native.Nat.{ℕ, zero, suc, ◌≤◌, ◌<◌}
use native.Mathlib.Decide.{ℕ_discrete}
use native.Mathlib.Omega.{arith}
use borrow.Author.Tests.{eq-eqb, ne_eqb, eqb-true}
use lib.ListN.{length, get_or, take, drop}
use Rattle.words.specs.Words.{◌=?◌}
use Rattle.words.proofs.Words.{by_test}
use Rattle.frame.specs.Identifier.{source_of}
use Rattle.network.specs.Network.{Sent, Node, off}
use Rattle.network.specs.Laws.{Own, last_by}
use Rattle.network.specs.Listener.{ClaimedFrom}

pub equal_or : {P : Type 0} (i j : ℕ) → (i ≡ j → P) → ((i ≡ j → ⊥) → P) → P
equal_or {P} i j f g = go (ℕ_discrete i j)
  where
    go : Dec (i ≡ j) → P
    go (yes e) = f e
    go (no n) = g n

-- ---- being in a list

abbrev pub In : Sent → List Sent → Type 0
In x [] = ⊥
In x (y ∷ l) = (x ≡ y) ⊎ In x l

pub in_left : (x : Sent) (l r : List Sent) → In x l → In x (l ++ r)
in_left x [] r h = absurd h
in_left x (y ∷ l) r (inl e) = inl e
in_left x (y ∷ l) r (inr h) = inr (in_left x l r h)

pub in_right : (x : Sent) (l r : List Sent) → In x r → In x (l ++ r)
in_right x [] r h = h
in_right x (y ∷ l) r h = inr (in_right x l r h)

pub in_either : (x : Sent) (l r : List Sent) → In x (l ++ r) → In x l ⊎ In x r
in_either x [] r h = inr h
in_either x (y ∷ l) r (inl e) = inl (inl e)
in_either x (y ∷ l) r (inr h) = go (in_either x l r h)
  where
    go : In x l ⊎ In x r → In x (y ∷ l) ⊎ In x r
    go (inl a) = inl (inr a)
    go (inr a) = inr a

pub in_drop : (x : Sent) (k : ℕ) (l : List Sent) → In x (drop k l) → In x l
in_drop x zero l h = h
in_drop x (suc k) [] h = absurd h
in_drop x (suc k) (y ∷ l) h = inr (in_drop x k l h)

pub in_take : (x : Sent) (k : ℕ) (l : List Sent) → In x (take k l) → In x l
in_take x zero l h = absurd h
in_take x (suc k) [] h = absurd h
in_take x (suc k) (y ∷ l) (inl e) = inl e
in_take x (suc k) (y ∷ l) (inr h) = inr (in_take x k l h)

-- the claim that is dropped down to, and what is left of the list without it

pub in_head : (n : ℕ) (l : List Sent) (x : Sent) (rest : List Sent) → drop n l ≡ x ∷ rest → In x l
in_head n l x rest d = in_drop x n l (rw d (inl refl))

pub in_rest : (y : Sent) (n : ℕ) (l : List Sent) (x : Sent) (rest : List Sent) → drop n l ≡ x ∷ rest
    → In y l → In y (take n l ++ rest) ⊎ (y ≡ x)
in_rest y n [] x rest d h = absurd h
in_rest y zero (z ∷ l) x rest d (inl e) = inr (e ∙ cc)
in_rest y zero (z ∷ l) x rest d (inr h) = let r : l ≡ rest = cc in inl (rw (← r) h)
in_rest y (suc n) (z ∷ l) x rest d (inl e) = inl (inl e)
in_rest y (suc n) (z ∷ l) x rest d (inr h) = go (in_rest y n l x rest d h)
  where
    go : In y (take n l ++ rest) ⊎ (y ≡ x) → In y (z ∷ (take n l ++ rest)) ⊎ (y ≡ x)
    go (inl a) = inl (inr a)
    go (inr a) = inr a

pub in_back : (y : Sent) (n : ℕ) (l : List Sent) (x : Sent) (rest : List Sent) → drop n l ≡ x ∷ rest
    → In y (take n l ++ rest) → In y l
in_back y n l x rest d h = go (in_either y (take n l) rest h)
  where
    go : In y (take n l) ⊎ In y rest → In y l
    go (inl a) = in_take y n l a
    go (inr a) = in_drop y n l (rw d (inr a))

-- one claim further

pub drop_next : (k : ℕ) (l : List Sent) (x : Sent) (rest : List Sent) → drop k l ≡ x ∷ rest
    → (drop (suc k) l ≡ rest) × (take (suc k) l ≡ take k l ++ (x ∷ [])) × (suc k ≤ length l)
drop_next zero [] x rest d = let z : ◌≡◌ {A = ℕ} 0 1 = cc in absurd (omega arith)
drop_next (suc k) [] x rest d = let z : ◌≡◌ {A = ℕ} 0 1 = cc in absurd (omega arith)
drop_next zero (y ∷ l) x rest d = let e : y ≡ x = cc in (cc, rw e refl, omega arith)
drop_next (suc k) (y ∷ l) x rest d = let h = drop_next k l x rest d in (h.0, ap (λ (t : List Sent). y ∷ t) h.1, omega (arith, h.2))

-- a node that is on has a number below that of the nodes
pub on_inside : (l : List Node) (i : ℕ) (s : Node) → get_or l i off ≡ s → (s ≡ off → ⊥) → i < length l
on_inside [] i s e n = absurd (n (sym e))
on_inside (t ∷ l) zero s e n = omega arith
on_inside (t ∷ l) (suc i) s e n = let h = on_inside l i s e n in omega arith

-- ---- own claims

pub own_in : (x : Sent) (i : ℕ) (l : List Sent) → Own i l → In x l → x.by ≡ i
own_in x i [] o h = absurd h
own_in x i (y ∷ l) o (inl e) = ap (λ (s : Sent). s.by) e ∙ o.0
own_in x i (y ∷ l) o (inr h) = own_in x i l o.1 h

pub own_all : (i : ℕ) (l : List Sent) → ((x : Sent) → In x l → x.by ≡ i) → Own i l
own_all i [] f = tt
own_all i (y ∷ l) f = (f y (inl refl), own_all i l (λ x h. f x (inr h)))

-- ---- the last claim from an address

pub last_append : (a : ℕ) (who : Option ℕ) (l r : List Sent) → last_by a who (l ++ r) ≡ last_by a (last_by a who l) r
last_append a who [] r = refl
last_append a who (x ∷ l) r = last_append a (if source_of x.id =? a then some x.by else who) l r

-- one more claim: from the address, or from another

pub last_here : (a : ℕ) (l : List Sent) (x : Sent) → source_of x.id ≡ a → last_by a none (l ++ (x ∷ [])) ≡ some x.by
last_here a l x e = last_append a none l (x ∷ []) ∙ rw (eq-eqb (source_of x.id) a e)

pub last_elsewhere : (a : ℕ) (l : List Sent) (x : Sent) → (source_of x.id ≡ a → ⊥)
    → last_by a none (l ++ (x ∷ [])) ≡ last_by a none l
last_elsewhere a l x e = last_append a none l (x ∷ []) ∙ rw (ne_eqb (source_of x.id) a e)

-- own claims leave the last word, and one among them from the address takes it

pub last_own : (a i : ℕ) (l : List Sent) → Own i l → last_by a (some i) l ≡ some i
last_own a i [] o = refl
last_own a i (x ∷ l) o =
    by_test (source_of x.id =? a)
    (λ t. rw (t, o.0) (last_own a i l o.1))
    (λ t. rw t (last_own a i l o.1))

pub last_taken : (a i : ℕ) (who : Option ℕ) (y : Sent) (l : List Sent) → Own i l → In y l → source_of y.id ≡ a
    → last_by a who l ≡ some i
last_taken a i who y [] o h e = absurd h
last_taken a i who y (x ∷ l) o (inl q) e =
    let s : source_of x.id ≡ a = ap (λ (z : Sent). source_of z.id) (sym q) ∙ e in
    rw (eq-eqb (source_of x.id) a s, o.0) (last_own a i l o.1)
last_taken a i who y (x ∷ l) o (inr h) e =
    last_taken a i (if source_of x.id =? a then some x.by else who) y l o.1 h e

-- from the first claim from an address on, it makes no difference who had the last word before

last_anyway : (a j : ℕ) (who other : Option ℕ) (l : List Sent) → ClaimedFrom j a l → last_by a who l ≡ last_by a other l
last_anyway a j who other [] h = absurd h
last_anyway a j who other (x ∷ l) (inl h) = rw (eq-eqb (source_of x.id) a h.1) refl
last_anyway a j who other (x ∷ l) (inr h) =
    by_test (source_of x.id =? a)
    (λ t. rw t refl)
    (λ t. rw t (last_anyway a j who other l h))

pub last_since : (a i j : ℕ) (l r : List Sent) → ClaimedFrom j a r → last_by a none (l ++ r) ≡ some i → last_by a none r ≡ some i
last_since a i j l r h e = last_anyway a j none (last_by a none l) r h ∙ sym (last_append a none l r) ∙ e

-- who has the last word has claimed the address
last_claimed : (a i : ℕ) (who : Option ℕ) (l : List Sent) → last_by a who l ≡ some i → (who ≡ some i) ⊎ ClaimedFrom i a l
last_claimed a i who [] e = inl e
last_claimed a i who (x ∷ l) e =
    by_test (source_of x.id =? a)
    (λ t. here t (last_claimed a i (some x.by) l (rw t at e)))
    (λ t. there (last_claimed a i who l (rw t at e)))
  where
    some_same : (j k : ℕ) → ◌≡◌ {A = Option ℕ} (some j) (some k) → j ≡ k
    some_same j k q = cc

    here : (source_of x.id =? a) ≡ true → (some x.by ≡ some i) ⊎ ClaimedFrom i a l → (who ≡ some i) ⊎ ClaimedFrom i a (x ∷ l)
    here t (inl q) = inr (inl (some_same x.by i q, eqb-true (source_of x.id) a t))
    here t (inr q) = inr (inr q)

    there : (who ≡ some i) ⊎ ClaimedFrom i a l → (who ≡ some i) ⊎ ClaimedFrom i a (x ∷ l)
    there (inl q) = inl q
    there (inr q) = inr (inr q)

pub word_claimed : (a i : ℕ) (l : List Sent) → last_by a none l ≡ some i → ClaimedFrom i a l
word_claimed a i l e = go (last_claimed a i none l e)
  where
    go : (◌≡◌ {A = Option ℕ} none (some i)) ⊎ ClaimedFrom i a l → ClaimedFrom i a l
    go (inl q) = let z : ◌≡◌ {A = ℕ} 0 1 = cc in absurd (omega arith)
    go (inr q) = q
