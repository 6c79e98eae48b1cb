-- Laws of the tests on lists, and the turns of the loops that search, count, test, compare, replace and fill up.
-- Assumes nothing.
use Rattle.std.specs.Prelude.{if◌then◌else◌}
use mathlib.Core.Path.{◌≡◌, refl, sym, ap, ◌∙◌}
use mathlib.Core.Bool.{Bool, true, false, not}
use mathlib.Core.List.{List, [], ◌∷◌, ◌++◌, map, append-nil, append_assoc}
use mathlib.Core.Logic.{◌≢◌}
use Prim.Native.Nat.{ℕ, zero, suc, ◌+◌, ◌-◌, ◌≤◌, ◌<◌, min}
use native.Mathlib.Nat.{le_of_suc-le-suc, not-suc-le-zero, le_refl, sub_self}
use native.Mathlib.Numerals.{add-one}
use native.Mathlib.Omega.{arith}
use borrow.Author.Tests.{eq-eqb, ne_eqb, leb-true, leb-false, not-true}
use lib.Dec.{eqb}
use lib.ListN.{length, take, drop, get_or, set, replicate, drop_of_length-le, length-map, length-set}
use lib.Seq.{take_all, take-suc, take-append-le, take-append-add, drop-cons, set_at, get_or-set_other, length-take-le}
use Rattle.words.specs.Words.{◌≤?◌, ◌=?◌}
use Rattle.words.specs.Lists.{any, every, count, first_from, first}
use Rattle.words.specs.Lists.{no_two, Absent, Distinct, filled_to}
use Rattle.std.specs.Prelude.{Option, Some, None}
use Rattle.words.proofs.Words.{by_test, both_true, true_false}

-- what owning a struct tells of an array of structs in it: how many elements it has
pub length_field : (X Y : Type 0) (f : X → Y) (l : List X) (n : ℕ) → length (map f l) ≡ n → length l ≡ n
length_field X Y f l n e = sym (length-map l f) ∙ e

module _ {P : Type 0} where
  -- a turn of a search that passes the element at i
  pub search_pass : (f : P → Bool) (ps : List P) (i : ℕ) (d : P) → i < length ps → f (get_or ps i d) ≡ false
      → first_from f i (drop i ps) ≡ first_from f (i + 1) (drop (i + 1) ps)
  search_pass f ps i d h e = rw (drop-cons ps i d h, e, add-one)

  -- one that stops there
  pub search_stop : (f : P → Bool) (ps : List P) (i : ℕ) (d : P) → i < length ps → f (get_or ps i d) ≡ true → first_from f i (drop i ps) ≡ Some i
  search_stop f ps i d h e = rw (drop-cons ps i d h, e)

  -- and the end of one that finds none
  pub search_end : (f : P → Bool) (ps : List P) (i : ℕ) → length ps ≤ i → first_from f i (drop i ps) ≡ None
  search_end f ps i h = rw (drop_of_length-le ps h)

  -- a turn of a loop that asks whether any element passes

  pub any_pass : (f : P → Bool) (ps : List P) (i : ℕ) (d : P) → i < length ps → f (get_or ps i d) ≡ false → any f (drop i ps) ≡ any f (drop (i + 1) ps)
  any_pass f ps i d h e = rw (add-one, drop-cons ps i d h, e)

  pub any_stop : (f : P → Bool) (ps : List P) (i : ℕ) (d : P) → i < length ps → f (get_or ps i d) ≡ true → any f (drop i ps) ≡ true
  any_stop f ps i d h e = rw (drop-cons ps i d h, e)

  pub any_end : (f : P → Bool) (ps : List P) (i : ℕ) → length ps ≤ i → any f (drop i ps) ≡ false
  any_end f ps i h = rw (drop_of_length-le ps h)

  -- and whether every one does

  pub every_pass : (f : P → Bool) (ps : List P) (i : ℕ) (d : P) → i < length ps → f (get_or ps i d) ≡ true → every f (drop i ps) ≡ every f (drop (i + 1) ps)
  every_pass f ps i d h e = rw (add-one, drop-cons ps i d h, e)

  pub every_stop : (f : P → Bool) (ps : List P) (i : ℕ) (d : P) → i < length ps → f (get_or ps i d) ≡ false → every f (drop i ps) ≡ false
  every_stop f ps i d h e = rw (drop-cons ps i d h, e)

  pub every_end : (f : P → Bool) (ps : List P) (i : ℕ) → length ps ≤ i → every f (drop i ps) ≡ true
  every_end f ps i h = rw (drop_of_length-le ps h)

  -- and whether no two are alike

  pub no_two_pass : (alike : P → P → Bool) (ps : List P) (i : ℕ) (d : P) → i < length ps
      → any (alike (get_or ps i d)) (drop (i + 1) ps) ≡ false → no_two alike (drop i ps) ≡ no_two alike (drop (i + 1) ps)
  no_two_pass alike ps i d h e = let e' = rw add-one at e in rw (add-one, drop-cons ps i d h, e')

  pub no_two_stop : (alike : P → P → Bool) (ps : List P) (i : ℕ) (d : P) → i < length ps
      → any (alike (get_or ps i d)) (drop (i + 1) ps) ≡ true → no_two alike (drop i ps) ≡ false
  no_two_stop alike ps i d h e = let e' = rw add-one at e in rw (drop-cons ps i d h, e')

  pub no_two_end : (alike : P → P → Bool) (ps : List P) (i : ℕ) → length ps ≤ i → no_two alike (drop i ps) ≡ true
  no_two_end alike ps i h = rw (drop_of_length-le ps h)

  -- what a test of every element says of one

  pub every_at : (f : P → Bool) (ps : List P) (i : ℕ) (d : P) → i < length ps → every f ps ≡ true → f (get_or ps i d) ≡ true
  every_at f [] i d h e = absurd (not-suc-le-zero h)
  every_at f (p ∷ ps) zero d h e = (both_true (f p) _ e).0
  every_at f (p ∷ ps) (suc i) d h e = every_at f ps i d (le_of_suc-le-suc h) (both_true (f p) _ e).1

  pub every_map : (f : P → Bool) (g : P → P) → ((p : P) → f p ≡ true → f (g p) ≡ true) → (ps : List P) → every f ps ≡ true → every f (map g ps) ≡ true
  every_map f g k [] e = refl
  every_map f g k (p ∷ ps) e = let t = both_true (f p) _ e in rw (k p t.0, every_map f g k ps t.1)

  pub every_replicate : (f : P → Bool) (n : ℕ) (p : P) → f p ≡ true → every f (replicate n p) ≡ true
  every_replicate f zero p e = refl
  every_replicate f (suc n) p e = rw (e, every_replicate f n p e)

  -- a loop that replaces each element by its image, and counts those that pass a test before

  count_one : (f : P → Bool) (ps : List P) (i : ℕ) (d : P) → i < length ps
      → count f (take (suc i) ps) ≡ count f (take i ps) + (if f (get_or ps i d) then 1 else 0)
  count_one f [] i d h = absurd (not-suc-le-zero h)
  count_one f (p ∷ ps) zero d h = omega arith
  count_one f (p ∷ ps) (suc i) d h = omega (arith, count_one f ps i d (le_of_suc-le-suc h))

  image_one : (f : P → P) (l : List P) (i : ℕ) (d : P) → i < length l
      → set (map f (take i l) ++ drop i l) i (f (get_or l i d)) ≡ map f (take (suc i) l) ++ drop (suc i) l
  image_one f [] i d h = absurd (not-suc-le-zero h)
  image_one f (x ∷ l) zero d h = refl
  image_one f (x ∷ l) (suc i) d h = ap (λ t. f x ∷ t) (image_one f l i d (le_of_suc-le-suc h))

  -- what stands at i has not been replaced yet
  pub map_at : (f : P → P) (l : List P) (i : ℕ) (d : P) → i < length l → get_or (map f (take i l) ++ drop i l) i d ≡ get_or l i d
  map_at f [] i d h = absurd (not-suc-le-zero h)
  map_at f (x ∷ l) zero d h = refl
  map_at f (x ∷ l) (suc i) d h = map_at f l i d (le_of_suc-le-suc h)

  pub image_turn : (f : P → P) (l ps : List P) (i : ℕ) (d q : P) → i < length l → ps ≡ map f (take i l) ++ drop i l
      → q ≡ f (get_or ps i d) → set ps i q ≡ map f (take (i + 1) l) ++ drop (i + 1) l
  image_turn f l ps i d q h e k = rw (k, e, map_at f l i d h, add-one) (image_one f l i d h)

  pub count_turn : (f : P → Bool) (g : P → P) (l ps : List P) (i : ℕ) (d : P) (b : Bool) (n m : ℕ) → i < length l
      → ps ≡ map g (take i l) ++ drop i l → n ≡ count f (take i l) → b ≡ f (get_or ps i d) → m ≡ n + (if b then 1 else 0)
      → m ≡ count f (take (i + 1) l)
  count_turn f g l ps i d b n m h p e k s = s ∙ rw (add-one, count_one f l i d h, e, k, p, map_at g l i d h)

  pub image_end : (f : P → P) (l ps : List P) (i : ℕ) → length l ≤ i → ps ≡ map f (take i l) ++ drop i l → ps ≡ map f l
  image_end f l ps i h e = e ∙ rw (take_all i l h, drop_of_length-le l h) (append-nil _)

  pub count_end : (f : P → Bool) (l : List P) (i n : ℕ) → length l ≤ i → n ≡ count f (take i l) → n ≡ count f l
  count_end f l i n h e = e ∙ rw (take_all i l h)

  -- where a search stops

  pub data Hit (f : P → Bool) : List P → ℕ → Type 0 where
    here : {p : P} {ps : List P} → f p ≡ true → Hit f (p ∷ ps) 0
    there : {p : P} {ps : List P} {n : ℕ} → f p ≡ false → Hit f ps n → Hit f (p ∷ ps) (suc n)

  pub data Miss (f : P → Bool) : List P → Type 0 where
    end : Miss f []
    on : {p : P} {ps : List P} → f p ≡ false → Miss f ps → Miss f (p ∷ ps)

  abbrev Hits : (P → Bool) → ℕ → List P → Option ℕ → Type 0
  Hits f i ps (Some j) = (n : ℕ) × (j ≡ i + n) × Hit f ps n
  Hits f i ps None = Miss f ps

  hits_on : (f : P → Bool) (i : ℕ) (p : P) (ps : List P) (r : Option ℕ) → f p ≡ false → Hits f (i + 1) ps r → Hits f i (p ∷ ps) r
  hits_on f i p ps (Some j) e h = (suc h.0, omega (arith, h.1), there e h.2)
  hits_on f i p ps None e h = on e h

  hits : (f : P → Bool) (i : ℕ) (ps : List P) → Hits f i ps (first_from f i ps)
  hits f i [] = end
  hits f i (p ∷ ps) =
      by_test (f p)
      (λ e. rw e (0, omega arith, here e))
      (λ e. rw e (hits_on f i p ps (first_from f (i + 1) ps) e (hits f (i + 1) ps)))

  pub hit_at : {j : ℕ} (f : P → Bool) (ps : List P) → first f ps ≡ Some j → Hit f ps j
  hit_at {j} f ps e =
      let h = rw e at (hits f 0 ps) in
      let y : j ≡ h.0 = omega (arith, h.1) in
      rw y h.2

  pub miss_at : (f : P → Bool) (ps : List P) → first f ps ≡ None → Miss f ps
  miss_at f ps e = rw e at (hits f 0 ps)

  -- a miss is found nowhere
  pub miss_nowhere : (f : P → Bool) (i : ℕ) (ps : List P) → Miss f ps → first_from f i ps ≡ None
  miss_nowhere f i ps end = refl
  miss_nowhere f i ps (on {ps = qs} e h) = rw (e, miss_nowhere f (i + 1) qs h)

  hit_below : (f : P → Bool) (ps : List P) (j : ℕ) → Hit f ps j → j < length ps
  hit_below f ps j (here e) = omega arith
  hit_below f ps j (there {ps = qs} {n = n} e h) = omega (arith, hit_below f qs n h)

  hit_passes : (f : P → Bool) (ps : List P) (j : ℕ) (d : P) → Hit f ps j → f (get_or ps j d) ≡ true
  hit_passes f ps j d (here e) = e
  hit_passes f ps j d (there {ps = qs} {n = n} e h) = hit_passes f qs n d h

  hit_lowest : (f : P → Bool) (ps : List P) (j : ℕ) (d : P) → Hit f ps j → (i : ℕ) → i < j → f (get_or ps i d) ≡ false
  hit_lowest f ps j d (here e) i l = absurd (not-suc-le-zero l)
  hit_lowest f ps j d (there e h) zero l = e
  hit_lowest f ps j d (there {ps = qs} {n = n} e h) (suc i) l = hit_lowest f qs n d h i (le_of_suc-le-suc l)

  miss_all : (f : P → Bool) (ps : List P) (d : P) → Miss f ps → (i : ℕ) → i < length ps → f (get_or ps i d) ≡ false
  miss_all f ps d end i l = absurd (not-suc-le-zero l)
  miss_all f ps d (on e h) zero l = e
  miss_all f ps d (on {ps = qs} e h) (suc i) l = miss_all f qs d h i (le_of_suc-le-suc l)

  -- j is the first position that passes the test
  pub record FirstAt (f : P → Bool) (ps : List P) (d : P) (j : ℕ) : Type 0 where
    pub below : j < length ps
    pub passes : f (get_or ps j d) ≡ true
    pub lowest : (i : ℕ) → i < j → f (get_or ps i d) ≡ false

  pub found_at : (j : ℕ) (f : P → Bool) (ps : List P) (d : P) → first f ps ≡ Some j → FirstAt f ps d j
  found_at j f ps d e =
      let h = hit_at f ps e in
      record { below = hit_below f ps j h; passes = hit_passes f ps j d h; lowest = hit_lowest f ps j d h }

  pub found_nowhere : (f : P → Bool) (ps : List P) (d : P) → first f ps ≡ None
      → (i : ℕ) → i < length ps → f (get_or ps i d) ≡ false
  found_nowhere f ps d e = miss_all f ps d (miss_at f ps e)

  -- One element replaced keeps the others, and how many there are; where all pass a test and the new one does, all do.

  pub set_keeps : (ps : List P) (i : ℕ) (p d : P)
      → (length (set ps i p) ≡ length ps) × ((j : ℕ) → j ≢ i → get_or (set ps i p) j d ≡ get_or ps j d)
  set_keeps ps i p d = (length-set ps i p, λ j n. get_or-set_other ps i j p d n)

  pub every_set : (f : P → Bool) (ps : List P) (i : ℕ) (p : P) → every f ps ≡ true → f p ≡ true → every f (set ps i p) ≡ true
  every_set f [] i p e k = refl
  every_set f (x ∷ ps) zero p e k = rw (k, (both_true (f x) _ e).1)
  every_set f (x ∷ ps) (suc i) p e k = let t = both_true (f x) _ e in rw (t.0, every_set f ps i p t.1 k)

  -- the loop that fills up

  pub replicate_cons : (n : ℕ) (p : P) → 0 < n → replicate n p ≡ p ∷ replicate (n - 1) p
  replicate_cons zero p h = absurd (omega arith)
  replicate_cons (suc n) p h = let e : suc n - 1 ≡ n = omega arith in rw e

  pub fill_turn : (l out : List P) (i n : ℕ) (d z : P) → i < length l → i < n → out ≡ take i l ++ replicate (n - i) z
      → set out i (get_or l i d) ≡ take (i + 1) l ++ replicate (n - (i + 1)) z
  fill_turn l out i n d z h k e =
      let p : 0 < n - i = omega arith in
      let m : n - i - 1 ≡ n - suc i = omega arith in
      let j : i ≤ length l = omega arith in
      let s = set_at (take i l) z (replicate (n - suc i) z) (get_or l i d) i (length-take-le i l j) in
      rw (e, add-one, replicate_cons (n - i) z p, m, s, take-suc l i d h)
      (sym (append_assoc (take i l) (get_or l i d ∷ []) (replicate (n - suc i) z)))

  pub fill_end : (l out : List P) (i n : ℕ) (z : P) → i ≡ length l → out ≡ take i l ++ replicate (n - i) z → out ≡ filled_to n z l
  fill_end l out i n z h e = e ∙ rw (h, take_all (length l) l (omega arith))

-- numbers of which none is k, and which are all different, one by one

pub absent_cons : (k j : ℕ) (js : List ℕ) → k ≢ j → Absent k js → Absent k (j ∷ js)
absent_cons k j js n h = rw (ne_eqb k j n, h)

pub absent_head : (k j : ℕ) (js : List ℕ) → Absent k (j ∷ js) → k ≢ j
absent_head k j js h e = true_false (rw (eq-eqb k j e) at h)

pub absent_tail : (k j : ℕ) (js : List ℕ) → Absent k (j ∷ js) → Absent k js
absent_tail k j js h =
    by_test (eqb k j)
    (λ e. true_false (rw e at h))
    (λ e. rw e at h)

pub distinct_cons : (j : ℕ) (js : List ℕ) → Absent j js → Distinct js → Distinct (j ∷ js)
distinct_cons j js a d = rw (a, d)

pub distinct_head : (j : ℕ) (js : List ℕ) → Distinct (j ∷ js) → Absent j js
distinct_head j js d = not-true _ (both_true (not (any (◌=?◌ j) js)) _ d).0

pub distinct_tail : (j : ℕ) (js : List ℕ) → Distinct (j ∷ js) → Distinct js
distinct_tail j js d = (both_true (not (any (◌=?◌ j) js)) _ d).1

-- parts of a filling

drop_filling : (n k f : ℕ) → drop n (replicate k f) ≡ replicate (k - n) f
drop_filling zero k f = let e : k ≡ k - 0 = omega arith in ap (λ (m : ℕ). replicate m f) e
drop_filling (suc n) zero f = let e : 0 ≡ 0 - suc n = omega arith in ap (λ (m : ℕ). replicate m f) e
drop_filling (suc n) (suc k) f =
    let e : k - n ≡ suc k - suc n = omega arith in
    drop_filling n k f ∙ ap (λ (m : ℕ). replicate m f) e

take_filling : (n k f : ℕ) → n ≤ k → take n (replicate k f) ≡ replicate n f
take_filling zero k f h = refl
take_filling (suc n) zero f h = absurd (not-suc-le-zero h)
take_filling (suc n) (suc k) f h = ap (λ (l : List ℕ). f ∷ l) (take_filling n k f (le_of_suc-le-suc h))

-- the first k elements of a list, filled up
pub filled : (k f n : ℕ) (l : List ℕ) → n ≡ min k (length l)
    → take k (l ++ replicate k f) ≡ take n l ++ drop n (replicate k f)
filled k f n l e =
    by_test (k ≤? length l)
    (λ t.
    let h : k ≤ length l = leb-true _ _ t in
    let y : n ≡ k = omega arith in
    rw (take-append-le k l (replicate k f) h, y, drop_filling k k f, sub_self k) (sym (append-nil (take k l))))
    (λ t.
    let h : length l < k = leb-false _ _ t in
    let y : n ≡ length l = omega arith in
    let j : k ≡ length l + (k - length l) = omega arith in
    ap (λ (m : ℕ). take m (l ++ replicate k f)) j
    ∙ take-append-add l (replicate k f) (k - length l)
    ∙ rw (y, take_all (length l) l (le_refl _), drop_filling (length l) k f)
    (ap (λ (r : List ℕ). l ++ r) (take_filling (k - length l) k f (omega arith))))
