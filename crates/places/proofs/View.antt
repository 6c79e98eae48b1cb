-- Places and storage seen as places: what a search, one place replaced and a pause are there.
-- Assumes nothing.
use Rattle.std.specs.Prelude.{Some, None}
use Rattle.std.specs.Prelude.{if◌then◌else◌}
use mathlib.Core.Path.{◌≡◌, refl, sym, ap, ap₂, ◌∙◌}
use mathlib.Core.Bool.{Bool, true, false, not}
use mathlib.Core.List.{List, [], ◌∷◌, map}
use mathlib.Core.Logic.{◌↔◌, ◌≢◌}
use mathlib.Core.Option.{Option, some, none}
use Prim.Native.Nat.{ℕ, zero, suc, ◌+◌, ◌≤◌}
use native.Mathlib.Omega.{arith}
use borrow.Author.Tests.{eq-eqb, ne_eqb, eqb-true, eqb-false, not-true}
use lib.Dec.{eqb}
use lib.ListN.{length, get_or, set, replicate}
use Rattle.words.specs.Lists.{any, count, first, Absent}
use Rattle.words.proofs.Words.{by_test, both_true, true_false}
use Rattle.words.proofs.Lists.{absent_cons, absent_head, absent_tail, distinct_cons, distinct_head, distinct_tail}
use Rattle.places.specs.Format.{Format}
use Rattle.places.specs.Places.{Place, free, held, lookup, keyed, update, any_free, take_lowest, keys_of}
use Rattle.places.specs.Places.{OnePlaceEach, rest, pass, closes, closed_by}
use Rattle.places.specs.Layout.{stretch, AgreeBut, Layout, open_by, seat, view_from, view, same_holder, one_each}
use Rattle.words.proofs.Lists.{Hit, here, there, Miss, end, on, hit_at, miss_at, miss_nowhere}

module _ {P S : Type 0} (L : Layout P S) where
  -- an open place, a free one, and one that is not k's

  pub open_not_free : (k : ℕ) (p : P) → open_by L k p ≡ true → (L.is_free p ≡ false) × (L.key_of p ≡ k)
  open_not_free k p e =
      let t = both_true (not (L.is_free p)) _ e in
      (not-true (L.is_free p) t.0, eqb-true (L.key_of p) k t.1)

  pub not_free_open : (k : ℕ) (p : P) → L.is_free p ≡ false → L.key_of p ≡ k → open_by L k p ≡ true
  not_free_open k p f e = rw (f, e) (eq-eqb k k refl)

  pub seat_open : (k : ℕ) (p : P) (bytes : List ℕ) → open_by L k p ≡ true → seat L p bytes ≡ held k (L.session p bytes)
  seat_open k p bytes e = let t = open_not_free k p e in rw t.0 (ap (λ x. held x (L.session p bytes)) t.1)

  pub seat_free : (p : P) (bytes : List ℕ) → L.is_free p ≡ true → seat L p bytes ≡ free
  seat_free p bytes e = rw e

  abbrev Apart : ℕ → Place S → Type 0
  Apart k free = Unit {0}
  Apart k (held j s) = j ≢ k

  seat_apart : (k : ℕ) (p : P) (bytes : List ℕ) → open_by L k p ≡ false → Apart k (seat L p bytes)
  seat_apart k p bytes e =
      by_test (L.is_free p)
      (λ f. rw f tt)
      (λ f. rw f (eqb-false (L.key_of p) k (rw f at e)))

  lookup_apart : (k : ℕ) (q : Place S) (v : List (Place S)) → Apart k q → lookup k (q ∷ v) ≡ lookup k v
  lookup_apart k free v h = refl
  lookup_apart k (held j s) v h = rw (ne_eqb j k h)

  update_apart : (k : ℕ) (m : Option S) (q : Place S) (v : List (Place S)) → Apart k q → update k m (q ∷ v) ≡ q ∷ update k m v
  update_apart k m free v h = refl
  update_apart k m (held j s) v h = rw (ne_eqb j k h)

  -- what place i has of the storage
  abbrev own : ℕ → List ℕ → List ℕ
  own i s = stretch L.stride i s

  -- a search by key

  miss_lookup : (k i : ℕ) (ps : List P) (s : List ℕ) → Miss (open_by L k) ps → lookup k (view_from L i ps s) ≡ none
  miss_lookup k i ps s end = refl
  miss_lookup k i ps s (on {p = p} {ps = qs} e h) =
      lookup_apart k (seat L p (own i s)) (view_from L (suc i) qs s) (seat_apart k p (own i s) e) ∙ miss_lookup k (suc i) qs s h

  hit_lookup : (k i j n : ℕ) (ps : List P) (s : List ℕ) (d : P) → j ≡ i + n → Hit (open_by L k) ps n
      → lookup k (view_from L i ps s) ≡ some (L.session (get_or ps n d) (own j s))
  hit_lookup k i j n ps s d y (here {p = p} {ps = qs} e) =
      let z : j ≡ i = omega arith in
      rw (seat_open k p (own i s) e, eq-eqb k k refl, z)
  hit_lookup k i j n ps s d y (there {p = p} {ps = qs} {n = m} e h) =
      lookup_apart k (seat L p (own i s)) (view_from L (suc i) qs s) (seat_apart k p (own i s) e) ∙ hit_lookup k (suc i) j m qs s d (omega arith) h

  -- what it finds is what the places have

  pub lookup_nowhere : (k : ℕ) (ps : List P) (storage : List ℕ) → first (open_by L k) ps ≡ None
      → lookup k (view L ps storage) ≡ none
  lookup_nowhere k ps s e = miss_lookup k 0 ps s (miss_at (open_by L k) ps e)

  pub lookup_at : (k j : ℕ) (ps : List P) (storage : List ℕ) (d : P) → first (open_by L k) ps ≡ Some j
      → lookup k (view L ps storage) ≡ some (L.session (get_or ps j d) (stretch L.stride j storage))
  lookup_at k j ps s d e = hit_lookup k 0 j j ps s d (omega arith) (hit_at (open_by L k) ps e)

  -- one place set, and no other's stretch written

  view_agree : (i : ℕ) (ps : List P) (s t : List ℕ) → ((l : ℕ) → i ≤ l → own l t ≡ own l s) → view_from L i ps t ≡ view_from L i ps s
  view_agree i [] s t a = refl
  view_agree i (p ∷ ps) s t a = ap₂ (λ x y. x ∷ y) (ap (seat L p) (a i (omega arith))) (view_agree (suc i) ps s t (λ l h. a l (omega arith)))

  hit_update : (k i j n : ℕ) (ps : List P) (s t : List ℕ) (q : P) (m : Option S) → j ≡ i + n → Hit (open_by L k) ps n
      → seat L q (own j t) ≡ keyed k m → AgreeBut L.stride j s t → view_from L i (set ps n q) t ≡ update k m (view_from L i ps s)
  hit_update k i j n ps s t q m y (here {p = p} {ps = qs} e) g a =
      let z : i ≡ j = omega arith in
      rw (seat_open k p (own i s) e, eq-eqb k k refl)
      (ap₂ (λ x v. x ∷ v) (ap (λ x. seat L q (own x t)) z ∙ g) (view_agree (suc i) qs s t (λ l h. a l (λ x. omega arith))))
  hit_update k i j n ps s t q m y (there {p = p} {ps = qs} {n = r} e h) g a =
      ap₂ (λ x v. x ∷ v) (ap (seat L p) (a i (λ x. omega arith))) (hit_update k (suc i) j r qs s t q m (omega arith) h g a)
      ∙ sym (update_apart k m (seat L p (own i s)) (view_from L (suc i) qs s) (seat_apart k p (own i s) e))

  -- where the storage t agrees with s but in the stretch of the place that is set, k's place goes on
  pub update_at : (k j : ℕ) (ps : List P) (s t : List ℕ) (q : P) → first (open_by L k) ps ≡ Some j → open_by L k q ≡ true
      → AgreeBut L.stride j s t
      → view L (set ps j q) t ≡ update k (some (L.session q (stretch L.stride j t))) (view L ps s)
  update_at k j ps s t q e o a =
      hit_update k 0 j j ps s t q (some (L.session q (own j t))) (omega arith) (hit_at (open_by L k) ps e) (seat_open k q (own j t) o) a

  -- or closes
  pub close_at : (k j : ℕ) (ps : List P) (s t : List ℕ) (q : P) → first (open_by L k) ps ≡ Some j → L.is_free q ≡ true
      → AgreeBut L.stride j s t
      → view L (set ps j q) t ≡ update k none (view L ps s)
  close_at k j ps s t q e o a = hit_update k 0 j j ps s t q none (omega arith) (hit_at (open_by L k) ps e) (seat_free q (own j t) o) a

  -- the lowest free place

  miss_free : (i : ℕ) (ps : List P) (s : List ℕ) → Miss L.is_free ps → any_free (view_from L i ps s) ≡ false
  miss_free i ps s end = refl
  miss_free i ps s (on {ps = qs} e h) = rw e (miss_free (suc i) qs s h)

  free_miss : (i : ℕ) (ps : List P) (s : List ℕ) → any_free (view_from L i ps s) ≡ false → Miss L.is_free ps
  free_miss i [] s h = end
  free_miss i (p ∷ ps) s h =
      by_test (L.is_free p)
      (λ f. true_false (rw f at h))
      (λ f. on f (free_miss (suc i) ps s (rw f at h)))

  hit_free : (i n : ℕ) (ps : List P) (s : List ℕ) → Hit L.is_free ps n → any_free (view_from L i ps s) ≡ true
  hit_free i n ps s (here e) = rw e
  hit_free i n ps s (there {ps = qs} {n = m} e h) = rw e (hit_free (suc i) m qs s h)

  -- a search for it

  pub free_nowhere : (ps : List P) (storage : List ℕ)
      → (first L.is_free ps ≡ None) ↔ (any_free (view L ps storage) ≡ false)
  free_nowhere ps s = (
    (λ e. miss_free 0 ps s (miss_at L.is_free ps e)),
    (λ h. miss_nowhere L.is_free 0 ps (free_miss 0 ps s h)),
  )

  pub free_at : (j : ℕ) (ps : List P) (storage : List ℕ) → first L.is_free ps ≡ Some j
      → any_free (view L ps storage) ≡ true
  free_at j ps s e = hit_free 0 j ps s (hit_at L.is_free ps e)

  hit_take : (k i j n : ℕ) (ps : List P) (s t : List ℕ) (q : P) (x : S) → j ≡ i + n → Hit L.is_free ps n → seat L q (own j t) ≡ held k x
      → AgreeBut L.stride j s t → view_from L i (set ps n q) t ≡ take_lowest k x (view_from L i ps s)
  hit_take k i j n ps s t q x y (here {p = p} {ps = qs} e) g a =
      let z : i ≡ j = omega arith in
      rw e (ap₂ (λ o v. o ∷ v) (ap (λ l. seat L q (own l t)) z ∙ g) (view_agree (suc i) qs s t (λ l h. a l (λ w. omega arith))))
  hit_take k i j n ps s t q x y (there {p = p} {ps = qs} {n = m} e h) g a =
      rw e (ap₂ (λ o v. held (L.key_of p) (L.session p o) ∷ v) (a i (λ w. omega arith)) (hit_take k (suc i) j m qs s t q x (omega arith) h g a))

  -- k takes it
  pub take_at : (k j : ℕ) (ps : List P) (s t : List ℕ) (q : P) → first L.is_free ps ≡ Some j → open_by L k q ≡ true
      → AgreeBut L.stride j s t
      → view L (set ps j q) t ≡ take_lowest k (L.session q (stretch L.stride j t)) (view L ps s)
  take_at k j ps s t q e o a =
      hit_take k 0 j j ps s t q (L.session q (own j t)) (omega arith) (hit_at L.is_free ps e) (seat_open k q (own j t) o) a

  hit_write : (i j n : ℕ) (ps : List P) (s t : List ℕ) → j ≡ i + n → Hit L.is_free ps n → AgreeBut L.stride j s t
      → view_from L i ps t ≡ view_from L i ps s
  hit_write i j n ps s t y (here {p = p} {ps = qs} e) a = rw e (ap (λ v. free ∷ v) (view_agree (suc i) qs s t (λ l h. a l (λ w. omega arith))))
  hit_write i j n ps s t y (there {p = p} {ps = qs} {n = m} e h) a =
      ap₂ (λ x v. x ∷ v) (ap (seat L p) (a i (λ w. omega arith))) (hit_write (suc i) j m qs s t (omega arith) h a)

  -- what is written into its stretch changes nothing
  pub free_write : (j : ℕ) (ps : List P) (s t : List ℕ) → first L.is_free ps ≡ Some j → AgreeBut L.stride j s t
      → view L ps t ≡ view L ps s
  free_write j ps s t e a = hit_write 0 j j ps s t (omega arith) (hit_at L.is_free ps e) a

  -- no key has two places

  none_open : (k i : ℕ) (ps : List P) (s : List ℕ) → any (open_by L k) ps ≡ false → Absent k (keys_of (view_from L i ps s))
  none_open k i [] s h = refl
  none_open k i (p ∷ ps) s h =
      by_test (L.is_free p)
      (λ f. rw f (none_open k (suc i) ps s (rw f at h)))
      (λ f. by_test (eqb (L.key_of p) k)
      (λ g. true_false (rw (f, g) at h))
      (λ g.
      let ks = keys_of (view_from L (suc i) ps s) in
      let n : k ≢ L.key_of p = λ e. eqb-false (L.key_of p) k g (sym e) in
      rw f (absent_cons k (L.key_of p) ks n (none_open k (suc i) ps s (rw (f, g) at h)))))

  open_none : (k i : ℕ) (ps : List P) (s : List ℕ) → Absent k (keys_of (view_from L i ps s)) → any (open_by L k) ps ≡ false
  open_none k i [] s h = refl
  open_none k i (p ∷ ps) s h =
      by_test (L.is_free p)
      (λ f. rw f (open_none k (suc i) ps s (rw f at h)))
      (λ f.
      let h' = rw f at h in
      let ks = keys_of (view_from L (suc i) ps s) in
      let n : L.key_of p ≢ k = λ e. absent_head k (L.key_of p) ks h' (sym e) in
      rw (f, ne_eqb (L.key_of p) k n) (open_none k (suc i) ps s (absent_tail k (L.key_of p) ks h')))

  -- a free place has no holder; an open one has the same as each that is open by its key

  pub free_same : (p : P) (ps : List P) → L.is_free p ≡ true → any (same_holder L p) ps ≡ false
  free_same p [] f = refl
  free_same p (q ∷ ps) f = rw f (free_same p ps f)

  pub open_same : (p : P) (ps : List P) → L.is_free p ≡ false → any (same_holder L p) ps ≡ any (open_by L (L.key_of p)) ps
  open_same p [] f = refl
  open_same p (q ∷ ps) f = rw (f, open_same p ps f)

  each_view : (i : ℕ) (ps : List P) (s : List ℕ) → one_each L ps ≡ true → OnePlaceEach (view_from L i ps s)
  each_view i [] s h = refl
  each_view i (p ∷ ps) s h =
      let t = both_true (not (any (same_holder L p) ps)) _ h in
      by_test (L.is_free p)
      (λ f. rw f (each_view (suc i) ps s t.1))
      (λ f.
      let ks = keys_of (view_from L (suc i) ps s) in
      let alone = not-true (any (same_holder L p) ps) t.0 in
      let a = none_open (L.key_of p) (suc i) ps s (sym (open_same p ps f) ∙ alone) in
      rw f (distinct_cons (L.key_of p) ks a (each_view (suc i) ps s t.1)))

  view_each : (i : ℕ) (ps : List P) (s : List ℕ) → OnePlaceEach (view_from L i ps s) → one_each L ps ≡ true
  view_each i [] s h = refl
  view_each i (p ∷ ps) s h =
      by_test (L.is_free p)
      (λ f. rw (free_same p ps f) (view_each (suc i) ps s (rw f at h)))
      (λ f.
      let h' = rw f at h in
      let ks = keys_of (view_from L (suc i) ps s) in
      let a = open_none (L.key_of p) (suc i) ps s (distinct_head (L.key_of p) ks h') in
      rw (open_same p ps f, a) (view_each (suc i) ps s (distinct_tail (L.key_of p) ks h')))

  -- that is what `one_each` computes
  pub one_each_view : (ps : List P) (storage : List ℕ) → (one_each L ps ≡ true) ↔ OnePlaceEach (view L ps storage)
  one_each_view ps s = ((λ h. each_view 0 ps s h), (λ h. view_each 0 ps s h))

  -- the number of places, and blank ones

  length_from : (i : ℕ) (ps : List P) (s : List ℕ) → length (view_from L i ps s) ≡ length ps
  length_from i [] s = refl
  length_from i (p ∷ ps) s = ap suc (length_from (suc i) ps s)

  pub length_view : (ps : List P) (storage : List ℕ) → length (view L ps storage) ≡ length ps
  length_view ps s = length_from 0 ps s

  blank_from : (i n : ℕ) (s : List ℕ) → view_from L i (replicate n L.blank) s ≡ replicate n free
  blank_from i zero s = refl
  blank_from i (suc n) s = ap₂ (λ x v. x ∷ v) (seat_free L.blank (own i s) L.blank_free) (blank_from (suc i) n s)

  pub blank_view : (n : ℕ) (storage : List ℕ) → view L (replicate n L.blank) storage ≡ replicate n free
  blank_view n s = blank_from 0 n s

-- a pause of all places, by a function that does to each what the format says of its session, and the count of those
-- that it closes

module _ {P : Type 0} (𝓕 : Format) (L : Layout P 𝓕.Session) where
  pass_from : (ms : ℕ) (f : P → P) → ((p : P) (bytes : List ℕ) → seat L (f p) bytes ≡ rest 𝓕 ms (seat L p bytes)) → (i : ℕ) (ps : List P) (s : List ℕ)
      → view_from L i (map f ps) s ≡ pass 𝓕 ms (view_from L i ps s)
  pass_from ms f k i [] s = refl
  pass_from ms f k i (p ∷ ps) s = ap₂ (λ x v. x ∷ v) (k p (stretch L.stride i s)) (pass_from ms f k (suc i) ps s)

  pub view_pass : (ms : ℕ) (f : P → P) → ((p : P) (bytes : List ℕ) → seat L (f p) bytes ≡ rest 𝓕 ms (seat L p bytes))
      → (ps : List P) (storage : List ℕ)
      → view L (map f ps) storage ≡ pass 𝓕 ms (view L ps storage)
  view_pass ms f k ps s = pass_from ms f k 0 ps s

  closes_from : (ms : ℕ) (f : P → Bool) → ((p : P) (bytes : List ℕ) → f p ≡ closes 𝓕 ms (seat L p bytes)) → (i : ℕ) (ps : List P) (s : List ℕ)
      → count f ps ≡ closed_by 𝓕 ms (view_from L i ps s)
  closes_from ms f k i [] s = refl
  closes_from ms f k i (p ∷ ps) s = ap₂ (λ (b : Bool) (n : ℕ). (if b then 1 else 0) + n) (k p (stretch L.stride i s)) (closes_from ms f k (suc i) ps s)

  pub view_closes : (ms : ℕ) (f : P → Bool) → ((p : P) (bytes : List ℕ) → f p ≡ closes 𝓕 ms (seat L p bytes))
      → (ps : List P) (storage : List ℕ)
      → count f ps ≡ closed_by 𝓕 ms (view L ps storage)
  view_closes ms f k ps s = closes_from ms f k 0 ps s
