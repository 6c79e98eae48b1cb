-- Stretches of the storage, of any stride: a copy into one leaves the others as they were.
-- Assumes nothing.
use mathlib.Core.Path.{◌≡◌, sym, ap, ◌∙◌}
use mathlib.Core.List.{List, ◌++◌, append_assoc, append-nil}
use Prim.Native.Nat.{ℕ, suc, ◌+◌, ◌-◌, ◌*◌, ◌≤◌, ◌<◌}
use native.Mathlib.Nat.{add_assoc, le_refl, mul-le-mul_left}
use native.Mathlib.Decide.{dec_lt}
use native.Mathlib.Omega.{arith}
use borrow.Author.Tests.{ltb-true, ltb-false}
use borrow.Rule.Slice.PartMut.{put_mid}
use lib.ListN.{length, take, drop, get_or, take-append-drop, length-take, length-drop, drop_of_length-le}
use lib.ListN.{get_or-append}
use lib.Seq.{paste, get_or-drop, drop-append-le, take-append-le, take-take, drop-drop, drop-paste, take-add}
use lib.Seq.{take_all, length-take-le, drop_at, length_paste_head, take-append-add}
use lib.Seq.{take-paste, get_or-take, get_or-append-add}
use Rattle.words.specs.Words.{◌<?◌}
use Rattle.words.proofs.Words.{by_test}
use Rattle.places.specs.Layout.{stretch, AgreeBut}

-- a copy into the part from a on that was lent, put back, is a copy into the whole
pub paste_part : (xs s : List ℕ) (a o n : ℕ) → put_mid a (length xs - a) xs (paste (take (length xs - a) (drop a xs)) o s n) ≡ paste xs (a + o) s n
paste_part xs s a o n =
    let h : length (drop a xs) ≤ length xs - a = rw length-drop (le_refl _) in
    let e₁ = take_all (length xs - a) (drop a xs) h in
    let e₂ = drop_of_length-le (drop a xs) h in
    rw (e₁, e₂) (simp (append-nil, append_assoc, take-add, drop-drop, add_assoc))

-- a part that lies in the first of two lists
in_first : (p q : List ℕ) (n m : ℕ) → n + m ≤ length p → take m (drop n (p ++ q)) ≡ take m (drop n p)
in_first p q n m h =
    let h₁ : n ≤ length p = omega arith in
    let h₂ : m ≤ length (drop n p) = rw length-drop (omega arith) in
    rw (drop-append-le n p q h₁) (take-append-le m (drop n p) q h₂)

-- a part that lies before the copy
part_before : (s d : List ℕ) (at c n m : ℕ) → n + m ≤ at → at ≤ length s → take m (drop n (paste s at d c)) ≡ take m (drop n s)
part_before s d at c n m h k =
    let l : n + m ≤ length (take at s) = rw (length-take-le at s k) h in
    rw append_assoc (in_first (take at s) (take c d ++ drop (at + c) s) n m l)
    ∙ sym (in_first (take at s) (drop at s) n m l)
    ∙ ap (λ z. take m (drop n z)) (take-append-drop at s)

-- a part that lies after it
part_after : (s d : List ℕ) (at c n : ℕ) → at + c ≤ n → at ≤ length s → c ≤ length d → drop n (paste s at d c) ≡ drop n s
part_after s d at c n h k l =
    let e : n ≡ at + c + (n - (at + c)) = omega arith in
    rw e (sym (drop-drop (n - (at + c)) (at + c) (paste s at d c)) ∙ rw (drop-paste s at d c k l) (drop-drop (n - (at + c)) (at + c) s))

-- a copy from n on, seen from n on
drop_copy : (s d : List ℕ) (n o c : ℕ) → n ≤ length s → drop n (paste s (n + o) d c) ≡ paste (drop n s) o d c
drop_copy s d n o c h =
    let e : paste s (n + o) d c ≡ take n s ++ paste (drop n s) o d c = simp (append_assoc, take-add, drop-drop, add_assoc) in
    rw e (drop_at (take n s) (paste (drop n s) o d c) n (length-take-le n s h))

drop_take : (x : List ℕ) (k m : ℕ) → k ≤ m → k ≤ length x → drop k (take m x) ≡ take (m - k) (drop k x)
drop_take x k m h l =
    let e : m ≡ k + (m - k) = omega arith in
    let e' : take m x ≡ take k x ++ take (m - k) (drop k x) = ap (λ n. take n x) e ∙ take-add k (m - k) x in
    rw e' (drop_at (take k x) (take (m - k) (drop k x)) k (length-take-le k x l))

-- a copy within the first m
take_copy : (x d : List ℕ) (m o c : ℕ) → o + c ≤ m → o + c ≤ length x → c ≤ length d → take m (paste x o d c) ≡ paste (take m x) o d c
take_copy x d m o c h l k =
    let p = take o x ++ take c d in
    let g : o ≤ length x = omega arith in
    let g₂ : o ≤ m = omega arith in
    let lp : length p ≡ o + c = length_paste_head x o d c g k in
    let e : m ≡ length p + (m - (o + c)) = rw lp (omega arith) in
    ap (λ n. take n (p ++ drop (o + c) x)) e
    ∙ take-append-add p (drop (o + c) x) (m - (o + c))
    ∙ sym (rw (take-take o m x, drop_take x (o + c) m h l))

-- a copy into place j's stretch changes that one as it would change the stretch alone, and no other

pub stretch_same : (stride j o n : ℕ) (storage bytes : List ℕ) → o + n ≤ stride → stride * j + o + n ≤ length storage
    → n ≤ length bytes
    → stretch stride j (paste storage (stride * j + o) bytes n) ≡ paste (stretch stride j storage) o bytes n
stretch_same stride j o n s d h l k =
    let l₁ : stride * j ≤ length s = omega arith in
    let l₂ : o + n ≤ length (drop (stride * j) s) = rw length-drop (omega arith) in
    rw (drop_copy s d (stride * j) o n l₁) (take_copy (drop (stride * j) s) d stride o n h l₂ k)

pub stretch_other : (stride j o n : ℕ) (storage bytes : List ℕ) → o + n ≤ stride → stride * j + o + n ≤ length storage
    → n ≤ length bytes
    → AgreeBut stride j storage (paste storage (stride * j + o) bytes n)
stretch_other stride j o n s d h l k i ne = go (dec_lt i j)
  where
    l₁ : stride * j + o ≤ length s
    l₁ = omega arith

    go : Dec (i < j) → stretch stride i (paste s (stride * j + o) d n) ≡ stretch stride i s
    go (yes p) = part_before s d (stride * j + o) n (stride * i) stride (omega (arith, mul-le-mul_left stride p)) l₁
    go (no p) =
        let q : suc j ≤ i = omega arith in
        ap (take stride) (part_after s d (stride * j + o) n (stride * i) (omega (arith, mul-le-mul_left stride q)) l₁ k)

-- a byte outside a copy
pub copy_keeps : (d : List ℕ) (at : ℕ) (b : List ℕ) (n k : ℕ) → at + n ≤ length d → n ≤ length b
    → (at ≤ k → k < at + n → ⊥) → get_or (paste d at b n) k 0 ≡ get_or d k 0
copy_keeps d at b n k l m h =
    by_test (k <? at)
    (λ t.
    let x : k < at = ltb-true k at t in
    let y : k < length (take at d) = rw length-take (omega arith) in
    sym (get_or-take (at + n) (paste d at b n) k 0 (omega arith))
    ∙ ap (λ (r : List ℕ). get_or r k 0) (take-paste d at b n (omega arith) m)
    ∙ get_or-append (take at d) (take n b) 0 k y
    ∙ get_or-take at d k 0 x)
    (λ t.
    let x : at ≤ k = ltb-false k at t in
    by_test (k <? at + n)
    (λ u. absurd (h x (ltb-true k (at + n) u)))
    (λ u.
    let e : k ≡ at + n + (k - (at + n)) = omega (arith, ltb-false k (at + n) u) in
    rw e
    (sym (get_or-drop (at + n) (paste d at b n) (k - (at + n)) 0)
    ∙ ap (λ (r : List ℕ). get_or r (k - (at + n)) 0) (drop-paste d at b n (omega arith) m)
    ∙ get_or-drop (at + n) d (k - (at + n)) 0)))

-- a byte within it
pub copy_writes : (d : List ℕ) (at : ℕ) (b : List ℕ) (n k : ℕ) → at + n ≤ length d → n ≤ length b → at ≤ k → k < at + n
    → get_or (paste d at b n) k 0 ≡ get_or b (k - at) 0
copy_writes d at b n k l m x y =
    let z : length (take at d) ≡ at = rw length-take (omega arith) in
    let e : k ≡ length (take at d) + (k - at) = rw z (omega arith) in
    sym (get_or-take (at + n) (paste d at b n) k 0 y)
    ∙ ap (λ (r : List ℕ). get_or r k 0) (take-paste d at b n (omega arith) m)
    ∙ ap (λ (j : ℕ). get_or (take at d ++ take n b) j 0) e
    ∙ get_or-append-add (take at d) (take n b) (k - at) 0
    ∙ get_or-take n b (k - at) 0 (omega arith)
