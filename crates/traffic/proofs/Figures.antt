-- The figures of lines with one line more, and how they add up.
-- Assumes nothing.
use Rattle.std.specs.Prelude.{if◌then◌else◌}
use mathlib.Core.Path.{◌≡◌, refl, sym, ap, ◌∙◌}
use mathlib.Core.Bool.{Bool, true, false, not}
use mathlib.Core.List.{List, [], ◌∷◌, ◌++◌, map, append_assoc, append-nil}
use Prim.Native.Nat.{ℕ, zero, suc, ◌+◌, ◌≤◌, min, max}
use native.Mathlib.Omega.{arith}
use borrow.Author.Tests.{eqb-true, eqb-false, eq-eqb, ne_eqb}
use lib.ListN.{length, take, drop, length-append}
use Rattle.words.specs.Words.{◌=?◌, ◌or◌, Told, refused, gives}
use Rattle.words.specs.Lists.{any, count, Absent, Distinct}
use Rattle.words.proofs.Words.{by_test, true_false}
use Rattle.words.proofs.Lists.{distinct_cons, distinct_head, distinct_tail, absent_cons, absent_head, absent_tail}
use Rattle.traffic.specs.Figures.{Seen, time_of, pair_in, pairs_in, is_refused, refused_in, frames_of, is_pair, waits_from, gaps_of}
use Rattle.traffic.specs.Figures.{sum, least, greatest, without, once_each, is_other}
use Rattle.traffic.specs.Counters.{since_from}

-- Numbers, one more at the end.

pub sum_snoc : (ns : List ℕ) (g : ℕ) → sum (ns ++ (g ∷ [])) ≡ sum ns + g
sum_snoc [] g = omega arith
sum_snoc (n ∷ ns) g = omega (arith, sum_snoc ns g)

pub greatest_snoc : (ns : List ℕ) (g : ℕ) → greatest (ns ++ (g ∷ [])) ≡ max (greatest ns) g
greatest_snoc [] g = omega arith
greatest_snoc (n ∷ ns) g = omega (arith, greatest_snoc ns g)

pub least_snoc : (n : ℕ) (ns : List ℕ) (g : ℕ) → least ((n ∷ ns) ++ (g ∷ [])) ≡ min (least (n ∷ ns)) g
least_snoc n [] g = refl
least_snoc n (m ∷ ns) g = omega (arith, least_snoc m ns g)

or_false : (b : Bool) → b or false ≡ b
or_false true = refl
or_false false = refl

module _ {P : Type 0} where
  pub count_append : (f : P → Bool) (ps qs : List P) → count f (ps ++ qs) ≡ count f ps + count f qs
  count_append f [] qs = omega arith
  count_append f (p ∷ ps) qs = omega (arith, count_append f ps qs)

  pub any_snoc : (f : P → Bool) (ps : List P) (p : P) → any f (ps ++ (p ∷ [])) ≡ (any f ps or f p)
  any_snoc f [] p = or_false (f p)
  any_snoc f (q ∷ ps) p = by_test (f q) (λ e. rw e) (λ e. rw e (any_snoc f ps p))

eqb_sym : (a b : ℕ) → (a =? b) ≡ (b =? a)
eqb_sym a b =
    by_test (a =? b)
    (λ e. e ∙ sym (eq-eqb b a (sym (eqb-true a b e))))
    (λ e. e ∙ sym (ne_eqb b a (λ p. eqb-false a b e (sym p))))

-- Lines, one more at the end.

pub pairs_snoc : (lines : List Seen) (l : Seen) → pairs_in (lines ++ (l ∷ [])) ≡ pairs_in lines ++ pair_in l.says
unfolding pairs_in
pairs_snoc [] l = append-nil (pair_in l.says)
pairs_snoc (m ∷ lines) l = rw (pairs_snoc lines l) (sym (append_assoc (pair_in m.says) (pairs_in lines) (pair_in l.says)))

pub time_snoc : (lines : List Seen) (l : Seen) → time_of (lines ++ (l ∷ [])) ≡ time_of lines + l.pause
time_snoc [] l = omega arith
time_snoc (m ∷ lines) l = omega (arith, time_snoc lines l)

pub waits_frame : (pair since : ℕ) (lines : List Seen) (l : Seen) → is_pair pair l.says ≡ true
    → waits_from pair since (lines ++ (l ∷ [])) ≡ waits_from pair since lines ++ ((since_from pair since lines + l.pause) ∷ [])
unfolding waits_from since_from
waits_frame pair since [] l e = rw e
waits_frame pair since (m ∷ lines) l e =
    by_test (is_pair pair m.says)
    (λ t. rw t (ap (λ (ws : List ℕ). (since + m.pause) ∷ ws) (waits_frame pair 0 lines l e)))
    (λ t. rw t (waits_frame pair (since + m.pause) lines l e))

pub waits_other : (pair since : ℕ) (lines : List Seen) (l : Seen) → is_pair pair l.says ≡ false
    → waits_from pair since (lines ++ (l ∷ [])) ≡ waits_from pair since lines
unfolding waits_from
waits_other pair since [] l e = rw e
waits_other pair since (m ∷ lines) l e =
    by_test (is_pair pair m.says)
    (λ t. rw t (ap (λ (ws : List ℕ). (since + m.pause) ∷ ws) (waits_other pair 0 lines l e)))
    (λ t. rw t (waits_other pair (since + m.pause) lines l e))

pub since_frame : (pair since : ℕ) (lines : List Seen) (l : Seen) → is_pair pair l.says ≡ true
    → since_from pair since (lines ++ (l ∷ [])) ≡ 0
unfolding since_from
since_frame pair since [] l e = rw e
since_frame pair since (m ∷ lines) l e = since_frame pair (if is_pair pair m.says then 0 else since + m.pause) lines l e

pub since_other : (pair since : ℕ) (lines : List Seen) (l : Seen) → is_pair pair l.says ≡ false
    → since_from pair since (lines ++ (l ∷ [])) ≡ since_from pair since lines + l.pause
unfolding since_from
since_other pair since [] l e = rw e
since_other pair since (m ∷ lines) l e = since_other pair (if is_pair pair m.says then 0 else since + m.pause) lines l e

-- a pair waits once for each frame, and all the time

is_frame : (pair : ℕ) (says : Told ℕ) → count (◌=?◌ pair) (pair_in says) ≡ (if is_pair pair says then 1 else 0)
is_frame pair (refused n) = refl
is_frame pair (gives p) = omega arith

pub waits_length : (pair since : ℕ) (lines : List Seen) → length (waits_from pair since lines) ≡ frames_of pair lines
unfolding waits_from pairs_in
waits_length pair since [] = refl
waits_length pair since (m ∷ lines) =
    let c = count_append (◌=?◌ pair) (pair_in m.says) (pairs_in lines) in
    let f = is_frame pair m.says in
    by_test (is_pair pair m.says)
    (λ t.
    let f' : count (◌=?◌ pair) (pair_in m.says) ≡ 1 = f ∙ rw t in
    rw t (omega (arith, c, f', waits_length pair 0 lines)))
    (λ t.
    let f' : count (◌=?◌ pair) (pair_in m.says) ≡ 0 = f ∙ rw t in
    rw t (omega (arith, c, f', waits_length pair (since + m.pause) lines)))

pub waits_sum : (pair since : ℕ) (lines : List Seen) → sum (waits_from pair since lines) + since_from pair since lines ≡ since + time_of lines
unfolding waits_from since_from
waits_sum pair since [] = omega arith
waits_sum pair since (m ∷ lines) =
    by_test (is_pair pair m.says)
    (λ t. rw t (omega (arith, waits_sum pair 0 lines)))
    (λ t. rw t (omega (arith, waits_sum pair (since + m.pause) lines)))

sum_drop : (ns : List ℕ) → sum (drop 1 ns) ≤ sum ns
sum_drop [] = omega arith
sum_drop (n ∷ ns) = omega arith

pub gaps_sum : (pair : ℕ) (lines : List Seen) → sum (gaps_of pair lines) ≤ time_of lines
gaps_sum pair lines = omega (arith, sum_drop (waits_from pair 0 lines), waits_sum pair 0 lines)

-- frames and refused lines are all lines

one_each_lem : (says : Told ℕ) → length (pair_in says) + (if is_refused says then 1 else 0) ≡ 1
one_each_lem (refused n) = refl
one_each_lem (gives p) = refl

pub frames_and_refused : (lines : List Seen) → length (pairs_in lines) + refused_in lines ≡ length lines
unfolding pairs_in
frames_and_refused [] = refl
frames_and_refused (m ∷ lines) =
    omega (arith, length-append (pair_in m.says) (pairs_in lines), one_each_lem m.says, frames_and_refused lines)

pub count_most : {P : Type 0} (f : P → Bool) (ps : List P) → count f ps ≤ length ps
count_most f [] = omega arith
count_most f (p ∷ ps) = by_test (f p) (λ e. rw e (omega (arith, count_most f ps))) (λ e. rw e (omega (arith, count_most f ps)))

-- Each pair once.

without_any : (p q : ℕ) (qs : List ℕ) → any (◌=?◌ q) (without p qs) ≡ (if p =? q then false else any (◌=?◌ q) qs)
without_any p q [] = by_test (p =? q) (λ e. rw e) (λ e. rw e)
without_any p q (r ∷ qs) =
    by_test (p =? r)
    (λ e.
    by_test (p =? q)
    (λ f. rw e (without_any p q qs ∙ rw f))
    (λ f.
    let n : (q =? r) ≡ false = ne_eqb q r (λ x. eqb-false p q f (eqb-true p r e ∙ sym x)) in
    rw (e, f, n) (without_any p q qs ∙ rw f)))
    (λ e.
    by_test (p =? q)
    (λ f.
    let n : (q =? r) ≡ false = ne_eqb q r (λ x. eqb-false p r e (eqb-true p q f ∙ x)) in
    rw (e, f, n) (without_any p q qs ∙ rw f))
    (λ f. rw (e, f) (ap (λ (b : Bool). (q =? r) or b) (without_any p q qs ∙ rw f))))

pub once_any : (q : ℕ) (ps : List ℕ) → any (◌=?◌ q) (once_each ps) ≡ any (◌=?◌ q) ps
unfolding once_each
once_any q [] = refl
once_any q (p ∷ ps) =
    by_test (q =? p)
    (λ e. rw e)
    (λ e. rw e (without_any p q (once_each ps) ∙ rw (eqb_sym p q ∙ e) (once_any q ps)))

without_snoc_same : (p q : ℕ) (qs : List ℕ) → (p =? q) ≡ true → without p (qs ++ (q ∷ [])) ≡ without p qs
without_snoc_same p q [] e = rw e
without_snoc_same p q (r ∷ qs) e =
    by_test (p =? r)
    (λ f. rw f (without_snoc_same p q qs e))
    (λ f. rw f (ap (λ (l : List ℕ). r ∷ l) (without_snoc_same p q qs e)))

without_snoc_other : (p q : ℕ) (qs : List ℕ) → (p =? q) ≡ false → without p (qs ++ (q ∷ [])) ≡ without p qs ++ (q ∷ [])
without_snoc_other p q [] e = rw e
without_snoc_other p q (r ∷ qs) e =
    by_test (p =? r)
    (λ f. rw f (without_snoc_other p q qs e))
    (λ f. rw f (ap (λ (l : List ℕ). r ∷ l) (without_snoc_other p q qs e)))

pub once_new : (q : ℕ) (ps : List ℕ) → any (◌=?◌ q) ps ≡ false → once_each (ps ++ (q ∷ [])) ≡ once_each ps ++ (q ∷ [])
unfolding once_each
once_new q [] h = refl
once_new q (p ∷ ps) h =
    by_test (q =? p)
    (λ e. true_false (rw e at h))
    (λ e.
    ap (λ (l : List ℕ). p ∷ l)
    (ap (without p) (once_new q ps (rw e at h)) ∙ without_snoc_other p q (once_each ps) (eqb_sym p q ∙ e)))

pub once_old : (q : ℕ) (ps : List ℕ) → any (◌=?◌ q) ps ≡ true → once_each (ps ++ (q ∷ [])) ≡ once_each ps
unfolding once_each
once_old q [] h = true_false (sym h)
once_old q (p ∷ ps) h =
    by_test (any (◌=?◌ q) ps)
    (λ f. ap (λ (l : List ℕ). p ∷ without p l) (once_old q ps f))
    (λ f.
    by_test (q =? p)
    (λ e.
    ap (λ (l : List ℕ). p ∷ l)
    (ap (without p) (once_new q ps f) ∙ without_snoc_same p q (once_each ps) (eqb_sym p q ∙ e)))
    (λ e. true_false (sym (rw (e, f) at h))))

-- and no two are the same

absent_without : (p q : ℕ) (qs : List ℕ) → Absent q qs → Absent q (without p qs)
absent_without p q qs h = without_any p q qs ∙ by_test (p =? q) (λ e. rw e) (λ e. rw e h)

gone : (p : ℕ) (qs : List ℕ) → Absent p (without p qs)
gone p qs = without_any p p qs ∙ rw (eq-eqb p p refl)

distinct_without : (p : ℕ) (qs : List ℕ) → Distinct qs → Distinct (without p qs)
distinct_without p [] d = refl
distinct_without p (q ∷ qs) d =
    by_test (p =? q)
    (λ e. rw e (distinct_without p qs (distinct_tail q qs d)))
    (λ e.
    rw e
    (distinct_cons q (without p qs) (absent_without p q qs (distinct_head q qs d))
    (distinct_without p qs (distinct_tail q qs d))))

pub once_distinct : (ps : List ℕ) → Distinct (once_each ps)
unfolding once_each
once_distinct [] = refl
once_distinct (p ∷ ps) = distinct_cons p (without p (once_each ps)) (gone p (once_each ps)) (distinct_without p (once_each ps) (once_distinct ps))

absent_take : (n q : ℕ) (qs : List ℕ) → Absent q qs → Absent q (take n qs)
absent_take zero q qs h = refl
absent_take (suc n) q [] h = refl
absent_take (suc n) q (r ∷ qs) h = absent_cons q r (take n qs) (absent_head q r qs h) (absent_take n q qs (absent_tail q r qs h))

pub distinct_take : (n : ℕ) (qs : List ℕ) → Distinct qs → Distinct (take n qs)
distinct_take zero qs d = refl
distinct_take (suc n) [] d = refl
distinct_take (suc n) (q ∷ qs) d = distinct_cons q (take n qs) (absent_take n q qs (distinct_head q qs d)) (distinct_take n qs (distinct_tail q qs d))

-- The frames of pairs that are all different, and those of the others, are all frames.

count_others : (d : ℕ) (ds ps : List ℕ) → Absent d ds
    → count (is_other ds) ps ≡ count (◌=?◌ d) ps + count (is_other (d ∷ ds)) ps
count_others d ds [] a = refl
count_others d ds (p ∷ ps) a =
    let h = count_others d ds ps a in
    by_test (p =? d)
    (λ e.
    let q : p ≡ d = eqb-true p d e in
    let n : any (◌=?◌ p) ds ≡ false = rw q a in
    let s : (d =? p) ≡ true = eqb_sym d p ∙ e in
    rw (e, n, s) (omega (arith, h)))
    (λ e.
    let s : (d =? p) ≡ false = eqb_sym d p ∙ e in
    rw (e, s) (omega (arith, h)))

count_all : (ps : List ℕ) → count (is_other []) ps ≡ length ps
count_all [] = refl
count_all (p ∷ ps) = omega (arith, count_all ps)

pub all_frames : (ds ps : List ℕ) → Distinct ds
    → sum (map (λ d. count (◌=?◌ d) ps) ds) + count (is_other ds) ps ≡ length ps
all_frames [] ps d = omega (arith, count_all ps)
all_frames (e ∷ ds) ps d =
    omega (arith, count_others e ds ps (distinct_head e ds d), all_frames ds ps (distinct_tail e ds d))

-- a pair that no frame has makes no frame another's
pub others_same : (q : ℕ) (qs ps : List ℕ) → any (◌=?◌ q) ps ≡ false
    → count (is_other (qs ++ (q ∷ []))) ps ≡ count (is_other qs) ps
others_same q qs [] h = refl
others_same q qs (p ∷ ps) h =
    let n = absent_head q p ps h in
    let k : (p =? q) ≡ false = ne_eqb p q (λ x. n (sym x)) in
    let s : any (◌=?◌ p) (qs ++ (q ∷ [])) ≡ any (◌=?◌ p) qs = any_snoc (◌=?◌ p) qs q ∙ rw k (or_false (any (◌=?◌ p) qs)) in
    rw s (ap (λ (m : ℕ). (if not (any (◌=?◌ p) qs) then 1 else 0) + m) (others_same q qs ps (absent_tail q p ps h)))
