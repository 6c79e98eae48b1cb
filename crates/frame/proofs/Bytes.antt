-- Bytes and the number that they spell: each gives the other back. Then the turns of a loop that splits them.
-- Assumes nothing.
use mathlib.Core.Path.{◌≡◌, refl, sym, ap, ◌∙◌}
use mathlib.Core.List.{List, [], ◌∷◌, ◌++◌, append_assoc, append-nil}
use Prim.Native.Nat.{ℕ, zero, suc, ◌+◌, ◌*◌, ◌-◌, ◌/◌, ◌%◌, ◌^◌, ◌≤◌, ◌<◌}
use native.Mathlib.Nat.{lt_of_lt_of_le, pow-le-pow_right, pow-suc, div-lt_iff_lt-mul, div-add-mod', mod-lt}
use native.Mathlib.Numerals.{add-one}
use native.Mathlib.Omega.{arith}
use lib.Arith.{digits_lt, digits_div, digits_mod}
use lib.Dec.{lit<}
use lib.ListN.{length, get_or, take, drop, set, length-drop}
use lib.Seq.{drop-cons, get_or-drop, take-suc, take-suc-set, take_all}
use Rattle.frame.specs.Bytes.{number_of, bytes_of, AreBytes}

pub number_below : (bs : List ℕ) → AreBytes bs → number_of bs < 256 ^ length bs
unfolding number_of
number_below [] a = lit< tt
number_below (b ∷ bs) a = rw pow-suc (digits_lt (number_below bs (λ k. a (suc k))) (a 0))

-- bytes of a number spell that number
pub number_of_bytes : (k n : ℕ) → n < 256 ^ k → number_of (bytes_of k n) ≡ n
unfolding number_of bytes_of
number_of_bytes zero n h = omega arith
number_of_bytes (suc k) n h =
    let l : n / 256 < 256 ^ k = (div-lt_iff_lt-mul (lit< tt)).1 (rw pow-suc at h) in
    rw (number_of_bytes k (n / 256) l) (div-add-mod' n 256)

-- the number that bytes spell has those bytes
pub bytes_of_number : (bs : List ℕ) → AreBytes bs → bytes_of (length bs) (number_of bs) ≡ bs
unfolding number_of bytes_of
bytes_of_number [] a = refl
bytes_of_number (b ∷ bs) a = rw (digits_div (number_of bs) (a 0), digits_mod (number_of bs) (a 0), bytes_of_number bs (λ k. a (suc k)))

pub length_bytes : (k n : ℕ) → length (bytes_of k n) ≡ k
unfolding bytes_of
length_bytes zero n = refl
length_bytes (suc k) n = ap suc (length_bytes k (n / 256))

pub bytes_small : (k n : ℕ) → AreBytes (bytes_of k n)
unfolding bytes_of
bytes_small zero n i = lit< tt
bytes_small (suc k) n zero = mod-lt n (lit< tt)
bytes_small (suc k) n (suc i) = bytes_small k (n / 256) i

-- a turn of the loop that splits
pub bytes_turn : (bs out : List ℕ) (i r : ℕ) → i < 8 → length bs ≡ 8 → take i bs ++ bytes_of (8 - i) r ≡ out
    → take (i + 1) (set bs i (r % 256)) ++ bytes_of (8 - (i + 1)) (r / 256) ≡ out
unfolding bytes_of
bytes_turn bs out i r h l e =
    let s : 8 - i ≡ suc (8 - (i + 1)) = omega arith in
    let b : i < length bs = omega arith in
    let e' = rw s at e in
    rw (add-one, take-suc-set bs i (r % 256) b, append_assoc) (rw (← add-one i) e')

-- and its end
pub bytes_end : (bs out : List ℕ) (i r : ℕ) → 8 ≤ i → i ≤ 8 → length bs ≡ 8 → take i bs ++ bytes_of (8 - i) r ≡ out → bs ≡ out
unfolding bytes_of
bytes_end bs out i r h g l e =
    let z : 8 - i ≡ 0 = omega arith in
    let t = take_all i bs (omega arith) in
    sym (append-nil bs) ∙ (rw (z, t) at e)
