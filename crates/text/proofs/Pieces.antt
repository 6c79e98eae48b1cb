-- Pieces put into lent bytes, one behind the other, and the turns of the loops that put them.
-- Assumes nothing.
use mathlib.Core.Path.{◌≡◌, refl, sym, ap, ◌∙◌}
use mathlib.Core.Bool.{Bool, true, false, not}
use mathlib.Core.List.{List, [], ◌∷◌, ◌++◌, append_assoc, append-nil}
use Prim.Native.Nat.{ℕ, zero, suc, ◌+◌, ◌*◌, ◌-◌, ◌/◌, ◌%◌, ◌^◌, ◌≤◌, ◌<◌}
use native.Mathlib.Nat.{add_assoc, add-zero}
use native.Mathlib.Numerals.{add-one}
use native.Mathlib.Omega.{arith}
use borrow.Author.Tests.{le-leb, lt-leb, leb-true, leb-false, not-true, not-false}
use lib.ListN.{length, get_or, take, drop, set, length-append, length-set, length-drop, take-append-drop}
use lib.Seq.{paste, paste-zero, paste-suc, take-set-le, set_split, drop_at}
use lib.Seq.{take_at, take_all, take-length, drop-drop, length-take-le}
use Rattle.words.specs.Words.{◌≤?◌}
use Rattle.words.proofs.Words.{by_test}
use Rattle.text.specs.Text.{glyph, digits, decimal_width, decimal, byte_pairs}
use Rattle.text.specs.Pieces.{fits_in, placed, put_in, end_of, Wrote}
use Rattle.text.specs.Promises.{Put, PutDecimal, PutHex, PutBytes}
use Rattle.text.proofs.Digits.{length_digits, length_decimal, length_pairs, width_most}

-- what a piece that was placed leaves before and behind it

head_length : (d s : List ℕ) (at : ℕ) → at ≤ length d → length (take at d ++ s) ≡ at + length s
head_length d s at h = rw (length-append, length-take-le at d h)

pub placed_head : (d s : List ℕ) (at : ℕ) → at ≤ length d → take (at + length s) (placed d at s) ≡ take at d ++ s
placed_head d s at h = take_at (take at d ++ s) (drop (at + length s) d) (at + length s) (head_length d s at h)

placed_rest : (d s : List ℕ) (at : ℕ) → at ≤ length d → drop (at + length s) (placed d at s) ≡ drop (at + length s) d
placed_rest d s at h = drop_at (take at d ++ s) (drop (at + length s) d) (at + length s) (head_length d s at h)

pub length_placed : (d s : List ℕ) (at : ℕ) → at + length s ≤ length d → length (placed d at s) ≡ length d
length_placed d s at h =
    let l : length (take at d ++ s) ≡ at + length s = head_length d s at (omega arith) in
    rw (length-append (take at d ++ s) (drop (at + length s) d), l, length-drop) (omega arith)

-- nothing placed, and one piece behind another

pub placed_nothing : (d : List ℕ) (at : ℕ) → d ≡ placed d at []
placed_nothing d at = sym (rw (add-zero, append-nil) (take-append-drop at d))

pub placed_behind : (d s t : List ℕ) (at : ℕ) → at ≤ length d
    → placed (placed d at s) (at + length s) t ≡ placed d at (s ++ t)
placed_behind d s t at h =
    let r : drop (at + length s + length t) (placed d at s) ≡ drop (at + length s + length t) d =
    sym (drop-drop (length t) (at + length s) (placed d at s)) ∙ rw (placed_rest d s at h)
    (drop-drop (length t) (at + length s) d) in
    rw (placed_head d s at h, r, length-append s t, add_assoc) (simp append_assoc)

pub one_behind : {mid out : List ℕ} {m : ℕ} (d s t : List ℕ) (at : ℕ) → mid ≡ placed d at s → m ≡ at + length s
    → out ≡ placed mid m t → at ≤ length d → out ≡ placed d at (s ++ t)
one_behind d s t at p q r h = r ∙ rw (p, q) (placed_behind d s t at h)

-- the loop that puts bytes, from the first on

pub put_turn : (d out part : List ℕ) (at i : ℕ) → at + i < length d → i < length part → out ≡ paste d at part i
    → set out (at + i) (get_or part i 0) ≡ paste d at part (i + 1)
put_turn d out part at i h k e = rw (e, add-one) (paste-suc d at part i 0 h k)

pub put_end : (d out part : List ℕ) (at i : ℕ) → i ≡ length part → out ≡ paste d at part i → out ≡ placed d at part
put_end d out part at i k e = e ∙ rw (k, take-length)

-- the loop that puts digits, from the last down

abbrev pub put_down : ℕ → ℕ → ℕ → ℕ → List ℕ → List ℕ
put_down base at zero n out = out
put_down base at (suc i) n out = put_down base at i (n / base) (set out (at + i) (glyph (n % base)))

pub down_turn : (base at i n : ℕ) (out : List ℕ) → 0 < i
    → put_down base at (i - 1) (n / base) (set out (at + (i - 1)) (glyph (n % base))) ≡ put_down base at i n out
down_turn base at i n out h =
    let e : suc (i - 1) ≡ i = omega arith in
    ap (λ (m : ℕ). put_down base at m n out) e

pub down_end : (base at i n : ℕ) (out : List ℕ) → i ≤ 0 → put_down base at i n out ≡ out
down_end base at i n out h = let e : i ≡ 0 = omega arith in rw e

down_pasted : (base at count n : ℕ) (out : List ℕ) → at + count ≤ length out
    → put_down base at count n out ≡ paste out at (digits base count n) count
unfolding digits
down_pasted base at zero n out h = paste-zero out at []
down_pasted base at (suc k) n out h =
    let g : ℕ = glyph (n % base) in
    let s : List ℕ = digits base k (n / base) in
    let l : length s ≡ k = length_digits base k (n / base) in
    let i : at + k < length out = omega arith in
    let r : drop (at + k) (set out (at + k) g) ≡ g ∷ drop (suc (at + k)) out =
    rw (set_split out (at + k) g i)
    (drop_at (take (at + k) out) (g ∷ drop (suc (at + k)) out) (at + k) (length-take-le (at + k) out (omega arith))) in
    let t₁ : take k s ≡ s = take_all k s (omega arith) in
    let t₂ : take (suc k) (s ++ (g ∷ [])) ≡ s ++ (g ∷ []) =
    take_all (suc k) (s ++ (g ∷ [])) (rw length-append (omega arith)) in
    let e : at + suc k ≡ suc (at + k) = omega arith in
    down_pasted base at k (n / base) (set out (at + k) g) (rw length-set (omega arith))
    ∙ rw (take-set-le at out (at + k) g (omega arith), t₁, r, t₂, e) (simp append_assoc)

pub down_digits : (base at count n : ℕ) (out : List ℕ) → at + count ≤ length out
    → put_down base at count n out ≡ placed out at (digits base count n)
down_digits base at count n out h =
    let l : count ≡ length (digits base count n) = sym (length_digits base count n) in
    put_end out (put_down base at count n out) (digits base count n) at count l (down_pasted base at count n out h)

-- The test of the room.

pub room_test : (room at size : ℕ) → at ≤ room → (size ≤? room - at) ≡ (at + size ≤? room)
room_test room at size h =
    by_test (size ≤? room - at)
    (λ e. let l = leb-true size (room - at) e in e ∙ sym (le-leb (at + size) room (omega arith)))
    (λ e. let l = leb-false size (room - at) e in e ∙ sym (lt-leb (at + size) room (omega arith)))

pub has_room : {b : Bool} (room at size : ℕ) → b ≡ (at + size ≤? room) → not b ≡ false → at + size ≤ room
has_room {b} room at size e n = leb-true (at + size) room (sym e ∙ not-false b n)

pub no_room : {b : Bool} (room at size : ℕ) → b ≡ (at + size ≤? room) → not b ≡ true → room < at + size
no_room {b} room at size e n = leb-false (at + size) room (sym e ∙ not-true b n)

-- What the calls promise, from whether the piece fits.

pub put_fits : {before after : List ℕ} {r : ℕ} (at size : ℕ) (word : List ℕ) → size ≡ length word
    → at + size ≤ length before → after ≡ placed before at word → r ≡ at + size → Put before at word r after
unfolding put_in end_of
put_fits {before} at size word s h p e =
    let t = le-leb (at + length word) (length before) (omega arith) in
    record { bytes = p ∙ rw t; behind = rw (t, ← s) e }

pub put_none : {before : List ℕ} (at size : ℕ) (word : List ℕ) → size ≡ length word → length before < at + size
    → Put before at word at before
unfolding put_in end_of
put_none {before} at size word s h =
    let t = lt-leb (at + length word) (length before) (omega arith) in
    record { bytes = rw t; behind = rw t }

-- and of a key and its value

pub keyed_fits : {before mid after : List ℕ} {from r : ℕ} (at size : ℕ) (key value : List ℕ) → size ≡ length value
    → at + (length key + size) ≤ length before → mid ≡ placed before at key → from ≡ at + length key
    → after ≡ placed mid from value → r ≡ from + size → Put before at (key ++ value) r after
keyed_fits {before} at size key value s h p q w e =
    let n : length key + size ≡ length (key ++ value) = rw (length-append key value, s) in
    put_fits at (length key + size) (key ++ value) n h (one_behind before key value at p q w (omega arith))
    (omega arith)

pub keyed_none : {before : List ℕ} (at size : ℕ) (key value : List ℕ) → size ≡ length value
    → length before < at + (length key + size) → Put before at (key ++ value) at before
keyed_none at size key value s h = put_none at (length key + size) (key ++ value) (rw (length-append key value, s)) h

-- What fits is written, and texts written one behind the other are one text.

pub put_placed : {before after word : List ℕ} {at r : ℕ} → Put before at word r after → at + length word ≤ length before
    → (after ≡ placed before at word) × (r ≡ at + length word)
unfolding put_in end_of
put_placed {before} {after} {word} {at} p h =
    let t = le-leb (at + length word) (length before) h in
    (p.bytes ∙ rw t, p.behind ∙ rw t)

pub fits_wrote : {before after word : List ℕ} {at r : ℕ} → Put before at word r after → at + length word ≤ length before
    → Wrote before at word after r
fits_wrote {before} {after} {word} {at} {r} p h =
    let w = put_placed p h in
    let l : length after ≡ length before = ap length w.0 ∙ length_placed before word at h in
    record {
      next = w.1;
      written = rw (w.1, w.0) (placed_head before word at (omega arith));
      fits = omega (arith, w.1);
      room = l;
    }

-- whether it fits or not, the answer is a place in the lent bytes or their end
pub end_within : {before after word : List ℕ} {at r : ℕ} → Put before at word r after → at ≤ length before
    → r ≤ length after
unfolding put_in end_of
end_within {before} {after} {word} {at} {r} p h =
    by_test (fits_in before at word)
    (λ e. (fits_wrote p (leb-true (at + length word) (length before) e)).fits)
    (λ e.
    let a : after ≡ before = p.bytes ∙ rw e in
    let k : r ≡ at = p.behind ∙ rw e in
    let l : length after ≡ length before = ap length a in
    omega arith)

-- a key and its value

pub wrote_decimal : {before after : List ℕ} {at r : ℕ} (key : List ℕ) (n : ℕ) → PutDecimal before at key n r after
    → n < 2 ^ 64 → at + length key + 20 ≤ length before
    → Wrote before at (key ++ decimal n) after r × (r ≤ at + length key + 20)
wrote_decimal key n p h l =
    let w : decimal_width n ≤ 20 = width_most n 20 (omega arith) (omega arith) in
    let s : length (key ++ decimal n) ≡ length key + decimal_width n = rw (length-append, length_decimal n) in
    let t = fits_wrote p (omega arith) in
    (t, omega (arith, t.next))

pub wrote_hex : {before after : List ℕ} {at r : ℕ} (key : List ℕ) (n count : ℕ) → PutHex before at key n count r after
    → at + length key + count ≤ length before
    → Wrote before at (key ++ digits 16 count n) after r × (r ≡ at + length key + count)
wrote_hex key n count p l =
    let s : length (key ++ digits 16 count n) ≡ length key + count = rw (length-append, length_digits 16 count n) in
    let t = fits_wrote p (omega arith) in
    (t, omega (arith, t.next))

pub wrote_bytes : {before after : List ℕ} {at r : ℕ} (key bytes : List ℕ) → PutBytes before at key bytes r after
    → at + length key + 2 * length bytes ≤ length before
    → Wrote before at (key ++ byte_pairs bytes) after r × (r ≡ at + length key + 2 * length bytes)
wrote_bytes key bytes p l =
    let s : length (key ++ byte_pairs bytes) ≡ length key + 2 * length bytes = rw (length-append, length_pairs bytes) in
    let t = fits_wrote p (omega arith) in
    (t, omega (arith, t.next))

pub nothing : (d : List ℕ) (at : ℕ) → at ≤ length d → Wrote d at [] d at
nothing d at h = record { next = omega arith; written = sym (simp append-nil); fits = h; room = refl }

pub behind : {a b c s t : List ℕ} {at m n : ℕ} → Wrote a at s b m → Wrote b m t c n → Wrote a at (s ++ t) c n
behind {a} {b} {c} {s} {t} {at} p q =
    record {
      next = rw length-append (omega arith);
      written = q.written ∙ rw p.written (append_assoc (take at a) s t);
      fits = q.fits;
      room = q.room ∙ p.room;
    }
