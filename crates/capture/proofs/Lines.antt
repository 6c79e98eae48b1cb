-- A line and its frame: each gives the other back. Then the turns of the loops that read it.
-- Assumes nothing.
use Rattle.std.specs.List.{starts_with}
use Rattle.std.specs.Prelude.{eqb, if◌then◌else◌, Ok, Err}
use mathlib.Core.Path.{◌≡◌, refl, sym, ap, ◌∙◌}
use mathlib.Core.Bool.{true, false, not}
use mathlib.Core.List.{List, [], ◌∷◌, ◌++◌, append_assoc, append-nil}
use Prim.Native.Nat.{ℕ, suc, ◌+◌, ◌-◌, ◌*◌, ◌^◌, ◌≤◌, ◌<◌}
use native.Mathlib.Nat.{lt_of_lt_of_le, pow-le-pow_right}
use native.Mathlib.Numerals.{add-one}
use native.Mathlib.Omega.{arith}
use borrow.Author.Tests.{eq-eqb, ne_eqb, leb-true, ltb-false, eqb-true, eqb-false}
use lib.Dec.{lit<, lit≤}
use lib.ListN.{length, take, drop, set, length-take}
use lib.Seq.{drop-drop, take-suc-set, take_all}
use Rattle.words.specs.Words.{given◌then◌, ◌≤?◌, ◌<?◌, ◌=?◌, Told, refused, gives}
use Rattle.text.specs.Text.{decimal_width}
use Rattle.capture.specs.Digits.{number_read}
use Rattle.capture.specs.Line.{has_shape, begins_with, gap_read, bytes_read, gap_in, id_in, data_in, line_read}
use Rattle.capture.specs.declared.NotRead.TheVariants.{Malformed}
use Rattle.capture.specs.Promises.{TakeApart, frame_in, frame_if, no_frame}
use Rattle.capture.specs.declared.Line.{Line}
use Rattle.words.proofs.Words.{by_test, both_true, past_refusal, not_flips, gives_same, refused_gives}
use Rattle.capture.proofs.Digits.{read_below}

-- a key stands at the beginning as the library has it

pub begins_is : (key line : List ℕ) → starts_with eqb line key ≡ begins_with key line
unfolding begins_with
begins_is [] line = refl
begins_is (k ∷ key) [] = refl
begins_is (k ∷ key) (c ∷ line) =
    by_test (k =? c)
    (λ e. rw (begins_is key line, e, eq-eqb c k (sym (eqb-true k c e))))
    (λ e. rw (begins_is key line, e, ne_eqb c k (λ s. eqb-false k c e (sym s))))

-- the loop that reads bytes of two digits each: those read, before those to read

abbrev pub on_to : List ℕ → Told (List ℕ) → Told (List ℕ)
on_to read told = given told then λ more. gives (read ++ more)

on_to_nil : (t : Told (List ℕ)) → t ≡ on_to [] t
on_to_nil (refused n) = refl
on_to_nil (gives l) = refl

on_to_cons : (l : List ℕ) (n : ℕ) (t : Told (List ℕ)) → on_to l (given t then λ bs. gives (n ∷ bs)) ≡ on_to (l ++ (n ∷ [])) t
on_to_cons l n (refused k) = refl
on_to_cons l n (gives bs) = rw append_assoc

pub pairs_start : (part bytes : List ℕ) → bytes_read 8 part ≡ on_to (take 0 bytes) (bytes_read (8 - 0) (drop (2 * 0) part))
pairs_start part bytes = on_to_nil (bytes_read 8 part)

pub pairs_pass : (part bytes : List ℕ) (i n : ℕ) → i < 8 → length bytes ≡ 8 → number_read 16 (take 2 (drop (2 * i) part)) ≡ gives n
    → on_to (take i bytes) (bytes_read (8 - i) (drop (2 * i) part)) ≡ on_to (take (i + 1) (set bytes i n)) (bytes_read (8 - (i + 1)) (drop (2 * (i + 1)) part))
unfolding bytes_read
pairs_pass part bytes i n h l e =
    let s : 8 - i ≡ suc (8 - (i + 1)) = omega arith in
    let k : 2 * (i + 1) ≡ 2 * i + 2 = omega arith in
    let b : i < length bytes = omega arith in
    let take_more : take (i + 1) (set bytes i n) ≡ take i bytes ++ (n ∷ []) = rw add-one (take-suc-set bytes i n b) in
    ap (λ (m : ℕ). on_to (take i bytes) (bytes_read m (drop (2 * i) part))) s
    ∙ rw (e, drop-drop 2 (2 * i) part, k, take_more) (on_to_cons (take i bytes) n (bytes_read (8 - (i + 1)) (drop (2 * i + 2) part)))

pub pairs_stop : (part bytes : List ℕ) (i m : ℕ) → i < 8 → number_read 16 (take 2 (drop (2 * i) part)) ≡ refused m
    → on_to (take i bytes) (bytes_read (8 - i) (drop (2 * i) part)) ≡ refused m
unfolding bytes_read
pairs_stop part bytes i m h e =
    let s : 8 - i ≡ suc (8 - (i + 1)) = omega arith in
    ap (λ (k : ℕ). on_to (take i bytes) (bytes_read k (drop (2 * i) part))) s ∙ rw e

pub pairs_end : (part bytes : List ℕ) (i : ℕ) → 8 ≤ i → length bytes ≡ 8 → on_to (take i bytes) (bytes_read (8 - i) (drop (2 * i) part)) ≡ gives bytes
unfolding bytes_read
pairs_end part bytes i h l =
    let z : 8 - i ≡ 0 = omega arith in
    rw (z, take_all i bytes (omega arith), append-nil)

-- two digits make a byte
pub pair_below : (text : List ℕ) (n : ℕ) → number_read 16 (take 2 text) ≡ gives n → n < 256
pair_below text n e =
    let l : length (take 2 text) ≤ 2 = rw length-take (omega arith) in
    let p : 16 ^ length (take 2 text) ≤ 16 ^ 2 = pow-le-pow_right (lit< tt) l in
    lt_of_lt_of_le (read_below 16 (lit< tt) (lit≤ tt) (take 2 text) n e) p

-- a line read, by cases

pub read_shaped : (line : List ℕ) → has_shape line ≡ true
    → line_read line ≡ (given gap_read (gap_in line) then λ gap. given number_read 16 (id_in line) then λ id. given bytes_read 8 (data_in line) then λ bytes. gives (record { gap = gap; id = id; bytes = bytes }))
unfolding line_read
read_shaped line e = rw e

module _ (line : List ℕ) where
  pub no_shape : has_shape line ≡ false → line_read line ≡ refused 19
  unfolding line_read
  no_shape e = rw e

  pub no_gap : has_shape line ≡ true → gap_read (gap_in line) ≡ refused 19 → line_read line ≡ refused 19
  no_gap s e = read_shaped line s ∙ rw e

  pub no_id : (gap : ℕ) → has_shape line ≡ true → gap_read (gap_in line) ≡ gives gap → number_read 16 (id_in line) ≡ refused 19 → line_read line ≡ refused 19
  no_id gap s g e = read_shaped line s ∙ rw (g, e)

  pub no_data : (gap id : ℕ) → has_shape line ≡ true → gap_read (gap_in line) ≡ gives gap → number_read 16 (id_in line) ≡ gives id
      → bytes_read 8 (data_in line) ≡ refused 19 → line_read line ≡ refused 19
  no_data gap id s g i e = read_shaped line s ∙ rw (g, i, e)

  pub a_frame : (gap id : ℕ) (bytes : List ℕ) → has_shape line ≡ true → gap_read (gap_in line) ≡ gives gap → number_read 16 (id_in line) ≡ gives id
      → bytes_read 8 (data_in line) ≡ gives bytes → line_read line ≡ gives (record { gap = gap; id = id; bytes = bytes })
  a_frame gap id bytes s g i e = read_shaped line s ∙ rw (g, i, e)

  -- and what it promises

  pub blank_line : (r : Line) → r.answer ≡ Err Malformed → frame_in r ≡ no_frame → line_read line ≡ refused 19 → TakeApart line r
  blank_line r a n e = record { answer = rw a (sym e); frame = n ∙ sym (ap frame_if e) }

  pub sound_line : (r : Line) → r.answer ≡ Ok tt → line_read line ≡ gives (frame_in r) → TakeApart line r
  sound_line r a e = record { answer = rw a (sym e); frame = sym (ap frame_if e) }

-- a line of a frame has 39 to 43 bytes
pub shape_length : (line : List ℕ) → has_shape line ≡ true → (39 ≤ length line) × (length line ≤ 43)
unfolding has_shape
shape_length line e =
    let a = both_true (39 ≤? length line) _ e in
    let b = both_true (length line ≤? 43) _ a.1 in
    (leb-true 39 (length line) a.0, leb-true (length line) 43 b.0)

-- a gap that is read is spelled by digits, fits 16 bits, and has no leading zeros

given_gap : (t : Told ℕ) (f : ℕ → Told ℕ) (a : ℕ) → (given t then f) ≡ gives a → (n : ℕ) × (t ≡ gives n) × (f n ≡ gives a)
given_gap (gives n) f a e = (n, refl, e)
given_gap (refused n) f a e = refused_gives e

pub gap_known : (text : List ℕ) (gap : ℕ) → gap_read text ≡ gives gap → (number_read 10 text ≡ gives gap) × (gap ≤ 65535) × (decimal_width gap ≡ length text)
unfolding gap_read
gap_known text gap e =
    let g = given_gap (number_read 10 text) (λ n. if 65535 <? n then refused 19 else if not (decimal_width n =? length text) then refused 19 else gives n) gap e in
    let n = g.0 in
    let r₁ = past_refusal (65535 <? n) 19 _ g.2 in
    let r₂ = past_refusal (not (decimal_width n =? length text)) 19 _ r₁.1 in
    let s : n ≡ gap = gives_same r₂.1 in
    (rw s at g.1, rw s at (ltb-false 65535 n r₁.0), rw s at (eqb-true (decimal_width n) (length text) (not_flips (decimal_width n =? length text) r₂.0)))

pub gap_below : (text : List ℕ) (gap : ℕ) → gap_read text ≡ gives gap → gap ≤ 65535
gap_below text gap e = (gap_known text gap e).1
