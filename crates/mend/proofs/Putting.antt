-- What is put into the lent bytes: capitals, the fields of a mended line, actions and lines of the report.
-- Assumes nothing.
use Rattle.std.specs.Prelude.{Ok, Err}
use mathlib.Core.Path.{◌≡◌, refl, sym, ap, ◌∙◌}
use mathlib.Core.Bool.{Bool, true, false}
use mathlib.Core.List.{List, [], ◌∷◌, ◌++◌, append_assoc, append-nil}
use Prim.Native.Nat.{ℕ, zero, suc, ◌+◌, ◌-◌, ◌^◌, ◌≤◌, ◌<◌}
use native.Mathlib.Omega.{arith}
use borrow.Author.Tests.{eq-eqb, ne_eqb}
use lib.ListN.{length, get_or, take, drop, set, length-map, length-drop}
use lib.Seq.{paste, take_all, take_at, drop_at, take-take, take-add, length-take-le}
use Rattle.words.specs.Words.{◌or◌, refused, gives}
use Rattle.text.specs.Text.{text, digit0, glyph, digits, decimal}
use Rattle.text.specs.Pieces.{placed, Wrote}
use Rattle.text.specs.Promises.{Put, PutDecimal, PutHex}
use Rattle.text.proofs.Pieces.{put_turn, put_end, put_fits, fits_wrote, wrote_decimal, wrote_hex, nothing, behind}
use Rattle.capture.specs.Line.{gap_key, id_key, data_key, line_read}
use Rattle.capture.specs.Promises.{TakeApart, told_reading, frame_in}
use Rattle.capture.specs.declared.Line.{Line}
use Rattle.capture.specs.declared.NotRead.{NotRead}
use Rattle.capture.specs.declared.NotRead.TheVariants.{Malformed}
use Rattle.mend.specs.Mending.{capital, capitals, zeros, without_zeros, eight_digits, Parts, parts_in, tidied, actions_of, mended}
use Rattle.mend.specs.Report.{end_of_line, written_of, action_text, actions_text, any_action, action_line, report_of}
use Rattle.mend.specs.Places.{KeptText, Became, action_word, mended_line}
use Rattle.mend.specs.declared.line.Actions.{Actions}
use Rattle.mend.specs.declared.line.Outcome.TheVariants.{Kept, Dropped}

-- Capitals, one after the other.

capital_at : (part : List ℕ) (i : ℕ) → i < length part → get_or (capitals part) i 0 ≡ capital (get_or part i 0)
capital_at [] i h = absurd (omega arith)
capital_at (c ∷ part) zero h = refl
capital_at (c ∷ part) (suc i) h = capital_at part i (omega arith)

pub capital_turn : (d out part : List ℕ) (at i : ℕ) → at + i < length d → i < length part → out ≡ paste d at (capitals part) i
    → set out (at + i) (capital (get_or part i 0)) ≡ paste d at (capitals part) (i + 1)
capital_turn d out part at i h k e =
    let l : length (capitals part) ≡ length part = length-map part capital in
    rw (← capital_at part i k) (put_turn d out (capitals part) at i h (omega arith) e)

pub capital_end : (d out part : List ℕ) (at i : ℕ) → i ≡ length part → at + length part ≤ length d → out ≡ paste d at (capitals part) i
    → Wrote d at (capitals part) out (at + i)
capital_end d out part at i k h e =
    let l : length (capitals part) ≡ length part = length-map part capital in
    let p : out ≡ placed d at (capitals part) = put_end d out (capitals part) at i (k ∙ sym l) e in
    fits_wrote (put_fits at i (capitals part) (k ∙ sym l) (omega arith) p refl) (omega arith)

-- What was written behind a place: what stood before it stays, and the text stands there.

pub wrote_before : {d s out : List ℕ} {at r : ℕ} → Wrote d at s out r → at ≤ length d → take at out ≡ take at d
wrote_before {d} {s} {out} {at} {r} w h =
    sym (take-take at r out (omega (arith, w.next))) ∙ ap (take at) w.written ∙ take_at (take at d) s at (length-take-le at d h)

pub wrote_part : {d s out : List ℕ} {at r : ℕ} → Wrote d at s out r → at ≤ length d → take (r - at) (drop at out) ≡ s
wrote_part {d} {s} {out} {at} {r} w h =
    let n : r - at ≡ length s = omega (arith, w.next) in
    let e : take (at + length s) out ≡ take at d ++ s = rw (← w.next) w.written in
    let l : at ≤ length out = omega (arith, w.room) in
    rw n
    (sym (drop_at (take at out) (take (length s) (drop at out)) at (length-take-le at out l))
    ∙ ap (drop at) (sym (take-add at (length s) out) ∙ e) ∙ drop_at (take at d) s at (length-take-le at d h))

-- Where only what stands behind a place has changed, it counts as not written.

pub unwritten : {d out : List ℕ} {at : ℕ} → take at out ≡ take at d → length out ≡ length d → at ≤ length d → Wrote d at [] out at
unwritten {d} {out} {at} e n h = record { next = omega arith; written = e ∙ sym (append-nil (take at d)); fits = omega (arith, n); room = n }

pub written_over : {d mid s out : List ℕ} {at r : ℕ} → take at mid ≡ take at d → length mid ≡ length d → Wrote mid at s out r → Wrote d at s out r
written_over e n w = record { next = w.next; written = w.written ∙ rw e; fits = w.fits; room = w.room ∙ n }

-- The fields of a mended line.

rest_part : (l : List ℕ) (n : ℕ) → take (length l - n) (drop n l) ≡ drop n l
rest_part l n = take_all (length l - n) (drop n l) (omega (arith, length-drop n l))

pub gap_put : {a b c : List ℕ} {at m r z : ℕ} (part : List ℕ) → Put a at gap_key m b → drop z part ≡ without_zeros part → z ≤ length part
    → Put b m (take (length part - z) (drop z part)) r c → at + 4 + length part ≤ length a
    → Wrote a at (gap_key ++ without_zeros part) c r × (r ≤ at + 4 + length part)
gap_put {z = z} part p e k q h =
    let l : length (without_zeros part) ≡ length part - z = sym (ap length e) ∙ length-drop z part in
    let w₁ = fits_wrote p (omega arith) in
    let w₂ = fits_wrote (rw (rest_part part z ∙ e) at q) (omega (arith, w₁.next, w₁.room)) in
    (behind w₁ w₂, omega (arith, w₁.next, w₂.next))

zeros_more : (k : ℕ) → zeros k ++ (digit0 ∷ []) ≡ zeros (suc k)
zeros_more zero = refl
zeros_more (suc k) = ap (λ (l : List ℕ). digit0 ∷ l) (zeros_more k)

zero_digits : (k : ℕ) → digits 16 k 0 ≡ zeros k
unfolding digits glyph
zero_digits zero = refl
zero_digits (suc k) = rw (zero_digits k) (zeros_more k)

pub id_room : {a b : List ℕ} {at m n : ℕ} (part : List ℕ) → n ≡ 8 - length part → PutHex a at id_key 0 n m b → at + 12 + length part ≤ length a
    → m + length part ≤ length b
id_room {n = n} part e p h = let w = wrote_hex id_key 0 n p (omega arith) in omega (arith, w.1, w.0.room)

pub id_put : {a b c : List ℕ} {at m n r : ℕ} (part : List ℕ) → n ≡ 8 - length part → PutHex a at id_key 0 n m b
    → at + 12 + length part ≤ length a → Wrote b m (capitals part) c r
    → Wrote a at (id_key ++ eight_digits (capitals part)) c r × (r ≤ at + 12 + length part)
unfolding eight_digits
id_put {n = n} part e p h w =
    let v = wrote_hex id_key 0 n p (omega arith) in
    let l : length (capitals part) ≡ length part = length-map part capital in
    let u = rw (zero_digits n, e, ← l) at v.0 in
    let t = behind u w in
    (rw (append_assoc id_key (zeros (8 - length (capitals part))) (capitals part)) at t, omega (arith, v.1, w.next, l))

pub key_room : {a b key : List ℕ} {at m : ℕ} (part : List ℕ) → Put a at key m b → at + length key + length part ≤ length a → m + length part ≤ length b
key_room part p h = let w = fits_wrote p (omega arith) in omega (arith, w.next, w.room)

pub data_put : {a b c : List ℕ} {at m r : ℕ} (part : List ℕ) → Put a at data_key m b → at + 6 + length part ≤ length a → Wrote b m (capitals part) c r
    → Wrote a at (data_key ++ capitals part) c r × (r ≤ at + 6 + length part)
data_put part p h w =
    let v = fits_wrote p (omega arith) in
    let l : length (capitals part) ≡ length part = length-map part capital in
    (behind v w, omega (arith, v.next, w.next, l))

pub tidied_put : {a b c d : List ℕ} {at m₁ m₂ m₃ : ℕ} (p : Parts) → Wrote a at (gap_key ++ without_zeros p.gap) b m₁
    → Wrote b m₁ (id_key ++ eight_digits (capitals p.id)) c m₂ → Wrote c m₂ (data_key ++ capitals p.bytes) d m₃ → Wrote a at (tidied p) d m₃
unfolding tidied
tidied_put p w₁ w₂ w₃ =
    let e : (gap_key ++ without_zeros p.gap) ++ (id_key ++ eight_digits (capitals p.id)) ++ (data_key ++ capitals p.bytes) ≡ tidied p =
    simp append_assoc in
    rw e at (behind (behind w₁ w₂) w₃)

-- What becomes of a line.

kept_same : {to to' : ℕ} {a a' : Actions} → Kept to a ≡ Kept to' a' → (to ≡ to') × (a ≡ a')
kept_same e = (cc, cc)

became_dropped : {line out out' : List ℕ} {at : ℕ} → mended line ≡ refused 19 → take at out' ≡ take at out → length out' ≡ length out
    → Became line out at out' Dropped
became_dropped e b n =
    record { kept = λ to a f. let z : ◌≡◌ {A = ℕ} 0 1 = cc in absurd (omega arith); dropped = λ f. e; before = b; room = n }

pub no_fields : {line out : List ℕ} {at : ℕ} → parts_in line ≡ refused 19 → Became line out at out Dropped
unfolding mended
no_fields e = became_dropped (rw e) refl refl

pub no_digit : {line out : List ℕ} {at : ℕ} {p : Parts} → parts_in line ≡ gives p → length p.id ≡ 0 → Became line out at out Dropped
unfolding mended
no_digit {p = p} e z = became_dropped (rw (e, eq-eqb (length p.id) 0 z)) refl refl

module _ (line : List ℕ) (p : Parts) {out out' : List ℕ} {at to : ℕ} (e : parts_in line ≡ gives p) (n : length p.id ≡ 0 → ⊥)
    (w : Wrote out at (tidied p) out' to) (h : at ≤ length out) (r : Line) (t : TakeApart (take (to - at) (drop at out')) r) where
  read_so : told_reading r.answer (frame_in r) ≡ line_read (tidied p)
  read_so = t.answer ∙ ap line_read (wrote_part w h)

  pub unsound : (why : NotRead) → r.answer ≡ Err why → Became line out at out' Dropped
  unfolding mended
  unsound Malformed a =
      let q : refused 19 ≡ line_read (tidied p) = rw a at read_so in
      became_dropped (rw (e, ne_eqb (length p.id) 0 n, ← q)) (wrote_before w h) w.room

  pub kept_so : {actions : Actions} → actions ≡ actions_of p → to ≤ at + 96 → r.answer ≡ Ok tt → Became line out at out' (Kept to actions)
  unfolding mended
  kept_so {actions} s k a =
      let q : gives (frame_in r) ≡ line_read (tidied p) = rw a at read_so in
      record {
        kept = λ to' actions' f.
            rw (← (kept_same f).0, ← (kept_same f).1)
            (record { text = tidied p; told = rw (e, ne_eqb (length p.id) 0 n, ← q, s); wrote = w; short = k });
        dropped = λ f. let z : ◌≡◌ {A = ℕ} 0 1 = cc in absurd (omega arith);
        before = wrote_before w h;
        room = w.room;
      }

-- What is written of a line, in either pass.

pub kept_line : {line out mid out' : List ℕ} {at to r : ℕ} {a : Actions} → KeptText line out at mid to a → Put mid to end_of_line r out'
    → at + 128 ≤ length out → Wrote out at (written_of (mended line)) out' r × (r ≤ at + 128)
kept_line k p h =
    let w = k.wrote in
    let v = fits_wrote p (omega (arith, k.short, w.room)) in
    (rw k.told (behind w v), omega (arith, k.short, v.next))

pub dropped_line : {line out mid : List ℕ} {at : ℕ} → Became line out at mid Dropped → at + 128 ≤ length out
    → Wrote out at (written_of (mended line)) mid at × (at ≤ at + 128)
dropped_line b h = (rw (b.dropped refl) (unwritten b.before b.room (omega arith)), omega arith)

pub kept_report : {line out mid out' : List ℕ} {at to r : ℕ} {a : Actions} (n : ℕ) → Became line out at mid (Kept to a)
    → Wrote mid at (mended_line n a) out' r → Wrote out at (report_of n (mended line)) out' r
unfolding mended_line
kept_report {to = to} {a = a} n b w = rw (b.kept to a refl).told (written_over b.before b.room w)

pub dropped_report : {line out mid out' : List ℕ} {at r : ℕ} (n : ℕ) → Became line out at mid Dropped
    → Wrote mid at (action_line n (text "dropped")) out' r → Wrote out at (report_of n (mended line)) out' r
dropped_report n b w = rw (b.dropped refl) (written_over b.before b.room w)

-- The lines of the report.

pub dropped_put : {a b c : List ℕ} {at m r : ℕ} (n : ℕ) → PutDecimal a at (text "line=") n m b → Put b m (text " action=dropped\n") r c → n < 2 ^ 64
    → at + 128 ≤ length a → Wrote a at (action_line n (text "dropped")) c r × (r ≤ at + 128)
unfolding action_line
dropped_put n p q k h =
    let w = wrote_decimal (text "line=") n p k (omega arith) in
    let v = fits_wrote q (omega (arith, w.1, w.0.room)) in
    let e : (text "line=" ++ decimal n) ++ text " action=dropped\n" ≡ action_line n (text "dropped") = simp append_assoc in
    (rw e at (behind w.0 v), omega (arith, w.1, v.next))

pub mended_put : {a b c d e : List ℕ} {at m₁ m₂ m₃ r : ℕ} (n : ℕ) (actions : Actions) → any_action actions ≡ true
    → PutDecimal a at (text "line=") n m₁ b → Put b m₁ (text " action=") m₂ c → Wrote c m₂ (actions_text actions) d m₃ × (m₃ ≤ m₂ + 32)
    → Put d m₃ end_of_line r e → n < 2 ^ 64 → at + 128 ≤ length a
    → Wrote a at (mended_line n actions) e r × (r ≤ at + 128)
unfolding mended_line action_line
mended_put n actions t p₁ p₂ w₃ p₄ k h =
    let w₁ = wrote_decimal (text "line=") n p₁ k (omega arith) in
    let w₂ = fits_wrote p₂ (omega (arith, w₁.1, w₁.0.room)) in
    let w₄ = fits_wrote p₄ (omega (arith, w₁.1, w₁.0.room, w₂.next, w₂.room, w₃.1, w₃.0.room)) in
    let e : (text "line=" ++ decimal n) ++ text " action=" ++ actions_text actions ++ end_of_line ≡ action_line n (actions_text actions) = simp append_assoc in
    (rw (t, ← e) (behind (behind (behind w₁.0 w₂) w₃.0) w₄), omega (arith, w₁.1, w₂.next, w₃.1, w₄.next))

pub not_mended : {a : List ℕ} {at : ℕ} (n : ℕ) (actions : Actions) → any_action actions ≡ false → at + 128 ≤ length a
    → Wrote a at (mended_line n actions) a at × (at ≤ at + 128)
unfolding mended_line
not_mended {a} {at} n actions t h = (rw t (nothing a at (omega arith)), omega arith)

-- The actions.

pub not_due : {a : List ℕ} {at : ℕ} {due : Bool} (some : Bool) (word : List ℕ) → due ≡ false → at + 8 ≤ length a → Wrote a at (action_word some due word) a at × (at ≤ at + 8)
unfolding action_word
not_due {a} {at} some word e h = (rw e (nothing a at (omega arith)), omega arith)

pub first_due : {a b word : List ℕ} {at r : ℕ} {some due : Bool} → due ≡ true → some ≡ false → Put a at word r b → length word ≤ 4 → at + 8 ≤ length a
    → Wrote a at (action_word some due word) b r × (r ≤ at + 8)
unfolding action_word
first_due d s p k h = let w = fits_wrote p (omega arith) in (rw (d, s) w, omega (arith, w.next))

pub next_due : {a b c word : List ℕ} {at m r : ℕ} {some due : Bool} → due ≡ true → some ≡ true → Put a at (text ",") m b → Put b m word r c
    → length word ≤ 4 → at + 8 ≤ length a → Wrote a at (action_word some due word) c r × (r ≤ at + 8)
unfolding action_word
next_due d s p q k h =
    let w = fits_wrote p (omega arith) in
    let v = fits_wrote q (omega (arith, w.next, w.room)) in
    (rw (d, s) (behind w v), omega (arith, w.next, v.next))

pub actions_put : {o₀ o₁ o₂ o₃ o₄ : List ℕ} {m₀ m₁ m₂ m₃ m₄ : ℕ} {some more : Bool} (a : Actions)
    → some ≡ (a.cr or a.case) → more ≡ (some or a.gap)
    → Wrote o₀ m₀ (action_word false a.cr (text "cr")) o₁ m₁ → Wrote o₁ m₁ (action_word a.cr a.case (text "case")) o₂ m₂
    → Wrote o₂ m₂ (action_word some a.gap (text "gap")) o₃ m₃ → Wrote o₃ m₃ (action_word more a.id (text "id")) o₄ m₄
    → Wrote o₀ m₀ (actions_text a) o₄ m₄
unfolding action_word action_text actions_text
actions_put a s t w₁ w₂ w₃ w₄ = rw (t, s) at (behind (behind (behind w₁ w₂) w₃) w₄)
