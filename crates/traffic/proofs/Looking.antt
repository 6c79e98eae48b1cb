-- What is seen of a line, from what its calls promise.
-- Assumes nothing.
use mathlib.Core.Path.{◌≡◌, sym, ap, ◌∙◌}
use mathlib.Core.List.{List}
use Prim.Native.Nat.{ℕ, ◌%◌}
use native.Mathlib.Nat.{div-one}
use lib.ListN.{length}
use Rattle.words.specs.Words.{refused, gives}
use Rattle.frame.specs.Frame.{checked_of}
use Rattle.std.specs.Prelude.{Ok, Err}
use Rattle.frame.specs.Promises.{Verdict, Check, told_verdict, refusal_of}
use Rattle.frame.specs.declared.Parts.{Parts}
use Rattle.frame.specs.declared.Checked.{Checked}
use Rattle.frame.specs.declared.BadFrame.{BadFrame}
use Rattle.capture.specs.Line.{line_read}
use Rattle.capture.specs.Promises.{Reading, TakeApart, told_reading, frame_in}
use Rattle.capture.specs.declared.Line.{Line}
use Rattle.capture.specs.declared.NotRead.{NotRead}
use Rattle.capture.specs.declared.NotRead.TheVariants.{Malformed}
use Rattle.traffic.specs.Figures.{Seen, pair_of, seen_in}
use Rattle.traffic.specs.Counters.{says_by, says_of}
use Rattle.traffic.specs.declared.seen.Says.{Says}

-- a frame's identifier, checked

checked : {id : ℕ} {bytes : List ℕ} {r : Checked} {verdict : Verdict} → Check id bytes r → r.verdict ≡ verdict
    → length bytes ≡ 8 → checked_of id 8 ≡ told_verdict verdict
checked {id} {bytes} h e n = sym (sym (ap told_verdict e) ∙ h.answer ∙ ap (checked_of id) n)

pub sound_says : {id : ℕ} {bytes : List ℕ} {r : Checked} {parts : Parts} → Check id bytes r → r.verdict ≡ Ok parts
    → length bytes ≡ 8 → gives (id % 33554432) ≡ says_of id 8
unfolding says_of pair_of
sound_says h e n = rw (checked h e n, div-one)

pub bad_says : {id refusal : ℕ} {bytes : List ℕ} {r : Checked} {why : BadFrame} → Check id bytes r → r.verdict ≡ Err why
    → refusal ≡ refusal_of why → length bytes ≡ 8 → refused refusal ≡ says_of id 8
unfolding says_of
bad_says h e k n = rw (checked h e n, k)

-- a line taken apart

pub sound_seen : {text : List ℕ} {line : Line} (says : Says) → TakeApart text line → line.answer ≡ Ok tt
    → length line.bytes ≡ 8 → says_by says ≡ says_of line.id 8
    → ◌≡◌ {A = Seen} (record { pause = line.gap; says = says_by says }) (seen_in (line_read text))
unfolding seen_in says_of
sound_seen {text} {line} says t e n s =
    let l : line_read text ≡ gives (frame_in line) = sym t.answer ∙ ap (λ (r : Reading). told_reading r (frame_in line)) e in
    rw (l, s, n)

pub malformed_seen : {text : List ℕ} {line : Line} {seen : Seen} {why : NotRead} → TakeApart text line → line.answer ≡ Err why
    → seen ≡ seen_in (refused 19) → seen ≡ seen_in (line_read text)
malformed_seen {text} {line} {why = Malformed} t e s =
    let l : line_read text ≡ refused 19 = sym t.answer ∙ ap (λ (r : Reading). told_reading r (frame_in line)) e in
    rw l s
