-- What a line prints, and what it leaves.
-- Assumes nothing.
use Rattle.std.specs.Prelude.{if◌then◌else◌}
use mathlib.Core.Path.{◌≡◌, refl, sym, ap, ◌∙◌}
use mathlib.Core.Bool.{Bool, true, false}
use mathlib.Core.List.{List, []}
use Prim.Native.Nat.{ℕ, ◌+◌, ◌*◌, ◌≤◌}
use native.Mathlib.Omega.{arith}
use borrow.Author.Tests.{ltb-false}
use lib.ListN.{length, take, drop, length-take}
use Rattle.words.specs.Words.{◌<?◌, ◌≤?◌, ◌or◌, Told, refused, gives}
use Rattle.words.proofs.Tests.{tests}
use Rattle.places.specs.Places.{place_count}
use Rattle.places.specs.Telling.{Outcome, nothing_to_do, opened, stored, finished}
use Rattle.message.specs.LongMessage.{longest}
use Rattle.message.specs.Receiver.{room}
use Rattle.message.specs.Promises.{told_answer, message_in, Message, Hear, Pause}
use Rattle.std.specs.Prelude.{Ok, Err}
use Rattle.message.specs.Promises.{Answer}
use Rattle.message.specs.declared.Receiver.{Receiver}
use Rattle.message.specs.declared.Heard.{Heard}
use Rattle.message.specs.declared.Paused.{Paused}
use Rattle.capture.specs.Line.{Frame, line_read}
use Rattle.capture.specs.Promises.{TakeApart, frame_in, told_reading}
use Rattle.capture.specs.declared.Line.{Line}
use Rattle.capture.specs.Promises.{Reading}
use Rattle.capture.specs.declared.NotRead.{NotRead}
use Rattle.capture.specs.declared.NotRead.TheVariants.{Malformed}
use Rattle.text.specs.Pieces.{Wrote}
use Rattle.busread.specs.Report.{refusal_text, print_of, printed, answer_text, counted, heard_in, line_text, kept_after}
use Rattle.busread.specs.Step.{line_room, kept, Counting, Took}
use Rattle.busread.specs.declared.report.Counts.{Counts}
use Rattle.busread.specs.declared.step.Print.{Print}

pub prints : (n : ℕ) (f : Frame) (storage : List ℕ) (answer : Told Outcome) {print : Print}
    → print_of answer ≡ print → answer_text n f storage answer ≡ printed n f (message_in storage answer) print
unfolding answer_text
prints n f storage answer e = ap (printed n f (message_in storage answer)) e

-- a finished message is that part of the storage, and never longer than messages are

pub message_bytes : {storage bytes : List ℕ} {answer : Answer} → room ≤ length storage → Message storage answer bytes → bytes ≡ message_in storage (told_answer answer)
message_bytes {storage} h m = let t : length storage <? room ≡ false = search tests in m.bytes ∙ rw t

part_most : (b : Bool) (size : ℕ) (s : List ℕ) → (b ≡ false → size ≤ 1785) → length (if b then [] else take size s) ≤ 1785
part_most true size s h = omega arith
part_most false size s h = let l : size ≤ 1785 = h refl in rw length-take (omega arith)

pub message_most : (storage : List ℕ) (answer : Told Outcome) → length (message_in storage answer) ≤ 1785
message_most storage (refused n) = omega arith
message_most storage (gives nothing_to_do) = omega arith
message_most storage (gives opened) = omega arith
message_most storage (gives stored) = omega arith
message_most storage (gives (finished m)) =
    part_most ((place_count ≤? m.place) or (longest <? m.size)) m.size (drop (longest * m.place) storage)
    (λ e. short (place_count ≤? m.place) e)
  where
    short : (b : Bool) → b or (longest <? m.size) ≡ false → m.size ≤ 1785
    short true e = let z : ◌≡◌ {A = ℕ} 0 1 = cc in absurd (omega arith)
    short false e = omega (arith, ltb-false)

-- every line counts as one frame
pub counted_frames : (c : Counts) (print : Print) → (counted c print).frames ≡ c.frames + 1
counted_frames c (Print.Refused n) = refl
counted_frames c (Print.Message sender dgn) = refl
counted_frames c Print.Fields = refl
counted_frames c Print.Nothing = refl

pub took : {f : Frame} {receiver : Receiver} {storage storage' out out' : List ℕ} {counts counts' : Counts} {written_to end : ℕ} {p : Paused} {h : Heard}
    → Pause f.gap receiver.places p → Hear f.id f.bytes p.receiver.places storage h storage'
    → Wrote out written_to (answer_text (counts.frames + 1) f storage' (told_answer h.answer)) out' end
    → end ≤ written_to + line_room → counts' ≡ counted counts (print_of (told_answer h.answer)) → Counting counts'
    → Took (kept receiver storage counts) (gives f) out written_to (record { receiver = h.receiver; counts = counts'; written_to = end }) storage' out'
unfolding line_text kept_after heard_in
took {f} {receiver} {storage} {storage'} {out} {out'} {counts} {counts'} {written_to} {end} {p} {h} e g w b n k =
    record {
      printed = rw (← e.places, ← g.storage_bytes, ← g.answer) w;
      short = b;
      kept = rw (← e.places, ← g.places, ← g.storage_bytes, ← g.answer, n);
      counting = k;
      counted = ap (λ (c : Counts). c.frames) n ∙ counted_frames counts (print_of (told_answer h.answer));
    }

pub passed : {receiver : Receiver} {out out' : List ℕ} {counts counts' : Counts} {written_to end : ℕ} (storage : List ℕ)
    → Wrote out written_to (refusal_text (counts.frames + 1) 19) out' end → end ≤ written_to + line_room → counts' ≡ counted counts (Print.Refused 19) → Counting counts'
    → Took (kept receiver storage counts) (refused 19) out written_to (record { receiver = receiver; counts = counts'; written_to = end }) storage out'
unfolding line_text kept_after
passed {counts = counts} storage w b n k =
    record { printed = w; short = b; kept = rw n; counting = k; counted = ap (λ (c : Counts). c.frames) n }

-- a line taken apart says what its answer says

pub sound_line : {text : List ℕ} {line : Line} → TakeApart text line → line.answer ≡ Ok tt → line_read text ≡ gives (frame_in line)
sound_line {line = line} t e = sym t.answer ∙ ap (λ (r : Reading). told_reading r (frame_in line)) e

pub malformed_line : {text : List ℕ} {line : Line} {why : NotRead} → TakeApart text line → line.answer ≡ Err why → line_read text ≡ refused 19
malformed_line {line = line} {why = Malformed} t e = sym t.answer ∙ ap (λ (r : Reading). told_reading r (frame_in line)) e
