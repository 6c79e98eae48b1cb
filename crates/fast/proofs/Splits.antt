-- The bytes of a frame, copied over a filling of FFh, and the splitter's refusals.
-- Assumes nothing.
use Rattle.std.specs.Prelude.{if◌then◌else◌}
use mathlib.Core.Path.{◌≡◌, refl}
use mathlib.Core.Bool.{Bool, true, false}
use mathlib.Core.List.{List}
use Prim.Native.Nat.{ℕ, suc, ◌≤◌}
use native.Mathlib.Omega.{arith}
use borrow.Author.Tests.{ltb-false}
use lib.ListN.{length}
use Rattle.words.specs.Words.{◌<?◌, gives}
use Rattle.fast.specs.FastPacket.{greatest_sequence, longest}
use Rattle.fast.specs.FastPacket.{last_frame}
use Rattle.fast.specs.Splitter.{refusal_in, frame_bytes_of, frame_of}

-- why a message has no such frame; where it has one, its size, its sequence and its number keep their limits

pub record Splittable (size sequence number : ℕ) : Type 0 where
  pub low : sequence ≤ greatest_sequence
  pub short : size ≤ longest
  pub within : number ≤ last_frame size

past_test : (b : Bool) (n m : ℕ) → (if b then suc n else m) ≡ 0 → (b ≡ false) × (m ≡ 0)
past_test true n m e = absurd (omega arith)
past_test false n m e = (refl, e)

pub splittable : (size sequence number : ℕ) → refusal_in size sequence number ≡ 0 → Splittable size sequence number
unfolding refusal_in
splittable size sequence number e =
    let r₁ = past_test (greatest_sequence <? sequence) 11 _ e in
    let r₂ = past_test (size <? 1) 12 _ r₁.1 in
    let r₃ = past_test (longest <? size) 12 _ r₂.1 in
    let r₄ = past_test (last_frame size <? number) 14 _ r₃.1 in
    record { low = ltb-false _ _ r₁.0; short = ltb-false _ _ r₃.0; within = ltb-false _ _ r₄.0 }

module _ (message : List ℕ) (sequence number : ℕ) where
  pub frame_given : refusal_in (length message) sequence number ≡ 0
      → frame_of message sequence number ≡ gives (frame_bytes_of message sequence number)
  unfolding frame_of
  frame_given e = rw e
