-- The bytes of a frame, put together. Assumes nothing.
use Rattle.std.proofs.Common.{ℕ, List, ◌≡◌, ◌∙◌, ◌+◌, ◌-◌, ◌≤◌, ◌++◌, length, take, drop, replicate, min, refl, sym, ap}
use Rattle.std.proofs.Common.{append_assoc, zero-add, length-append, arith}
use Rattle.std.proofs.Math.Seq.{paste, length-take-le}
use Rattle.std.proofs.lemmas.List.{drop-replicate}
use Rattle.std.proofs.lemmas.List.Edits.{paste-paste, paste_all}
use Rattle.frame.specs.Frame.{frame_bytes}
use Rattle.frame.specs.Standard.{unused}
use Rattle.words.proofs.Lists.{filled}
use Rattle.places.specs.Packets as Packets

-- a frame's own bytes and the message's, put one after the other over bytes that are not used
pub put_together : (head message : List ℕ) (count : ℕ) → length head ≤ frame_bytes
    → count ≡ min (frame_bytes - length head) (length message)
    → paste (paste (replicate frame_bytes unused) 0 head (length head)) (length head) (take count message)
    (length (take count message))
    ≡ Packets.filled head message
put_together head message count h e =
    let n = length head in
    let room : ℕ = frame_bytes - n in
    let empty : List ℕ = replicate frame_bytes unused in
    let part : List ℕ = take count message in
    let l : length part ≡ count = length-take-le count message (omega arith) in
    let both : n + length part ≡ length (head ++ part) = omega (arith, length-append head part) in
    let left : frame_bytes - (0 + (n + length part)) ≡ room - count = omega arith in
    let rest : drop (0 + (n + length part)) empty ≡ drop count (replicate room unused) =
    drop-replicate (0 + (n + length part)) frame_bytes unused
    ∙ ap (λ (m : ℕ). replicate m unused) left
    ∙ sym (drop-replicate count room unused) in
    ap (λ (k : ℕ). paste (paste empty 0 head n) k part (length part)) (sym (zero-add n))
    ∙ paste-paste empty 0 head part n (length part) refl refl (omega arith)
    ∙ paste_all empty 0 (head ++ part) (n + length part) both
    ∙ append_assoc head part (drop (0 + (n + length part)) empty)
    ∙ ap (λ (t : List ℕ). head ++ (part ++ t)) rest
    ∙ ap (λ (t : List ℕ). head ++ t) (sym (filled room unused count message e))
