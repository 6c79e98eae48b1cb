-- What a checked frame says of itself, for those who go on with it; addresses that may send, and a DGN read.
-- Assumes nothing.
use mathlib.Core.Path.{◌≡◌, refl, sym}
use mathlib.Core.Bool.{true, not}
use mathlib.Core.List.{List, [], ◌∷◌}
use Prim.Native.Nat.{ℕ, ◌≤◌, ◌<◌}
use native.Mathlib.Omega.{arith}
use borrow.Author.Tests.{eqb-true, ne_eqb}
use lib.ListN.{get_or}
use Rattle.words.specs.Words.{◌≤?◌, ◌=?◌, Told, refused, gives}
use Rattle.frame.specs.Bytes.{number_of}
use Rattle.frame.specs.Identifier.{reserved_of, source_of, dgn_of, parts_of, identifiers}
use Rattle.frame.specs.Frame.{source_allowed, checked_of, frame_bytes}
use Rattle.frame.specs.Standard.{greatest_address, dgn_at}
use Rattle.frame.specs.declared.Parts.{Parts}
use Rattle.words.proofs.Words.{past_refusal, before_refusal, not_flips, gives_same, by_if}

-- a frame that is given has eight bytes, a source that its DGN allows, and the parts of its identifier
pub checked_given : (id size : ℕ) (p : Parts) → checked_of id size ≡ gives p → (size ≡ frame_bytes) × (p ≡ parts_of id)
unfolding checked_of
checked_given id size p e =
    let r₃ = past_refusal (identifiers ≤? id) 3 _ e in
    let r₄ = past_refusal (not (size =? frame_bytes)) 4 _ r₃.1 in
    let r₅ = past_refusal (reserved_of id =? 1) 5 _ r₄.1 in
    let r₆ = before_refusal (source_allowed (source_of id) (dgn_of id)) 6 (gives (parts_of id)) r₅.1 in
    (eqb-true size frame_bytes (not_flips (size =? frame_bytes) r₄.0), sym (gives_same r₆.1))

-- an address may send any DGN
pub source_low : (source dgn : ℕ) → source ≤ greatest_address → source_allowed source dgn ≡ true
unfolding source_allowed
source_low source dgn h =
    let n : source ≡ 255 → ⊥ = λ e. omega arith in
    let m : source ≡ 254 → ⊥ = λ e. omega arith in
    rw (ne_eqb source 255 n, ne_eqb source 254 m)

-- the DGN in three bytes, read from the first three of a frame
pub dgn_read : (bytes : List ℕ) → number_of (get_or bytes 0 0 ∷ get_or bytes 1 0 ∷ get_or bytes 2 0 ∷ []) ≡ dgn_at 0 bytes
unfolding number_of dgn_at
dgn_read [] = refl
dgn_read (a ∷ []) = omega arith
dgn_read (a ∷ b ∷ []) = omega arith
dgn_read (a ∷ b ∷ d ∷ bytes) = refl

-- what is known of a frame by its check
abbrev pub Sound : ℕ → ℕ → Told Parts → Type 0
Sound id size (refused n) = (2 < n) × (n < 8)
Sound id size (gives p) = (p ≡ parts_of id) × (size ≡ frame_bytes) × (source_allowed (source_of id) (dgn_of id) ≡ true)

pub checked_sound : (id size : ℕ) → Sound id size (checked_of id size)
unfolding checked_of
checked_sound id size =
    by_if (Sound id size) (identifiers ≤? id) _ _ (λ _. (omega arith, omega arith)) (λ _.
    by_if (Sound id size) (not (size =? frame_bytes)) _ _ (λ _. (omega arith, omega arith)) (λ s.
    by_if (Sound id size) (reserved_of id =? 1) _ _ (λ _. (omega arith, omega arith)) (λ _.
    by_if (Sound id size) (source_allowed (source_of id) (dgn_of id)) _ _
    (λ a. (refl, eqb-true size frame_bytes (not_flips (size =? frame_bytes) s), a)) (λ _. (omega arith, omega arith)))))
