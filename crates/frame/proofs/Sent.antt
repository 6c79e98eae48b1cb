-- A frame as it is sent: where its source may send its DGN, it passes refusals 3 to 6, and its parts are those that it
-- was formed from.
-- Assumes nothing.
use mathlib.Core.Path.{◌≡◌, ◌∙◌}
use mathlib.Core.Bool.{true}
use Prim.Native.Nat.{ℕ, ◌≤◌, ◌<◌}
use native.Mathlib.Omega.{arith}
use Rattle.words.specs.Words.{gives}
use Rattle.frame.specs.Identifier.{priority_of, reserved_of, dgn_of, source_of, identifier_of}
use Rattle.frame.specs.Identifier.{identifiers, greatest_dgn, lowest_priority}
use Rattle.frame.specs.Frame.{frame_bytes, source_allowed, checked_of}
use Rattle.frame.specs.Standard.{greatest_address}
use Rattle.frame.proofs.Frame.{source_low}
use Rattle.frame.proofs.Laws.{lowest_wins}

pub formed_checked : (priority dgn source size : ℕ) → priority ≤ lowest_priority → dgn ≤ greatest_dgn → source < 256
    → source_allowed source dgn ≡ true → size ≡ frame_bytes
    → checked_of (identifier_of priority dgn source) size
    ≡ gives (record { priority = priority; dgn = dgn; source = source })
unfolding identifier_of priority_of reserved_of dgn_of source_of
formed_checked priority dgn source size high about low may eight =
    let id = identifier_of priority dgn source in
    let i : id < identifiers = omega arith in
    let r : reserved_of id ≡ 0 = omega arith in
    let e₁ : priority_of id ≡ priority = omega arith in
    let e₂ : dgn_of id ≡ dgn = omega arith in
    let e₃ : source_of id ≡ source = omega arith in
    let a : source_allowed (source_of id) (dgn_of id) ≡ true = rw (e₂, e₃) may in
    (lowest_wins id size).sound i eight r a ∙ (λ j. gives (record { priority = e₁ j; dgn = e₂ j; source = e₃ j }))

-- an address may send any DGN
pub sent_checked : (priority dgn address size : ℕ) → priority ≤ lowest_priority → dgn ≤ greatest_dgn
    → address ≤ greatest_address → size ≡ frame_bytes
    → checked_of (identifier_of priority dgn address) size
    ≡ gives (record { priority = priority; dgn = dgn; source = address })
sent_checked priority dgn address size high about low eight =
    formed_checked priority dgn address size high about (omega arith) (source_low address dgn low) eight
