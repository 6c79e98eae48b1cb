-- What a frame can mean to the receiver, read off its definition.
-- Assumes nothing.
use mathlib.Core.Path.{◌≡◌, refl, sym, subst}
use mathlib.Core.Bool.{true}
use mathlib.Core.List.{List}
use Prim.Native.Nat.{ℕ, ◌≤◌, ◌<◌, ◌/◌}
use native.Mathlib.Nat.{mod-lt}
use native.Mathlib.Omega.{arith}
use borrow.Author.Tests.{eqb-true, eqb-false, leb-true}
use lib.Dec.{lit<}
use lib.ListN.{length}
use Rattle.words.specs.Words.{◌≤?◌, ◌=?◌, ◌and◌, Told, refused, gives}
use Rattle.frame.specs.Identifier.{source_of, dgn_of, greatest_dgn}
use Rattle.frame.specs.Frame.{source_allowed, checked_of, frame_bytes}
use Rattle.frame.specs.Standard.{announcement_dgn, packet_dgn, greatest_address}
use Rattle.frame.specs.declared.Parts.{Parts}
use Rattle.words.proofs.Words.{both_true, by_test, true_false}
use Rattle.words.proofs.Words.{by_if}
use Rattle.frame.specs.Bytes.{byte_at}
use Rattle.frame.proofs.Frame.{checked_sound}
use Rattle.message.specs.LongMessage.{shortest, longest, packets_of, to_all, bytes_to, Meaning, other}
use Rattle.message.specs.LongMessage.{announcement, packet, announced, meant, meaning_of}

-- a sender of an announcement is no higher than 253
sender_low : (source dgn : ℕ) → source < 256 → dgn ≡ announcement_dgn → source_allowed source dgn ≡ true → source ≤ greatest_address
unfolding source_allowed
sender_low source dgn h e f =
    by_test (source =? 255)
    (λ t. true_false (sym (rw t at f)))
    (λ t. by_test (source =? 254)
    (λ u. true_false (sym (rw (t, u, e) at f)))
    (λ u. omega (arith, eqb-false source 255 t, eqb-false source 254 u)))

-- What is known of a frame by its meaning.
abbrev pub Known : ℕ → List ℕ → Told Meaning → Type 0
Known id bytes (refused n) = (2 < n) × (n < 8)
Known id bytes (gives other) = Unit {0}
Known id bytes (gives (announcement m)) =
    (m.sender ≡ source_of id) × (m.sender ≤ greatest_address) × (shortest ≤ m.size) × (m.size ≤ longest)
    × (m.dgn ≤ greatest_dgn)
Known id bytes (gives (packet p)) = (p.sender ≡ source_of id) × (length bytes ≡ frame_bytes)

announced_known : (id size count dgn : ℕ) (bytes : List ℕ) → source_of id ≤ greatest_address → Known id bytes (announced (source_of id) size count dgn)
unfolding announced
announced_known id size count dgn bytes h =
    by_if (Known id bytes) ((shortest ≤? size) and (size ≤? longest) and (count =? packets_of size) and (dgn ≤? greatest_dgn)) _ _
    (λ t.
    let r₁ = both_true (shortest ≤? size) _ t in
    let r₂ = both_true (size ≤? longest) _ r₁.1 in
    let r₃ = both_true (count =? packets_of size) _ r₂.1 in
    (refl, h, leb-true _ _ r₁.0, leb-true _ _ r₂.0, leb-true _ _ r₃.1))
    (λ _. (omega arith, omega arith))

source_byte : (id : ℕ) → source_of id < 256
unfolding source_of
source_byte id = mod-lt (id / 1) (lit< tt)

meant_known : (id : ℕ) (bytes : List ℕ) → length bytes ≡ frame_bytes → source_allowed (source_of id) (dgn_of id) ≡ true
    → Known id bytes (meant (source_of id) (dgn_of id) bytes)
unfolding meant
meant_known id bytes l a =
    by_if (Known id bytes) (dgn_of id =? packet_dgn) _ _ (λ _. (refl, l)) (λ _.
    by_if (Known id bytes) (dgn_of id =? announcement_dgn) _ _
    (λ d.
    by_if (Known id bytes) (byte_at 0 bytes =? to_all) _ _
    (λ _. announced_known id (bytes_to 1 2 bytes) (byte_at 3 bytes) (bytes_to 5 7 bytes) bytes
    (sender_low (source_of id) (dgn_of id) (source_byte id) (eqb-true (dgn_of id) announcement_dgn d) a))
    (λ _. tt)) (λ _. tt))

pub meaning_known : (id : ℕ) (bytes : List ℕ) → Known id bytes (meaning_of id bytes)
unfolding meaning_of
meaning_known id bytes = go (checked_of id (length bytes)) refl
  where
    go : (t : Told Parts) → checked_of id (length bytes) ≡ t → Known id bytes (meaning_of id bytes)
    go (refused n) e = rw e (rw e at (checked_sound id (length bytes)))
    go (gives p) e =
        let k = rw e at (checked_sound id (length bytes)) in
        rw e (subst (λ (q : Parts). Known id bytes (meant q.source q.dgn bytes)) (sym k.0) (meant_known id bytes k.1 k.2))
