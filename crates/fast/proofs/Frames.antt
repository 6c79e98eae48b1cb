-- What a frame can mean to the receiver, read off its definition.
-- Assumes nothing.
use mathlib.Core.Path.{◌≡◌, refl, sym, subst, subst⁻¹}
use mathlib.Core.Bool.{true, not}
use mathlib.Core.List.{List, [], ◌∷◌}
use Prim.Native.Nat.{ℕ, ◌≤◌, ◌<◌, ◌/◌}
use native.Mathlib.Nat.{mod-lt}
use native.Mathlib.Omega.{arith}
use borrow.Author.Tests.{eqb-true, eqb-false, leb-true}
use lib.Dec.{lit<}
use lib.ListN.{length}
use Rattle.words.specs.Words.{◌≤?◌, ◌=?◌, ◌and◌, bits, Told, refused, gives}
use Rattle.words.specs.Lists.{every}
use Rattle.frame.specs.Identifier.{source_of, dgn_of, greatest_dgn}
use Rattle.frame.specs.Frame.{source_allowed, checked_of, frame_bytes}
use Rattle.frame.specs.Standard.{greatest_address, announcement_dgn, packet_dgn}
use Rattle.frame.specs.declared.Parts.{Parts}
use Rattle.words.proofs.Words.{both_true, by_test, true_false}
use Rattle.words.proofs.Words.{by_if}
use Rattle.frame.specs.Bytes.{byte_at}
use Rattle.frame.proofs.Frame.{checked_sound}
use Rattle.fast.specs.FastPacket.{sequence_of, frame_number_of, greatest_sequence, longest, Meaning, other}
use Rattle.fast.specs.FastPacket.{begins, continues, begun, carried, meant, meaning_of}
use Rattle.fast.specs.Names.{may_be_named, is_named}

-- a DGN that is named is one that may be
pub named_allowed : (names : List ℕ) (dgn : ℕ) → every may_be_named names ≡ true → is_named dgn names ≡ true
    → may_be_named dgn ≡ true
named_allowed [] dgn e n = true_false (sym n)
named_allowed (name ∷ names) dgn e n =
    let k = both_true (may_be_named name) _ e in
    by_test (dgn =? name)
    (λ t. subst⁻¹ (λ (d : ℕ). may_be_named d ≡ true) (eqb-true dgn name t) k.0)
    (λ t. named_allowed names dgn k.1 (rw t at n))

-- its sender is no higher than 253: it is none of those that a node without an address may send
pub sender_low : (source dgn : ℕ) → source < 256 → may_be_named dgn ≡ true → source_allowed source dgn ≡ true
    → source ≤ greatest_address
unfolding source_allowed may_be_named
sender_low source dgn h m f =
    let a = both_true (dgn ≤? greatest_dgn) _ m in
    let b = both_true (not (dgn =? announcement_dgn)) _ a.1 in
    let c = both_true (not (dgn =? packet_dgn)) _ b.1 in
    let d = both_true (not (bits 16 8 dgn =? 0xEA)) _ c.1 in
    by_test (source =? 255)
    (λ t. true_false (sym (rw t at f)))
    (λ t. by_test (source =? 254)
    (λ u. by_test (bits 16 8 dgn =? 0xEA)
    (λ v. true_false (sym (rw v at d.0)))
    (λ v. by_test (bits 16 8 dgn =? 0xEE)
    (λ w. true_false (sym (rw w at d.1)))
    (λ w. true_false (sym (rw (t, u, v, w) at f)))))
    (λ u. omega (arith, eqb-false source 255 t, eqb-false source 254 u)))

-- What is known of a frame by its meaning.
abbrev pub Known : List ℕ → ℕ → List ℕ → Told Meaning → Type 0
Known names id bytes (refused n) = (2 < n) × (n < 8)
Known names id bytes (gives other) = Unit {0}
Known names id bytes (gives (begins m)) =
    (m.sender ≡ source_of id) × (m.dgn ≡ dgn_of id) × (length bytes ≡ frame_bytes) × (is_named m.dgn names ≡ true)
    × (m.sender ≤ greatest_address) × (m.sequence ≤ greatest_sequence) × (1 ≤ m.size) × (m.size ≤ longest)
Known names id bytes (gives (continues f)) =
    (f.sender ≡ source_of id) × (f.dgn ≡ dgn_of id) × (length bytes ≡ frame_bytes)

sequence_low : (byte : ℕ) → sequence_of byte ≤ greatest_sequence
sequence_low byte = omega arith

source_byte : (id : ℕ) → source_of id < 256
unfolding source_of
source_byte id = mod-lt (id / 1) (lit< tt)

module _ (names : List ℕ) (allowed : every may_be_named names ≡ true) (id : ℕ) (bytes : List ℕ) where
  begun_known : (sequence size : ℕ) → sequence ≤ greatest_sequence → length bytes ≡ frame_bytes
      → is_named (dgn_of id) names ≡ true → source_of id ≤ greatest_address
      → Known names id bytes (begun (source_of id) (dgn_of id) sequence size)
  unfolding begun
  begun_known sequence size q l n h =
      by_if (Known names id bytes) ((1 ≤? size) and (size ≤? longest)) _ _
      (λ t. let r = both_true (1 ≤? size) _ t in (refl, refl, l, n, h, q, leb-true _ _ r.0, leb-true _ _ r.1))
      (λ _. (omega arith, omega arith))

  meant_known : length bytes ≡ frame_bytes → source_allowed (source_of id) (dgn_of id) ≡ true
      → Known names id bytes (meant names (source_of id) (dgn_of id) bytes)
  unfolding meant carried
  meant_known l a =
      by_if (Known names id bytes) (is_named (dgn_of id) names) _ _
      (λ n.
      by_if (Known names id bytes) (frame_number_of (byte_at 0 bytes) =? 0) _ _
      (λ _. begun_known (sequence_of (byte_at 0 bytes)) (byte_at 1 bytes) (sequence_low (byte_at 0 bytes)) l n
      (sender_low (source_of id) (dgn_of id) (source_byte id) (named_allowed names (dgn_of id) allowed n) a))
      (λ _. (refl, refl, l)))
      (λ _. tt)

  pub meaning_known : Known names id bytes (meaning_of names id bytes)
  unfolding meaning_of
  meaning_known = go (checked_of id (length bytes)) refl
    where
      go : (t : Told Parts) → checked_of id (length bytes) ≡ t → Known names id bytes (meaning_of names id bytes)
      go (refused n) e = rw e (rw e at (checked_sound id (length bytes)))
      go (gives p) e =
          let k = rw e at (checked_sound id (length bytes)) in
          rw e
          (subst (λ (q : Parts). Known names id bytes (meant names q.source q.dgn bytes)) (sym k.0)
          (meant_known k.1 k.2))
